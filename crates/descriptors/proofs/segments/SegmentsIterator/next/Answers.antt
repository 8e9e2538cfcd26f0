use Rattle.std.proofs.Common.{◌≡◌, ◌+◌, ◌∷◌, [], length, sym, ap, ◌∙◌, arith, rules}
use Rattle.layout.specs.declared.segment.Segment.{Segment}
use Rattle.descriptors.proofs.Extents.{rest, rest_more, rest_none, rest_all}
use Rattle.descriptors.proofs.segments.SegmentsIterator.next.Goals as goal

pub returns-then-self-eq-SEGMENTS-clause-steps : goal.returns-then-self-eq-SEGMENTS-clause-steps
returns-then-self-eq-SEGMENTS-clause-steps c =
    let none : c.args.self.now ≡ [] = sym c.self.view_is ∙ rest_all c.self.inside.descriptor.now c.self.inside.next c.if-self-eq-SEGMENTS.true in
    (none, none)

pub returns-then-segment-eq0-clause-steps : goal.returns-then-segment-eq0-clause-steps
returns-then-segment-eq0-clause-steps c =
    let s = c.self.inside.descriptor.now in
    let k = c.self.inside.next in
    let zero = sym (ap (λ (g : Segment). g.len) c.segment_at-segment.ensures.is) ∙ c.if-segment-eq0.true in
    let none : c.args.self.now ≡ [] = sym c.self.view_is ∙ rest_none s k (omega arith) zero in
    (none, none)

pub returns-clause-steps : goal.returns-clause-steps
returns-clause-steps c =
    let s = c.self.inside.descriptor.now in
    let k = c.self.inside.next in
    let is = c.segment_at-segment.ensures.is in
    sym c.self.view_is
    ∙ rest_more s k (omega arith) (λ z. c.if-segment-eq0.false (ap (λ (g : Segment). g.len) is ∙ z))
    ∙ ap (λ (g : Segment). g ∷ rest s (k + 1)) (sym is)

pub returns-clause-goes : goal.returns-clause-goes
returns-clause-goes c = let shorter = ap length (returns-clause-steps c) in search rules
