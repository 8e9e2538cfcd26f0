use Rattle.std.proofs.Common.{rules}
use borrow.Author.Tests.{tests}
use Rattle.std.proofs.lemmas.Iterator.{cases_from_all}
use Rattle.std.proofs.lemmas.Iterator.Consumers.{YieldsList-from_first}
use Rattle.layout.specs.Descriptor.{segments}
use Rattle.layout.specs.declared.segment.Segment.{Segment}
use Rattle.survey.proofs.Within.{Bounded, sectors_within}
use Rattle.survey.proofs.descriptor_checks.segments_within.Goals as goal

pub returns : goal.returns
returns c =
    let ss = segments c.args.descriptor.now in
    let b = c.args.bounds in
    sectors_within b.low b.high ss (rw c.of.ensures.are at c.of.ensures.storable) c.all.result
    (cases_from_all _ _ c.all.result (Bounded b.low b.high) (λ s. Bounded b.low b.high s → ⊥) c.all.ensures.ran (YieldsList-from_first (λ (s : Segment). s) (λ left. left) ss c.of.ensures.are) (λ x q k. search (rules, tests)) (λ x q k. search (rules, tests)))
