use Rattle.std.proofs.Common.{◌≡◌, ◌<◌, ◌^◌, sym, ap, ◌∙◌, arith, rules}
use Rattle.std.specs.List.{sum_by}
use Rattle.std.proofs.iter.runs.Made.{chains}
use Rattle.layout.specs.declared.segment.Segment.{Segment}
use Rattle.descriptors.proofs.Bounds.{sum_len, sum_small}
use Rattle.descriptors.proofs.segment_list.SegmentList.sectors.Goals as goal

pub sum-requires-clause-fits : goal.sum-requires-clause-fits
sum-requires-clause-fits c =
    let small : sum_by (λ (s : Segment). s.len) c.as_slice.result.now < 2 ^ 22 = sum_small _ c.as_slice.ensures.few (rw c.as_slice.ensures.are c.requires) in
    search (rules, chains)

pub returns-clause-is : goal.returns-clause-is
returns-clause-is c =
    let total : c.sum.result ≡ sum_by (λ (s : Segment). s.len) c.as_slice.result.now = search (rules, chains) in
    total ∙ ap (sum_by (λ (s : Segment). s.len)) c.as_slice.ensures.are ∙ sym (sum_len c.args.self.now)

pub returns-clause-few : goal.returns-clause-few
returns-clause-few c =
    let total : c.sum.result ≡ sum_by (λ (s : Segment). s.len) c.as_slice.result.now = search (rules, chains) in
    omega (arith, total, sum_small c.as_slice.result.now c.as_slice.ensures.few (rw c.as_slice.ensures.are c.requires))
