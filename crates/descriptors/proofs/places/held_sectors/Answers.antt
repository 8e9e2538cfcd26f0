use Rattle.std.proofs.Common.{sym, ◌∙◌, rules}
use borrow.Author.Tests.{tests}
use Rattle.std.proofs.lemmas.Iterator.{YieldsList-from_map}
use Rattle.std.proofs.lemmas.Iterator.Consumers.{YieldsList-at, YieldsList-from_first, sum_by_from_yields_List}
use Rattle.layout.specs.Descriptor.{segments}
use Rattle.layout.specs.declared.segment.Segment.{Segment}
use Rattle.descriptors.proofs.Bounds.{sum_len}
use Rattle.descriptors.proofs.places.held_sectors.Goals as goal

pub returns-clause-is : goal.returns-clause-is
returns-clause-is c =
    let ss = segments c.args.descriptor.now in
    sum_by_from_yields_List (λ (s : Segment). s.len) ss c.map.result c.sum.result c.sum.ensures.ran
    (YieldsList-from_map _ (λ (s : Segment). s.len) (YieldsList-at c.map.ensures.source (YieldsList-from_first (λ (s : Segment). s) (λ left. left) ss c.of.ensures.are)) c.map.ensures.closure (λ x r q k. search (rules, tests)))
    ∙ sym (sum_len ss)
