use Rattle.std.proofs.lemmas.Iterator.Consumers.{YieldsList-from_first, count_from_yields_List}
use Rattle.layout.specs.Descriptor.{segments}
use Rattle.layout.specs.declared.segment.Segment.{Segment}
use Rattle.descriptors.proofs.Bounds.{used_segments}
use Rattle.descriptors.proofs.places.used_entries.Goals as goal

pub returns-clause-is : goal.returns-clause-is
returns-clause-is c =
    count_from_yields_List c.of.result c.count.result c.count.ensures.ran (YieldsList-from_first (λ (s : Segment). s) (λ left. left) (segments c.args.descriptor.now) c.of.ensures.are)

pub returns-clause-used : goal.returns-clause-used
returns-clause-used c = rw (returns-clause-is c) (used_segments c.args.descriptor.now)
