use Rattle.std.proofs.Common.{arith}
use Rattle.descriptors.specs.Padded.{entries_are, length_listed}
use Rattle.descriptors.proofs.segment_list.SegmentListPartialEq.eq.Goals as goal

pub returns : goal.returns
returns c = grind (arith, entries_are, length_listed)
