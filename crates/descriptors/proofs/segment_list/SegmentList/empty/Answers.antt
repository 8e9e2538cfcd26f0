use Rattle.descriptors.specs.Padded.{none_padded}
use Rattle.descriptors.proofs.segment_list.SegmentList.empty.Goals as goal

pub invariant_of-result : goal.invariant_of-result
invariant_of-result c = none_padded
