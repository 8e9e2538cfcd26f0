use Rattle.std.proofs.Common.{arith}
use Rattle.std.proofs.lemmas.Grind.{common_steps}
use Rattle.descriptors.proofs.Cutting.{kept_none}
use Rattle.descriptors.proofs.segment_list.SegmentList.first.Goals as goal

pub returns-then-left-eq0 : goal.returns-then-left-eq0
returns-then-left-eq0 c = grind (arith, common_steps, kept_none)
