use Rattle.std.proofs.Common.{◌≡◌, ◌≤◌, ◌++◌, length, drop}
use Rattle.descriptors.specs.Cuts.{freed}
use Rattle.descriptors.proofs.segment_list.SegmentList.behind.Given as goal

abbrev pub invariant-loop-segment : goal.invariant-loop-segment
invariant-loop-segment l =
    (l.runs ++ freed l.left (drop l.segment-index l.segment-items) ≡ freed l.n l.self)
    × (length l.runs ≤ l.segment-index)
