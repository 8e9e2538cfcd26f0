use Rattle.std.proofs.Common.{◌≡◌, ◌≤◌, ◌++◌, length, drop}
use Rattle.descriptors.specs.Cuts.{kept}
use Rattle.descriptors.proofs.segment_list.SegmentList.first.Given as goal

abbrev pub invariant-loop-segment : goal.invariant-loop-segment
invariant-loop-segment l =
    (l.segments ++ kept l.left (drop l.segment-index l.segment-items) ≡ kept l.n l.self)
    × (length l.segments ≤ l.segment-index)
