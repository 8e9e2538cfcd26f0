use Rattle.std.proofs.Common.{◌≡◌, ◌++◌}
use Rattle.layout.specs.Descriptor.{segments}
use Rattle.descriptors.proofs.segment_entries.read_segments.Given as goal

abbrev pub invariant-loop-segment : goal.invariant-loop-segment
invariant-loop-segment l = l.segments ++ l.segment-iterator ≡ segments l.descriptor
