use Rattle.std.proofs.Common.{◌≡◌, take}
use Rattle.std.specs.List.{flat_map}
use Rattle.layout.specs.Bytes.{over}
use Rattle.layout.specs.Descriptor.{segment_bytes}
use Rattle.descriptors.proofs.segment_entries.write_segments.Given as goal

abbrev pub invariant-loop-k : goal.invariant-loop-k
invariant-loop-k l = l.descriptor ≡ over 16 (flat_map segment_bytes (take l.k l.entries)) l.initial.descriptor
