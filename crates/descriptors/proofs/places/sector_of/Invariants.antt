use Rattle.std.proofs.Common.{◌≡◌}
use Rattle.std.specs.List.{slice_get}
use Rattle.layout.specs.Descriptor.{segments, extent}
use Rattle.descriptors.specs.Stored.{AllStorable}
use Rattle.descriptors.proofs.places.sector_of.Given as goal

abbrev pub invariant-loop-segment : goal.invariant-loop-segment
invariant-loop-segment l =
    (slice_get (extent l.segment-iterator) l.left ≡ slice_get (extent (segments l.descriptor)) l.i)
    × AllStorable l.segment-iterator
