-- The clear sectors of a volume, counted from its map.
use Rattle.std.specs.Prelude.{◌≡◌, ℕ, ◌≤◌, Ok, Err, Result}
use Rattle.devices.specs.Meaning.{Meaning, Refuses}
use Rattle.layout.specs.Map.{map_sectors, taken, clear_below}
use Rattle.volume.specs.declared.fault.Part.TheVariants as part
use Rattle.volume.specs.declared.fault.VolumeFault.{VolumeFault}
use Rattle.volume.specs.declared.fault.VolumeFault.TheVariants.{Device, Refused, Broken}

-- how many of T sectors are clear, or the map sector that the device does not give
abbrev pub Counted : Meaning → ℕ → Result ℕ VolumeFault → Type 0
Counted m T (Ok n) = n ≡ clear_below (taken m.sector) T
Counted m T (Err (Device r)) = (r.part ≡ part.Map) × (1 ≤ r.fault.lsn) × (r.fault.lsn ≤ map_sectors T) × Refuses m r.fault.lsn 256 r.fault
Counted m T (Err (Refused r at)) = ⊥
Counted m T (Err (Broken r at)) = ⊥
