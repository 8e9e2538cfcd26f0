-- One sector, read as a part of a volume.
use Rattle.std.specs.Prelude.{◌≡◌, ℕ, List, Ok, Err, Result}
use Rattle.devices.specs.Meaning.{Meaning, Accepts, Refuses}
use Rattle.volume.specs.declared.fault.Part.{Part}
use Rattle.volume.specs.declared.fault.VolumeFault.{VolumeFault}
use Rattle.volume.specs.declared.fault.VolumeFault.TheVariants.{Device, Refused, Broken}

abbrev pub Loaded : Meaning → ℕ → Part → Result (List ℕ) VolumeFault → Type 0
Loaded m l p (Ok s) = Accepts m l 256 × (s ≡ m.sector l)
Loaded m l p (Err (Device r)) = (r.part ≡ p) × Refuses m l 256 r.fault
Loaded m l p (Err (Refused r at)) = ⊥
Loaded m l p (Err (Broken r at)) = ⊥
