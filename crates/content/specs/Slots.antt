-- The sectors of a directory, and the slots in them.
use Rattle.std.specs.Prelude.{◌≡◌, ℕ, List, Some, Ok, Err, Result}
use Rattle.std.specs.List.{slice_get}
use Rattle.devices.specs.Meaning.{Meaning, Refuses}
use Rattle.devices.specs.declared.device.DeviceFault.{DeviceFault}
use Rattle.layout.specs.Descriptor.{segments, extent}

-- xs is the i-th sector of the directory with the descriptor s
abbrev pub SlotsAt : Meaning → List ℕ → ℕ → List ℕ → Type 0
SlotsAt d s i xs = (l : ℕ) × (slice_get (extent (segments s)) i ≡ Some l) × (xs ≡ d.sector l)

-- it was read, or the device refused it
abbrev pub SlotsRead : Meaning → List ℕ → ℕ → Result (List ℕ) DeviceFault → Type 0
SlotsRead d s i (Ok xs) = SlotsAt d s i xs
SlotsRead d s i (Err f) = (l : ℕ) × (slice_get (extent (segments s)) i ≡ Some l) × Refuses d l 256 f
