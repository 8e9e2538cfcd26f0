-- Sectors one after the other, and the bytes in them.
use Rattle.std.specs.Prelude.{◌≡◌, ℕ, ◌+◌, ◌/◌, ◌<◌, ◌≤◌, false, List, length, ◌≢◌, slice_index}
use Rattle.std.specs.List.{flat_map}
use Rattle.devices.specs.Meaning.{Meaning, Refuses}
use Rattle.devices.specs.declared.device.DeviceFault.{DeviceFault}
use Rattle.layout.specs.Descriptor.{segments, extent}

-- the sectors of the file with this descriptor, in their order
abbrev pub sectors : List ℕ → List ℕ
sectors s = extent (segments s)

-- the bytes of some sectors, one after the other
abbrev pub row : Meaning → List ℕ → List ℕ
row m e = flat_map m.sector e

-- each of these sectors is on the device
abbrev pub Within : Meaning → List ℕ → Type 0
Within m e = (i : ℕ) → i < length e → slice_index e i < m.count

-- none of them is bad
abbrev pub Good : Meaning → List ℕ → Type 0
Good m e = (i : ℕ) → i < length e → m.bad (slice_index e i) ≡ false

-- none stands twice among them
abbrev pub Distinct : List ℕ → Type 0
Distinct e = (i j : ℕ) → i < length e → j < length e → slice_index e i ≡ slice_index e j → i ≡ j

-- the sector k is none of them
abbrev pub Outside : List ℕ → ℕ → Type 0
Outside e k = (i : ℕ) → i < length e → k ≢ slice_index e i

-- the sector k has none of the n bytes from p on
abbrev pub Beside : List ℕ → ℕ → ℕ → ℕ → Type 0
Beside e p n k = (j : ℕ) → p ≤ j → j < p + n → k ≢ slice_index e (j / 256)

-- the device refuses the sector that has the byte j
abbrev pub RefusedAt : Meaning → List ℕ → ℕ → DeviceFault → Type 0
RefusedAt m e j f = (j / 256 < length e) × Refuses m (slice_index e (j / 256)) 256 f
