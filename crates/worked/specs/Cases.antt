-- Small volumes and trays, and what the definitions and the contracts of format and inspection say of them.
use Rattle.std.specs.Prelude.{◌≡◌, ℕ, ◌≤◌, false, List, length, Ok, Err, Result, slice_index}
use Rattle.devices.specs.Geometry.{lsn_place}
use Rattle.devices.specs.Meaning.{Meaning}
use Rattle.devices.specs.Tray.{TracksRight, SidesRight, row_of, step_of, Inspected}
use Rattle.devices.specs.declared.geometry.Geometry.{Geometry}
use Rattle.devices.specs.declared.inspection.TrayFault.{TrayFault}
use Rattle.layout.specs.Identification.{map_bytes, root}
use Rattle.layout.specs.Map.{map_sectors, taken, clear_below}
use Rattle.files.specs.CallFaults as call
use Rattle.volume.specs.Faults.{number_of, place_of, layer_of}
use Rattle.volume.specs.Formatting.{FormatDone, Formatted}
use Rattle.volume.specs.NewLayout.{NewLayout}
use Rattle.volume.specs.declared.fault.Layer.{Layer}
use Rattle.volume.specs.declared.fault.Layer.TheVariants as layer
use Rattle.volume.specs.declared.fault.VolumeFault.{VolumeFault}
use Rattle.volume.specs.declared.volume_record.Volume.{Volume}

-- refused, with this number and place, first by this layer
abbrev pub RefusedAs : ℕ → ℕ → Layer → Result Volume VolumeFault → Type 0
RefusedAs n at l (Ok v) = ⊥
RefusedAs n at l (Err f) = (number_of f ≡ n) × (place_of f ≡ at) × (layer_of f ≡ l)

-- an inspection that is refused so
abbrev pub TrayRefusedAs : ℕ → ℕ → Layer → Result Geometry TrayFault → Type 0
TrayRefusedAs n at l (Ok g) = ⊥
TrayRefusedAs n at l (Err f) = (call.number_of (call.of_tray f) ≡ n) × (call.place_of (call.of_tray f) ≡ at) × (call.layer_of (call.of_tray f) ≡ l)

pub record Cases : Type 0 where
  -- a volume of 15 sectors is refused, whatever the device, the name and the allocation size
  pub fifteen_sectors : (m m' : Meaning) (name : List ℕ) (a : ℕ) (r : Result Volume VolumeFault) → FormatDone m m' 15 name a r → RefusedAs 20 0 layer.Volume r
  -- one of 200 has 25 map bytes and its root in LSN 2
  pub two_hundred_map : (m : Meaning) (sector : ℕ → List ℕ) (name : List ℕ) → NewLayout m sector 200 name → map_bytes (sector 0) ≡ 25
  pub two_hundred_root : (m : Meaning) (sector : ℕ → List ℕ) (name : List ℕ) → NewLayout m sector 200 name → root (sector 0) ≡ 2
  -- with no bad sector it has 196 clear ones, and its first map byte is $F0
  pub two_hundred_clear : (m : Meaning) (sector : ℕ → List ℕ) (name : List ℕ) → ((k : ℕ) → m.bad k ≡ false) → NewLayout m sector 200 name → clear_below (taken sector) 200 ≡ 196
  pub two_hundred_first : (m m' : Meaning) (name : List ℕ) → ((k : ℕ) → m.bad k ≡ false) → Formatted m m' 200 name → slice_index (m'.sector 1) 0 ≡ 0xF0
  -- one of 2,049 has two map sectors and its root in LSN 3
  pub two_map_sectors : (m : Meaning) (sector : ℕ → List ℕ) (name : List ℕ) → NewLayout m sector 2049 name → (map_sectors 2049 ≡ 2) × (root (sector 0) ≡ 3)
  -- ten sectors to a track with an interleave of 3: LSN 14 has place 12
  pub interleaved : lsn_place 10 3 14 ≡ 12
  -- an interleave of 4 there is refused at its offset, 4
  pub common_factor : (xs : List ℕ) (r : Result Geometry TrayFault) → 8 ≤ length xs → TracksRight xs → SidesRight xs → row_of xs ≡ 10 → step_of xs ≡ 4 → Inspected xs r → TrayRefusedAs 21 4 layer.Devices r
