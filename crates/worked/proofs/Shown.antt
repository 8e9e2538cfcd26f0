-- The worked cases, one by one.
use Rattle.std.proofs.Common.{◌≡◌, ℕ, ◌≤◌, Bool, false, ◌||◌, leb, List, length, get_or, Ok, Err, Result, refl, ap, ◌∙◌, arith}
use Rattle.devices.specs.Meaning.{Meaning}
use Rattle.devices.specs.Tray.{TracksRight, SidesRight, StepRight, row_of, step_of, Denied, Inspected}
use Rattle.devices.specs.declared.geometry.Geometry.{Geometry}
use Rattle.devices.specs.declared.inspection.TrayFault.{TrayFault}
use Rattle.devices.specs.declared.inspection.TrayQuestion.{TrayQuestion}
use Rattle.devices.specs.declared.inspection.TrayQuestion.TheVariants.{Header, Tracks, Sides, Sectors, Interleave, Spare, Length, State}
use Rattle.layout.specs.Identification.{root}
use Rattle.layout.specs.Map.{map_sectors, packed, taken, clear_below}
use Rattle.layout.proofs.Bits.{packed_same}
use Rattle.layout.proofs.Clears.{clear_same}
use Rattle.volume.specs.Faults.{refusal_number}
use Rattle.volume.specs.Formatting.{FormatDone, Formatted}
use Rattle.volume.specs.NewLayout.{NewLayout}
use Rattle.volume.specs.NewVolume.{taken_first}
use Rattle.volume.specs.declared.fault.Layer.TheVariants as layer
use Rattle.volume.specs.declared.fault.VolumeFault.{VolumeFault}
use Rattle.volume.specs.declared.fault.VolumeFault.TheVariants.{Device, Refused, Broken}
use Rattle.volume.specs.declared.volume_record.Volume.{Volume}
use Rattle.worked.specs.Cases.{RefusedAs, TrayRefusedAs}

pub fifteen : (m m' : Meaning) (name : List ℕ) (a : ℕ) (r : Result Volume VolumeFault) → FormatDone m m' 15 name a r → RefusedAs 20 0 layer.Volume r
fifteen m m' name a (Ok v) done = absurd (omega (arith, done.0.least))
fifteen m m' name a (Err (Device r)) done = absurd (omega (arith, done.0.0.least))
fifteen m m' name a (Err (Refused r at)) done = (ap refusal_number done.0.0, done.0.1, refl)
fifteen m m' name a (Err (Broken r at)) done = absurd done.0

-- with no bad sector, what the map has as taken
abbrev sound : ℕ → Bool
sound k = leb k 3 || (leb 200 k || false)

no_bad : (m : Meaning) → ((k : ℕ) → m.bad k ≡ false) → (k : ℕ) → taken_first m 200 k ≡ sound k
no_bad m good k = ap (λ b. leb k 3 || (leb 200 k || b)) (good k)

pub two_hundred_clear : (m : Meaning) (sector : ℕ → List ℕ) (name : List ℕ) → ((k : ℕ) → m.bad k ≡ false) → NewLayout m sector 200 name → clear_below (taken sector) 200 ≡ 196
two_hundred_clear m sector name good l =
    clear_same (taken sector) sound 200 (λ k lt. l.map k (omega arith) ∙ no_bad m good k)

pub two_hundred_first : (m m' : Meaning) (name : List ℕ) → ((k : ℕ) → m.bad k ≡ false) → Formatted m m' 200 name → get_or (m'.sector 1) 0 0 ≡ 0xF0
unfolding packed
two_hundred_first m m' name good f =
    ap (λ s. get_or s 0 0) (f.map 0 (omega arith)) ∙ packed_same (taken_first m 200) sound (no_bad m good) 0 8

pub two_map_sectors : (m : Meaning) (sector : ℕ → List ℕ) (name : List ℕ) → NewLayout m sector 2049 name → (map_sectors 2049 ≡ 2) × (root (sector 0) ≡ 3)
two_map_sectors m sector name l = (refl, l.identification.root_is)

-- 2 divides both
four_of_ten : (xs : List ℕ) → row_of xs ≡ 10 → step_of xs ≡ 4 → StepRight xs → ⊥
four_of_ten xs row step right = right.2 2 (omega arith) (omega (arith, row, step)) (omega (arith, row, step))

denied : (xs : List ℕ) (q : TrayQuestion) (at : ℕ) → 8 ≤ length xs → TracksRight xs → SidesRight xs → row_of xs ≡ 10 → step_of xs ≡ 4 → Denied xs q at → at ≡ 4
denied xs Header at long t s row step d = absurd (omega arith)
denied xs Tracks at long t s row step d = absurd (omega (arith, d.1))
denied xs Sides at long t s row step d = absurd (d.2 s)
denied xs Sectors at long t s row step d = absurd (d.3 (omega (arith, row), omega (arith, row)))
denied xs Interleave at long t s row step d = d.5
denied xs Spare at long t s row step d = absurd (four_of_ten xs row step d.4)
denied xs Length at long t s row step d = absurd (four_of_ten xs row step d.0.4)
denied xs State at long t s row step d = absurd (four_of_ten xs row step d.0.4)

pub common_factor : (xs : List ℕ) (r : Result Geometry TrayFault) → 8 ≤ length xs → TracksRight xs → SidesRight xs → row_of xs ≡ 10 → step_of xs ≡ 4 → Inspected xs r → TrayRefusedAs 21 4 layer.Devices r
common_factor xs (Ok g) long t s row step i = absurd (four_of_ten xs row step i.0.0.4)
common_factor xs (Err f) long t s row step i = (refl, denied xs f.question f.place long t s row step i, refl)
