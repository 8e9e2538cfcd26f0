-- What the marks and the map ask of each sector.
use Rattle.std.specs.Prelude.{◌≡◌, ℕ, ◌+◌, ◌<◌, ◌≤◌, Bool, true, false, ◌⊎◌, List, Ok, Err, Result, slice_index}
use Rattle.devices.specs.Meaning.{Meaning}
use Rattle.devices.specs.declared.device.Cause.TheVariants.{Bad}
use Rattle.layout.specs.Map.{map_sectors, bit_of, taken}
use Rattle.rules.specs.declared.rule.Rule.TheVariants as rule
use Rattle.survey.specs.declared.finding.Finding.{Finding}
use Rattle.survey.specs.declared.finding.Finding.TheVariants.{Broken, Unread}

-- a sector with a mark and a bit: its bit is set where it is marked, and it is good where it is marked or clear
pub record Right (d : Meaning) (k mark : ℕ) (set : Bool) : Type 0 where
  pub taken_too : 0 < mark → set ≡ true
  pub good : (0 < mark) ⊎ (set ≡ false) → d.bad k ≡ false

-- a sector that is marked though its bit is not set, and one that is bad though it is marked or clear
pub record Untaken (mark : ℕ) (set : Bool) : Type 0 where
  pub marked : 0 < mark
  pub clear : set ≡ false

pub record Spoilt (d : Meaning) (k mark : ℕ) (set : Bool) : Type 0 where
  pub bad : d.bad k ≡ true
  pub wanted : (0 < mark) ⊎ (set ≡ false)

abbrev pub SectorAnswer : Meaning → ℕ → ℕ → Bool → Result Unit Finding → Type 0
SectorAnswer d k mark set (Ok u) = Right d k mark set
SectorAnswer d k mark set (Err (Broken r at)) = (r ≡ rule.H) × (at ≡ k) × Untaken mark set
SectorAnswer d k mark set (Err (Unread w f)) = (f.lsn ≡ k) × (f.cause ≡ Bad) × Spoilt d k mark set

-- of n sectors from one on, by a row of the map
abbrev pub RowAnswer : Meaning → List ℕ → List ℕ → ℕ → ℕ → Result Unit Finding → Type 0
RowAnswer d marks row first n (Ok u) = (i : ℕ) → i < n → Right d (first + i) (slice_index marks (first + i)) (bit_of row i)
RowAnswer d marks row first n (Err (Broken r at)) = (r ≡ rule.H) × ((i : ℕ) × (i < n) × (at ≡ first + i) × Untaken (slice_index marks (first + i)) (bit_of row i))
RowAnswer d marks row first n (Err (Unread w f)) = (f.cause ≡ Bad) × ((i : ℕ) × (i < n) × (f.lsn ≡ first + i) × Spoilt d (first + i) (slice_index marks (first + i)) (bit_of row i))

-- of every sector of a volume of T
abbrev pub MapAnswer : Meaning → List ℕ → ℕ → Result Unit Finding → Type 0
MapAnswer d marks T (Ok u) = (k : ℕ) → k < T → Right d k (slice_index marks k) (taken d.sector k)
MapAnswer d marks T (Err (Broken r at)) = (r ≡ rule.H) × (at < T) × Untaken (slice_index marks at) (taken d.sector at)
MapAnswer d marks T (Err (Unread w f)) =
    (f.cause ≡ Bad) × (f.lsn < T) × (d.bad f.lsn ≡ true)
    × (((1 ≤ f.lsn) × (f.lsn ≤ map_sectors T)) ⊎ Spoilt d f.lsn (slice_index marks f.lsn) (taken d.sector f.lsn))
