-- The rules of a sound volume, each with the sector at which it is broken.
use Rattle.std.specs.Prelude.{◌≡◌, ℕ, ◌*◌, ◌/◌, ◌%◌, ◌<◌, ◌≤◌, true, false, ◌⊎◌, List, length, take, codes, ◌≢◌, slice_index, slice_index_or}
use Rattle.devices.specs.Meaning.{Meaning}
use Rattle.layout.specs.Descriptor.{link_count, size, segment, segments, extent, content}
use Rattle.layout.specs.Directory.{entry, slot}
use Rattle.layout.specs.Identification.{total, map_bytes, cluster_size, root, sector_size}
use Rattle.layout.specs.Map.{map_bytes_of, map_sectors, taken}
use Rattle.layout.specs.Names.{name_byte, name_of}
use Rattle.layout.specs.Records.{record_at}
use Rattle.rules.specs.Nodes.{times, is_directory, children, Reached, holds, Held, Parent}
use Rattle.rules.specs.declared.rule.Rule.{Rule}
use Rattle.rules.specs.declared.rule.Rule.TheVariants as rule

-- the volume that LSN 0 tells of: its sectors T, the sectors m of its map, the root's descriptor
abbrev pub sectors_of : Meaning → ℕ
sectors_of d = total (d.sector 0)

abbrev pub map_of : Meaning → ℕ
map_of d = map_sectors (sectors_of d)

abbrev pub root_at : Meaning → ℕ
root_at d = root (d.sector 0)

abbrev pub Found : Meaning → ℕ → Type 0
Found d l = Reached d.sector (root_at d) l

-- A: the identification sector
pub record RuleA (d : Meaning) : Type 0 where
  pub least : 16 ≤ sectors_of d
  pub most : sectors_of d ≤ 65536
  pub fits : sectors_of d ≤ d.count
  pub map_right : map_bytes (d.sector 0) ≡ map_bytes_of (sectors_of d)
  pub clusters : cluster_size (d.sector 0) ≡ 1
  pub width : (sector_size (d.sector 0) ≡ 0) ⊎ (sector_size (d.sector 0) ≡ 256)

-- B: behind the map, and within the volume
abbrev pub Inside : Meaning → ℕ → Type 0
Inside d k = (map_of d < k) × (k < sectors_of d)

-- every sector of the segments lies behind low and below high
abbrev pub SegmentsWithin : List ℕ → ℕ → ℕ → Type 0
SegmentsWithin s low high = (k : ℕ) → 0 < times k (extent (segments s)) → (low < k) × (k < high)

pub record RuleB (d : Meaning) (l : ℕ) : Type 0 where
  pub segments_inside : SegmentsWithin (d.sector l) (map_of d) (sectors_of d)
  pub children_inside : (k : ℕ) → 0 < times k (children d.sector l) → Inside d k

-- C: an unused entry is zero, and so is each behind it
abbrev pub Tidy : List ℕ → Type 0
Tidy s = (j k : ℕ) → j ≤ k → k < 48 → (segment s j).len ≡ 0 → segment s k ≡ record { start = 0; len = 0 }

abbrev pub RuleC : Meaning → ℕ → Type 0
RuleC d l = Tidy (d.sector l)

-- D: the segments hold the size; a directory has whole slots, two at least
pub record SizeRight (s : List ℕ) : Type 0 where
  pub held : size s ≤ 256 * length (extent (segments s))
  pub whole : is_directory s ≡ true → size s % 32 ≡ 0
  pub two : is_directory s ≡ true → 64 ≤ size s

abbrev pub RuleD : Meaning → ℕ → Type 0
RuleD d l = SizeRight (d.sector l)

-- E: the slots of a directory, by their 32 bytes each
abbrev pub slot_bytes_at : Meaning → ℕ → ℕ → List ℕ
slot_bytes_at d l k = record_at 32 k (content d.sector (d.sector l))

abbrev pub slot_count : Meaning → ℕ → ℕ
slot_count d l = length (content d.sector (d.sector l)) / 32

-- a stored name: its last byte, the first with bit 7 set, lies within 28; each byte up to it, the mark aside, is a name byte, and one is no period
pub record StoredName (stored : List ℕ) : Type 0 where
  pub last : ℕ
  pub short : last < 28
  pub mark : 128 ≤ slice_index stored last
  pub first : (j : ℕ) → j < last → slice_index stored j < 128
  pub letters : (j : ℕ) → j ≤ last → name_byte (slice_index stored j % 128) ≡ true
  pub proper : (j : ℕ) × (j ≤ last) × (slice_index stored j % 128 ≢ 46)

pub record SlotRight (xs : List ℕ) : Type 0 where
  pub name_right : StoredName (take 28 xs)
  pub spare : slice_index_or xs 28 0 ≡ 0

-- the slots of the directory l, whose parent is p
pub record SlotsRight (d : Meaning) (l p : ℕ) : Type 0 where
  pub here : slot (slot_bytes_at d l 0) ≡ entry (codes ".") l
  pub up : slot (slot_bytes_at d l 1) ≡ entry (codes "..") p
  pub right : (k : ℕ) → 2 ≤ k → k < slot_count d l → (slice_index (slot_bytes_at d l k) 0 ≢ 0) → SlotRight (slot_bytes_at d l k)
  pub distinct : (j k : ℕ) → 2 ≤ j → j < k → k < slot_count d l → (slice_index (slot_bytes_at d l j) 0 ≢ 0) → (slice_index (slot_bytes_at d l k) 0 ≢ 0) → name_of (take 28 (slot_bytes_at d l j)) ≢ name_of (take 28 (slot_bytes_at d l k))

abbrev pub RuleE : Meaning → ℕ → Type 0
RuleE d l = (p : ℕ) → Parent d.sector (root_at d) p l → SlotsRight d l p

-- F: a file has one link
abbrev pub Linked : List ℕ → Type 0
Linked s = is_directory s ≡ false → link_count s ≡ 1

abbrev pub RuleF : Meaning → ℕ → Type 0
RuleF d l = Linked (d.sector l)

-- G: a descriptor that is reached by more than one slot (the root is reached once with no slot), and a sector that is held twice
pub data Again (d : Meaning) (l : ℕ) : Type 0 where
  root_too : (p : ℕ) → Found d p → l ≡ root_at d → 0 < times l (children d.sector p) → Again d l
  same_directory : (p : ℕ) → Found d p → 2 ≤ times l (children d.sector p) → Again d l
  two_directories : (p q : ℕ) → (p ≢ q) → Found d p → Found d q → 0 < times l (children d.sector p) → 0 < times l (children d.sector q) → Again d l

pub data Twice (d : Meaning) (k : ℕ) : Type 0 where
  inside : (l : ℕ) → Found d l → 2 ≤ times k (holds d.sector l) → Twice d k
  shared : (l l' : ℕ) → (l ≢ l') → Found d l → Found d l' → 0 < times k (holds d.sector l) → 0 < times k (holds d.sector l') → Twice d k
  again : (l : ℕ) → Found d l → Again d l → 0 < times k (holds d.sector l) → Twice d k

-- a sector that the map must have as taken: the system's, or one that is held
abbrev pub Owned : Meaning → ℕ → Type 0
Owned d k = (k ≤ map_of d) ⊎ Held d.sector (root_at d) k

-- a sector that must be good: one that is owned, or clear
abbrev pub Wanted : Meaning → ℕ → Type 0
Wanted d k = (k < sectors_of d) × (Owned d k ⊎ (taken d.sector k ≡ false))

-- every rule
pub record Sound (d : Meaning) : Type 0 where
  pub rule_a : RuleA d
  pub root_inside : Inside d (root_at d)
  pub rule_b : (l : ℕ) → Found d l → RuleB d l
  pub rule_c : (l : ℕ) → Found d l → RuleC d l
  pub rule_d : (l : ℕ) → Found d l → RuleD d l
  pub rule_e : (l : ℕ) → Found d l → is_directory (d.sector l) ≡ true → RuleE d l
  pub root_directory : is_directory (d.sector (root_at d)) ≡ true
  pub rule_f : (l : ℕ) → Found d l → RuleF d l
  pub rule_g : (k : ℕ) → Twice d k → ⊥
  pub rule_h : (k : ℕ) → Owned d k → taken d.sector k ≡ true
  pub good : (k : ℕ) → Wanted d k → d.bad k ≡ false

-- a list of every descriptor that is reached, each once
pub record Listed (d : Meaning) (ls : List ℕ) : Type 0 where
  pub all : (l : ℕ) → Found d l → times l ls ≡ 1
  pub only : (l : ℕ) → 0 < times l ls → Found d l

-- a rule that is broken at a sector
abbrev pub Broken : Meaning → Rule → ℕ → Type 0
Broken d rule.A at = (at ≡ 0) × (RuleA d → ⊥)
Broken d rule.B at = ((at ≡ 0) × (Inside d (root_at d) → ⊥)) ⊎ (Found d at × (RuleB d at → ⊥))
Broken d rule.C at = Found d at × (RuleC d at → ⊥)
Broken d rule.D at = Found d at × (RuleD d at → ⊥)
Broken d rule.E at = Found d at × (is_directory (d.sector at) ≡ true) × (RuleE d at → ⊥)
Broken d rule.F at = ((at ≡ root_at d) × (is_directory (d.sector at) ≡ false)) ⊎ (Found d at × (RuleF d at → ⊥))
Broken d rule.G at = Twice d at
Broken d rule.H at = Owned d at × (taken d.sector at ≡ false)

-- what is broken cannot be sound: a finding and a pass exclude each other
abbrev pub BrokenUnsound : Type 0
BrokenUnsound = (d : Meaning) (r : Rule) (at : ℕ) → Broken d r at → Sound d → ⊥
