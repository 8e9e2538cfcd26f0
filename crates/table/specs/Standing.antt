-- A volume that shows a table: every rule of a sound volume, and what was withheld from the start.
use Rattle.std.specs.Prelude.{◌≡◌, ℕ, ◌+◌, ◌/◌, ◌<◌, ◌≤◌, true, false, List, length, take, Some, None, codes, ◌≢◌, slice_index}
use Rattle.devices.specs.Meaning.{Meaning}
use Rattle.layout.specs.Descriptor.{content}
use Rattle.layout.specs.Directory.{slot, entry}
use Rattle.layout.specs.Names.{name_of}
use Rattle.layout.specs.Records.{record_at}
use Rattle.rules.specs.Nodes.{times, is_directory, ReachedBy}
use Rattle.rules.specs.Rules.{sectors_of, map_of, root_at, RuleA, Tidy, SizeRight, SlotRight, Linked}
use Rattle.rules.specs.Walking.{system, hit}
use Rattle.table.specs.Counts.{claims, namings, occupied}
use Rattle.table.specs.Entries.{Entry, Table, read_entry, present, names, up_of, dots, Upward}

-- the slots of the directory l, in its bytes xs: "." names it, and each used slot from 2 on has a lawful name that no other has (slot 1 is the tree's)
pub record SlotsLawful (l : ℕ) (xs : List ℕ) : Type 0 where
  pub here : slot (record_at 32 0 xs) ≡ entry (codes ".") l
  pub right : (k : ℕ) → 2 ≤ k → k < length xs / 32 → (slice_index (record_at 32 k xs) 0 ≢ 0) → SlotRight (record_at 32 k xs)
  pub distinct : (j k : ℕ) → 2 ≤ j → j < k → k < length xs / 32 → (slice_index (record_at 32 j xs) 0 ≢ 0) → (slice_index (record_at 32 k xs) 0 ≢ 0) → name_of (take 28 (record_at 32 j xs)) ≢ name_of (take 28 (record_at 32 k xs))

-- the rules that speak of one descriptor alone: l, with the bytes s, and xs in its file
pub record Lawful (l : ℕ) (s xs : List ℕ) : Type 0 where
  pub tidy : Tidy s
  pub sized : SizeRight s
  pub linked : Linked s
  pub slots_lawful : is_directory s ≡ true → SlotsLawful l xs

pub record Means (l : ℕ) (s xs : List ℕ) (e : Entry) : Type 0 where
  pub reads : read_entry s xs ≡ e
  pub lawful : Lawful l s xs

-- the descriptor l shows the entry e, and is lawful
abbrev pub Shows : Meaning → ℕ → Entry → Type 0
Shows d l e = Means l (d.sector l) (content d.sector (d.sector l)) e

-- the space: each sector of the volume is the system's, withheld, held once, or clear, and the map says which
abbrev pub Space : ℕ → ℕ → (ℕ → ℕ) → (ℕ → ℕ) → Table → Type 0
Space m T withheld taken t = (k : ℕ) → system m k + withheld k + claims t T k ≡ taken k

-- the tree: the root, which no slot names, and all that is named, by one slot each; ".." of each directory; and nothing that is not reached
pub record Tree (root T : ℕ) (t : Table) : Type 0 where
  pub named : (l : ℕ) → hit root l + namings t T l ≡ present (t l)
  pub top : up_of (t root) ≡ Some (dots root)
  pub up : (p l : ℕ) → 0 < times l (names (t p)) → Upward (up_of (t l)) p
  pub reached : (l : ℕ) → 0 < present (t l) → ReachedBy (λ p. names (t p)) root l

-- the device shows the table t, with these sectors withheld (1 for each)
pub record Stands (d : Meaning) (withheld : ℕ → ℕ) (t : Table) : Type 0 where
  pub rule_a : RuleA d
  pub shown : (l : ℕ) (e : Entry) → t l ≡ Some e → Shows d l e
  pub within : (l : ℕ) → sectors_of d ≤ l → t l ≡ None
  pub space : Space (map_of d) (sectors_of d) withheld (occupied d) t
  pub tree : Tree (root_at d) (sectors_of d) t
  pub good : (k : ℕ) → k < sectors_of d → withheld k ≡ 0 → d.bad k ≡ false
