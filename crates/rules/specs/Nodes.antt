-- Files and directories as the sectors show them, damaged ones too: what each holds, what it names, and which are reached.
use Rattle.std.specs.Prelude.{ℕ, ◌+◌, ◌<◌, Bool, cond, List, [], ◌∷◌, drop, ◌==◌}
use Rattle.layout.specs.Descriptor.{attribute, segments, extent, content}
use Rattle.layout.specs.Directory.{Slot, empty, entry, slots}
use Rattle.layout.specs.Map.{bit_at}

-- how often a number stands in a list
abbrev pub times : ℕ → List ℕ → ℕ
times k [] = 0
times k (x ∷ xs) = cond {A = ℕ} (k == x) 1 0 + times k xs

-- bit 7 of the attribute marks a directory
abbrev pub is_directory : List ℕ → Bool
is_directory s = bit_at (attribute s) 0

-- the descriptors that the used ones of some slots name
abbrev pub named_by : List Slot → List ℕ
named_by [] = []
named_by (empty ∷ ss) = named_by ss
named_by (entry name l ∷ ss) = l ∷ named_by ss

-- the descriptors that the directory with the descriptor l names, from slot 2 on; a file names none
abbrev pub children : (ℕ → List ℕ) → ℕ → List ℕ
children sector l = cond (is_directory (sector l)) (named_by (drop 2 (slots (content sector (sector l))))) []

-- the root is reached, and so is each descriptor that a reached directory names
pub data Reached (sector : ℕ → List ℕ) (root : ℕ) : ℕ → Type 0 where
  at_root : Reached sector root root
  by_slot : (p l : ℕ) → Reached sector root p → 0 < times l (children sector p) → Reached sector root l

-- the same over any naming of descriptors: the root is reached, and so is each descriptor that a reached one names
pub data ReachedBy (names : ℕ → List ℕ) (root : ℕ) : ℕ → Type 0 where
  at_start : ReachedBy names root root
  by_name : (p l : ℕ) → ReachedBy names root p → 0 < times l (names p) → ReachedBy names root l

-- the sectors that the descriptor l holds: itself, and those of its segments
abbrev pub holds : (ℕ → List ℕ) → ℕ → List ℕ
holds sector l = l ∷ extent (segments (sector l))

-- the sector k is held by a reached descriptor
pub record Held (sector : ℕ → List ℕ) (root k : ℕ) : Type 0 where
  pub by : ℕ
  pub there : Reached sector root by
  pub has : 0 < times k (holds sector by)

-- p is the parent of the directory l; the root is its own
pub data Parent (sector : ℕ → List ℕ) (root : ℕ) : ℕ → ℕ → Type 0 where
  of_root : Parent sector root root root
  of_child : (p l : ℕ) → Reached sector root p → 0 < times l (children sector p) → Parent sector root p l
