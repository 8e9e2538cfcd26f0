-- The three ways in which a call changes a volume, by facts about what was changed alone.
use Rattle.std.specs.Prelude.{◌≡◌, ℕ, ◌+◌, ◌<◌, ◌⊎◌, List, ◌++◌, Some, None, ◌≢◌}
use Rattle.devices.specs.Meaning.{Meaning, Kept}
use Rattle.rules.specs.Nodes.{times}
use Rattle.rules.specs.Rules.{map_of}
use Rattle.rules.specs.Walking.{hit}
use Rattle.table.specs.Counts.{occupied}
use Rattle.table.specs.Entries.{Entry, Table, held, names, up_slot, up_of, Upward}
use Rattle.table.specs.Standing.{Shows}

-- LSN 0, and each sector behind the map that is none of these
abbrev pub Beside : ℕ → List ℕ → ℕ → Type 0
Beside m ls k = (k ≡ 0) ⊎ ((m < k) × (times k ls ≡ 0))

-- the entry at x changes in place from e to e': its bytes, size, dates or segments, grown or shrunk, but not what it names
pub record Changed (d d' : Meaning) (t t' : Table) (x : ℕ) (e e' : Entry) : Type 0 where
  pub was : t x ≡ Some e
  pub is : t' x ≡ Some e'
  pub others : (l : ℕ) → (l ≢ x) → t' l ≡ t l
  -- beside the map, no sector has changed but those that the entry holds, before or after
  pub kept : Kept (Beside (map_of d) (held x (Some e) ++ held x (Some e'))) d d'
  -- of the map, the bits of those that it holds after, and not before, or before, and not after
  pub bits : (k : ℕ) → occupied d' k + times k (held x (Some e)) ≡ occupied d k + times k (held x (Some e'))
  pub shows : Shows d' x e'
  pub naming : (l : ℕ) → times l (names (Some e')) ≡ times l (names (Some e))
  pub up : up_slot e'.node.body ≡ up_slot e.node.body

-- the leaf f, with its descriptor in the clear sector x, is added to the directory p, which changes from e to e': one slot more names x
pub record Added (d d' : Meaning) (t t' : Table) (p : ℕ) (e e' : Entry) (x : ℕ) (f : Entry) : Type 0 where
  pub was : t p ≡ Some e
  pub is : t' p ≡ Some e'
  pub new : t' x ≡ Some f
  pub others : (l : ℕ) → (l ≢ p) → (l ≢ x) → t' l ≡ t l
  pub clear : occupied d x ≡ 0
  pub kept : Kept (Beside (map_of d) (held p (Some e) ++ held p (Some e') ++ held x (Some f))) d d'
  pub bits : (k : ℕ) → occupied d' k + times k (held p (Some e)) ≡ occupied d k + times k (held p (Some e')) + times k (held x (Some f))
  pub shows : Shows d' p e'
  pub shows_new : Shows d' x f
  pub naming : (l : ℕ) → times l (names (Some e')) ≡ times l (names (Some e)) + hit x l
  pub leaf : (l : ℕ) → times l (names (Some f)) ≡ 0
  pub up : up_slot e'.node.body ≡ up_slot e.node.body
  pub up_new : Upward (up_of (Some f)) p

-- the leaf f at x is removed from the directory p, which changes from e to e': one slot less names x
pub record Removed (d d' : Meaning) (t t' : Table) (p : ℕ) (e e' : Entry) (x : ℕ) (f : Entry) : Type 0 where
  pub was : t p ≡ Some e
  pub is : t' p ≡ Some e'
  pub old : t x ≡ Some f
  pub gone : t' x ≡ None
  pub others : (l : ℕ) → (l ≢ p) → (l ≢ x) → t' l ≡ t l
  pub kept : Kept (Beside (map_of d) (held p (Some e) ++ held p (Some e') ++ held x (Some f))) d d'
  pub bits : (k : ℕ) → occupied d' k + times k (held p (Some e)) + times k (held x (Some f)) ≡ occupied d k + times k (held p (Some e'))
  pub shows : Shows d' p e'
  pub naming : (l : ℕ) → times l (names (Some e)) ≡ times l (names (Some e')) + hit x l
  pub leaf : (l : ℕ) → times l (names (Some f)) ≡ 0
  pub up : up_slot e'.node.body ≡ up_slot e.node.body
