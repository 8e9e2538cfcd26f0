-- Entries as a device shows them, and the descriptors that are reached.
use Rattle.std.proofs.Common.{◌≡◌, ℕ, ◌/◌, ◌<◌, Bool, true, false, cond, List, [], length, get_or, drop, Some, None, sym, refl, ap, ◌∙◌, subst, inl, inr, arith}
use Rattle.std.proofs.lemmas.List.FromFn.{get_or-map-range_with_len, length-map-range_with_len}
use Rattle.std.proofs.lemmas.List.{get_or_past}
use Rattle.std.proofs.lemmas.Bool.{cases_lt}
use Rattle.devices.specs.Meaning.{Meaning}
use Rattle.layout.specs.Descriptor.{content}
use Rattle.layout.specs.Directory.{Slot, empty, entry, slot, slots}
use Rattle.layout.specs.Records.{record_at}
use Rattle.rules.specs.Nodes.{times, is_directory, named_by, children, at_root, by_slot, holds}
use Rattle.rules.specs.Rules.{root_at, Found}
use Rattle.rules.proofs.Reaching.{from_naming}
use Rattle.table.specs.Entries.{file, directory, Table, read_entry, at, present, held, named_in, names, up_slot, up_of}
use Rattle.table.specs.Standing.{Stands}
use Rattle.table.proofs.Fields.{directory_read, file_read}
use Rattle.table.proofs.Holdings.{named_there, root_there}
use Rattle.table.proofs.Reaches.{reach_more}
use Rattle.table.proofs.Spaces.{entry_of, names_some}

-- an entry that is read holds and names what its descriptor does
pub held_read : (d : Meaning) (l : ℕ) → held l (Some (at d l)) ≡ holds d.sector l
unfolding read_entry
held_read d l = refl

pub names_read : (d : Meaning) (l : ℕ) → names (Some (at d l)) ≡ children d.sector l
unfolding read_entry
names_read d l = by_kind (is_directory (d.sector l)) (slots (content d.sector (d.sector l))) (content d.sector (d.sector l))
  where
    by_kind : (b : Bool) (ss : List Slot) (xs : List ℕ) → named_in (cond b (directory ss) (file xs)) ≡ cond b (named_by (drop 2 ss)) []
    by_kind true ss xs = refl
    by_kind false ss xs = refl

-- a directory has a slot 1, a file has none
pub up_directory : (d : Meaning) (l : ℕ) → is_directory (d.sector l) ≡ true → up_of (Some (at d l)) ≡ Some (get_or (slots (content d.sector (d.sector l))) 1 empty)
up_directory d l is = ap up_slot (directory_read (d.sector l) (content d.sector (d.sector l)) is)

pub up_file : (d : Meaning) (l : ℕ) → is_directory (d.sector l) ≡ false → up_of (Some (at d l)) ≡ None
up_file d l is = ap up_slot (file_read (d.sector l) (content d.sector (d.sector l)) is)

-- the slots of a directory, by their bytes
pub slot_at : (xs : List ℕ) (k : ℕ) → k < length xs / 32 → get_or (slots xs) k empty ≡ slot (record_at 32 k xs)
slot_at xs k lt = get_or-map-range_with_len (λ i. slot (record_at 32 i xs)) 0 (length xs / 32) k k empty lt (omega arith)

-- a used slot lies within the directory
pub slot_within : (xs : List ℕ) (k : ℕ) (n : List ℕ) (l : ℕ) → get_or (slots xs) k empty ≡ entry n l → (k < length xs / 32) × (slot (record_at 32 k xs) ≡ entry n l)
slot_within xs k n l is = elim (cases_lt k (length xs / 32)) [
  | inl lt ↦ (lt, sym (slot_at xs k lt) ∙ is)
  | inr le ↦ absurd (past (get_or_past (slots xs) k empty (omega (arith, length-map-range_with_len (λ i. slot (record_at 32 i xs)) 0 (length xs / 32)))))
]
  where
    past : get_or (slots xs) k empty ≡ empty → ⊥
    past e = cc

module _ (d : Meaning) (w : ℕ → ℕ) (t : Table) (s : Stands d w t) where
  -- an entry is what its descriptor shows
  pub entry_read : (l : ℕ) → 0 < present (t l) → t l ≡ Some (at d l)
  entry_read l pos = let e = entry_of (t l) pos in e.1 ∙ ap Some (sym (s.shown l e.0 e.1).reads)

  pub names_are : (l : ℕ) → 0 < present (t l) → names (t l) ≡ children d.sector l
  names_are l pos = ap names (entry_read l pos) ∙ names_read d l

  pub held_are : (l : ℕ) → 0 < present (t l) → held l (t l) ≡ holds d.sector l
  held_are l pos = ap (held l) (entry_read l pos) ∙ held_read d l

  -- the entries are those of the descriptors that are reached
  pub there_found : (l : ℕ) → 0 < present (t l) → Found d l
  there_found l is =
      from_naming d.sector (root_at d) l
      (reach_more (root_at d) (λ p. names (t p)) (children d.sector) (λ p i pos. subst (λ (xs : List ℕ). 0 < times i xs) (names_are p (names_some i (t p) pos)) pos) l (s.tree.reached l is))

  pub found_there : (l : ℕ) → Found d l → 0 < present (t l)
  found_there _ at_root = root_there d w t s
  found_there _ (by_slot p l r pos) =
      named_there d w t s p l (subst (λ (xs : List ℕ). 0 < times l xs) (sym (names_are p (found_there p r))) pos)
