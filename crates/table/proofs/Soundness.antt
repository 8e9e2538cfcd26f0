-- Where a table stands, every rule of a sound volume holds.
use Rattle.std.proofs.Common.{◌≡◌, ℕ, ◌<◌, true, get_or, Some, None, codes, Option, sym, refl, ap, ◌∙◌, subst, inl, inr, arith}
use Rattle.std.proofs.lemmas.Bool.{cases_Bool, both_ways}
use Rattle.devices.specs.Meaning.{Meaning}
use Rattle.layout.specs.Descriptor.{content}
use Rattle.layout.specs.Directory.{Slot, empty, entry, slot, slots}
use Rattle.layout.specs.Map.{taken}
use Rattle.rules.specs.Nodes.{times, is_directory, children, at_root, holds, Parent, of_root, of_child}
use Rattle.rules.specs.Rules.{map_of, root_at, Found, Inside, SlotsRight, slot_bytes_at, Again, root_too, same_directory, two_directories, Twice, inside, shared, again, Owned, Wanted, Sound}
use Rattle.rules.proofs.Walks.{system_is}
use Rattle.table.specs.Counts.{occupied}
use Rattle.table.specs.Entries.{Table, at, present, held, names, up_of, dots, Upward}
use Rattle.table.specs.Laws.{TableSound}
use Rattle.table.specs.Standing.{Lawful, Stands}
use Rattle.table.proofs.Holdings.{naming_one, naming_two, held_taken, held_apart, held_once, named_there, root_there, root_unnamed}
use Rattle.table.proofs.Occupied.{occupied_is, occupied_small, occupied_below}
use Rattle.table.proofs.Reading.{entry_read, names_are, held_are, there_found, found_there, up_directory, up_file, slot_within}
use Rattle.table.proofs.Spaces.{held_self, present_small}

module _ (d : Meaning) (w : ℕ → ℕ) (t : Table) (s : Stands d w t) where
  there : (l : ℕ) → Found d l → 0 < present (t l)
  there = found_there d w t s

  -- what a reached descriptor holds, its entry does
  held_so : (l k : ℕ) → Found d l → times k (held l (t l)) ≡ times k (holds d.sector l)
  held_so l k r = ap (times k) (held_are d w t s l (there l r))

  names_so : (p l : ℕ) → Found d p → times l (names (t p)) ≡ times l (children d.sector p)
  names_so p l r = ap (times l) (names_are d w t s p (there p r))

  taken_so : (l k : ℕ) → Found d l → 0 < times k (holds d.sector l) → (occupied d k ≡ 1) × (map_of d < k) × (w k ≡ 0)
  taken_so l k r pos = held_taken d w t s l k (omega (arith, pos, held_so l k r))

  inside_so : (l k : ℕ) → Found d l → 0 < times k (holds d.sector l) → Inside d k
  inside_so l k r pos = let h = taken_so l k r pos in (h.1, occupied_below d k (omega (arith, h.0)))

  own_inside : (l : ℕ) → Found d l → Inside d l
  own_inside l r = inside_so l l r (omega (arith, held_so l l r, held_self l (t l) (there l r)))

  lawful : (l : ℕ) → Found d l → Lawful l (d.sector l) (content d.sector (d.sector l))
  lawful l r = (s.shown l (at d l) (entry_read d w t s l (there l r))).lawful

  -- slot 1 of a directory, whose parent is p
  upward : (l p : ℕ) → Parent d.sector (root_at d) p l → Upward (up_of (t l)) p
  upward _ _ of_root = subst (λ (o : Option Slot). Upward o (root_at d)) (sym s.tree.top) refl
  upward _ _ (of_child p l r pos) = s.tree.up p l (omega (arith, pos, names_so p l r))

  up_is : (l p : ℕ) → Found d l → is_directory (d.sector l) ≡ true → Parent d.sector (root_at d) p l → slot (slot_bytes_at d l 1) ≡ entry (codes "..") p
  up_is l p r dir of =
      let shown : up_of (t l) ≡ Some (get_or (slots (content d.sector (d.sector l))) 1 empty) = ap up_of (entry_read d w t s l (there l r)) ∙ up_directory d l dir in
      (slot_within (content d.sector (d.sector l)) 1 (codes "..") p (subst (λ (o : Option Slot). Upward o p) shown (upward l p of))).1

  directory_root : is_directory (d.sector (root_at d)) ≡ true
  directory_root = elim (cases_Bool (is_directory (d.sector (root_at d)))) [
    | inl is ↦ is
    | inr not ↦ absurd (never (sym s.tree.top ∙ ap up_of (entry_read d w t s (root_at d) (root_there d w t s)) ∙ up_file d (root_at d) not))
  ]
    where
      never : Some (dots (root_at d)) ≡ None → ⊥
      never e = cc

  slots_right : (l p : ℕ) → Found d l → is_directory (d.sector l) ≡ true → Parent d.sector (root_at d) p l → SlotsRight d l p
  slots_right l p r dir of =
      let h = (lawful l r).slots_lawful dir in
      record { here = h.here; up = up_is l p r dir of; right = h.right; distinct = h.distinct }

  -- nothing is named twice
  not_again : (l : ℕ) → Again d l → ⊥
  not_again l (root_too p r e pos) = root_unnamed d w t s p l (omega (arith, pos, names_so p l r)) e
  not_again l (same_directory p r two) =
      omega (arith, two, names_so p l r, naming_one d w t s l p, s.tree.named l, present_small (t l))
  not_again l (two_directories p q ne r r' pos pos') =
      omega (arith, pos, pos', names_so p l r, names_so q l r', naming_two d w t s l p q ne, s.tree.named l, present_small (t l))

  -- nothing is held twice
  not_twice : (k : ℕ) → Twice d k → ⊥
  not_twice k (inside l r two) =
      omega (arith, two, held_so l k r, held_once d w t s l k)
  not_twice k (shared l l' ne r r' pos pos') =
      omega (arith, pos', held_so l' k r', held_apart d w t s l l' k ne (omega (arith, pos, held_so l k r)))
  not_twice k (again l r a pos) = not_again l a

  -- owned sectors are taken, and not withheld
  owned_taken : (k : ℕ) → Owned d k → (occupied d k ≡ 1) × (w k ≡ 0)
  owned_taken k (inl le) = elim (system_is (map_of d) k) [
    | inl h ↦ (omega (arith, h.1, s.space k, occupied_small d k), omega (arith, h.1, s.space k, occupied_small d k))
    | inr h ↦ absurd (omega (arith, h.0))
  ]
  owned_taken k (inr h) = let g = taken_so h.by k h.there h.has in (g.0, g.2)

  bit_set : (k : ℕ) → occupied d k ≡ 1 → taken d.sector k ≡ true
  bit_set k one = elim (occupied_is d k) [ inl h ↦ h.1 | inr h ↦ absurd (omega (arith, h.1)) ]

  free : (k : ℕ) → Wanted d k → w k ≡ 0
  free k (lt, inl o) = (owned_taken k o).1
  free k (lt, inr clear) = elim (occupied_is d k) [
    | inl h ↦ absurd (both_ways (taken d.sector k) clear h.1)
    | inr h ↦ omega (arith, h.1, s.space k)
  ]

  rules_hold : Sound d
  rules_hold =
      record {
        rule_a = s.rule_a;
        root_inside = own_inside (root_at d) at_root;
        rule_b = λ l r.
            record {
              segments_inside = λ k pos. inside_so l k r (omega (arith, pos));
              children_inside = λ k pos.
                  own_inside k (there_found d w t s k (named_there d w t s l k (omega (arith, pos, names_so l k r))));
            };
        rule_c = λ l r. (lawful l r).tidy;
        rule_d = λ l r. (lawful l r).sized;
        rule_e = λ l r dir p of. slots_right l p r dir of;
        root_directory = directory_root;
        rule_f = λ l r. (lawful l r).linked;
        rule_g = not_twice;
        rule_h = λ k o. bit_set k (owned_taken k o).0;
        good = λ k h. s.good k h.0 (free k h);
      }

pub table_sound : TableSound
table_sound d w t s = rules_hold d w t s
