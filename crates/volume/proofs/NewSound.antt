-- What format leaves satisfies every rule.
use Rattle.std.proofs.Common.{◌≡◌, ℕ, ◌/◌, ◌%◌, ◌<◌, ◌≤◌, Bool, true, false, cond, ◌||◌, leb, ◌⊎◌, List, [], ◌∷◌, length, take, drop, codes, sym, refl, ap, ◌∙◌, subst, inl, inr, arith}
use Rattle.std.proofs.lemmas.Bool.{cases_eq, le-leb, or_left}
use Rattle.devices.specs.Meaning.{Meaning}
use Rattle.layout.specs.Descriptor.{segment, segments, upto, extent, content}
use Rattle.layout.specs.Directory.{entry, slot}
use Rattle.layout.specs.Map.{map_bytes_of, bit_at, taken}
use Rattle.layout.specs.Names.{VolumeName}
use Rattle.layout.specs.Records.{record_at}
use Rattle.rules.specs.Nodes.{times, is_directory, named_by, children, at_root, by_slot, holds, Held, Parent, of_root, of_child}
use Rattle.rules.specs.Rules.{sectors_of, root_at, Found, RuleB, RuleC, RuleD, slot_count, RuleE, RuleF, Again, root_too, same_directory, two_directories, Twice, inside, shared, again, Owned, Wanted, Sound}
use Rattle.rules.proofs.Times.{times-one, times_two, times_apart}
use Rattle.volume.specs.Formatting.{GoodTo, Formatted}
use Rattle.volume.specs.NewLayout.{NewLayout, RootReads}
use Rattle.volume.specs.NewVolume.{root_of, slots_of, new_root, new_slots}
use Rattle.volume.proofs.NewReads.{new_layout, one_sector, here_read, up_read, slots_long, first_len, rest_zero}

cond_none : (b : Bool) → cond {A = List ℕ} b [] [] ≡ []
cond_none true = refl
cond_none false = refl

last_false : (a b c : Bool) → (a || (b || c)) ≡ false → c ≡ false
last_false a b c e = grind arith

module _ (m m' : Meaning) (T : ℕ) (name : List ℕ) (least : 16 ≤ T) (most : T ≤ 65536) (fits : T ≤ m.count) (named : VolumeName name) (good : GoodTo m (slots_of T)) (f : Formatted m m' T name) where
  layout : NewLayout m m'.sector T name
  layout = new_layout m m' T name most named f

  t_is : sectors_of m' ≡ T
  t_is = layout.identification.total_is

  root_is : root_at m' ≡ root_of T
  root_is = layout.identification.root_is

  reads : RootReads (m'.sector (root_of T)) T
  reads = layout.root_reads

  directory : is_directory (m'.sector (root_of T)) ≡ true
  unfolding bit_at
  directory = ap (λ a. bit_at a 0) reads.attribute_is

  -- the root names nothing, and holds its descriptor and one sector
  no_children : children m'.sector (root_of T) ≡ []
  no_children = ap (λ ss. cond (is_directory (m'.sector (root_of T))) (named_by (drop 2 ss)) []) layout.slots_are ∙ cond_none (is_directory (m'.sector (root_of T)))

  one_extent : extent (segments (m'.sector (root_of T))) ≡ slots_of T ∷ []
  unfolding upto
  one_extent = ap extent reads.one_segment

  two_held : holds m'.sector (root_of T) ≡ root_of T ∷ slots_of T ∷ []
  two_held = ap (λ l. root_of T ∷ l) one_extent

  bytes_are : content m'.sector (m'.sector (root_of T)) ≡ take 64 (m'.sector (slots_of T))
  bytes_are = one_sector m'.sector (m'.sector (root_of T)) T reads

  -- nothing but the root is reached
  alone : (l : ℕ) → Found m' l → l ≡ root_of T
  alone _ at_root = root_is
  alone _ (by_slot p l r pos) =
      let e : p ≡ root_of T = alone p r in
      absurd (omega (arith, pos, ap (times l) (ap (children m'.sector) e ∙ no_children)))

  unnamed : (p l : ℕ) → Found m' p → 0 < times l (children m'.sector p) → ⊥
  unnamed p l r pos = omega (arith, pos, ap (times l) (ap (children m'.sector) (alone p r) ∙ no_children))

  held_low : (k : ℕ) → Held m'.sector (root_at m') k → (k ≡ root_of T) ⊎ (k ≡ slots_of T)
  held_low k h =
      let e : holds m'.sector h.by ≡ root_of T ∷ slots_of T ∷ [] = ap (holds m'.sector) (alone h.by h.there) ∙ two_held in
      times_two k (root_of T) (slots_of T) (omega (arith, h.has, ap (times k) e))

  owned_low : (k : ℕ) → Owned m' k → k ≤ slots_of T
  owned_low k (inl le) = omega (arith, t_is)
  owned_low k (inr h) = elim (held_low k h) [ inl e ↦ omega arith | inr e ↦ omega arith ]

  parent_root : (p l : ℕ) → Parent m'.sector (root_at m') p l → p ≡ root_of T
  parent_root _ _ of_root = root_is
  parent_root _ _ (of_child p l r pos) = absurd (unnamed p l r pos)

  not_again : (l : ℕ) → Again m' l → ⊥
  not_again l (root_too p r e pos) = unnamed p l r pos
  not_again l (same_directory p r pos) = unnamed p l r (omega arith)
  not_again l (two_directories p q ne r s pos qos) = unnamed p l r pos

  not_twice : (k : ℕ) → Twice m' k → ⊥
  not_twice k (inside l r two) =
      omega (arith, two, times_apart k (root_of T) (slots_of T) (λ e. omega arith), ap (times k) (ap (holds m'.sector) (alone l r) ∙ two_held))
  not_twice k (shared l l' ne r s a b) = ne (alone l r ∙ sym (alone l' s))
  not_twice k (again l r a pos) = not_again l a

  root_b : RuleB m' (root_of T)
  root_b =
      record {
        segments_inside = λ k pos.
            let e : k ≡ slots_of T = times-one k (slots_of T) (rw one_extent at pos) in
            (omega (arith, t_is), omega (arith, t_is));
        children_inside = λ k pos. absurd (omega (arith, pos, ap (times k) no_children));
      }

  root_c : RuleC m' (root_of T)
  root_c j k le lt zero-len =
      let was : (segment (new_root T) j).len ≡ 0 = ap (λ s. (segment s j).len) (sym f.root) ∙ zero-len in
      elim (cases_eq j 0) [
        | inl e ↦ absurd (omega (arith, first_len T most, ap (λ i. (segment (new_root T) i).len) e, was))
        | inr ne ↦ ap (λ s. segment s k) f.root ∙ rest_zero T most k (omega arith)
      ]

  root_d : RuleD m' (root_of T)
  root_d =
      let one : length (extent (segments (m'.sector (root_of T)))) ≡ 1 = ap length one_extent in
      record {
        held = omega (arith, one, reads.size_is);
        whole = λ e. ap (λ n. n % 32) reads.size_is;
        two = λ e. omega (arith, reads.size_is);
      }

  all_bytes : content m'.sector (m'.sector (root_of T)) ≡ take 64 (new_slots T)
  all_bytes = bytes_are ∙ ap (take 64) f.slots

  two_only : slot_count m' (root_of T) ≡ 2
  two_only = ap (λ n. n / 32) (ap length all_bytes ∙ slots_long T most)

  root_e : RuleE m' (root_of T)
  root_e p of =
      record {
        here = ap (λ xs. slot (record_at 32 0 xs)) all_bytes ∙ here_read T most;
        up = ap (λ xs. slot (record_at 32 1 xs)) all_bytes ∙ up_read T most ∙ ap (entry (codes "..")) (sym (parent_root p (root_of T) of));
        right = λ k two lt. absurd (omega (arith, two_only, two, lt));
        distinct = λ j k two less lt. absurd (omega (arith, two_only, two, less, lt));
      }

  is_set : (k : ℕ) → k ≤ slots_of T → taken m'.sector k ≡ true
  is_set k le = layout.map k (omega arith) ∙ or_left (leb k (slots_of T)) (leb T k || m.bad k) (le-leb k (slots_of T) le)

  all_good : (k : ℕ) → Wanted m' k → m'.bad k ≡ false
  all_good k w =
      let lt : k < T = omega (arith, t_is, w.0) in
      f.kept.1 k (omega arith)
      ∙ elim w.1 [
        | inl o ↦ good k (owned_low k o)
        | inr clear ↦ last_false (leb k (slots_of T)) (leb T k) (m.bad k) (sym (layout.map k (omega arith)) ∙ clear)
      ]

  -- a fact of the root is one of everything that is reached
  of_found : (P : ℕ → Type 0) → P (root_of T) → (l : ℕ) → Found m' l → P l
  of_found P h l r = subst P (sym (alone l r)) h

  pub new_sound : Sound m'
  new_sound =
      record {
        rule_a =
            record {
              least = omega (arith, t_is);
              most = omega (arith, t_is);
              fits = omega (arith, t_is, f.kept.0);
              map_right = layout.identification.map_bytes_are ∙ ap map_bytes_of (sym t_is);
              clusters = layout.identification.one_sector_clusters;
              width = inl layout.identification.usual_sectors;
            };
        root_inside = (omega (arith, t_is, root_is), omega (arith, t_is, root_is));
        rule_b = of_found (RuleB m') root_b;
        rule_c = of_found (RuleC m') root_c;
        rule_d = of_found (RuleD m') root_d;
        rule_e = of_found (λ l. is_directory (m'.sector l) ≡ true → RuleE m' l) (λ e. root_e);
        root_directory = ap (λ l. is_directory (m'.sector l)) root_is ∙ directory;
        rule_f = of_found (RuleF m') (λ e. absurd (cc (directory, e)));
        rule_g = not_twice;
        rule_h = λ k o. is_set k (owned_low k o);
        good = all_good;
      }
