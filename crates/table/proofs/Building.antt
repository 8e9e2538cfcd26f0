-- Where every rule holds, a table stands: the entries of all descriptors that a walk visits.
use Rattle.std.proofs.Common.{◌≡◌, ℕ, ◌+◌, ◌-◌, ◌<◌, ◌≤◌, true, false, List, [], ◌∷◌, length, get_or, Some, None, Option, sym, refl, ap, ◌∙◌, subst, inl, inr, arith, eq-eqb, ne_eqb}
use Rattle.std.specs.List.{flat_map}
use Rattle.std.proofs.lemmas.Bool.{cases_eq, cases_Bool, cases_lt}
use Rattle.devices.specs.Meaning.{Meaning, Whole}
use Rattle.layout.specs.Descriptor.{size, segments, extent, content}
use Rattle.layout.specs.Directory.{Slot}
use Rattle.layout.specs.Map.{taken}
use Rattle.descriptors.proofs.Blocks.{Wide, content-length}
use Rattle.rules.specs.Nodes.{times, is_directory, children, at_root, by_slot, ReachedBy, at_start, by_name, holds, Parent, of_root, of_child}
use Rattle.rules.specs.Rules.{sectors_of, map_of, root_at, Found, Sound}
use Rattle.rules.specs.Walking.{system, Walking, Walked}
use Rattle.rules.proofs.Joins.{joined_some}
use Rattle.rules.proofs.Members.{get_or-times}
use Rattle.rules.proofs.Times.{hit_is, times-++}
use Rattle.rules.proofs.Walks.{system_is, walk_ends, walk_lists}
use Rattle.table.specs.Counts.{sum, claims, namings, occupied}
use Rattle.table.specs.Entries.{Entry, Table, put, at, present, held, names, up_of, dots, Upward}
use Rattle.table.specs.Laws.{SoundTable}
use Rattle.table.specs.Standing.{Shows, Stands}
use Rattle.table.proofs.Listings.{complete, parent_of}
use Rattle.table.proofs.Occupied.{occupied_is, taken_one}
use Rattle.table.proofs.Reading.{held_read, names_read, up_directory, up_file, slot_at}
use Rattle.table.proofs.Spaces.{names_some}
use Rattle.table.proofs.Sums.{sum_zero, sum-put}

-- the table with another entry at x
pub put_here : (t : Table) (x : ℕ) (o : Option Entry) → put t x o x ≡ o
put_here t x o = rw (eq-eqb x x refl) refl

pub put_other : (t : Table) (x : ℕ) (o : Option Entry) (l : ℕ) → (l ≡ x → ⊥) → put t x o l ≡ t l
put_other t x o l ne = rw (ne_eqb l x ne) refl

-- what a device shows at these descriptors, and nothing else
unfoldable table_of : Meaning → List ℕ → Table
table_of d [] = λ l. None
table_of d (v ∷ vs) = put (table_of d vs) v (Some (at d v))

module _ (d : Meaning) where
  listed : (vs : List ℕ) (l : ℕ) → 0 < times l vs → table_of d vs l ≡ Some (at d l)
  unfolding table_of
  listed [] l pos = absurd (omega arith)
  listed (v ∷ vs) l pos = elim (hit_is l v) [
    | inl h ↦ ap (put (table_of d vs) v (Some (at d v))) h.0 ∙ put_here (table_of d vs) v (Some (at d v)) ∙ ap (λ i. Some (at d i)) (sym h.0)
    | inr h ↦ put_other (table_of d vs) v (Some (at d v)) l h.0 ∙ listed vs l (omega (arith, h.1))
  ]

  unlisted : (vs : List ℕ) (l : ℕ) → times l vs ≡ 0 → table_of d vs l ≡ None
  unfolding table_of
  unlisted [] l z = refl
  unlisted (v ∷ vs) l z = elim (hit_is l v) [
    | inl h ↦ absurd (omega (arith, h.1))
    | inr h ↦ put_other (table_of d vs) v (Some (at d v)) l h.0 ∙ unlisted vs l (omega (arith, h.1))
  ]

  -- what each entry has, summed over the table, is what stands in a row
  summed : (T k : ℕ) (F : ℕ → Option Entry → List ℕ) (G : ℕ → List ℕ) → ((l : ℕ) → F l None ≡ []) → ((l : ℕ) → F l (Some (at d l)) ≡ G l)
      → (vs : List ℕ) → ((l : ℕ) → times l vs ≤ 1) → ((l : ℕ) → 0 < times l vs → l < T) → sum (λ l. times k (F l (table_of d vs l))) T ≡ times k (flat_map G vs)
  unfolding table_of
  summed T k F G none some [] once low = sum_zero (λ l. times k (F l None)) T (λ l lt. ap (times k) (none l))
  summed T k F G none some (v ∷ vs) once low =
      let t : Table = table_of d vs in
      let self = hit_is v v in
      let new : times v vs ≡ 0 = elim (hit_is v v) [ inl h ↦ omega (arith, h.1, once v) | inr h ↦ absurd (h.0 refl) ] in
      let lt : v < T = low v (elim (hit_is v v) [ inl h ↦ omega (arith, h.1) | inr h ↦ absurd (h.0 refl) ]) in
      let rest = summed T k F G none some vs (λ l. omega (arith, once l)) (λ l pos. low l (omega arith)) in
      let one = sum-put (λ l. times k (F l (t l))) (λ l. times k (F l (put t v (Some (at d v)) l))) T v lt (λ l b ne. ap (λ o. times k (F l o)) (put_other t v (Some (at d v)) l ne)) in
      omega (arith, rest, one, times-++ k (G v) (flat_map G vs), ap (λ o. times k (F v o)) (unlisted vs v new) ∙ ap (times k) (none v), ap (λ o. times k (F v o)) (put_here t v (Some (at d v))) ∙ ap (times k) (some v))

module _ (d : Meaning) (whole : Whole d) (s : Sound d) (vs : List ℕ) (marks : ℕ → ℕ) (walking : Walking d vs [] marks) where
  abbrev t : Table
  t = table_of d vs

  ends : Walked d marks
  ends = walk_ends d vs marks s.root_inside walking

  -- reached descriptors are in the table, and no others
  is_there : (l : ℕ) → Found d l → t l ≡ Some (at d l)
  is_there l r = listed d vs l (omega (arith, (walk_lists d vs marks walking).all l r))

  once : (l : ℕ) → times l vs ≤ 1
  once l = elim (cases_lt 0 (times l vs)) [
    | inl pos ↦ omega (arith, (walk_lists d vs marks walking).all l ((walk_lists d vs marks walking).only l pos))
    | inr le ↦ omega arith
  ]

  low : (l : ℕ) → 0 < times l vs → l < sectors_of d
  low l pos = (walking.within l (omega arith)).1

  present_is : (l : ℕ) → present (t l) ≡ times l vs
  present_is l = elim (cases_lt 0 (times l vs)) [
    | inl pos ↦ omega (arith, once l, ap present (listed d vs l pos))
    | inr le ↦ omega (arith, ap present (unlisted d vs l (omega arith)))
  ]

  found : (l : ℕ) → 0 < present (t l) → Found d l
  found l pos = (walk_lists d vs marks walking).only l (omega (arith, pos, present_is l))

  claims_are : (k : ℕ) → claims t (sectors_of d) k ≡ times k (flat_map (holds d.sector) vs)
  claims_are k = summed d (sectors_of d) k held (holds d.sector) (λ l. refl) (held_read d) vs once low

  namings_are : (l : ℕ) → namings t (sectors_of d) l ≡ times l (flat_map (children d.sector) vs)
  namings_are l = summed d (sectors_of d) l (λ p o. names o) (children d.sector) (λ p. refl) (names_read d) vs once low

  shown : (l : ℕ) (e : Entry) → t l ≡ Some e → Shows d l e
  shown l e is =
      let r : Found d l = found l (omega (arith, ap present is)) in
      let same : at d l ≡ e = some_same (sym (is_there l r) ∙ is) in
      record {
        reads = same;
        lawful =
            record {
              tidy = s.rule_c l r;
              sized = s.rule_d l r;
              linked = s.rule_f l r;
              slots_lawful = λ dir.
                  let p = parent_of d s l r in
                  let h = s.rule_e l r dir p.0 p.1 in
                  record { here = h.here; right = h.right; distinct = h.distinct };
            };
      }
    where
      some_same : {a b : Entry} → Some a ≡ Some b → a ≡ b
      some_same e = cc

  -- the bytes of a reached file are as many as its size says
  long : (l : ℕ) → Found d l → length (content d.sector (d.sector l)) ≡ size (d.sector l)
  long l r = content-length d.sector (d.sector l) wide (s.rule_d l r).held
    where
      wide : Wide d.sector 256 (extent (segments (d.sector l)))
      wide i lt =
          let k = get_or (extent (segments (d.sector l))) i 0 in
          whole k (omega (arith, ((s.rule_b l r).segments_inside k (get_or-times (extent (segments (d.sector l))) i lt)).1, s.rule_a.fits))

  -- slot 1 of a reached directory, whose parent is p
  up_slot_is : (l p : ℕ) → Found d l → is_directory (d.sector l) ≡ true → Parent d.sector (root_at d) p l → up_of (t l) ≡ Some (dots p)
  up_slot_is l p r dir of =
      let xs = content d.sector (d.sector l) in
      ap up_of (is_there l r) ∙ up_directory d l dir ∙ ap Some (slot_at xs 1 (omega (arith, long l r, (s.rule_d l r).two dir)) ∙ (s.rule_e l r dir p of).up)

  upward : (p l : ℕ) → 0 < times l (names (t p)) → Upward (up_of (t l)) p
  upward p l pos =
      let r : Found d p = found p (names_some l (t p) pos) in
      let child : 0 < times l (children d.sector p) = omega (arith, pos, ap (λ o. times l (names o)) (is_there p r), ap (times l) (names_read d p)) in
      let r' : Found d l = by_slot p l r child in
      elim (cases_Bool (is_directory (d.sector l))) [
        | inl dir ↦ subst (λ (o : Option Slot). Upward o p) (sym (up_slot_is l p r' dir (of_child p l r child))) refl
        | inr plain ↦ subst (λ (o : Option Slot). Upward o p) (sym (ap up_of (is_there l r') ∙ up_file d l plain)) tt
      ]

  reached : (l : ℕ) → Found d l → ReachedBy (λ p. names (t p)) (root_at d) l
  reached _ at_root = at_start
  reached _ (by_slot p l r pos) = by_name p l (reached p r) (omega (arith, pos, ap (λ o. times l (names o)) (is_there p r), ap (times l) (names_read d p)))

  -- the system's sectors and held ones are taken
  few : (k : ℕ) → system (map_of d) k + claims t (sectors_of d) k ≤ occupied d k
  few k = elim (cases_lt k (sectors_of d)) [
    | inl lt ↦
        let are = walking.marked k lt in
        elim (cases_eq (marks k) 1) [
          | inl one ↦ omega (arith, one, are, claims_are k, taken_one (taken d.sector) (sectors_of d) k lt (s.rule_h k (ends.owned k lt one)))
          | inr ne ↦ omega (arith, ne, ends.small k lt, are, claims_are k)
        ]
    | inr le ↦ elim (system_is (map_of d) k) [
      | inl h ↦ absurd (omega (arith, h.0, le, s.root_inside))
      | inr h ↦ elim (cases_lt 0 (times k (flat_map (holds d.sector) vs))) [
        | inl pos ↦ let v = joined_some k (holds d.sector) vs pos in absurd (omega (arith, le, ends.below v.0 k ((walk_lists d vs marks walking).only v.0 v.1) v.2))
        | inr none ↦ omega (arith, h.1, none, claims_are k)
      ]
    ]
  ]

  -- the others that are taken are withheld
  abbrev rest : ℕ → ℕ
  rest k = occupied d k - (system (map_of d) k + claims t (sectors_of d) k)

  -- a sector that is not withheld is owned or clear, and so it is good
  good : (k : ℕ) → k < sectors_of d → rest k ≡ 0 → d.bad k ≡ false
  good k lt free = elim (occupied_is d k) [
    | inl h ↦ s.good k (lt, inl (ends.owned k lt (omega (arith, h.2, free, walking.marked k lt, ends.small k lt, claims_are k, few k))))
    | inr h ↦ s.good k (lt, inr (h.0 lt))
  ]

  built : Stands d rest t
  built =
      record {
        rule_a = s.rule_a;
        shown = shown;
        within = λ l le. unlisted d vs l (elim (cases_lt 0 (times l vs)) [ inl pos ↦ absurd (omega (arith, le, low l pos)) | inr none ↦ omega arith ]);
        space = λ k. omega (arith, few k);
        tree =
            record {
              named = λ l. omega (arith, walking.named l, namings_are l, present_is l);
              top = up_slot_is (root_at d) (root_at d) at_root s.root_directory of_root;
              up = upward;
              reached = λ l pos. reached l (found l pos);
            };
        good = good;
      }

pub sound_table : SoundTable
sound_table d whole s = let c = complete d s in (table_of d c.nodes, rest d whole s c.nodes c.marks c.walking, built d whole s c.nodes c.marks c.walking)
