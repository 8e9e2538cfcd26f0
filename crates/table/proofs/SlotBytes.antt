-- The slots of a directory, by their bytes: one that is written or added, and names that no other has.
use Rattle.std.proofs.Common.{◌≡◌, ℕ, ◌+◌, ◌/◌, ◌<◌, ◌≤◌, List, [], ◌∷◌, ◌++◌, length, get_or, take, set, sym, refl, ap, ◌∙◌, subst, inl, inr, arith, length-set, eq-eqb, ne_eqb}
use Rattle.std.proofs.lemmas.List.FromFn.{length-map-range_with_len}
use Rattle.std.proofs.lemmas.List.{ext_get_or, get_or-set_same, get_or-set_other, get_or_append_left, get_or_push, length_push}
use Rattle.std.proofs.lemmas.Bool.{cases_eq, cases_lt, cases_order}
use Rattle.layout.specs.Bytes.{number}
use Rattle.layout.specs.Directory.{empty, entry, stored_slot, slot, slots}
use Rattle.layout.specs.Names.{name_of}
use Rattle.layout.specs.Records.{record_at}
use Rattle.rules.specs.Rules.{SlotRight}
use Rattle.table.specs.Standing.{SlotsLawful}
use Rattle.table.proofs.Reading.{slot_at, slot_within}

-- the 32 bytes r of a slot: empty where the first byte is 0, a name and an LSN where it is not
abbrev pub Unused : List ℕ → Type 0
Unused r = get_or r 0 0 ≡ 0

pub slot_unused : (r : List ℕ) → Unused r → slot r ≡ empty
slot_unused r z = rw (eq-eqb (get_or r 0 0) 0 z) refl

pub slot_used : (r : List ℕ) → (Unused r → ⊥) → slot r ≡ entry (name_of (take 28 r)) (number 29 3 r)
unfolding stored_slot
slot_used r used = rw (ne_eqb (get_or r 0 0) 0 used) refl

pub slot_says : (r n : List ℕ) (l : ℕ) → slot r ≡ entry n l → (Unused r → ⊥) × (name_of (take 28 r) ≡ n) × (number 29 3 r ≡ l)
slot_says r n l is =
    let used : Unused r → ⊥ = λ z. never (sym (slot_unused r z) ∙ is) in
    let e : entry (name_of (take 28 r)) (number 29 3 r) ≡ entry n l = sym (slot_used r used) ∙ is in
    (used, first e, second e)
  where
    never : empty ≡ entry n l → ⊥
    never e = cc

    first : {a b : List ℕ} {x y : ℕ} → entry a x ≡ entry b y → a ≡ b
    first e = cc

    second : {a b : List ℕ} {x y : ℕ} → entry a x ≡ entry b y → x ≡ y
    second e = cc

pub slots_length : (xs : List ℕ) → length (slots xs) ≡ length xs / 32
slots_length xs = length-map-range_with_len (λ i. slot (record_at 32 i xs)) 0 (length xs / 32)

module _ (xs xs' : List ℕ) where
  -- one slot is written, and every other is as it was
  pub slots_put : (i : ℕ) → length xs' / 32 ≡ length xs / 32 → i < length xs / 32 → ((j : ℕ) → j < length xs / 32 → (j ≡ i → ⊥) → record_at 32 j xs' ≡ record_at 32 j xs) → slots xs' ≡ set (slots xs) i (slot (record_at 32 i xs'))
  slots_put i long lt same =
      let v = slot (record_at 32 i xs') in
      ext_get_or empty (slots xs') (set (slots xs) i v) (slots_length xs' ∙ long ∙ sym (slots_length xs) ∙ sym (length-set (slots xs) i v)) (λ j low.
      let here : j < length xs / 32 = omega (arith, low, slots_length xs') in
      slot_at xs' j (omega arith)
      ∙ elim (cases_eq j i) [
        | inl e ↦ ap (λ k. slot (record_at 32 k xs')) e ∙ sym (get_or-set_same (slots xs) i v empty (omega (arith, slots_length xs))) ∙ ap (λ k. get_or (set (slots xs) i v) k empty) (sym e)
        | inr ne ↦ ap slot (same j here ne) ∙ sym (slot_at xs j here) ∙ sym (get_or-set_other (slots xs) i j v empty ne)
      ])

  -- one slot comes behind the last
  pub slots_push : length xs' / 32 ≡ length xs / 32 + 1 → ((j : ℕ) → j < length xs / 32 → record_at 32 j xs' ≡ record_at 32 j xs) → slots xs' ≡ slots xs ++ slot (record_at 32 (length xs / 32) xs') ∷ []
  slots_push long same =
      let v = slot (record_at 32 (length xs / 32) xs') in
      ext_get_or empty (slots xs') (slots xs ++ v ∷ []) (slots_length xs' ∙ long ∙ ap (λ n. n + 1) (sym (slots_length xs)) ∙ sym (length_push (slots xs) v)) (λ j low.
      slot_at xs' j (omega (arith, low, slots_length xs'))
      ∙ elim (cases_lt j (length xs / 32)) [
        | inl lt ↦ ap slot (same j lt) ∙ sym (slot_at xs j lt) ∙ sym (get_or_append_left (slots xs) (v ∷ []) empty j (omega (arith, slots_length xs)))
        | inr le ↦
            let e : j ≡ length xs / 32 = omega (arith, low, le, long, slots_length xs') in
            ap (λ k. slot (record_at 32 k xs')) e ∙ sym (get_or_push (slots xs) v empty j (slots_length xs ∙ sym e))
      ])

  -- the slots stay lawful where one is written, or added, that is empty or has a lawful name that no other has
  module _ (l i : ℕ) (two : 2 ≤ i) (there : i < length xs' / 32)
      (same : (j : ℕ) → j < length xs' / 32 → (j ≡ i → ⊥) → (j < length xs / 32) × (record_at 32 j xs' ≡ record_at 32 j xs))
      (right : (Unused (record_at 32 i xs') → ⊥) → SlotRight (record_at 32 i xs'))
      (new : (Unused (record_at 32 i xs') → ⊥) → (j : ℕ) → 2 ≤ j → j < length xs / 32 → (j ≡ i → ⊥) → (Unused (record_at 32 j xs) → ⊥) → name_of (take 28 (record_at 32 j xs)) ≡ name_of (take 28 (record_at 32 i xs')) → ⊥)
      (s : SlotsLawful l xs) where
    pub lawful_put : SlotsLawful l xs'
    lawful_put =
        record {
          here = ap slot (same 0 (omega arith) (λ e. omega arith)).1 ∙ s.here;
          right = λ k low lt used. elim (cases_eq k i) [
            | inl e ↦ subst (λ (j : ℕ). SlotRight (record_at 32 j xs')) (sym e) (right (λ z. used (ap (λ j. get_or (record_at 32 j xs') 0 0) e ∙ z)))
            | inr ne ↦
                let h = same k lt ne in
                subst SlotRight (sym h.1) (s.right k low h.0 (λ z. used (ap (λ r. get_or r 0 0) h.1 ∙ z)))
          ];
          distinct = λ j k low less lt uj uk e. elim (cases_eq j i) [
            | inl is ↦
                let h = same k lt (λ z. omega arith) in
                new (λ z. uj (ap (λ a. get_or (record_at 32 a xs') 0 0) is ∙ z)) k (omega arith) h.0 (λ z. omega arith) (λ z. uk (ap (λ r. get_or r 0 0) h.1 ∙ z))
                (ap (λ r. name_of (take 28 r)) (sym h.1) ∙ sym e ∙ ap (λ a. name_of (take 28 (record_at 32 a xs'))) is)
            | inr nj ↦
                let h = same j (omega arith) nj in
                let uj' : Unused (record_at 32 j xs) → ⊥ = λ z. uj (ap (λ r. get_or r 0 0) h.1 ∙ z) in
                elim (cases_eq k i) [
                  | inl is ↦
                      new (λ z. uk (ap (λ a. get_or (record_at 32 a xs') 0 0) is ∙ z)) j low h.0 nj uj'
                      (ap (λ r. name_of (take 28 r)) (sym h.1) ∙ e ∙ ap (λ a. name_of (take 28 (record_at 32 a xs'))) is)
                  | inr nk ↦
                      let g = same k lt nk in
                      s.distinct j k low less g.0 uj' (λ z. uk (ap (λ r. get_or r 0 0) g.1 ∙ z)) (ap (λ r. name_of (take 28 r)) (sym h.1) ∙ e ∙ ap (λ r. name_of (take 28 r)) g.1)
                ]
          ];
        }

-- a name stands in one slot of a directory at most
pub one_slot : (l : ℕ) (xs : List ℕ) → SlotsLawful l xs → (j k : ℕ) (n : List ℕ) (x y : ℕ) → 2 ≤ j → 2 ≤ k → get_or (slots xs) j empty ≡ entry n x → get_or (slots xs) k empty ≡ entry n y → j ≡ k
one_slot l xs s j k n x y low-j low-k is-j is-k =
    let a = slot_within xs j n x is-j in
    let b = slot_within xs k n y is-k in
    let c = slot_says (record_at 32 j xs) n x a.1 in
    let e = slot_says (record_at 32 k xs) n y b.1 in
    elim (cases_order j k) [
      | inl same ↦ same
      | inr other ↦ absurd (elim other [
        | inl less ↦ s.distinct j k low-j less b.0 c.0 e.0 (c.1 ∙ sym e.1)
        | inr less ↦ s.distinct k j low-k less a.0 e.0 c.0 (e.1 ∙ sym c.1)
      ])
    ]
