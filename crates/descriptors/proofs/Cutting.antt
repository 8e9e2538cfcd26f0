-- A segment list cut behind its first n sectors: what stays, what goes, and that this is all.
use Rattle.std.proofs.Common.{◌≡◌, ℕ, zero, suc, ◌+◌, ◌-◌, ◌<◌, ◌≤◌, min, List, [], ◌∷◌, ◌++◌, length, take, drop, sym, refl, ap, ◌∙◌, ap₂, inl, inr, arith, length-append, ne_eqb, get_or}
use lib.Seq.{take-nil, drop-nil}
use Rattle.std.specs.List.{AllByRecursion}
use Rattle.std.proofs.ByRecursion.{All-get_or}
use Rattle.std.proofs.lemmas.List.{take-append-drop, append_assoc, drop_more}
use Rattle.std.proofs.lemmas.Bool.{cases_eq, cases_lt, lt-ltb, le-ltb}
use Rattle.layout.specs.Descriptor.{upto, extent}
use Rattle.layout.specs.declared.segment.Segment.{Segment}
use Rattle.descriptors.specs.Cuts.{kept, freed}
use Rattle.descriptors.specs.Lists.{nowhere}
use Rattle.descriptors.specs.Stored.{AllStorable, Storable}
use Rattle.descriptors.proofs.Extents.{length-upto}

-- the first n of one list and then another, and those behind them
pub take_through : (n : ℕ) (xs ys : List ℕ) → take n (xs ++ ys) ≡ take n xs ++ take (n - length xs) ys
take_through n [] ys = let e : n ≡ n - 0 = omega arith in ap (λ k. take k ys) e ∙ sym (ap (λ l. l ++ take (n - 0) ys) (take-nil n))
take_through zero (x ∷ xs) ys = let e : 0 ≡ 0 - length (x ∷ xs) = omega arith in ap (λ k. take k ys) e
take_through (suc n) (x ∷ xs) ys = let e : n - length xs ≡ suc n - length (x ∷ xs) = omega arith in ap (λ l. x ∷ l) (take_through n xs ys ∙ ap (λ k. take n xs ++ take k ys) e)

pub drop_through : (n : ℕ) (xs ys : List ℕ) → drop n (xs ++ ys) ≡ drop n xs ++ drop (n - length xs) ys
drop_through n [] ys = let e : n ≡ n - 0 = omega arith in ap (λ k. drop k ys) e ∙ sym (ap (λ l. l ++ drop (n - 0) ys) (drop-nil n))
drop_through zero (x ∷ xs) ys = let e : 0 ≡ 0 - length (x ∷ xs) = omega arith in ap (λ k. x ∷ xs ++ drop k ys) e
drop_through (suc n) (x ∷ xs) ys = let e : n - length xs ≡ suc n - length (x ∷ xs) = omega arith in drop_through n xs ys ∙ ap (λ k. drop n xs ++ drop k ys) e

-- the same of a run
pub take-upto : (n s len : ℕ) → take n (upto s len) ≡ upto s (min len n)
unfolding upto
take-upto zero s len = let e : 0 ≡ min len 0 = omega arith in ap (upto s) e
take-upto (suc n) s zero = let e : 0 ≡ min 0 (suc n) = omega arith in ap (upto s) e
take-upto (suc n) s (suc len) = let e : min (suc len) (suc n) ≡ suc (min len n) = omega arith in rw e (ap (λ l. s ∷ l) (take-upto n (s + 1) len))

pub drop-upto : (n s len : ℕ) → drop n (upto s len) ≡ upto (s + n) (len - n)
unfolding upto
drop-upto zero s len = ap₂ upto (omega arith) (omega arith)
drop-upto (suc n) s zero = let e : 0 ≡ 0 - suc n = omega arith in ap (upto (s + suc n)) e
drop-upto (suc n) s (suc len) = drop-upto n (s + 1) len ∙ ap₂ upto (omega arith) (omega arith)

upto_none : (s n : ℕ) → n ≡ 0 → upto s n ≡ []
unfolding upto
upto_none s n e = rw e refl

pub kept_none : (ss : List Segment) → kept 0 ss ≡ []
kept_none [] = refl
kept_none (s ∷ ss) = refl

-- one segment more is passed
module _ (n : ℕ) (s : Segment) (ss : List Segment) where
  pub kept_more : (n ≡ 0 → ⊥) → kept n (s ∷ ss) ≡ record { start = s.start; len = min s.len n } ∷ kept (n - s.len) ss
  kept_more some = rw (ne_eqb n 0 some) refl

  pub freed_part : n < s.len → freed n (s ∷ ss) ≡ record { start = s.start + n; len = s.len - n } ∷ freed 0 ss
  freed_part lt = rw (lt-ltb n s.len lt) refl

  pub freed_past : s.len ≤ n → freed n (s ∷ ss) ≡ freed (n - s.len) ss
  freed_past le = rw (le-ltb n s.len le) refl

-- what stays has the first n sectors
pub kept_extent : (n : ℕ) (ss : List Segment) → extent (kept n ss) ≡ take n (extent ss)
kept_extent n [] = sym (take-nil n)
kept_extent n (s ∷ ss) = elim (cases_eq n 0) [
  | inl z ↦ rw z refl
  | inr some ↦
      ap extent (kept_more n s ss some)
      ∙ ap₂ ◌++◌ (sym (take-upto n s.start s.len)) (kept_extent (n - s.len) ss ∙ ap (λ k. take (n - k) (extent ss)) (sym (length-upto s.start s.len)))
      ∙ sym (take_through n (upto s.start s.len) (extent ss))
]

-- what goes has the others
pub freed_extent : (n : ℕ) (ss : List Segment) → extent (freed n ss) ≡ drop n (extent ss)
freed_extent n [] = sym (drop-nil n)
freed_extent n (s ∷ ss) =
    let run = upto s.start s.len in
    let all : drop n (extent (s ∷ ss)) ≡ upto (s.start + n) (s.len - n) ++ drop (n - s.len) (extent ss) =
    drop_through n run (extent ss) ∙ ap₂ (λ xs k. xs ++ drop (n - k) (extent ss)) (drop-upto n s.start s.len) (length-upto s.start s.len) in
    elim (cases_lt n s.len) [
      | inl lt ↦
          let none : 0 ≡ n - s.len = omega arith in
          ap extent (freed_part n s ss lt) ∙ ap (λ xs. upto (s.start + n) (s.len - n) ++ xs) (freed_extent 0 ss ∙ ap (λ k. drop k (extent ss)) none) ∙ sym all
      | inr le ↦ ap extent (freed_past n s ss le) ∙ freed_extent (n - s.len) ss ∙ sym (all ∙ ap (λ xs. xs ++ drop (n - s.len) (extent ss)) (upto_none (s.start + n) (s.len - n) (omega arith)))
    ]

-- and this is all
pub cut_all : (n : ℕ) (ss : List Segment) → extent ss ≡ extent (kept n ss) ++ extent (freed n ss)
cut_all n ss = sym (take-append-drop n (extent ss)) ∙ ap₂ ◌++◌ (sym (kept_extent n ss)) (sym (freed_extent n ss))

pub kept_storable : (n : ℕ) (ss : List Segment) → AllStorable ss → AllStorable (kept n ss)
kept_storable n [] all = tt
kept_storable n (s ∷ ss) all = elim (cases_eq n 0) [
  | inl z ↦ rw z tt
  | inr some ↦
      rw (ne_eqb n 0 some) (
        record { some = omega (arith, all.0.some); short = omega (arith, all.0.short); low = all.0.low },
        kept_storable (n - s.len) ss all.1,
      )
]

-- no run that is freed is empty
pub freed_some : (n : ℕ) (ss : List Segment) → AllByRecursion (λ (s : Segment). 0 < s.len) (freed n ss)
freed_some n [] = tt
freed_some n (s ∷ ss) = elim (cases_lt n s.len) [
  | inl lt ↦ rw (lt-ltb n s.len lt) (omega arith, freed_some 0 ss)
  | inr le ↦ rw (le-ltb n s.len le) (freed_some (n - s.len) ss)
]

held_more : (s : Segment) (ss : List Segment) → length (extent (s ∷ ss)) ≡ s.len + length (extent ss)
held_more s ss = length-append (upto s.start s.len) (extent ss) ∙ ap (λ k. k + length (extent ss)) (length-upto s.start s.len)

-- a list of no more than n sectors stays
pub kept_all : (n : ℕ) (ss : List Segment) → AllStorable ss → length (extent ss) ≤ n → kept n ss ≡ ss
kept_all n [] all le = refl
kept_all n (s ∷ ss) all le =
    let make : ℕ → Segment = λ k. record { start = s.start; len = k } in
    let more = held_more s ss in
    let whole : min s.len n ≡ s.len = omega arith in
    kept_more n s ss (λ z. omega (arith, all.0.some)) ∙ ap₂ ◌∷◌ (ap make whole) (kept_all (n - s.len) ss all.1 (omega arith))

-- the k-th segment is s, and so the rest of the list begins with it
module _ (ss : List Segment) (k : ℕ) (s : Segment) (lt : k < length ss) (is : s ≡ get_or ss k nowhere) where
  rest_is : drop k ss ≡ s ∷ drop (k + 1) ss
  rest_is = drop_more ss k nowhere lt ∙ ap (λ (x : Segment). x ∷ drop (k + 1) ss) (sym is)

  pub held_step : length (extent (drop k ss)) ≡ s.len + length (extent (drop (k + 1) ss))
  held_step = ap (λ xs. length (extent xs)) rest_is ∙ held_more s (drop (k + 1) ss)

  pub storable_at : AllStorable ss → Storable s
  storable_at all = rw is (All-get_or Storable ss k nowhere lt all)

  module _ (done : List Segment) (left : ℕ) where
    pub kept_step : (left ≡ 0 → ⊥) → (done ++ record { start = s.start; len = min s.len left } ∷ []) ++ kept (left - s.len) (drop (k + 1) ss) ≡ done ++ kept left (drop k ss)
    kept_step some =
        append_assoc done _ (kept (left - s.len) (drop (k + 1) ss))
        ∙ ap (λ (xs : List Segment). done ++ xs) (sym (ap (kept left) rest_is ∙ kept_more left s (drop (k + 1) ss) some))

    pub part_step : left < s.len → (done ++ record { start = s.start + left; len = s.len - left } ∷ []) ++ freed (left - s.len) (drop (k + 1) ss) ≡ done ++ freed left (drop k ss)
    part_step low =
        let none : left - s.len ≡ 0 = omega arith in
        append_assoc done _ (freed (left - s.len) (drop (k + 1) ss))
        ∙ ap (λ (n : ℕ). done ++ record { start = s.start + left; len = s.len - left } ∷ freed n (drop (k + 1) ss)) none
        ∙ ap (λ (xs : List Segment). done ++ xs) (sym (ap (freed left) rest_is ∙ freed_part left s (drop (k + 1) ss) low))

    pub past_step : s.len ≤ left → done ++ freed (left - s.len) (drop (k + 1) ss) ≡ done ++ freed left (drop k ss)
    past_step high = ap (λ (xs : List Segment). done ++ xs) (sym (ap (freed left) rest_is ∙ freed_past left s (drop (k + 1) ss) high))
