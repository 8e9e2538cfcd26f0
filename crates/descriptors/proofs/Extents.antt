-- The sectors of a segment list, from an entry on.
use Rattle.std.proofs.Common.{◌≡◌, ℕ, zero, suc, ◌+◌, ◌-◌, ◌<◌, ◌≤◌, ◌≢◌, List, [], ◌∷◌, ◌++◌, length, Some, None, sym, refl, ap, ◌∙◌, inl, inr, arith, eq-eqb, ne_eqb, length-append}
use Rattle.std.specs.List.{slice_get}
use Rattle.std.proofs.lemmas.Bool.{cases_eq, cases_lt}
use Rattle.layout.specs.Descriptor.{segment, used, upto, extent}
use Rattle.layout.specs.declared.segment.Segment.{Segment}
use Rattle.descriptors.specs.Entries.{Used}

-- the used entries from the entry k on
abbrev pub rest : List ℕ → ℕ → List Segment
rest s k = used s k (48 - k)

pub length-upto : (s n : ℕ) → length (upto s n) ≡ n
unfolding upto
length-upto s zero = refl
length-upto s (suc n) = ap suc (length-upto (s + 1) n)

pub nth-upto : (s n i : ℕ) → i < n → slice_get (upto s n) i ≡ Some (s + i)
unfolding upto
nth-upto s zero i h = absurd (omega arith)
nth-upto s (suc n) zero h = ap Some (omega arith)
nth-upto s (suc n) (suc i) h = nth-upto (s + 1) n i (omega arith) ∙ ap Some (omega arith)

pub nth_left : (xs ys : List ℕ) (i : ℕ) → i < length xs → slice_get (xs ++ ys) i ≡ slice_get xs i
nth_left [] ys i h = absurd (omega arith)
nth_left (x ∷ xs) ys zero h = refl
nth_left (x ∷ xs) ys (suc i) h = nth_left xs ys i (omega arith)

pub nth_right : (xs ys : List ℕ) (i : ℕ) → length xs ≤ i → slice_get (xs ++ ys) i ≡ slice_get ys (i - length xs)
nth_right [] ys i h = ap (slice_get ys) (omega arith)
nth_right (x ∷ xs) ys zero h = absurd (omega arith)
nth_right (x ∷ xs) ys (suc i) h = nth_right xs ys i (omega arith) ∙ ap (slice_get ys) (omega arith)

pub rest_more : (s : List ℕ) (k : ℕ) → k < 48 → ((segment s k).len ≡ 0 → ⊥) → rest s k ≡ segment s k ∷ rest s (k + 1)
unfolding used
rest_more s k h ne =
    let e : 48 - k ≡ suc (48 - (k + 1)) = omega arith in
    rw (e, ne_eqb (segment s k).len 0 ne)

pub rest_none : (s : List ℕ) (k : ℕ) → k < 48 → (segment s k).len ≡ 0 → rest s k ≡ []
unfolding used
rest_none s k h z =
    let e : 48 - k ≡ suc (48 - (k + 1)) = omega arith in
    rw (e, eq-eqb (segment s k).len 0 z)

pub rest_all : (s : List ℕ) (k : ℕ) → k ≡ 48 → rest s k ≡ []
unfolding used
rest_all s k e = rw e

-- behind the last used entry there is none
pub rest_end : (s : List ℕ) (n : ℕ) → Used s n → rest s n ≡ []
rest_end s n u = elim (cases_lt n 48) [
  | inl lt ↦ rest_none s n lt (u.first lt)
  | inr le ↦ rest_all s n (omega (arith, u.most))
]

module _ (s : List ℕ) (k : ℕ) (g : Segment) (e : g ≡ segment s k) (h : k < 48) (ne : g.len ≡ 0 → ⊥) where
  step : rest s k ≡ segment s k ∷ rest s (k + 1)
  step = rest_more s k h (λ z. ne (ap (λ (x : Segment). x.len) e ∙ z))

  pub split : extent (rest s k) ≡ upto g.start g.len ++ extent (rest s (k + 1))
  split = ap extent step ∙ ap (λ (x : Segment). upto x.start x.len ++ extent (rest s (k + 1))) (sym e)

  pub more_held : length (extent (rest s k)) ≡ g.len + length (extent (rest s (k + 1)))
  more_held =
      ap length split ∙ length-append (upto g.start g.len) (extent (rest s (k + 1))) ∙ ap (λ n. n + length (extent (rest s (k + 1)))) (length-upto g.start g.len)

  pub here : (i : ℕ) → i < g.len → slice_get (extent (rest s k)) i ≡ Some (g.start + i)
  here i lt =
      ap (λ l. slice_get l i) split
      ∙ nth_left (upto g.start g.len) (extent (rest s (k + 1))) i (omega (arith, length-upto g.start g.len))
      ∙ nth-upto g.start g.len i lt

  pub past : (i : ℕ) → g.len ≤ i → slice_get (extent (rest s k)) i ≡ slice_get (extent (rest s (k + 1))) (i - g.len)
  past i le =
      ap (λ l. slice_get l i) split
      ∙ nth_right (upto g.start g.len) (extent (rest s (k + 1))) i (omega (arith, length-upto g.start g.len))
      ∙ ap (λ n. slice_get (extent (rest s (k + 1))) (i - n)) (length-upto g.start g.len)

-- the i-th sector is in the first segment, or in those behind it
module _ (g : Segment) (ss : List Segment) (i : ℕ) where
  pub nth_here : i < g.len → slice_get (extent (g ∷ ss)) i ≡ Some (g.start + i)
  nth_here lt = nth_left (upto g.start g.len) (extent ss) i (omega (arith, length-upto g.start g.len)) ∙ nth-upto g.start g.len i lt

  pub nth_past : g.len ≤ i → slice_get (extent (g ∷ ss)) i ≡ slice_get (extent ss) (i - g.len)
  nth_past le =
      nth_right (upto g.start g.len) (extent ss) i (omega (arith, length-upto g.start g.len))
      ∙ ap (λ n. slice_get (extent ss) (i - n)) (length-upto g.start g.len)

-- the used entries are those of the list, of n from the entry k on
pub used_before : (s : List ℕ) (k n j : ℕ) → j < length (used s k n) → (segment s (k + j)).len ≢ 0
unfolding used
used_before s k zero j lt = absurd (omega arith)
used_before s k (suc n) j lt = elim (cases_eq (segment s k).len 0) [
  | inl none ↦ absurd (let short : j < 0 = rw (eq-eqb (segment s k).len 0 none) at lt in omega arith)
  | inr some ↦
      let more : j < suc (length (used s (k + 1) n)) = rw (ne_eqb (segment s k).len 0 some) at lt in
      elim (cases_eq j 0) [
        | inl first ↦ λ z. some (ap (λ i. (segment s i).len) (omega arith) ∙ z)
        | inr later ↦ λ z. used_before s (k + 1) n (j - 1) (omega arith) (ap (λ i. (segment s i).len) (omega arith) ∙ z)
      ]
]

pub used_first : (s : List ℕ) (k n : ℕ) → length (used s k n) < n → (segment s (k + length (used s k n))).len ≡ 0
unfolding used
used_first s k zero lt = absurd (omega arith)
used_first s k (suc n) lt = elim (cases_eq (segment s k).len 0) [
  | inl none ↦ rw (eq-eqb (segment s k).len 0 none) (ap (λ i. (segment s i).len) (omega arith) ∙ none)
  | inr some ↦
      let more : suc (length (used s (k + 1) n)) < suc n = rw (ne_eqb (segment s k).len 0 some) at lt in
      rw (ne_eqb (segment s k).len 0 some) (ap (λ i. (segment s i).len) (omega arith) ∙ used_first s (k + 1) n (omega arith))
]

-- a list that lacks an i-th element is no longer than i
pub nth-none : (xs : List ℕ) (i : ℕ) → None ≡ slice_get xs i → length xs ≤ i
nth-none [] i e = omega arith
nth-none (y ∷ xs) zero e = absurd (let z : ◌≡◌ {A = ℕ} 0 1 = cc in omega arith)
nth-none (y ∷ xs) (suc i) e = let r = nth-none xs i e in omega (arith, r)
