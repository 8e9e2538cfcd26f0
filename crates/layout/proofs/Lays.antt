-- Fields laid over bytes: each is read back, where those laid after it lie apart.
use Rattle.std.proofs.Common.{◌≡◌, ℕ, zero, suc, ◌+◌, ◌^◌, ◌<◌, ◌≤◌, ◌⊎◌, List, [], ◌∷◌, length, get_or, replicate, sym, refl, ap, ◌∙◌, inl, inr, arith}
use Rattle.std.proofs.lemmas.Bool.{cases_lt}
use Rattle.std.proofs.lemmas.List.{get_or-replicate, get_or_past, length-replicate}
use Rattle.layout.specs.Bytes.{Field, number, bytes, over, laid_over}
use Rattle.layout.specs.Digits.{number_over, number_below, number_above}
use Rattle.layout.specs.Overs.{length_over}

-- every field lies within n bytes
abbrev pub Inside : ℕ → List Field → Type 0
Inside n [] = Unit {0}
Inside n (f ∷ fs) = (f.at + length f.holds ≤ n) × Inside n fs

-- w bytes from an offset on lie apart from every field
abbrev pub Apart : ℕ → ℕ → List Field → Type 0
Apart at w [] = Unit {0}
Apart at w (f ∷ fs) = ((at + w ≤ f.at) ⊎ (f.at + length f.holds ≤ at)) × Apart at w fs

-- one of the fields is the number n in w bytes, and those behind it lie apart from it
abbrev pub Holds : ℕ → ℕ → ℕ → List Field → Type 0
Holds at w n [] = ⊥
Holds at w n (f ∷ fs) = ((f.at ≡ at) × (f.holds ≡ bytes w n) × Apart at w fs) ⊎ Holds at w n fs

pub length-laid : (xs : List ℕ) (fs : List Field) (n : ℕ) → length xs ≡ n → Inside n fs → length (laid_over xs fs) ≡ n
length-laid xs [] n long within = long
length-laid xs (f ∷ fs) n long within =
    length-laid (over f.at f.holds xs) fs n (length_over f.at f.holds xs (omega (arith, within.0)) ∙ long) within.1

-- what lies apart from the fields is as it was
pub number_apart : (at w : ℕ) (xs : List ℕ) (fs : List Field) (n : ℕ) → length xs ≡ n → Inside n fs → Apart at w fs → number at w (laid_over xs fs) ≡ number at w xs
number_apart at w xs [] n long within apart = refl
number_apart at w xs (f ∷ fs) n long within apart =
    let fits : f.at + length f.holds ≤ length xs = omega (arith, within.0) in
    number_apart at w (over f.at f.holds xs) fs n (length_over f.at f.holds xs fits ∙ long) within.1 apart.1
    ∙ elim apart.0 [
      | inl low ↦ number_below f.at f.holds xs fits at w low
      | inr high ↦ number_above f.at f.holds xs fits at w high
    ]

-- a field is read back
pub number_held : (at w v : ℕ) → v < 256 ^ w → (xs : List ℕ) (fs : List Field) (n : ℕ) → length xs ≡ n → Inside n fs → Holds at w v fs → number at w (laid_over xs fs) ≡ v
number_held at w v small xs [] n long within held = absurd held
number_held at w v small xs (f ∷ fs) n long within held =
    let fits : f.at + length f.holds ≤ length xs = omega (arith, within.0) in
    let long' = length_over f.at f.holds xs fits ∙ long in
    elim held [
      | inl here ↦
          number_apart at w (over f.at f.holds xs) fs n long' within.1 here.2
          ∙ ap (λ p. number p w (over f.at f.holds xs)) (sym here.0)
          ∙ number_over f.at f.holds xs fits w v here.1 small
      | inr there ↦ number_held at w v small (over f.at f.holds xs) fs n long' within.1 there
    ]

-- a number in zeros is 0
get_or_zeros : (n k : ℕ) → ◌≡◌ {A = ℕ} (get_or (replicate n 0) k 0) 0
get_or_zeros n k = elim (cases_lt k n) [
  | inl lt ↦ get_or-replicate n k 0 0 lt
  | inr le ↦ get_or_past (replicate n 0) k 0 (omega (arith, length-replicate {A = ℕ} n 0))
]

pub number_zeros : (at w n : ℕ) → number at w (replicate n 0) ≡ 0
unfolding number
number_zeros at zero n = refl
number_zeros at (suc w) n = omega (arith, number_zeros at w n, get_or_zeros n (at + w))
