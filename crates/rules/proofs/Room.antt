-- Numbers that stand in a list once at most, all below a bound, are no more than the bound.
use Rattle.std.proofs.Common.{◌≡◌, ℕ, ◌<◌, ◌≤◌, eqb, true, false, inl, inr, List, [], ◌∷◌, length, arith, ne_eqb}
use Rattle.std.specs.List.{AllByRecursion, IsDistinct, list_any}
use Rattle.std.proofs.lemmas.Map.Steps.{length-le_from_distinct_below}
use Rattle.rules.specs.Nodes.{times}
use Rattle.rules.proofs.Times.{hit_is, hit_self}

found_stands : (k : ℕ) (xs : List ℕ) → list_any (eqb k) xs ≡ true → 0 < times k xs
found_stands k [] e = cc
found_stands k (x ∷ xs) e = elim (hit_is k x) [
  | inl h ↦ omega (arith, h.1)
  | inr h ↦ omega (arith, found_stands k xs (rw (ne_eqb k x h.0) at e))
]

differs : (x : ℕ) (xs : List ℕ) → times x xs ≡ 0 → AllByRecursion (λ y. eqb x y ≡ false) xs
differs x [] none = tt
differs x (y ∷ xs) none = elim (hit_is x y) [
  | inl h ↦ absurd (omega (arith, h.1))
  | inr h ↦ (ne_eqb x y h.0, differs x xs (omega arith))
]

distinct : (xs : List ℕ) → ((k : ℕ) → times k xs ≤ 1) → IsDistinct eqb xs
unfolding IsDistinct
distinct [] once = tt
distinct (x ∷ xs) once = (differs x xs (omega (arith, once x, hit_self x)), distinct xs (λ k. omega (arith, once k)))

pub room : (n : ℕ) (xs : List ℕ) → ((k : ℕ) → times k xs ≤ 1) → ((k : ℕ) → 0 < times k xs → k < n) → length xs ≤ n
room n xs once below = length-le_from_distinct_below xs n (distinct xs once) (λ k e. below k (found_stands k xs e))
