-- How often a number stands in a list.
use Rattle.std.proofs.Common.{◌≡◌, ℕ, ◌+◌, ◌<◌, ◌≤◌, cond, eqb, ◌⊎◌, List, [], ◌∷◌, ◌++◌, refl, inl, inr, arith, eq-eqb, ne_eqb}
use Rattle.std.proofs.lemmas.Bool.{cases_eq}
use Rattle.rules.specs.Nodes.{times}

-- whether a number is another, as 1 or 0
pub hit_is : (k x : ℕ) → ((k ≡ x) × (cond {A = ℕ} (eqb k x) 1 0 ≡ 1)) ⊎ ((k ≡ x → ⊥) × (cond {A = ℕ} (eqb k x) 1 0 ≡ 0))
hit_is k x = elim (cases_eq k x) [
  | inl e ↦ inl (e, rw (eq-eqb k x e) refl)
  | inr ne ↦ inr (ne, rw (ne_eqb k x ne) refl)
]

pub hit_self : (k : ℕ) → cond {A = ℕ} (eqb k k) 1 0 ≡ 1
hit_self k = rw (eq-eqb k k refl) refl

pub times-++ : (k : ℕ) (xs ys : List ℕ) → times k (xs ++ ys) ≡ times k xs + times k ys
times-++ k [] ys = omega arith
times-++ k (x ∷ xs) ys = omega (arith, times-++ k xs ys)

pub times-one : (k x : ℕ) → 0 < times k (x ∷ []) → k ≡ x
times-one k x pos = elim (hit_is k x) [ inl h ↦ h.0 | inr h ↦ absurd (omega (arith, h.1)) ]

pub times_two : (k x y : ℕ) → 0 < times k (x ∷ y ∷ []) → (k ≡ x) ⊎ (k ≡ y)
times_two k x y pos = elim (hit_is k x) [
  | inl h ↦ inl h.0
  | inr h ↦ inr (times-one k y (omega (arith, h.1)))
]

pub times_apart : (k x y : ℕ) → (x ≡ y → ⊥) → times k (x ∷ y ∷ []) ≤ 1
times_apart k x y ne = elim (hit_is k x) [
  | inl h ↦ elim (hit_is k y) [ inl i ↦ absurd (ne (omega (arith, h.0, i.0))) | inr i ↦ omega (arith, h.1, i.1) ]
  | inr h ↦ elim (hit_is k y) [ inl i ↦ omega (arith, h.1, i.1) | inr i ↦ omega (arith, h.1, i.1) ]
]
