-- How often a number stands in lists in a row.
use Rattle.std.proofs.Common.{◌≡◌, ℕ, ◌+◌, ◌<◌, ◌≤◌, List, [], ◌∷◌, ap, inl, inr, arith}
use Rattle.std.specs.List.{flat_map}
use Rattle.std.proofs.lemmas.Bool.{cases_lt}
use Rattle.rules.specs.Nodes.{times}
use Rattle.rules.proofs.Times.{hit_is, hit_self, times-++}

module _ (k : ℕ) (f : ℕ → List ℕ) where
  -- each list of the row is in it
  pub joined_has : (l : ℕ) (vs : List ℕ) → 0 < times l vs → times k (f l) ≤ times k (flat_map f vs)
  joined_has l [] pos = omega arith
  joined_has l (v ∷ vs) pos =
      let parts = times-++ k (f v) (flat_map f vs) in
      elim (hit_is l v) [
        | inl h ↦ omega (arith, parts, ap (λ x. times k (f x)) h.0)
        | inr h ↦ omega (arith, parts, joined_has l vs (omega (arith, h.1)))
      ]

  -- and so are two of them
  pub joined_two : (l l' : ℕ) (vs : List ℕ) → (l ≡ l' → ⊥) → 0 < times l vs → 0 < times l' vs → times k (f l) + times k (f l') ≤ times k (flat_map f vs)
  joined_two l l' [] ne pos pos' = omega arith
  joined_two l l' (v ∷ vs) ne pos pos' =
      let parts = times-++ k (f v) (flat_map f vs) in
      elim (hit_is l v) [
        | inl h ↦ elim (hit_is l' v) [
          | inl i ↦ absurd (ne (omega (arith, h.0, i.0)))
          | inr i ↦ omega (arith, parts, ap (λ x. times k (f x)) h.0, joined_has l' vs (omega (arith, i.1)))
        ]
        | inr h ↦ elim (hit_is l' v) [
          | inl i ↦ omega (arith, parts, ap (λ x. times k (f x)) i.0, joined_has l vs (omega (arith, h.1)))
          | inr i ↦ omega (arith, parts, joined_two l l' vs ne (omega (arith, h.1)) (omega (arith, i.1)))
        ]
      ]

  -- what is in the row is in one of its lists
  pub joined_some : (vs : List ℕ) → 0 < times k (flat_map f vs) → (l : ℕ) × (0 < times l vs) × (0 < times k (f l))
  joined_some [] pos = absurd (omega arith)
  joined_some (v ∷ vs) pos =
      let parts = times-++ k (f v) (flat_map f vs) in
      elim (cases_lt 0 (times k (f v))) [
        | inl lt ↦ (v, omega (arith, hit_self v), lt)
        | inr le ↦
            let rest = joined_some vs (omega arith) in
            (rest.0, omega (arith, rest.1), rest.2)
      ]
