-- Where every rule holds, a walk goes to every descriptor that is reached, and ends.
use Rattle.std.proofs.Common.{ℕ, zero, suc, ◌+◌, ◌<◌, ◌≤◌, List, [], ◌∷◌, ◌++◌, length, refl, inl, inr, arith}
use Rattle.std.proofs.lemmas.Bool.{cases_lt}
use Rattle.devices.specs.Meaning.{Meaning}
use Rattle.layout.specs.Descriptor.{segments, extent}
use Rattle.rules.specs.Nodes.{times, children, at_root, by_slot, Parent, of_root, of_child}
use Rattle.rules.specs.Rules.{sectors_of, map_of, root_at, Found, Inside, Sound}
use Rattle.rules.specs.Walking.{system, hit, Visited, Walking}
use Rattle.rules.proofs.Times.{hit_self, times-++}
use Rattle.rules.proofs.Walks.{walk_starts, walk_turns, walk_clashes, walk_fits}

-- a walk that has come to its end
pub record Complete (d : Meaning) : Type 0 where
  pub nodes : List ℕ
  pub marks : ℕ → ℕ
  pub walking : Walking d nodes [] marks

module _ (d : Meaning) (s : Sound d) where
  pub parent_of : (l : ℕ) → Found d l → (p : ℕ) × Parent d.sector (root_at d) p l
  parent_of _ at_root = (root_at d, of_root)
  parent_of _ (by_slot p l r pos) = (p, of_child p l r pos)

  visited : (l : ℕ) → Found d l → Visited d l
  visited l r =
      let p = parent_of l r in
      record { rule_b = s.rule_b l r; rule_c = s.rule_c l r; rule_d = s.rule_d l r; rule_f = s.rule_f l r; parent = p.0; of_parent = p.1; slots_right = λ dir. s.rule_e l r dir p.0 p.1 }

  -- the marks after a visit of l
  abbrev marked : ℕ → (ℕ → ℕ) → ℕ → ℕ
  marked l marks k = marks k + times k (extent (segments (d.sector l))) + times k (children d.sector l)

  waits : (l : ℕ) (ls : List ℕ) → 0 < times l (l ∷ ls)
  waits l ls = omega (arith, hit_self l)

  -- no sector is marked twice
  small : (l : ℕ) (vs ls : List ℕ) (marks : ℕ → ℕ) → Walking d vs (l ∷ ls) marks → (k : ℕ) → k < sectors_of d → marked l marks k ≤ 1
  small l vs ls marks w k lt =
      let b = s.rule_b l (w.found l (omega (arith, waits l ls))) in
      let clash : Inside d k → 2 ≤ marked l marks k → ⊥ = λ i two. s.rule_g k (walk_clashes d vs (l ∷ ls) l marks w (waits l ls) k i two) in
      elim (cases_lt (marked l marks k) 2) [
        | inl few ↦ omega arith
        | inr two ↦ elim (cases_lt 0 (times k (extent (segments (d.sector l))))) [
          | inl here ↦ absurd (clash (b.segments_inside k here) two)
          | inr none ↦ elim (cases_lt 0 (times k (children d.sector l))) [
            | inl child ↦ absurd (clash (b.children_inside k child) two)
            | inr neither ↦ omega (arith, w.small k lt)
          ]
        ]
      ]

  turned : (l : ℕ) (vs ls : List ℕ) (marks : ℕ → ℕ) → Walking d vs (l ∷ ls) marks → Walking d (l ∷ vs) (ls ++ children d.sector l) (marked l marks)
  turned l vs ls marks w =
      walk_turns d vs (l ∷ ls) (ls ++ children d.sector l) l marks (marked l marks) w (waits l ls) (visited l (w.found l (omega (arith, waits l ls))))
      (λ k. omega (arith, times-++ k ls (children d.sector l)))
      (λ k lt. refl)
      (small l vs ls marks w)

  -- no more are visited than the volume has sectors
  walked : (n : ℕ) (vs ls : List ℕ) (marks : ℕ → ℕ) → sectors_of d ≤ length vs + n → Walking d vs ls marks → Complete d
  walked zero vs [] marks le w = record { nodes = vs; marks = marks; walking = w }
  walked zero vs (l ∷ ls) marks le w = absurd (omega (arith, le, walk_fits d vs (l ∷ ls) marks w))
  walked (suc n) vs [] marks le w = record { nodes = vs; marks = marks; walking = w }
  walked (suc n) vs (l ∷ ls) marks le w = walked n (l ∷ vs) (ls ++ children d.sector l) (marked l marks) (omega arith) (turned l vs ls marks w)

  pub complete : Complete d
  complete =
      let first : ℕ → ℕ = λ k. system (map_of d) k + hit (root_at d) k in
      walked (sectors_of d) [] (root_at d ∷ []) first (omega arith) (walk_starts d first s.root_inside (λ k lt. refl))
