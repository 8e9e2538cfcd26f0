-- The marks before the first visit.
use Rattle.std.proofs.Common.{◌≡◌, ℕ, ◌+◌, ◌<◌, ◌≤◌, List, get_or, ◌⊎◌, length, set, ap, ◌∙◌, inl, inr, arith, get_or-set_other, get_or-set_same}
use Rattle.std.proofs.lemmas.Bool.{cases_eq}
use Rattle.rules.specs.Walking.{system, hit}
use Rattle.rules.proofs.Times.{hit_is}
use Rattle.rules.proofs.Walks.{system_is}

-- the first n marks are set up, and the others are as they were
pub record Preparing (low root n : ℕ) (m₀ m : List ℕ) : Type 0 where
  pub set_up : (k : ℕ) → k < n → get_or m k 0 ≡ system low k + hit root k
  pub later : (k : ℕ) → n ≤ k → get_or m k 0 ≡ get_or m₀ k 0

pub prepare_more : (low root n v : ℕ) (m₀ m : List ℕ) → n < length m → v ≡ system low n + hit root n → Preparing low root n m₀ m → Preparing low root (n + 1) m₀ (set m n v)
prepare_more low root n v m₀ m lt is p =
    record {
      set_up = λ k less. elim (cases_eq k n) [
        | inl e ↦ ap (λ i. get_or (set m n v) i 0) e ∙ get_or-set_same m n v 0 lt ∙ is ∙ ap (λ i. system low i + hit root i) (sym_of k n e)
        | inr ne ↦ get_or-set_other m n k v 0 ne ∙ p.set_up k (omega arith)
      ];
      later = λ k le. get_or-set_other m n k v 0 (λ e. omega arith) ∙ p.later k (omega arith);
    }
  where
    sym_of : (a b : ℕ) → a ≡ b → b ≡ a
    sym_of a b e = omega arith

pub marked_one : (low root k : ℕ) → low < root → (k ≤ low) ⊎ (k ≡ root) → 1 ≡ system low k + hit root k
marked_one low root k behind (inl le) = elim (system_is low k) [
  | inl s ↦ elim (hit_is k root) [ inl h ↦ absurd (omega (arith, h.0)) | inr h ↦ omega (arith, s.1, h.1) ]
  | inr s ↦ absurd (omega (arith, s.0))
]
marked_one low root k behind (inr e) = elim (system_is low k) [
  | inl s ↦ absurd (omega (arith, s.0))
  | inr s ↦ elim (hit_is k root) [ inl h ↦ omega (arith, s.1, h.1) | inr h ↦ absurd (h.0 e) ]
]

pub marked_none : (low root k : ℕ) → low < k → (k ≡ root → ⊥) → 0 ≡ system low k + hit root k
marked_none low root k lt ne = elim (system_is low k) [
  | inl s ↦ absurd (omega (arith, s.0))
  | inr s ↦ elim (hit_is k root) [ inl h ↦ absurd (ne h.0) | inr h ↦ omega (arith, s.1, h.1) ]
]
