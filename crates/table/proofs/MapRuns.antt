-- Runs of sectors that are taken in a map, or released.
use Rattle.std.proofs.Common.{◌≡◌, ℕ, ◌+◌, ◌<◌, ◌≤◌, Bool, true, false, cond, ◌&&◌, ltb, leb, ◌⊎◌, refl, ap, ◌∙◌, inl, inr, arith}
use Rattle.std.proofs.lemmas.Bool.{cases_lt, lt-ltb, le-ltb, le-leb, lt-leb, and_left, and_right}
use Rattle.layout.specs.Descriptor.{upto}
use Rattle.rules.specs.Nodes.{times}
use Rattle.rules.proofs.Runs.{upto_in, upto_out}
use Rattle.table.specs.Counts.{taken_in}
use Rattle.table.proofs.Occupied.{taken_one, taken_none}

-- the map takes' is takes with the n sectors from s on taken, or clear
module _ (takes takes' : ℕ → Bool) (T s n : ℕ) (low : s + n ≤ T) where
  inside : (k : ℕ) → s ≤ k → k < s + n → (leb s k && ltb k (s + n)) ≡ true
  inside k ge lt = rw (le-leb s k ge, lt-ltb k (s + n) lt) refl

  outside : (k : ℕ) → (k < s) ⊎ (s + n ≤ k) → (leb s k && ltb k (s + n)) ≡ false
  outside k (inl lt) = and_left (leb s k) (ltb k (s + n)) (lt-leb s k lt)
  outside k (inr le) = and_right (leb s k) (ltb k (s + n)) (le-ltb k (s + n) le)

  -- a sector of the run, or another
  run_is : (on : Bool) → ((k : ℕ) → takes' k ≡ cond (leb s k && ltb k (s + n)) on (takes k)) → (k : ℕ) → ((s ≤ k) × (k < s + n) × (takes' k ≡ on) × (times k (upto s n) ≡ 1)) ⊎ ((takes' k ≡ takes k) × (times k (upto s n) ≡ 0))
  run_is on marked k = elim (cases_lt k s) [
    | inl lt ↦ inr (other (inl lt))
    | inr ge ↦ elim (cases_lt k (s + n)) [
      | inl lt ↦ inl (ge, lt, marked k ∙ ap (λ b. cond b on (takes k)) (inside k ge lt), upto_in k s n ge lt)
      | inr le ↦ inr (other (inr le))
    ]
  ]
    where
      other : (k < s) ⊎ (s + n ≤ k) → (takes' k ≡ takes k) × (times k (upto s n) ≡ 0)
      other out = (marked k ∙ ap (λ b. cond b on (takes k)) (outside k out), upto_out k s n out)

  one_same : (k : ℕ) → takes' k ≡ takes k → taken_in takes' T k ≡ taken_in takes T k
  unfolding taken_in
  one_same k e = ap (λ b. cond {A = ℕ} (ltb k T && b) 1 0) e

  pub run_taken : ((k : ℕ) → s ≤ k → k < s + n → takes k ≡ false) → ((k : ℕ) → takes' k ≡ cond (leb s k && ltb k (s + n)) true (takes k)) → (k : ℕ) → taken_in takes' T k ≡ taken_in takes T k + times k (upto s n)
  run_taken clear marked k = elim (run_is true marked k) [
    | inl h ↦ omega (arith, h.3, taken_one takes' T k (omega (arith, h.1)) h.2, taken_none takes T k (clear k h.0 h.1))
    | inr h ↦ omega (arith, h.1, one_same k h.0)
  ]

  pub run_released : ((k : ℕ) → s ≤ k → k < s + n → takes k ≡ true) → ((k : ℕ) → takes' k ≡ cond (leb s k && ltb k (s + n)) false (takes k)) → (k : ℕ) → taken_in takes' T k + times k (upto s n) ≡ taken_in takes T k
  run_released set marked k = elim (run_is false marked k) [
    | inl h ↦ omega (arith, h.3, taken_none takes' T k h.2, taken_one takes T k (omega (arith, h.1)) (set k h.0 h.1))
    | inr h ↦ omega (arith, h.1, one_same k h.0)
  ]
