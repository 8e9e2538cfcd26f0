-- Marks, while a run of sectors is marked, and after it.
use Rattle.std.proofs.Common.{◌≡◌, ℕ, ◌+◌, ◌-◌, ◌<◌, ◌≤◌, ◌⊎◌, List, get_or, ap, inl, inr, arith, length, set, ◌∙◌, get_or-set_other, get_or-set_same}
use Rattle.std.proofs.lemmas.Bool.{cases_lt, cases_eq}
use Rattle.layout.specs.Descriptor.{upto}
use Rattle.rules.specs.Nodes.{times}
use Rattle.rules.proofs.Runs.{upto_in, upto_out, upto_has, upto_more}
use Rattle.survey.specs.Marks.{Marked}

-- one sector more of a run is marked
module _ (es ms : List ℕ) (s k : ℕ) (le : s ≤ k) (lt : k < length ms) (clear : get_or ms k 0 ≡ 0)
    (m : Marked es (upto s (k - s)) ms) (one : (i : ℕ) → 0 < times i (upto s (k - s)) → get_or ms i 0 ≡ 1) where
  again : (i : ℕ) → times i (upto s ((k + 1) - s)) ≡ times i (upto s (k - s)) + times i (upto k 1)
  again i =
      let n : (k + 1) - s ≡ (k - s) + 1 = omega arith in
      let at : s + (k - s) ≡ k = omega arith in
      ap (λ j. times i (upto s j)) n ∙ upto_more i s (k - s) 1 ∙ ap (λ j. times i (upto s (k - s)) + times i (upto j 1)) at

  pub mark_more : Marked es (upto s ((k + 1) - s)) (set ms k 1)
  mark_more i = elim (cases_eq i k) [
    | inl e ↦ omega (arith, ap (λ j. get_or (set ms k 1) j 0) e, get_or-set_same ms k 1 0 lt, ap (λ j. get_or ms j 0) e, m i, again i, upto_in i k 1 (omega arith) (omega arith))
    | inr ne ↦ omega (arith, get_or-set_other ms k i 1 0 ne, m i, again i, upto_out i k 1 (elim (cases_lt i k) [ inl low ↦ inl low | inr high ↦ inr (omega arith) ]))
  ]

  pub mark_one : (i : ℕ) → 0 < times i (upto s ((k + 1) - s)) → get_or (set ms k 1) i 0 ≡ 1
  mark_one i pos = elim (cases_eq i k) [
    | inl e ↦ ap (λ j. get_or (set ms k 1) j 0) e ∙ get_or-set_same ms k 1 0 lt
    | inr ne ↦ get_or-set_other ms k i 1 0 ne ∙ one i (omega (arith, again i, upto_out i k 1 (elim (cases_lt i k) [ inl low ↦ inl low | inr high ↦ inr (omega arith) ])))
  ]

-- n sectors from s on were clear and are marked now, and every other mark is as it was
module _ (es ms : List ℕ) (s n : ℕ) (inside : (j : ℕ) → j < n → (get_or ms (s + j) 0 ≡ 1) × (get_or es (s + j) 0 ≡ 0)) (outside : (k : ℕ) → (k < s) ⊎ (s + n ≤ k) → get_or ms k 0 ≡ get_or es k 0) where
  run_one : (k : ℕ) → s ≤ k → k < s + n → (get_or ms k 0 ≡ 1) × (get_or es k 0 ≡ 0)
  run_one k low high =
      let at : s + (k - s) ≡ k = omega arith in
      let here = inside (k - s) (omega arith) in
      (omega (arith, here.0, ap (λ i. get_or ms i 0) at), omega (arith, here.1, ap (λ i. get_or es i 0) at))

  pub run_marked : Marked es (upto s n) ms
  run_marked k = elim (cases_lt k s) [
    | inl low ↦ omega (arith, outside k (inl low), upto_out k s n (inl low))
    | inr high ↦ elim (cases_lt k (s + n)) [
      | inl lt ↦ omega (arith, run_one k high lt, upto_in k s n high lt)
      | inr past ↦ omega (arith, outside k (inr past), upto_out k s n (inr past))
    ]
  ]

  pub run_once : (k : ℕ) → 0 < times k (upto s n) → get_or ms k 0 ≡ 1
  run_once k pos = let r = upto_has k s n pos in (run_one k r.0 r.1).0
