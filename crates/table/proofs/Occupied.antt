-- Sectors that are taken in a map, as 1 or 0.
use Rattle.std.proofs.Common.{◌≡◌, ℕ, ◌+◌, ◌/◌, ◌%◌, ◌<◌, ◌≤◌, Bool, true, false, ◌⊎◌, List, sym, ap, ◌∙◌, inl, inr, arith}
use Rattle.std.proofs.lemmas.Bool.{cases_lt, cases_Bool, both_ways, lt-ltb, le-ltb}
use Rattle.devices.specs.Meaning.{Meaning}
use Rattle.layout.specs.Identification.{total}
use Rattle.layout.specs.Map.{taken, bit_of}
use Rattle.rules.specs.Rules.{sectors_of, map_of}
use Rattle.table.specs.Counts.{taken_in, occupied}

module _ (takes : ℕ → Bool) (T k : ℕ) where
  -- either a sector below T that is taken, or one that is not
  pub taken_is : ((k < T) × (takes k ≡ true) × (taken_in takes T k ≡ 1)) ⊎ ((k < T → takes k ≡ false) × (taken_in takes T k ≡ 0))
  unfolding taken_in
  taken_is = elim (cases_lt k T) [
    | inl lt ↦ elim (cases_Bool (takes k)) [
      | inl set ↦ inl (lt, set, rw (lt-ltb k T lt, set))
      | inr clear ↦ inr (λ _. clear, rw (lt-ltb k T lt, clear))
    ]
    | inr le ↦ inr (λ lt. absurd (omega arith), rw (le-ltb k T le))
  ]

  pub taken_small : taken_in takes T k ≤ 1
  taken_small = elim taken_is [ inl h ↦ omega (arith, h.2) | inr h ↦ omega (arith, h.1) ]

  pub taken_below : 0 < taken_in takes T k → (k < T) × (takes k ≡ true)
  taken_below pos = elim taken_is [ inl h ↦ (h.0, h.1) | inr h ↦ absurd (omega (arith, h.1)) ]

  pub taken_one : k < T → takes k ≡ true → taken_in takes T k ≡ 1
  taken_one lt is = elim taken_is [
    | inl h ↦ h.2
    | inr h ↦ absurd (both_ways (takes k) (h.0 lt) is)
  ]

  pub taken_none : takes k ≡ false → taken_in takes T k ≡ 0
  taken_none is = elim taken_is [
    | inl h ↦ absurd (both_ways (takes k) is h.1)
    | inr h ↦ h.1
  ]

pub occupied_is : (d : Meaning) (k : ℕ) → ((k < sectors_of d) × (taken d.sector k ≡ true) × (occupied d k ≡ 1)) ⊎ ((k < sectors_of d → taken d.sector k ≡ false) × (occupied d k ≡ 0))
occupied_is d k = taken_is (taken d.sector) (sectors_of d) k

pub occupied_small : (d : Meaning) (k : ℕ) → occupied d k ≤ 1
occupied_small d k = taken_small (taken d.sector) (sectors_of d) k

pub occupied_below : (d : Meaning) (k : ℕ) → 0 < occupied d k → k < sectors_of d
occupied_below d k pos = (taken_below (taken d.sector) (sectors_of d) k pos).0

-- two maps that agree below T
pub taken_same : (takes takes' : ℕ → Bool) (T : ℕ) → ((k : ℕ) → k < T → takes' k ≡ takes k) → (k : ℕ) → taken_in takes' T k ≡ taken_in takes T k
taken_same takes takes' T same k = elim (taken_is takes T k) [
  | inl h ↦ taken_one takes' T k h.0 (same k h.0 ∙ h.1) ∙ sym h.2
  | inr h ↦ elim (cases_lt k T) [
    | inl lt ↦ taken_none takes' T k (same k lt ∙ h.0 lt) ∙ sym h.1
    | inr le ↦ elim (taken_is takes' T k) [ inl i ↦ absurd (omega (arith, i.0)) | inr i ↦ i.1 ∙ sym h.1 ]
  ]
]

-- a volume whose map sectors, and whose LSN 0, are as they were
pub occupied_same : (d d' : Meaning) → d'.sector 0 ≡ d.sector 0 → ((k : ℕ) → 1 ≤ k → k ≤ map_of d → d'.sector k ≡ d.sector k) → (k : ℕ) → occupied d' k ≡ occupied d k
occupied_same d d' zero same k =
    ap (λ n. taken_in (taken d'.sector) n k) (ap total zero)
    ∙ taken_same (taken d.sector) (taken d'.sector) (sectors_of d) (λ i lt. ap (λ (s : List ℕ). bit_of s (i % 2048)) (same (1 + i / 2048) (omega arith) (omega arith))) k
