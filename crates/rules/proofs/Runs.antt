-- Runs of sectors and segments: how often each sector stands in them.
use Rattle.std.proofs.Common.{◌≡◌, ℕ, zero, suc, ◌+◌, ◌<◌, ◌≤◌, ◌⊎◌, refl, inl, inr, arith, List, [], ◌∷◌, ◌++◌, take, drop}
use Rattle.std.proofs.lemmas.Bool.{cases_lt}
use Rattle.layout.specs.Descriptor.{upto, extent}
use Rattle.layout.specs.declared.segment.Segment.{Segment}
use Rattle.rules.specs.Nodes.{times}
use Rattle.rules.proofs.Times.{hit_is, times-++}

-- a run of sectors has each of its sectors once, and no other
pub upto_out : (k s n : ℕ) → (k < s) ⊎ (s + n ≤ k) → times k (upto s n) ≡ 0
unfolding upto
upto_out k s zero w = refl
upto_out k s (suc n) w = elim (hit_is k s) [
  | inl h ↦ absurd (elim w [ inl lt ↦ omega (arith, h.0) | inr le ↦ omega (arith, h.0) ])
  | inr h ↦ omega (arith, h.1, upto_out k (s + 1) n (elim w [ inl lt ↦ inl (omega arith) | inr le ↦ inr (omega arith) ]))
]

pub upto_in : (k s n : ℕ) → s ≤ k → k < s + n → times k (upto s n) ≡ 1
unfolding upto
upto_in k s zero le lt = absurd (omega arith)
upto_in k s (suc n) le lt = elim (hit_is k s) [
  | inl h ↦ omega (arith, h.1, upto_out k (s + 1) n (inl (omega (arith, h.0))))
  | inr h ↦ omega (arith, h.1, upto_in k (s + 1) n (omega (arith, h.0)) (omega arith))
]

-- what a run has lies in it
pub upto_has : (k s n : ℕ) → 0 < times k (upto s n) → (s ≤ k) × (k < s + n)
upto_has k s n pos = elim (cases_lt k s) [
  | inl lt ↦ absurd (omega (arith, upto_out k s n (inl lt)))
  | inr ge ↦ elim (cases_lt k (s + n)) [ inl lt ↦ (ge, lt) | inr le ↦ absurd (omega (arith, upto_out k s n (inr le))) ]
]

pub upto_none : (k s n : ℕ) → n ≡ 0 → times k (upto s n) ≡ 0
unfolding upto
upto_none k s n e = rw e refl

-- a run and i sectors more
pub upto_more : (k s n i : ℕ) → times k (upto s (n + i)) ≡ times k (upto s n) + times k (upto (s + n) i)
upto_more k s n i = elim (cases_lt k s) [
  | inl lt ↦ omega (arith, upto_out k s (n + i) (inl lt), upto_out k s n (inl lt), upto_out k (s + n) i (inl (omega arith)))
  | inr ge ↦ elim (cases_lt k (s + n)) [
    | inl lt ↦ omega (arith, upto_in k s (n + i) ge (omega arith), upto_in k s n ge lt, upto_out k (s + n) i (inl lt))
    | inr le ↦ elim (cases_lt k (s + n + i)) [
      | inl lt ↦ omega (arith, upto_in k s (n + i) ge (omega arith), upto_out k s n (inr le), upto_in k (s + n) i le lt)
      | inr out ↦ omega (arith, upto_out k s (n + i) (inr (omega arith)), upto_out k s n (inr le), upto_out k (s + n) i (inr out))
    ]
  ]
]

-- the sectors of segments in a row
pub extent-++ : (k : ℕ) (ss rs : List Segment) → times k (extent (ss ++ rs)) ≡ times k (extent ss) + times k (extent rs)
extent-++ k [] rs = omega arith
extent-++ k (s ∷ ss) rs =
    omega (arith, times-++ k (upto s.start s.len) (extent (ss ++ rs)), times-++ k (upto s.start s.len) (extent ss), extent-++ k ss rs)

-- with one segment more
pub extent_push : (k : ℕ) (ss : List Segment) (r : Segment) → times k (extent (ss ++ r ∷ [])) ≡ times k (extent ss) + times k (upto r.start r.len)
extent_push k ss r = omega (arith, extent-++ k ss (r ∷ []), times-++ k (upto r.start r.len) [])

-- with the last segment longer by n sectors
pub extent_longer : (k : ℕ) (ss : List Segment) (r : Segment) (n : ℕ) → times k (extent (ss ++ record { start = r.start; len = r.len + n } ∷ [])) ≡ times k (extent (ss ++ r ∷ [])) + times k (upto (r.start + r.len) n)
extent_longer k ss r n = omega (arith, extent_push k ss r, extent_push k ss (record { start = r.start; len = r.len + n }), upto_more k r.start r.len n)

-- a list cut in two
pub times_cut : (k n : ℕ) (xs : List ℕ) → times k (take n xs) + times k (drop n xs) ≡ times k xs
times_cut k zero xs = omega arith
times_cut k (suc n) [] = omega arith
times_cut k (suc n) (x ∷ xs) = omega (arith, times_cut k n xs)
