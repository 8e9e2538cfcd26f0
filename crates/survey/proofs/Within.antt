-- The sectors of a segment list, by its segments and by its entries.
use Rattle.std.proofs.Common.{◌≡◌, ℕ, zero, suc, ◌+◌, ◌-◌, ◌<◌, ◌≤◌, Bool, true, false, List, [], ◌∷◌, length, get_or, MatchBool, ap, ◌∙◌, inl, inr, arith}
use Rattle.std.specs.List.{AllWithin, HoldsAt}
use Rattle.std.proofs.lemmas.Bool.{cases_lt, cases_eq}
use Rattle.layout.specs.Descriptor.{upto, extent, segment, segments}
use Rattle.layout.specs.declared.segment.Segment.{Segment}
use Rattle.rules.specs.Nodes.{times}
use Rattle.rules.proofs.Runs.{upto_in, upto_has}
use Rattle.rules.proofs.Times.{times-++}
use Rattle.descriptors.specs.Entries.{Used}
use Rattle.descriptors.specs.Stored.{AllStorable}
use Rattle.descriptors.proofs.Extents.{rest, rest_more, rest_end, split}

-- the sectors of a list are those of its first segment and those of the others
pub first_and_rest : (g : Segment) (all rest : List Segment) → all ≡ g ∷ rest → (i : ℕ) → times i (extent all) ≡ times i (upto g.start g.len) + times i (extent rest)
first_and_rest g all rest e i = ap (λ l. times i (extent l)) e ∙ times-++ i (upto g.start g.len) (extent rest)

-- a sector of a segment is one of the list's
segment_has : (ss : List Segment) (k i : ℕ) (d : Segment) → k < length ss → (get_or ss k d).start ≤ i → i < (get_or ss k d).start + (get_or ss k d).len → 0 < times i (extent ss)
segment_has [] k i d lt low high = absurd (omega arith)
segment_has (g ∷ ss) zero i d lt low high = omega (arith, times-++ i (upto g.start g.len) (extent ss), upto_in i g.start g.len low high)
segment_has (g ∷ ss) (suc k) i d lt low high = omega (arith, times-++ i (upto g.start g.len) (extent ss), segment_has ss k i d (omega arith) low high)

segment_some : (ss : List Segment) (k : ℕ) (d : Segment) → AllStorable ss → k < length ss → 0 < (get_or ss k d).len
segment_some [] k d all lt = absurd (omega arith)
segment_some (g ∷ ss) zero d all lt = all.0.some
segment_some (g ∷ ss) (suc k) d all lt = segment_some ss k d all.1 (omega arith)

-- a segment within bounds
abbrev pub Bounded : ℕ → ℕ → Segment → Type 0
Bounded low high s = (low < s.start) × (s.start + s.len ≤ high)

module _ (low high : ℕ) where
  each_inside : (ss : List Segment) → AllWithin (Bounded low high) ss 0 (length ss) → (k : ℕ) → 0 < times k (extent ss) → (low < k) × (k < high)
  each_inside [] all k pos = absurd (omega arith)
  each_inside (g ∷ ss) all k pos = elim (cases_lt 0 (times k (upto g.start g.len))) [
    | inl some ↦
        let in-it = upto_has k g.start g.len some in
        let fits = all 0 g (omega arith) (omega arith) in
        (omega (arith, in-it.0, fits.0), omega (arith, in-it.1, fits.1))
    | inr none ↦ each_inside ss (λ j d z lt. all (suc j) d (omega arith) (omega arith)) k (omega (arith, times-++ k (upto g.start g.len) (extent ss)))
  ]

  -- every segment lies within bounds exactly if every sector does
  pub sectors_within : (ss : List Segment) → AllStorable ss → (r : Bool) → MatchBool r (AllWithin (Bounded low high) ss 0 (length ss)) ((k : ℕ) × (k < length ss) × HoldsAt (λ s. Bounded low high s → ⊥) ss k)
      → MatchBool r ((k : ℕ) → 0 < times k (extent ss) → (low < k) × (k < high)) (((k : ℕ) → 0 < times k (extent ss) → (low < k) × (k < high)) → ⊥)
  sectors_within ss stored true all = each_inside ss all
  sectors_within ss stored false bad = λ all.
      let d : Segment = record { start = 0; len = 0 } in
      let g : Segment = get_or ss bad.0 d in
      let some : 0 < g.len = segment_some ss bad.0 d stored bad.1 in
      let last = (g.start + g.len) - 1 in
      let first-in = all g.start (segment_has ss bad.0 g.start d bad.1 (omega arith) (omega arith)) in
      let last-in = all last (segment_has ss bad.0 last d bad.1 (omega arith) (omega arith)) in
      bad.2 d (omega (arith, first-in.0), omega (arith, last-in.1))

-- the same by the used entries of a descriptor
module _ (s : List ℕ) (n : ℕ) (u : Used s n) where
  -- the sectors from the entry i on, where those behind it lie within bounds
  from_entry : (P : ℕ → Type 0) (f i : ℕ) → i + f ≡ n → ((j : ℕ) → i ≤ j → j < n → (k : ℕ) → (segment s j).start ≤ k → k < (segment s j).start + (segment s j).len → P k) → (k : ℕ) → 0 < times k (extent (rest s i)) → P k
  from_entry P zero i e h k pos =
      let same : i ≡ n = omega arith in
      let none : times k (extent (rest s i)) ≡ 0 = ap (λ l. times k (extent l)) (ap (rest s) same ∙ rest_end s n u) in
      absurd (omega arith)
  from_entry P (suc f) i e h k pos =
      let g : Segment = segment s i in
      let lt : i < n = omega arith in
      let more = ap (λ l. times k (extent l)) (rest_more s i (omega (arith, u.most)) (u.before i lt)) ∙ times-++ k (upto g.start g.len) (extent (rest s (i + 1))) in
      elim (cases_lt 0 (times k (upto g.start g.len))) [
        | inl here ↦ let r = upto_has k g.start g.len here in h i (omega arith) lt k r.0 r.1
        | inr none ↦ from_entry P f (i + 1) (omega arith) (λ j le. h j (omega arith)) k (omega (arith, more))
      ]

  -- every sector of every used entry has P, so every sector of the file has
  pub each_sector : (P : ℕ → Type 0) → ((j : ℕ) → j < n → (k : ℕ) → (segment s j).start ≤ k → k < (segment s j).start + (segment s j).len → P k) → (k : ℕ) → 0 < times k (extent (segments s)) → P k
  each_sector P h = from_entry P n 0 (omega arith) (λ j le. h j)

  -- a sector of a used entry is one of the file's
  from_has : (f i j k : ℕ) → i + f ≡ n → i ≤ j → j < n → (segment s j).start ≤ k → k < (segment s j).start + (segment s j).len → 0 < times k (extent (rest s i))
  from_has zero i j k e le lt low high = absurd (omega arith)
  from_has (suc f) i j k e le lt low high =
      let g : Segment = segment s i in
      let more = ap (λ l. times k (extent l)) (rest_more s i (omega (arith, u.most)) (u.before i (omega arith))) ∙ times-++ k (upto g.start g.len) (extent (rest s (i + 1))) in
      elim (cases_eq j i) [
        | inl same ↦ omega (arith, more, upto_in k g.start g.len (rw same at low) (rw same at high))
        | inr ne ↦ omega (arith, more, from_has f (i + 1) j k (omega arith) (omega arith) lt low high)
      ]

  pub entry_has : (j k : ℕ) → j < n → (segment s j).start ≤ k → k < (segment s j).start + (segment s j).len → 0 < times k (extent (segments s))
  entry_has j k lt low high = from_has n 0 j k (omega arith) (omega arith) lt low high

-- the sectors from an entry on are its own and those behind it
pub split_times : (s : List ℕ) (k : ℕ) (g : Segment) → g ≡ segment s k → k < 48 → (g.len ≡ 0 → ⊥) → (i : ℕ) → times i (extent (rest s k)) ≡ times i (upto g.start g.len) + times i (extent (rest s (k + 1)))
split_times s k g e low ne i = ap (times i) (split s k g e low ne) ∙ times-++ i (upto g.start g.len) (extent (rest s (k + 1)))
