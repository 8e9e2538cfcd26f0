-- A segment list in memory, in 48 places.
use Rattle.std.specs.Prelude.{◌≡◌, ℕ, ◌-◌, ◌≤◌, List, ◌++◌, length, take, replicate, slice_index_or}
use Rattle.std.proofs.Common.{sym, ◌∙◌, inl, inr, arith, length-append}
use Rattle.std.proofs.lemmas.Bool.{cases_lt}
use Rattle.std.proofs.lemmas.List.{ext_get_or, get_or-take, get_or_append_left, get_or-append_right, get_or-replicate, get_or_past, length-replicate, length-take-le}
use Rattle.layout.specs.declared.segment.Segment.{Segment}
use Rattle.descriptors.specs.Lists.{nowhere}
use Rattle.descriptors.specs.Stored.{entries_of}

-- the first `count` places are the segments, and each behind them is as an unused entry
pub record IsPadded (items : List Segment) (count : ℕ) : Type 0 where
  pub few : count ≤ 48
  pub long : length items ≡ 48
  pub unused : (k : ℕ) → count ≤ k → slice_index_or items k nowhere ≡ nowhere

module _ (items : List Segment) (count : ℕ) (h : IsPadded items count) where
  -- the count and the places are settled by the segments
  pub length_listed : length (take count items) ≡ count
  length_listed = length-take-le count items (omega (arith, h.few, h.long))

  pub entries_are : entries_of (take count items) ≡ items
  entries_are =
      let ss = take count items in
      let unused = replicate (48 - length ss) nowhere in
      let wide : length (ss ++ unused) ≡ 48 = length-append ss unused ∙ omega (arith, length-replicate (48 - length ss) nowhere, length_listed, h.few) in
      ext_get_or nowhere (ss ++ unused) items (omega (arith, wide, h.long))
      (λ k lt. elim (cases_lt k count) [
        | inl inside ↦ get_or_append_left ss unused nowhere k (omega (arith, length_listed)) ∙ get_or-take count items k nowhere inside
        | inr past ↦
            get_or-append_right ss unused count k nowhere length_listed past
            ∙ get_or-replicate (48 - length ss) (k - count) nowhere nowhere (omega (arith, wide, length_listed))
            ∙ sym (h.unused k past)
      ])

-- 48 unused entries list no segment
pub none_padded : IsPadded (replicate 48 nowhere) 0
none_padded = record {
  few = omega arith;
  long = length-replicate 48 nowhere;
  unused = λ k le. elim (cases_lt k 48) [ inl inside ↦ get_or-replicate 48 k nowhere nowhere inside | inr past ↦ get_or_past (replicate 48 nowhere) k nowhere (omega (arith, length-replicate 48 nowhere)) ];
}
