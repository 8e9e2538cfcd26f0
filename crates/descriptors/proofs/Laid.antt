-- A descriptor with bytes laid over some of it: fields that lie apart from them, and the segment entries.
use Rattle.std.proofs.Common.{◌≡◌, ℕ, zero, suc, ◌+◌, ◌-◌, ◌*◌, ◌<◌, ◌≤◌, cond, eqb, List, [], ◌∷◌, ◌++◌, length, get_or, take, drop, sym, refl, ap, ◌∙◌, ap₂, add-zero, arith, length-drop, length-take}
use Rattle.std.proofs.lemmas.List.{append-nil, take-append-drop, ext_get_or, get_or-take, get_or-drop}
use Rattle.layout.specs.Bytes.{over}
use Rattle.layout.specs.Descriptor.{segment, used, segments}
use Rattle.layout.specs.declared.segment.Segment.{Segment}
use Rattle.layout.specs.Overs.{length_over, over_below, over_above, part_over}
use Rattle.layout.proofs.Segments.{segment_same}

-- nothing is laid
pub over_none : (p : ℕ) (xs : List ℕ) → over p [] xs ≡ xs
unfolding over
over_none p xs = ap (λ k. take p xs ++ drop k xs) (add-zero p) ∙ take-append-drop p xs

-- a part is settled by its bytes
pub part_same : (at w : ℕ) (xs ys : List ℕ) → length xs ≡ length ys → ((k : ℕ) → k < w → get_or xs (at + k) 0 ≡ get_or ys (at + k) 0) → take w (drop at xs) ≡ take w (drop at ys)
part_same at w xs ys long h =
    ext_get_or 0 _ _ (simp (length-take, length-drop) (omega arith))
    (λ i lt.
    let low : i < w = omega (arith, length-take w (drop at xs)) in
    get_or-take w (drop at xs) i 0 low ∙ get_or-drop at xs i 0 ∙ h i low ∙ sym (get_or-take w (drop at ys) i 0 low ∙ get_or-drop at ys i 0))

-- an entry is settled by its five bytes
pub entry_same : (k : ℕ) (xs ys : List ℕ) → ((i : ℕ) → i < 5 → get_or xs (16 + k * 5 + i) 0 ≡ get_or ys (16 + k * 5 + i) 0) → segment xs k ≡ segment ys k
entry_same k xs ys h = segment_same _ _ (λ i lt. get_or-drop (16 + k * 5) xs i 0 ∙ h i lt ∙ sym (get_or-drop (16 + k * 5) ys i 0))

-- the used entries are settled by the entries
pub used_same : (n k : ℕ) (xs ys : List ℕ) → ((j : ℕ) → k ≤ j → j < k + n → segment xs j ≡ segment ys j) → used xs k n ≡ used ys k n
unfolding used
used_same zero k xs ys h = refl
used_same (suc n) k xs ys h =
    ap₂ (λ (s : Segment) (ss : List Segment). cond (eqb s.len 0) [] (s ∷ ss)) (h k (omega arith) (omega arith)) (used_same n (k + 1) xs ys (λ j lo hi. h j (omega arith) (omega arith)))

module _ (p : ℕ) (bs xs : List ℕ) (fits : p + length bs ≤ length xs) where
  -- a part that lies apart from what was laid
  pub part_below : (at w : ℕ) → at + w ≤ p → take w (drop at (over p bs xs)) ≡ take w (drop at xs)
  part_below at w le = part_same at w _ _ (length_over p bs xs fits) (λ k lt. over_below p bs xs fits (at + k) (omega arith))

  pub part_above : (at w : ℕ) → p + length bs ≤ at → take w (drop at (over p bs xs)) ≡ take w (drop at xs)
  part_above at w le = part_same at w _ _ (length_over p bs xs fits) (λ k lt. over_above p bs xs fits (at + k) (omega arith))

  -- the part that was laid
  pub part_in : (w : ℕ) → length bs ≡ w → take w (drop p (over p bs xs)) ≡ bs
  part_in w long =
      let none : w - length bs ≡ 0 = omega arith in
      part_over p w bs xs (omega arith) (omega arith) ∙ ap (λ n. bs ++ take n (drop (p + length bs) xs)) none ∙ append-nil bs

  -- laid before the segment list, it leaves every entry
  module _ (low : p + length bs ≤ 16) where
    pub entry_above : (k : ℕ) → segment (over p bs xs) k ≡ segment xs k
    entry_above k = entry_same k _ _ (λ i lt. over_above p bs xs fits (16 + k * 5 + i) (omega arith))

    pub segments_above : segments (over p bs xs) ≡ segments xs
    segments_above = used_same 48 0 _ _ (λ j lo hi. entry_above j)
