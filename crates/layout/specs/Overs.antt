-- Bytes laid over bytes.
use Rattle.std.specs.Prelude.{◌≡◌, ℕ, ◌+◌, ◌-◌, ◌<◌, ◌≤◌, List, ◌++◌, length, take, drop, slice_index}
use Rattle.std.proofs.Math.Path.{refl, ap}
use Rattle.std.proofs.Common.{sym, ap₂, ◌∙◌, arith, length-drop, length-append, rules}
use Rattle.std.proofs.Math.ListN.{length-take}
use Rattle.std.proofs.Math.Seq.{take-append-add}
use borrow.Rule.Slice.PartMut.{put_mid}
use Rattle.std.proofs.lemmas.List.{append_assoc, same_lists, places, take_at, drop_at, drop-drop, get_or_append_left, get_or-append_right, get_or-take, get_or-drop, length-take-le}
use Rattle.layout.specs.Bytes.{over}

-- a write into s[p..p + k], as the checker shows it
pub put_is : (p k : ℕ) (xs ys bs : List ℕ) → k ≡ length bs → ys ≡ bs → put_mid p k xs ys ≡ over p bs xs
unfolding over
put_is p k xs ys bs e is = ap₂ (λ u v. take p xs ++ (u ++ v)) is (drop-drop k p xs ∙ ap (λ n. drop (p + n) xs) e)

module _ (p : ℕ) (bs xs : List ℕ) (fits : p + length bs ≤ length xs) where
  front : length (take p xs) ≡ p
  front = length-take-le p xs (omega arith)

  pub length_over : length (over p bs xs) ≡ length xs
  unfolding over
  length_over = simp (length-append, length-take, length-drop) (omega arith)

  -- what stands below, in and above the part that is laid over
  pub over_below : (k : ℕ) → k < p → slice_index (over p bs xs) k ≡ slice_index xs k
  unfolding over
  over_below k lt =
      get_or_append_left (take p xs) _ 0 k (omega (arith, front)) ∙ get_or-take p xs k 0 lt

  pub over_in : (k : ℕ) → k < length bs → slice_index (over p bs xs) (p + k) ≡ slice_index bs k
  unfolding over
  over_in k lt =
      get_or-append_right (take p xs) _ p (p + k) 0 front (omega arith)
      ∙ ap (λ i. slice_index (bs ++ drop (p + length bs) xs) i) (omega arith)
      ∙ get_or_append_left bs _ 0 k lt

  pub over_above : (k : ℕ) → p + length bs ≤ k → slice_index (over p bs xs) k ≡ slice_index xs k
  unfolding over
  over_above k le =
      get_or-append_right (take p xs) _ p k 0 front (omega arith)
      ∙ get_or-append_right bs _ (length bs) (k - p) 0 refl (omega arith)
      ∙ get_or-drop (p + length bs) xs (k - p - length bs) 0
      ∙ ap (λ i. slice_index xs i) (omega arith)

-- laid over a part, and that part put back, as the checker shows it
pub over_part : (p k q : ℕ) (bs xs : List ℕ) → p + k ≤ length xs → q + length bs ≤ k → put_mid p k xs (over q bs (take k (drop p xs))) ≡ over (p + q) bs xs
unfolding over
over_part p k q bs xs fits inside = same_lists _ _ (search (rules, places)) (λ i d h. grind (arith, places))

-- the part from where bytes were laid
pub part_over : (p w : ℕ) (bs xs : List ℕ) → p ≤ length xs → length bs ≤ w → take w (drop p (over p bs xs)) ≡ bs ++ take (w - length bs) (drop (p + length bs) xs)
unfolding over
part_over p w bs xs fits short =
    let whole : w ≡ length bs + (w - length bs) = omega arith in
    ap (take w) (drop_at (take p xs) (bs ++ drop (p + length bs) xs) p (length-take-le p xs fits))
    ∙ ap (λ n. take n (bs ++ drop (p + length bs) xs)) whole
    ∙ take-append-add bs (drop (p + length bs) xs) (w - length bs)

-- what stands before it
pub take-over : (p : ℕ) (bs xs : List ℕ) → p ≤ length xs → take p (over p bs xs) ≡ take p xs
unfolding over
take-over p bs xs fits = take_at (take p xs) (bs ++ drop (p + length bs) xs) p (length-take-le p xs fits)

-- bytes laid where others end
pub over_over : (p q : ℕ) (a b xs : List ℕ) → q ≡ p + length a → q ≤ length xs → over q b (over p a xs) ≡ over p (a ++ b) xs
unfolding over
over_over p q a b xs e h =
    let n : length (take p xs ++ a) ≡ q = length-append (take p xs) a ∙ omega (arith, length-take-le p xs (omega arith)) in
    let r : drop (p + length a) xs ≡ drop q xs = ap (λ k. drop k xs) (sym e) in
    let s : q + length b ≡ p + length (a ++ b) = omega (arith, length-append a b) in
    ap (over q b) (sym (append_assoc (take p xs) a (drop (p + length a) xs)) ∙ ap (λ l. (take p xs ++ a) ++ l) r)
    ∙ ap₂ (λ u v. u ++ (b ++ v)) (take_at (take p xs ++ a) (drop q xs) q n)
    (sym (drop-drop (length b) q ((take p xs ++ a) ++ drop q xs)) ∙ ap (drop (length b)) (drop_at (take p xs ++ a) (drop q xs) q n) ∙ drop-drop (length b) q xs ∙ ap (λ k. drop k xs) s)
    ∙ simp append_assoc
