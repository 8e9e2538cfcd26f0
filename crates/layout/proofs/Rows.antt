-- Records of one width, side by side.
use Rattle.std.proofs.Common.{◌≡◌, ℕ, ◌+◌, ◌-◌, ◌*◌, ◌≤◌, List, ◌++◌, length, take, drop, sym, ap, ◌∙◌, arith, ◌/◌, ◌<◌, mul-le-mul_right, suc-mul, le-div_iff_mul-le, div-mul-le_self}
use borrow.Rule.Slice.PartMut.{put_mid}
use Rattle.std.proofs.lemmas.List.{take_at, take-take, drop_at, drop-take, length-take-le}
use Rattle.layout.specs.Bytes.{over}
use Rattle.layout.specs.Records.{record_at}
use Rattle.layout.specs.Overs.{put_is, take-over}

-- a write into the k-th record, as the checker shows it
pub put_record : (k w w' v : ℕ) (xs ys bs : List ℕ) → w' ≡ w → v ≡ w → length bs ≡ w → ys ≡ bs → put_mid (k * w') ((k * w' + v) - k * w') xs ys ≡ over (k * w) bs xs
put_record k w w' v xs ys bs e f long is = rw (e, f) (put_is (k * w) ((k * w + w) - k * w) xs ys bs (omega arith) is)

-- the record that was written
pub record_here : (k w : ℕ) (bs xs : List ℕ) → k * w + w ≤ length xs → length bs ≡ w → record_at w k (over (k * w) bs xs) ≡ bs
unfolding over
record_here k w bs xs fits long =
    ap (take w) (drop_at (take (k * w) xs) (bs ++ drop (k * w + length bs) xs) (k * w) (length-take-le (k * w) xs (omega arith)))
    ∙ take_at bs (drop (k * w + length bs) xs) w long

-- a record below the number of whole ones lies within the bytes
pub row_fits : (n w k : ℕ) → k < n / w → k * w + w ≤ n
row_fits n w k lt =
    let some : k + 1 ≤ n / w = omega arith in
    omega (arith, div-mul-le_self n w, mul-le-mul_right w some, suc-mul k w)

-- and one that lies within them is one of those
pub row_counts : (n w k : ℕ) → 0 < w → k * w + w ≤ n → k < n / w
row_counts n w k some fits = (le-div_iff_mul-le some).1 (omega (arith, suc-mul k w))

-- the k-th record as a part of a slice, as the checker shows it
pub record_part : (k w w' : ℕ) (xs : List ℕ) → w' ≡ w → take ((k * w' + w') - k * w') (drop (k * w') xs) ≡ record_at w k xs
record_part k w w' xs e = rw e (ap (λ n. take n (drop (k * w) xs)) (omega arith))

-- a record of the first n bytes
pub record_take : (j w n : ℕ) (xs : List ℕ) → j * w + w ≤ n → record_at w j (take n xs) ≡ record_at w j xs
record_take j w n xs fits =
    let whole : n ≡ j * w + (n - j * w) = omega arith in
    ap (λ k. take w (drop (j * w) (take k xs))) whole
    ∙ ap (take w) (drop-take (j * w) (n - j * w) xs)
    ∙ take-take w (n - j * w) (drop (j * w) xs) (omega arith)

-- a record below where bytes were laid
pub record_below : (j w p : ℕ) (bs xs : List ℕ) → j * w + w ≤ p → p ≤ length xs → record_at w j (over p bs xs) ≡ record_at w j xs
record_below j w p bs xs low fits =
    sym (record_take j w p (over p bs xs) low) ∙ ap (record_at w j) (take-over p bs xs fits) ∙ record_take j w p xs low
