-- The count of clear sectors, one sector on.
use Rattle.std.proofs.Common.{◌≡◌, ℕ, zero, suc, ◌+◌, ◌*◌, ◌/◌, ◌%◌, ◌<◌, ◌≤◌, Bool, true, false, not, cond, List, map, refl, sym, ap, ◌∙◌, ap₂, map-id, add-zero, add-suc, arith, add-one}
use Rattle.std.proofs.lemmas.List.FromFn.{sum_by-map-range_with_len_more}
use Rattle.std.specs.List.{range_with_len, count_by}
use Rattle.layout.specs.Map.{bit_of, taken, clear_below}

pub clear_more : (takes : ℕ → Bool) (n : ℕ) (b : Bool) → b ≡ takes n → clear_below takes (n + 1) ≡ clear_below takes n + cond {A = ℕ} b 0 1
clear_more takes n b e = rw add-one (ap (λ v. clear_below takes n + cond {A = ℕ} v 0 1) (sym e))

pub clear_set : (takes : ℕ → Bool) (n : ℕ) → true ≡ takes n → clear_below takes (n + 1) ≡ clear_below takes n
clear_set takes n e = omega (arith, clear_more takes n true e)

pub clear_unset : (takes : ℕ → Bool) (n : ℕ) → false ≡ takes n → clear_below takes (n + 1) ≡ clear_below takes n + 1
clear_unset takes n e = omega (arith, clear_more takes n false e)

-- the count is settled by the bits
pub clear_same : (f g : ℕ → Bool) (n : ℕ) → ((i : ℕ) → i < n → f i ≡ g i) → clear_below f n ≡ clear_below g n
clear_same f g zero h = refl
clear_same f g (suc n) h =
    ap₂ (λ (c : ℕ) (b : Bool). c + cond {A = ℕ} b 0 1) (clear_same f g n (λ i lt. h i (omega arith))) (h n (omega arith))

-- the count over one stretch and then another
pub clear_then : (f : ℕ → Bool) (a n : ℕ) → clear_below f (a + n) ≡ clear_below f a + clear_below (λ i. f (a + i)) n
clear_then f a zero = rw add-zero (omega arith)
clear_then f a (suc n) = rw add-suc (omega (arith, clear_then f a n))

-- one map sector more, or the front of one
pub clear_sector : (sector : ℕ → List ℕ) (j n : ℕ) → n ≤ 2048 → clear_below (taken sector) (j * 2048 + n) ≡ clear_below (taken sector) (j * 2048) + clear_below (bit_of (sector (1 + j))) n
clear_sector sector j n le =
    clear_then (taken sector) (j * 2048) n
    ∙ ap (λ c. clear_below (taken sector) (j * 2048) + c)
    (clear_same _ _ n (λ i lt.
    let row : (j * 2048 + i) / 2048 ≡ j = omega arith in
    let place : (j * 2048 + i) % 2048 ≡ i = omega arith in
    ap₂ (λ (r p : ℕ). bit_of (sector (1 + r)) p) row place))

one_clear : (b : Bool) → cond {A = ℕ} b 0 1 ≡ cond (not b) 1 0
one_clear true = refl
one_clear false = refl

-- the count is that of the clear ones among the numbers below
pub clear_counted : (takes : ℕ → Bool) (n : ℕ) → clear_below takes n ≡ count_by (λ k. not (takes k)) (range_with_len 0 n)
clear_counted takes n = counted n ∙ ap (count_by (λ k. not (takes k))) (map-id (range_with_len 0 n))
  where
    counted : (m : ℕ) → clear_below takes m ≡ count_by (λ k. not (takes k)) (map (λ k. k) (range_with_len 0 m))
    counted zero = refl
    counted (suc m) =
        let more : m + 1 ≡ suc m = omega arith in
        ap₂ (λ (a b : ℕ). a + b) (counted m) (one_clear (takes m))
        ∙ sym (sum_by-map-range_with_len_more (λ k. cond (not (takes k)) 1 0) (λ k. k) 0 m m (omega arith))
        ∙ ap (λ j. count_by (λ k. not (takes k)) (map (λ k. k) (range_with_len 0 j))) more
