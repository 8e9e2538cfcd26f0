-- Numbers in bytes: what is written is read back, and what stands elsewhere does not matter.
use Rattle.std.specs.Prelude.{◌≡◌, ℕ, zero, suc, ◌+◌, ◌*◌, ◌/◌, ◌%◌, ◌^◌, ◌<◌, ◌≤◌, List, [], ◌∷◌, ◌++◌, length, slice_index, slice_index_or, refl}
use Rattle.std.proofs.Common.{ap, ap₂, ◌∙◌, arith, pow-suc}
use Rattle.std.proofs.lemmas.List.{get_or_append_left, get_or_at, length_push}
use Rattle.layout.specs.Bytes.{number, bytes, over}
use Rattle.layout.specs.Overs.{over_below, over_in, over_above}

-- a number is settled by its bytes
pub number_same : (a b w : ℕ) (xs ys : List ℕ) → ((k : ℕ) → k < w → slice_index xs (a + k) ≡ slice_index ys (b + k)) → number a w xs ≡ number b w ys
unfolding number
number_same a b zero xs ys h = refl
number_same a b (suc w) xs ys h =
    let before = number_same a b w xs ys (λ k lt. h k (omega arith)) in
    ap₂ (λ m c. m * 256 + c) before (h w (omega arith))

pub length-bytes : (w n : ℕ) → length (bytes w n) ≡ w
unfolding bytes
length-bytes zero n = refl
length-bytes (suc w) n = length_push (bytes w (n / 256)) (n % 256) ∙ omega (arith, length-bytes w (n / 256))

-- what is written is read back
pub number_bytes : (w n : ℕ) → n < 256 ^ w → number 0 w (bytes w n) ≡ n
unfolding number bytes
number_bytes zero n h = omega arith
number_bytes (suc w) n h =
    let p : n < 256 ^ w * 256 = rw pow-suc at h in
    let q : n / 256 < 256 ^ w = omega arith in
    let last : slice_index_or (bytes w (n / 256) ++ (n % 256) ∷ []) (0 + w) 0 ≡ n % 256 = ap (λ k. slice_index (bytes w (n / 256) ++ (n % 256) ∷ []) k) (omega arith) ∙ get_or_at (bytes w (n / 256)) (n % 256) [] 0 w (length-bytes w (n / 256)) in
    let front : number 0 w (bytes w (n / 256) ++ (n % 256) ∷ []) ≡ number 0 w (bytes w (n / 256)) =
    number_same 0 0 w _ _ (λ k lt. get_or_append_left (bytes w (n / 256)) _ 0 (0 + k) (omega (arith, length-bytes w (n / 256)))) in
    omega (arith, last, front, number_bytes w (n / 256) q)

module _ (p : ℕ) (bs xs : List ℕ) (fits : p + length bs ≤ length xs) where
  -- the number that was laid there
  pub number_over : (w n : ℕ) → bs ≡ bytes w n → n < 256 ^ w → number p w (over p bs xs) ≡ n
  number_over w n is small =
      let long : length bs ≡ w = ap length is ∙ length-bytes w n in
      number_same p 0 w _ bs (λ k lt. over_in p bs xs fits k (omega arith) ∙ ap (λ i. slice_index bs i) (omega arith))
      ∙ ap (number 0 w) is ∙ number_bytes w n small

  -- a number that lies apart from what was laid
  pub number_below : (at w : ℕ) → at + w ≤ p → number at w (over p bs xs) ≡ number at w xs
  number_below at w le = number_same at at w _ _ (λ k lt. over_below p bs xs fits (at + k) (omega arith))

  pub number_above : (at w : ℕ) → p + length bs ≤ at → number at w (over p bs xs) ≡ number at w xs
  number_above at w le = number_same at at w _ _ (λ k lt. over_above p bs xs fits (at + k) (omega arith))

-- a number of bytes is below the power that they reach
pub number_lt : (at w : ℕ) (xs : List ℕ) → ((k : ℕ) → slice_index xs k < 256) → number at w xs < 256 ^ w
unfolding number
number_lt at zero xs h = omega arith
number_lt at (suc w) xs h =
    let more : 256 ^ suc w ≡ 256 ^ w * 256 = pow-suc 256 w in
    omega (arith, number_lt at w xs h, h (at + w))
