-- Bits packed into a byte, and read back.
use Rattle.std.proofs.Common.{◌≡◌, ℕ, zero, suc, ◌+◌, ◌-◌, ◌*◌, ◌/◌, ◌%◌, ◌^◌, ◌<◌, ◌≤◌, Bool, true, false, cond, eqb, List, sym, refl, ap, ◌∙◌, ap₂, inl, inr, arith}
use native.Mathlib.Nat.{pow-succ', div-div-eq-div-mul}
use Rattle.std.proofs.lemmas.Bool.{cases_eq}
use Rattle.std.proofs.lemmas.List.FromFn.{get_or-map-range_with_len}
use Rattle.layout.specs.Map.{bit_at, bit_of, taken, packed, map_sector}

one : (b : Bool) → cond {A = ℕ} b 1 0 ≤ 1
one true = omega arith
one false = omega arith

-- the bit p of n packed ones
pub packed_bit : (f : ℕ → Bool) (k n p : ℕ) → p < n → packed f k n / 2 ^ (n - 1 - p) % 2 ≡ cond {A = ℕ} (f (k + p)) 1 0
unfolding packed
packed_bit f k zero p lt = absurd (omega arith)
packed_bit f k (suc n) p lt = elim (cases_eq p n) [
  | inl e ↦
      let z : suc n - 1 - p ≡ 0 = omega arith in
      rw z (rw e (omega (arith, one (f (k + n)))))
  | inr ne ↦
      let less : p < n = omega arith in
      let z : suc n - 1 - p ≡ suc (n - 1 - p) = omega arith in
      let half : (packed f k n * 2 + cond {A = ℕ} (f (k + n)) 1 0) / 2 ≡ packed f k n = omega (arith, one (f (k + n))) in
      rw (z, pow-succ') (rw (sym (div-div-eq-div-mul (packed f k n * 2 + cond {A = ℕ} (f (k + n)) 1 0) 2 (2 ^ (n - 1 - p)))) (rw half (packed_bit f k n p less)))
]

test : (b : Bool) → eqb (cond {A = ℕ} b 1 0) 1 ≡ b
test true = refl
test false = refl

-- a byte of eight bits
pub byte_bit : (f : ℕ → Bool) (k p : ℕ) → p < 8 → bit_at (packed f k 8) p ≡ f (k + p)
unfolding bit_at
byte_bit f k p lt =
    let z : 8 - 1 - p ≡ 7 - p = omega arith in
    ap (λ x. eqb x 1) (rw z at (packed_bit f k 8 p lt)) ∙ test (f (k + p))

-- a sector of the map
pub sector_bit : (f : ℕ → Bool) (j i : ℕ) → i < 2048 → bit_of (map_sector f j) i ≡ f (j * 2048 + i)
sector_bit f j i lt =
    let at : j * 2048 + i / 8 * 8 + i % 8 ≡ j * 2048 + i = omega arith in
    ap (λ b. bit_at b (i % 8)) (get_or-map-range_with_len (λ n. packed f (j * 2048 + n * 8) 8) 0 256 (i / 8) (i / 8) 0 (omega arith) (omega arith))
    ∙ byte_bit f (j * 2048 + i / 8 * 8) (i % 8) (omega arith)
    ∙ ap f at

-- the whole map, of m sectors
pub map-taken : (f : ℕ → Bool) (sector : ℕ → List ℕ) (m : ℕ) → ((j : ℕ) → j < m → sector (1 + j) ≡ map_sector f j) → (k : ℕ) → k < m * 2048 → taken sector k ≡ f k
map-taken f sector m laid k lt =
    let at : k / 2048 * 2048 + k % 2048 ≡ k = omega arith in
    ap (λ s. bit_of s (k % 2048)) (laid (k / 2048) (omega arith)) ∙ sector_bit f (k / 2048) (k % 2048) (omega arith) ∙ ap f at

-- packed bits are settled by the bits
pub packed_same : (f g : ℕ → Bool) → ((k : ℕ) → f k ≡ g k) → (k n : ℕ) → packed f k n ≡ packed g k n
unfolding packed
packed_same f g h k zero = refl
packed_same f g h k (suc n) = ap₂ (λ (a : ℕ) (b : Bool). a * 2 + cond {A = ℕ} b 1 0) (packed_same f g h k n) (h (k + n))
