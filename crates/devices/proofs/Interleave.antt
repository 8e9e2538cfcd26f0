-- The interleave is a permutation of the places: Euclid's lemma by subtraction.
use Rattle.std.proofs.Common.{◌≡◌, ℕ, zero, suc, ◌+◌, ◌-◌, ◌*◌, ◌/◌, ◌%◌, ◌<◌, ◌≤◌, sym, ap, ◌∙◌, ⊎_elim, mod-lt, mul_comm, arith}
use Prim.Native.Nat.{◌∣◌}
use native.Mathlib.Nat.{one-dvd, dvd-add, dvd-sub, dvd_refl, dvd-mul_left, dvd-mul_right, div-mul_cancel, mul-sub, mul-dvd-mul_right, dvd_of_mul-dvd-mul_right, le_of_dvd, mod-eq-zero_of_dvd, dvd_of_mod-eq-zero, div-add-mod, pos_of_dvd_of_pos}
use lib.Arith.{digits_div, digits_mod, digits_lt}
use Rattle.std.proofs.lemmas.Bool.{cases_order}
use Rattle.std.proofs.lemmas.Nat.{div_below}
use Rattle.devices.specs.Geometry.{Coprime, lsn_place}

-- no common factor, by divisibility
Apart : ℕ → ℕ → Type 0
Apart a b = (d : ℕ) → d ∣ a → d ∣ b → d ≡ 1

apart_of : (a b : ℕ) → 0 < b → Coprime a b → Apart a b
unfolding Apart
apart_of a b p h d x y =
    ⊎_elim (λ e. e) (⊎_elim (λ l. absurd (omega (arith, pos_of_dvd_of_pos y p))) (λ l. absurd (h d l (mod-eq-zero_of_dvd d x) (mod-eq-zero_of_dvd d y)))) (cases_order d 1)

less_left : (a b : ℕ) → b < a → Apart a b → Apart (a - b) b
unfolding Apart
less_left a b l h d x y =
    let e : (a - b) + b ≡ a = omega arith in
    h d (rw e at (dvd-add d x y)) y

swap : (a b : ℕ) → Apart a b → Apart b a
unfolding Apart
swap a b h d x y = h d y x

euclid : (n a b c : ℕ) → a + b ≤ n → 0 < a → 0 < b → Apart a b → b ∣ c * a → b ∣ c
unfolding Apart
euclid zero a b c f p q h x = absurd (omega arith)
euclid (suc n) a b c f p q h x =
    ⊎_elim
    (λ (e : a ≡ b). let one : b ≡ 1 = h b (rw e (dvd_refl b)) (dvd_refl b) in rw one (one-dvd c))
    (⊎_elim
    (λ (l : a < b).
    let m : ℕ = (c * a) / b in
    let e : m * b ≡ c * a = div-mul_cancel b x in
    let y : a ∣ m * (b - a) = rw (mul-sub m b a, e) (dvd-sub a (dvd-mul_left a c) (dvd-mul_left a m)) in
    let z : a ∣ m = euclid n (b - a) a m (omega arith) (omega arith) p (less_left b a l (swap a b h)) y in
    dvd_of_mul-dvd-mul_right b p (rw (mul_comm b a, ← e) (mul-dvd-mul_right a z b)))
    (λ (l : b < a).
    euclid n (a - b) b c (omega arith) (omega arith) q (less_left a b l h) (rw (mul-sub c a b) (dvd-sub b x (dvd-mul_left b c)))))
    (cases_order a b)

module _ (s k : ℕ) (p : 0 < s) (q : 0 < k) (h : Coprime k s) where
  -- two places of a track, the first lower
  lower : (a b : ℕ) → a < b → b < s → (a * k) % s ≡ (b * k) % s → ⊥
  lower a b l m e =
      let f : (b - a) * k ≡ s * ((b * k) / s) - s * ((a * k) / s) = mul_comm (b - a) k ∙ mul-sub k b a ∙ omega (arith, mul_comm k b, mul_comm k a, div-add-mod (b * k) s, div-add-mod (a * k) s) in
      let d : s ∣ (b - a) * k = rw f (dvd-sub s (dvd-mul_right s ((b * k) / s)) (dvd-mul_right s ((a * k) / s))) in
      let z : s ∣ (b - a) = euclid (k + s) k s (b - a) (omega arith) q p (apart_of k s p h) d in
      let g : 0 < b - a = omega arith in
      omega (arith, le_of_dvd g z)

  column : (a b : ℕ) → a < s → b < s → (a * k) % s ≡ (b * k) % s → a ≡ b
  column a b x y e = ⊎_elim (λ r. r) (⊎_elim (λ l. absurd (lower a b l y e)) (λ l. absurd (lower b a l x (sym e)))) (cases_order a b)

  pub place_injective : (x y : ℕ) → lsn_place s k x ≡ lsn_place s k y → x ≡ y
  place_injective x y e =
      let u : x / s ≡ y / s = sym (digits_div (x / s) (mod-lt (x % s * k) p)) ∙ ap (λ t. t / s) e ∙ digits_div (y / s) (mod-lt (y % s * k) p) in
      let w : (x % s * k) % s ≡ (y % s * k) % s = sym (digits_mod (x / s) (mod-lt (x % s * k) p)) ∙ ap (λ t. t % s) e ∙ digits_mod (y / s) (mod-lt (y % s * k) p) in
      let v : x % s ≡ y % s = column (x % s) (y % s) (mod-lt x p) (mod-lt y p) w in
      sym (div-add-mod x s) ∙ rw (u, v) (div-add-mod y s)

pub place_below : (s k : ℕ) → 0 < s → (t l : ℕ) → l < t * s → lsn_place s k l < t * s
place_below s k p t l m = digits_lt (div_below l s t p m) (mod-lt (l % s * k) p)

-- a factor of a number above 0 is not above it
pub factor_le : (d s : ℕ) → 0 < s → s % d ≡ 0 → d ≤ s
factor_le d s p e = le_of_dvd p (dvd_of_mod-eq-zero d e)
