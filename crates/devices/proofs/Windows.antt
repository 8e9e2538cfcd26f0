-- What a change of one sector below a window is to the window, and to the sectors around it.
use Rattle.std.proofs.Common.{◌≡◌, ℕ, ◌+◌, ◌-◌, ◌<◌, min, Bool, true, false, cond, ◌&&◌, ltb, leb, List, [], ◌∷◌, Ok, Err, Result, refl, ap, ◌∙◌, arith}
use Rattle.std.proofs.lemmas.List.FromFn.{fill_by_all, length-map-range_with_len, get_or-map-range_with_len}
use Rattle.std.proofs.lemmas.Bool.Decides.{nat_tests}
use Rattle.devices.specs.Meaning.{Meaning, Kept, WriteDone, Fails}
use Rattle.devices.specs.declared.device.Cause.{Cause}
use Rattle.devices.specs.declared.device.Cause.TheVariants.{Length, Range, Bad}
use Rattle.devices.specs.declared.device.DeviceFault.{DeviceFault}
use Rattle.devices.specs.Window.{extent, outside, around, window_meaning}

cond_same : (b : Bool) (x y : List ℕ) → (b ≡ false → y ≡ x) → cond b [] y ≡ cond b [] x
cond_same true x y h = refl
cond_same false x y h = h refl

module _ (P : ℕ → Type 0) (m m' : Meaning) (s n : ℕ) (kept : Kept P m m') where
  pub extent_kept : extent m' s n ≡ extent m s n
  extent_kept = ap (λ c. min n (c - s)) kept.0

  -- the sectors around the window stay, where P names every one of them
  pub around_kept : ((k : ℕ) → (leb s k && ltb k (s + extent m s n)) ≡ false → P k) → around m' s n ≡ around m s n
  around_kept all =
      ap (λ t. (s ∷ n ∷ []) ∷ t)
      (fill_by_all (λ k. cond (leb s k && ltb k (s + extent m s n)) [] (m.sector k)) (outside m' s n) m.count []
      (length-map-range_with_len _ 0 m'.count ∙ kept.0)
      (λ k lt.
      get_or-map-range_with_len (λ k. cond (leb s k && ltb k (s + extent m' s n)) [] (m'.sector k)) 0 m'.count k k [] (omega (arith, kept.0)) (omega arith)
      ∙ ap (λ e. cond (leb s k && ltb k (s + e)) [] (m'.sector k)) extent_kept
      ∙ cond_same (leb s k && ltb k (s + extent m s n)) (m.sector k) (m'.sector k) (λ out. kept.2 k lt (all k out))))

  -- a window of what stays, by its own LSNs
  pub window_kept : (Q : ℕ → Type 0) → ((k : ℕ) → Q k → P (s + k)) → Kept Q (window_meaning m s n) (window_meaning m' s n)
  window_kept Q named = (
    extent_kept,
    λ k lt. kept.1 (s + k) (omega arith),
    λ k lt q. kept.2 (s + k) (omega arith) (named k q),
  )

-- a sector of the window is not one of those around it
pub inside : (s e l k : ℕ) → l < e → (leb s k && ltb k (s + e)) ≡ false → k ≡ s + l → ⊥
inside s e l k lt out is = grind (arith, nat_tests)

-- a write into a sector of the window, done or refused, leaves the sectors around it
pub around_written : (m m' : Meaning) (s n l : ℕ) (b : List ℕ) (r : Result Unit DeviceFault) → l < extent m s n → WriteDone m m' (s + l) b r → around m' s n ≡ around m s n
around_written m m' s n l b (Ok u) lt done = around_kept (λ k. k ≡ s + l → ⊥) m m' s n done.1 (λ k out. inside s (extent m s n) l k lt out)
around_written m m' s n l b (Err f) lt done = around_kept (λ k. Unit {0}) m m' s n done.1 (λ k out. tt)

-- what the device below says no to, the window does in its own LSNs
pub window_fails : (m : Meaning) (s n l len : ℕ) (c : Cause) → l < extent m s n → Fails m (s + l) len c → Fails (window_meaning m s n) l len c
window_fails m s n l len Length lt no_one = no_one
window_fails m s n l len Range lt no_one = absurd (omega arith)
window_fails m s n l len Bad lt no_one = (no_one.0, lt, no_one.2)
