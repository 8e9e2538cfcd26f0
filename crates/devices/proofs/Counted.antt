-- What a search through the numbers from one to another tells.
use Rattle.std.proofs.Common.{◌≡◌, ℕ, ◌+◌, ◌-◌, ◌%◌, ◌<◌, ◌≤◌, Bool, true, false, Some, None, Option, refl, subst, arith}
use Rattle.std.specs.Bool.{Decides, MatchBool, IsTrue}
use Rattle.std.specs.Option.{IfSome, IsSomeAnd, option_map}
use Rattle.std.specs.Iterator.Runs.{Run, AnyItem, AllItems, ItemsCountUp, CallKeepsClosure, AnyItemGives, AllItemsGive}
use Rattle.std.specs.Fn.{Called}
use denote.Param.Members.{Mut}
use mathlib.Core.Bool.{not}
use Rattle.devices.specs.Geometry.{Suits}
use Rattle.devices.proofs.Interleave.{factor_le}

module _ {S : Type 0} {steps : S → Option ℕ → S → Type 0} (p : Run steps) (a b : ℕ) (up : ItemsCountUp p a b) where
  pub some_counted : (P : ℕ → Type 0) → AnyItem p P → (d : ℕ) × (a ≤ d) × P d
  some_counted P h = item (p.at h.0) (up.2 h.0) h.2
    where
      item : (o : Option ℕ) → IfSome o (λ x. (x ≡ a + h.0) × (x < b)) → IsSomeAnd o P → (d : ℕ) × (a ≤ d) × P d
      item None u w = absurd w
      item (Some x) u w = (x, omega arith, w)

  pub all_counted : (P : ℕ → Type 0) → p.whole ≡ true → AllItems p P → (d : ℕ) → a ≤ d → d < b → P d
  all_counted P whole h d low high =
      let len = up.1 whole in
      subst P (let e : a + (d - a) ≡ d = omega arith in e) (item (p.at (d - a)) (up.3 (d - a) (omega (arith, len))) (h (d - a)))
    where
      item : (o : Option ℕ) → option_map (λ y. y) o ≡ Some (a + (d - a)) → IfSome o P → P (a + (d - a))
      item None e w = absurd (let z : ◌≡◌ {A = ℕ} 0 1 = cc in omega arith)
      item (Some x) e w = let same : x ≡ a + (d - a) = cc in subst P same w

-- what `any` tells, of a test that is the closure g at f
pub any_counted : {S F : Type 0} {steps : S → Option ℕ → S → Type 0} (p : Run steps) (a b : ℕ) → ItemsCountUp p a b → (low high : ℕ) → a ≡ low → b ≡ high
    → (g : Mut F (ℕ × Unit {0}) Bool) (f : F) (r : Bool) (Yes No : ℕ → Type 0) → CallKeepsClosure g f
    → MatchBool r (AnyItemGives p g f true) (IsTrue p.whole × AllItemsGive p g f false)
    → ((x : ℕ) → Called g f (x, tt) true f → Yes x) → ((x : ℕ) → Called g f (x, tt) false f → No x)
    → MatchBool r ((d : ℕ) × (low ≤ d) × Yes d) ((d : ℕ) → low ≤ d → d < high → No d)
any_counted p a b up low high e u g f true Yes No keeps h its other =
    let q = some_counted p a b up (λ x. Called g f (x, tt) true f) (h keeps) in (q.0, omega (arith, q.1), its q.0 q.2)
any_counted p a b up low high e u g f false Yes No keeps h its other = λ d from to.
    other d (all_counted p a b up (λ x. Called g f (x, tt) false f) h.0 (h.1 keeps) d (omega arith) (omega arith))

-- a factor of both
abbrev pub Shared : ℕ → ℕ → ℕ → Type 0
Shared k s d = (k % d ≡ 0) × (s % d ≡ 0)

pub suits_is : (k s : ℕ) → 1 ≤ k → k ≤ s → (r : Bool)
    → MatchBool r ((d : ℕ) × (2 ≤ d) × Shared k s d) ((d : ℕ) → 2 ≤ d → d < k + 1 → Shared k s d → ⊥) → Decides (not r) (Suits k s)
suits_is k s low le true h = (λ z. absurd (let y : ◌≡◌ {A = ℕ} 0 1 = cc in omega arith), λ u. absurd (u.2 h.0 (omega arith) h.2.0 h.2.1))
suits_is k s low le false h = (λ z. (low, le, λ d lt x y. h d (omega arith) (omega (arith, factor_le d k low x)) (x, y)), λ u. refl)
