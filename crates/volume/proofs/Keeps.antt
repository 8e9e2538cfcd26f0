-- What stays of a device, over one change and then another.
use Rattle.std.proofs.Common.{ℕ, ◌∙◌, arith, ◌≡◌, ◌<◌, false}
use Rattle.devices.specs.Meaning.{Meaning, Kept}

pub kept_then : (P Q : ℕ → Type 0) (a b c : Meaning) → Kept P a b → Kept Q b c → Kept (λ k. P k × Q k) a c
kept_then P Q a b c x y = (
  y.0 ∙ x.0,
  λ k h. y.1 k (omega (arith, x.0)) ∙ x.1 k h,
  λ k h p. y.2 k (omega (arith, x.0)) p.1 ∙ x.2 k h p.0,
)

-- of what stays, some stays
pub kept_of : (P Q : ℕ → Type 0) (a b : Meaning) → ((k : ℕ) → Q k → P k) → Kept P a b → Kept Q a b
kept_of P Q a b of x = (x.0, x.1, λ k h q. x.2 k h (of k q))

-- a good sector stays good
pub kept_good : (P : ℕ → Type 0) (a b : Meaning) (k : ℕ) → Kept P a b → k < a.count → a.bad k ≡ false → b.bad k ≡ false
kept_good P a b k x h g = x.1 k h ∙ g
