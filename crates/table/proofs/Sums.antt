-- Sums over the numbers below a bound.
use Rattle.std.proofs.Common.{◌≡◌, ℕ, zero, suc, ◌+◌, ◌<◌, ◌≤◌, refl, inl, inr, arith}
use Rattle.std.proofs.lemmas.Bool.{cases_eq, cases_lt}
use Rattle.table.specs.Counts.{sum}

pub sum_same : (f g : ℕ → ℕ) (n : ℕ) → ((l : ℕ) → l < n → g l ≡ f l) → sum g n ≡ sum f n
unfolding sum
sum_same f g zero h = refl
sum_same f g (suc n) h = let ih = sum_same f g n (λ l b. h l (omega arith)) in omega (arith, h n (omega arith))

pub sum_zero : (f : ℕ → ℕ) (n : ℕ) → ((l : ℕ) → l < n → f l ≡ 0) → sum f n ≡ 0
unfolding sum
sum_zero f zero h = refl
sum_zero f (suc n) h = let ih = sum_zero f n (λ l b. h l (omega arith)) in omega (arith, h n (omega arith))

-- one place changes
pub sum-put : (f g : ℕ → ℕ) (n x : ℕ) → x < n → ((l : ℕ) → l < n → (l ≡ x → ⊥) → g l ≡ f l) → sum g n + f x ≡ sum f n + g x
unfolding sum
sum-put f g zero x lt h = omega arith
sum-put f g (suc n) x lt h = elim (cases_eq n x) [
  | inl e ↦ rw (← e) (let s = sum_same f g n (λ l b. h l (omega arith) (λ q. omega arith)) in omega arith)
  | inr ne ↦ let ih = sum-put f g n x (omega arith) (λ l b. h l (omega arith)) in omega (arith, h n (omega arith) ne)
]

-- two places change
pub sum_two : (f g : ℕ → ℕ) (n x y : ℕ) → x < n → y < n → (x ≡ y → ⊥) → ((l : ℕ) → l < n → (l ≡ x → ⊥) → (l ≡ y → ⊥) → g l ≡ f l) → sum g n + f x + f y ≡ sum f n + g x + g y
unfolding sum
sum_two f g zero x y ltx lty ne h = omega arith
sum_two f g (suc n) x y ltx lty ne h = elim (cases_eq n x) [
  | inl e ↦ rw (← e) (let s = sum-put f g n y (omega arith) (λ l b ny. h l (omega arith) (λ q. omega arith) ny) in omega arith)
  | inr nx ↦ elim (cases_eq n y) [
    | inl e ↦ rw (← e) (let s = sum-put f g n x (omega arith) (λ l b nx. h l (omega arith) nx (λ q. omega arith)) in omega arith)
    | inr ny ↦ let ih = sum_two f g n x y (omega arith) (omega arith) ne (λ l b. h l (omega arith)) in omega (arith, h n (omega arith) nx ny)
  ]
]

-- each place is in the sum, and so are two of them
pub sum-at : (f : ℕ → ℕ) (n x : ℕ) → x < n → f x ≤ sum f n
unfolding sum
sum-at f zero x lt = omega arith
sum-at f (suc n) x lt = elim (cases_eq n x) [ inl e ↦ rw (← e) (omega arith) | inr ne ↦ let ih = sum-at f n x (omega arith) in omega arith ]

pub sum_pair : (f : ℕ → ℕ) (n x y : ℕ) → x < n → y < n → (x ≡ y → ⊥) → f x + f y ≤ sum f n
unfolding sum
sum_pair f zero x y ltx lty ne = omega arith
sum_pair f (suc n) x y ltx lty ne = elim (cases_eq n x) [
  | inl e ↦ rw (← e) (let s = sum-at f n y (omega arith) in omega arith)
  | inr nx ↦ elim (cases_eq n y) [
    | inl e ↦ rw (← e) (let s = sum-at f n x (omega arith) in omega arith)
    | inr ny ↦ let ih = sum_pair f n x y (omega arith) (omega arith) ne in omega arith
  ]
]

-- what is in the sum is at some place
pub sum_some : (f : ℕ → ℕ) (n : ℕ) → 0 < sum f n → (l : ℕ) × (l < n) × (0 < f l)
unfolding sum
sum_some f zero pos = absurd (omega arith)
sum_some f (suc n) pos = elim (cases_lt 0 (f n)) [
  | inl here ↦ (n, omega arith, here)
  | inr none ↦ let r = sum_some f n (omega arith) in (r.0, omega (arith, r.1), r.2)
]

-- the same of any place, where there is nothing from n on
pub sum_any : (f : ℕ → ℕ) (n : ℕ) → ((l : ℕ) → n ≤ l → f l ≡ 0) → (x : ℕ) → f x ≤ sum f n
sum_any f n out x = elim (cases_lt x n) [ inl lt ↦ sum-at f n x lt | inr le ↦ omega (arith, out x le) ]

pub sum_both : (f : ℕ → ℕ) (n : ℕ) → ((l : ℕ) → n ≤ l → f l ≡ 0) → (x y : ℕ) → (x ≡ y → ⊥) → f x + f y ≤ sum f n
sum_both f n out x y ne = elim (cases_lt x n) [
  | inl ltx ↦ elim (cases_lt y n) [ inl lty ↦ sum_pair f n x y ltx lty ne | inr le ↦ omega (arith, out y le, sum-at f n x ltx) ]
  | inr le ↦ omega (arith, out x le, sum_any f n out y)
]
