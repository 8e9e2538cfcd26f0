-- A stored name, read letter by letter.
use Rattle.std.proofs.Common.{◌≡◌, ℕ, ◌+◌, ◌%◌, ◌<◌, ◌≤◌, Bool, true, false, List, get_or, MatchBool, ap, ◌∙◌, inl, inr, arith}
use Rattle.std.proofs.lemmas.Bool.{cases_eq, cases_lt}
use Rattle.layout.specs.Names.{name_byte}
use Rattle.rules.specs.Rules.{StoredName}

-- whether one of the first n letters is no period
abbrev pub Proper : List ℕ → ℕ → Bool → Type 0
Proper xs n true = (j : ℕ) × (j < n) × (get_or xs j 0 % 128 ≡ 46 → ⊥)
Proper xs n false = (j : ℕ) → j < n → get_or xs j 0 % 128 ≡ 46

-- the first n bytes bear no mark, and are name bytes
pub record Spelt (xs : List ℕ) (n : ℕ) (proper : Bool) : Type 0 where
  pub plain : (j : ℕ) → j < n → get_or xs j 0 < 128
  pub letters : (j : ℕ) → j < n → name_byte (get_or xs j 0 % 128) ≡ true
  pub proper_is : Proper xs n proper

pub spelt_none : (xs : List ℕ) → Spelt xs 0 false
spelt_none xs = record { plain = λ j lt. absurd (omega arith); letters = λ j lt. absurd (omega arith); proper_is = λ j lt. absurd (omega arith) }

-- one letter more
pub proper_more : (xs : List ℕ) (n : ℕ) (p : Bool) → Proper xs n p → get_or xs n 0 % 128 ≡ 46 → Proper xs (n + 1) p
proper_more xs n true h e = (h.0, omega (arith, h.1), h.2)
proper_more xs n false h e = λ j lt. elim (cases_eq j n) [ inl same ↦ ap (λ i. get_or xs i 0 % 128) same ∙ e | inr ne ↦ h j (omega arith) ]

pub letter_more : (xs : List ℕ) (n : ℕ) (p : Bool) → Spelt xs n p → name_byte (get_or xs n 0 % 128) ≡ true → (j : ℕ) → j < n + 1 → name_byte (get_or xs j 0 % 128) ≡ true
letter_more xs n p s here j lt = elim (cases_eq j n) [ inl same ↦ ap (λ i. name_byte (get_or xs i 0 % 128)) same ∙ here | inr ne ↦ s.letters j (omega arith) ]

pub spelt_more : (xs : List ℕ) (n : ℕ) (p q : Bool) → Spelt xs n p → name_byte (get_or xs n 0 % 128) ≡ true → get_or xs n 0 < 128 → Proper xs (n + 1) q → Spelt xs (n + 1) q
spelt_more xs n p q s here low proper =
    record {
      plain = λ j lt. elim (cases_eq j n) [ inl same ↦ omega (arith, low, ap (λ i. get_or xs i 0) same) | inr ne ↦ s.plain j (omega arith) ];
      letters = letter_more xs n p s here;
      proper_is = proper;
    }

-- the mark is met: the name is stored exactly if it is proper
pub spelt_end : (xs : List ℕ) (n : ℕ) (p q : Bool) → n < 28 → Spelt xs n p → name_byte (get_or xs n 0 % 128) ≡ true → 128 ≤ get_or xs n 0 → Proper xs (n + 1) q → MatchBool q (StoredName xs) (StoredName xs → ⊥)
spelt_end xs n p true short s here high proper =
    record {
      last = n;
      short = short;
      mark = high;
      first = s.plain;
      letters = λ j le. letter_more xs n p s here j (omega arith);
      proper = (proper.0, omega (arith, proper.1), proper.2);
    }
spelt_end xs n p false short s here high proper = λ name.
    let at_most : name.last ≤ n = elim (cases_lt n name.last) [ inl lt ↦ absurd (omega (arith, name.first n lt)) | inr le ↦ le ] in
    name.proper.2 (proper name.proper.0 (omega (arith, name.proper.1)))

-- a byte that is no name byte, or no mark at all
pub spelt_wrong : (xs : List ℕ) (n : ℕ) (p : Bool) → Spelt xs n p → name_byte (get_or xs n 0 % 128) ≡ false → StoredName xs → ⊥
spelt_wrong xs n p s wrong name = elim (cases_lt name.last n) [
  | inl lt ↦ omega (arith, s.plain name.last lt, name.mark)
  | inr ge ↦ let right = name.letters n ge in let z : ◌≡◌ {A = ℕ} 0 1 = cc in omega arith
]

pub spelt_unmarked : (xs : List ℕ) (p : Bool) (n : ℕ) → 28 ≤ n → Spelt xs n p → StoredName xs → ⊥
spelt_unmarked xs p n le s name = omega (arith, s.plain name.last (omega (arith, name.short)), name.mark)
