-- A stored name, and what stands behind its mark.
use Rattle.std.proofs.Common.{◌≡◌, ℕ, zero, suc, ◌+◌, ◌-◌, ◌<◌, ◌≤◌, Bool, true, false, cond, ltb, List, [], ◌∷◌, ◌++◌, length, get_or, take, replicate, sym, refl, ap, ◌∙◌, inl, inr, arith, set, ap₂}
use Rattle.std.proofs.lemmas.List.{get_or_past, length-take-le, drop-replicate, append_assoc, set-append_right, take_more}
use Rattle.std.proofs.lemmas.Bool.{cases_lt}
use Rattle.std.proofs.lemmas.Bool.Decides.{nat_tests}
use Rattle.layout.specs.Bytes.{over}
use Rattle.layout.specs.Directory.{slot_name}
use Rattle.layout.specs.Names.{marked, name_of}
use Rattle.rules.specs.Rules.{StoredName}

-- a name is not empty
some : (xs : List ℕ) → 0 < length xs → 0 < length (name_of xs)
some [] pos = absurd (omega arith)
some (y ∷ ys) pos = either (ltb y 128) (name_of ys)
  where
    either : (b : Bool) (l : List ℕ) → 0 < length (cond b (y ∷ l) ((y - 128) ∷ []))
    either true l = omega arith
    either false l = omega arith

more : (x : ℕ) (ys zs : List ℕ) → 0 < length ys → marked ys ≡ zs → marked (x ∷ ys) ≡ x ∷ zs
more x [] zs pos e = absurd (omega arith)
more x (y ∷ ys) zs pos e = ap (λ l. x ∷ l) e

-- a name that ends at the place n, marked again
pub marked_back : (xs : List ℕ) (n : ℕ) → n < length xs → ((j : ℕ) → j < n → get_or xs j 0 < 128) → 128 ≤ get_or xs n 0 → marked (name_of xs) ≡ take (n + 1) xs
marked_back [] n lt plain high = absurd (omega arith)
marked_back (x ∷ xs) zero lt plain high =
    let test : ltb x 128 ≡ false = grind (arith, nat_tests) in
    let back : (x - 128) + 128 ≡ x = omega arith in
    rw (test, back) refl
marked_back (x ∷ xs) (suc n) lt plain high =
    let low : x < 128 = plain 0 (omega arith) in
    let test : ltb x 128 ≡ true = grind (arith, nat_tests) in
    let next : suc n + 1 ≡ suc (n + 1) = omega arith in
    let rest = marked_back xs n (omega arith) (λ j less. plain (suc j) (omega arith)) high in
    rw (test, next) (more x (name_of xs) (take (n + 1) xs) (some xs (omega arith)) rest)

-- the first i bytes of xs, and zeros
pub filled_more : (xs : List ℕ) (i : ℕ) → length xs ≡ 28 → i < 28 → set (take i xs ++ replicate (28 - i) 0) i (get_or xs i 0) ≡ take (i + 1) xs ++ replicate (28 - (i + 1)) 0
filled_more xs i long lt =
    let zs : List ℕ = replicate (28 - i) 0 in
    let left : 28 - i ≡ suc (28 - (i + 1)) = omega arith in
    let none : i - i ≡ 0 = omega arith in
    let v : ℕ = get_or xs i 0 in
    let r : List ℕ = replicate (28 - (i + 1)) 0 in
    let first : set zs (i - i) v ≡ v ∷ r = ap₂ (λ (n j : ℕ). set (replicate {A = ℕ} n 0) j v) left none in
    set-append_right (take i xs) zs i i v (length-take-le i xs (omega arith)) (omega arith)
    ∙ ap (λ l. take i xs ++ l) first
    ∙ sym (append_assoc (take i xs) (v ∷ []) r)
    ∙ ap (λ l. l ++ r) (sym (take_more xs i 0 (omega arith)))

-- the first bytes of a name, and zeros
pub filled_name : (bs : List ℕ) (n : ℕ) → length bs ≡ n → n ≤ 28 → bs ++ replicate (28 - n) 0 ≡ slot_name bs
unfolding over
filled_name bs n long le =
    ap (λ l. bs ++ l) (ap (λ k. replicate {A = ℕ} k 0) (omega arith) ∙ sym (drop-replicate {X = ℕ} (0 + length bs) 28 0))

-- a name that is cut behind its mark is the same name
pub name_cut : (xs zs : List ℕ) (n : ℕ) → n < length xs → ((j : ℕ) → j < n → get_or xs j 0 < 128) → 128 ≤ get_or xs n 0 → name_of (take (n + 1) xs ++ zs) ≡ name_of xs
name_cut [] zs n lt plain high = absurd (omega arith)
name_cut (x ∷ xs) zs zero lt plain high =
    let test : ltb x 128 ≡ false = grind (arith, nat_tests) in
    rw test refl
name_cut (x ∷ xs) zs (suc n) lt plain high =
    let low : x < 128 = plain 0 (omega arith) in
    let test : ltb x 128 ≡ true = grind (arith, nat_tests) in
    let next : suc n + 1 ≡ suc (n + 1) = omega arith in
    rw (next, test) (ap (λ l. x ∷ l) (name_cut xs zs n (omega arith) (λ j less. plain (suc j) (omega arith)) high))

-- the mark stands within the bytes
pub mark_inside : (xs : List ℕ) (n : ℕ) → 128 ≤ get_or xs n 0 → n < length xs
mark_inside xs n high = elim (cases_lt n (length xs)) [ inl lt ↦ lt | inr le ↦ absurd (omega (arith, get_or_past xs n 0 le)) ]

-- what was tidied has the same name
pub tidied_name : (xs : List ℕ) → StoredName xs → name_of (slot_name (marked (name_of xs))) ≡ name_of xs
tidied_name xs s =
    let n = s.last in
    let inside = mark_inside xs n s.mark in
    let cut : length (take (n + 1) xs) ≡ n + 1 = length-take-le (n + 1) xs (omega arith) in
    ap (λ l. name_of (slot_name l)) (marked_back xs n inside s.first s.mark)
    ∙ ap name_of (sym (filled_name (take (n + 1) xs) (n + 1) cut (omega (arith, s.short))))
    ∙ name_cut xs (replicate (28 - (n + 1)) 0) n inside s.first s.mark
