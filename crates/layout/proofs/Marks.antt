-- A name as it is stored.
use Rattle.std.proofs.Common.{◌≡◌, ℕ, suc, ◌+◌, ◌-◌, ◌<◌, ◌≤◌, true, false, ltb, List, [], ◌∷◌, ◌++◌, length, get_or, take, drop, set, sym, refl, ap, ◌∙◌, arith, length-set}
use Rattle.std.proofs.lemmas.List.{set-append_left, set-append_right, length-take-le}
use Rattle.layout.specs.Bytes.{over}
use Rattle.std.proofs.lemmas.Bool.Decides.{nat_tests}
use Rattle.layout.specs.Names.{marked, name_of}

-- the mark is set on the last byte alone
pub marked_set : (xs : List ℕ) → 0 < length xs → marked xs ≡ set xs (length xs - 1) (get_or xs (length xs - 1) 0 + 128)
marked_set [] h = absurd (omega arith)
marked_set (x ∷ []) h = refl
marked_set (x ∷ y ∷ xs) h =
    let rest = marked_set (y ∷ xs) (omega arith) in
    let e : length (x ∷ y ∷ xs) - 1 ≡ suc (length (y ∷ xs) - 1) = omega arith in
    rw e (ap (λ l. x ∷ l) rest)

pub length_marked : (xs : List ℕ) → length (marked xs) ≡ length xs
length_marked [] = refl
length_marked (x ∷ []) = refl
length_marked (x ∷ y ∷ xs) = ap suc (length_marked (y ∷ xs))

-- a byte of what was laid over is changed
pub set-over : (p i v : ℕ) (bs xs : List ℕ) → p ≤ length xs → i < length bs → set (over p bs xs) (p + i) v ≡ over p (set bs i v) xs
unfolding over
set-over p i v bs xs fits lt =
    set-append_right (take p xs) (bs ++ drop (p + length bs) xs) p (p + i) v (length-take-le p xs fits) (omega arith)
    ∙ ap (λ j. take p xs ++ set (bs ++ drop (p + length bs) xs) j v) (omega arith)
    ∙ ap (λ t. take p xs ++ t) (set-append_left bs (drop (p + length bs) xs) i v lt)
    ∙ ap (λ n. take p xs ++ (set bs i v ++ drop (p + n) xs)) (sym (length-set bs i v))

-- a name is laid, and then its last byte is marked
pub mark_over : (p : ℕ) (bs xs : List ℕ) → p ≤ length xs → 0 < length bs → set (over p bs xs) (p + (length bs - 1)) (get_or bs (length bs - 1) 0 + 128) ≡ over p (marked bs) xs
mark_over p bs xs fits some =
    set-over p (length bs - 1) _ bs xs fits (omega arith) ∙ ap (λ n. over p n xs) (sym (marked_set bs some))

-- the letters of a stored name, whatever stands behind it
pub name_of_marked : (xs zs : List ℕ) → 0 < length xs → ((k : ℕ) → k < length xs → get_or xs k 0 < 128) → name_of (marked xs ++ zs) ≡ xs
name_of_marked [] zs some plain = absurd (omega arith)
name_of_marked (x ∷ []) zs some plain =
    let high : ltb (x + 128) 128 ≡ false = grind (arith, nat_tests) in
    let less : (x + 128) - 128 ≡ x = omega arith in
    rw (high, less)
name_of_marked (x ∷ y ∷ xs) zs some plain =
    let first : x < 128 = plain 0 (omega arith) in
    let low : ltb x 128 ≡ true = grind (arith, nat_tests) in
    let rest = name_of_marked (y ∷ xs) zs (omega arith) (λ k lt. plain (suc k) (omega arith)) in
    rw low (ap (λ l. x ∷ l) rest)
