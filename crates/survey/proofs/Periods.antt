-- Stored names such as those of "." and "..", at the front of a slot.
use Rattle.std.proofs.Common.{◌≡◌, ℕ, ◌+◌, ◌-◌, ◌<◌, ◌≤◌, Bool, true, false, cond, eqb, ltb, List, [], ◌∷◌, length, get_or, take, MatchBool, sym, refl, ap, ◌∙◌, ap₂, inl, inr, arith, eq-eqb, ne_eqb, codes}
use Rattle.std.proofs.lemmas.List.{length-take-le, get_or-take, take-take}
use Rattle.std.proofs.lemmas.Bool.{cases_eq, cases_lt}
use Rattle.std.proofs.lemmas.Bool.Decides.{nat_tests}
use Rattle.layout.specs.Directory.{empty, entry, slot, stored_slot}
use Rattle.layout.specs.Names.{name_of}
use Rattle.survey.specs.Visiting.{MarkedName}

not_none : (y : ℕ) (ys : List ℕ) → name_of (y ∷ ys) ≡ [] → ⊥
not_none y ys = either (ltb y 128)
  where
    either : (b : Bool) → cond b (y ∷ name_of ys) ((y - 128) ∷ []) ≡ [] → ⊥
    either true e = let z : ◌≡◌ {A = ℕ} 0 1 = cc in omega arith
    either false e = let z : ◌≡◌ {A = ℕ} 0 1 = cc in omega arith

-- a name of one letter: its byte is marked
one_letter : (x y : ℕ) (ys : List ℕ) (c : ℕ) → name_of (x ∷ y ∷ ys) ≡ c ∷ [] → x ≡ c + 128
one_letter x y ys c e = elim (cases_lt x 128) [
  | inl low ↦
      let test : ltb x 128 ≡ true = grind (arith, nat_tests) in
      let f : x ∷ name_of (y ∷ ys) ≡ c ∷ [] = sym (ap (λ b. cond b (x ∷ name_of (y ∷ ys)) ((x - 128) ∷ [])) test) ∙ e in
      let none : name_of (y ∷ ys) ≡ [] = cc in
      absurd (not_none y ys none)
  | inr high ↦
      let test : ltb x 128 ≡ false = grind (arith, nat_tests) in
      let f : (x - 128) ∷ [] ≡ c ∷ [] = sym (ap (λ b. cond b (x ∷ name_of (y ∷ ys)) ((x - 128) ∷ [])) test) ∙ e in
      let same : x - 128 ≡ c = cc in
      omega arith
]

one_byte : (x : ℕ) (ys : List ℕ) → 128 ≤ x → name_of (x ∷ ys) ≡ (x - 128) ∷ []
one_byte x ys high = let test : ltb x 128 ≡ false = grind (arith, nat_tests) in rw test refl

plain_byte : (x : ℕ) (ys : List ℕ) → x < 128 → name_of (x ∷ ys) ≡ x ∷ name_of ys
plain_byte x ys low = let test : ltb x 128 ≡ true = grind (arith, nat_tests) in rw test refl

-- a longer list bears a stored name exactly if it begins with it
pub front_is : (ns xs : List ℕ) → MarkedName ns → take (length ns) xs ≡ ns → name_of xs ≡ name_of ns
front_is [] xs ok e = absurd ok
front_is (n ∷ ns) [] ok e = absurd (let z : ◌≡◌ {A = ℕ} 0 1 = cc in omega arith)
front_is (n ∷ []) (x ∷ xs) ok e =
    let first : x ≡ n = cc in
    one_byte x xs (omega arith) ∙ ap (λ i. (i - 128) ∷ []) first ∙ sym (one_byte n [] ok)
front_is (n ∷ m ∷ ns) (x ∷ xs) ok e =
    let first : x ≡ n = cc in
    let rest : take (length (m ∷ ns)) xs ≡ m ∷ ns = cc in
    plain_byte x xs (omega (arith, ok.1)) ∙ ap₂ ◌∷◌ first (front_is (m ∷ ns) xs ok.2 rest) ∙ sym (plain_byte n (m ∷ ns) ok.1)

pub front_only : (ns xs : List ℕ) → MarkedName ns → length ns < length xs → name_of xs ≡ name_of ns → take (length ns) xs ≡ ns
front_only [] xs ok long e = absurd ok
front_only (n ∷ ns) [] ok long e = absurd (omega arith)
front_only (n ∷ []) (x ∷ []) ok long e = absurd (omega arith)
front_only (n ∷ []) (x ∷ y ∷ xs) ok long e =
    let first : x ≡ n = omega (arith, ok, one_letter x y xs (n - 128) (e ∙ one_byte n [] ok)) in
    ap (λ i. i ∷ []) first
front_only (n ∷ m ∷ ns) (x ∷ xs) ok long e =
    let stored = plain_byte n (m ∷ ns) ok.1 in
    elim (cases_lt x 128) [
      | inl low ↦
          let f : x ∷ name_of xs ≡ n ∷ name_of (m ∷ ns) = sym (plain_byte x xs low) ∙ e ∙ stored in
          let first : x ≡ n = cc in
          let rest : name_of xs ≡ name_of (m ∷ ns) = cc in
          ap₂ ◌∷◌ first (front_only (m ∷ ns) xs ok.2 (omega arith) rest)
      | inr high ↦
          let f : (x - 128) ∷ [] ≡ n ∷ name_of (m ∷ ns) = sym (one_byte x xs high) ∙ e ∙ stored in
          let none : name_of (m ∷ ns) ≡ [] = cc in
          absurd (not_none m ns none)
    ]

-- the names "." and "..", by the bytes of a name of at least three
begins_one : (xs : List ℕ) (a : ℕ) → 1 ≤ length xs → get_or xs 0 0 ≡ a → take 1 xs ≡ a ∷ []
begins_one [] a long e = absurd (omega arith)
begins_one (x ∷ xs) a long e = ap (λ n. n ∷ []) e

begins_two : (xs : List ℕ) (a b : ℕ) → 2 ≤ length xs → get_or xs 0 0 ≡ a → get_or xs 1 0 ≡ b → take 2 xs ≡ a ∷ b ∷ []
begins_two [] a b long e f = absurd (omega arith)
begins_two (x ∷ xs) a b long e f = ap₂ ◌∷◌ e (begins_one xs b (omega arith) f)

first_two : (xs : List ℕ) (a b : ℕ) → take 2 xs ≡ a ∷ b ∷ [] → (get_or xs 0 0 ≡ a) × (get_or xs 1 0 ≡ b)
first_two xs a b e = (
  sym (get_or-take 2 xs 0 0 (omega arith)) ∙ ap (λ l. get_or l 0 0) e,
  sym (get_or-take 2 xs 1 0 (omega arith)) ∙ ap (λ l. get_or l 1 0) e,
)

here_stored : MarkedName (174 ∷ [])
here_stored = omega arith

up_stored : MarkedName (46 ∷ 174 ∷ [])
up_stored = (omega arith, omega arith, omega arith)

pub here_is : (xs : List ℕ) → 3 ≤ length xs → get_or xs 0 0 ≡ 174 → name_of xs ≡ codes "."
here_is xs long e = front_is (174 ∷ []) xs here_stored (begins_one xs 174 (omega arith) e)

pub here_only : (xs : List ℕ) → 3 ≤ length xs → name_of xs ≡ codes "." → get_or xs 0 0 ≡ 174
here_only xs long e = sym (get_or-take 1 xs 0 0 (omega arith)) ∙ ap (λ l. get_or l 0 0) (front_only (174 ∷ []) xs here_stored (omega arith) e)

pub up_is : (xs : List ℕ) → 3 ≤ length xs → get_or xs 0 0 ≡ 46 → get_or xs 1 0 ≡ 174 → name_of xs ≡ codes ".."
up_is xs long e f = front_is (46 ∷ 174 ∷ []) xs up_stored (begins_two xs 46 174 (omega arith) e f)

pub up_only : (xs : List ℕ) → 3 ≤ length xs → name_of xs ≡ codes ".." → (get_or xs 0 0 ≡ 46) × (get_or xs 1 0 ≡ 174)
up_only xs long e = first_two xs 46 174 (front_only (46 ∷ 174 ∷ []) xs up_stored (omega arith) e)

first_used : (ns : List ℕ) → MarkedName ns → get_or ns 0 0 ≡ 0 → ⊥
first_used [] ok e = ok
first_used (n ∷ []) ok e = omega (arith, ok, e)
first_used (n ∷ m ∷ ns) ok e = omega (arith, ok.0, e)

-- a slot that has a name, by its name and its LSN
pub slot_has : (xs n : List ℕ) (l : ℕ) → (get_or xs 0 0 ≡ 0 → ⊥) → name_of (stored_slot xs).name ≡ n → (stored_slot xs).lsn ≡ l → slot xs ≡ entry n l
slot_has xs n l used name lsn = rw (ne_eqb (get_or xs 0 0) 0 used) (ap₂ entry name lsn)

pub slot_only : (xs n : List ℕ) (l : ℕ) → slot xs ≡ entry n l → (name_of (stored_slot xs).name ≡ n) × ((stored_slot xs).lsn ≡ l)
slot_only xs n l = either (eqb (get_or xs 0 0) 0)
  where
    either : (b : Bool) → cond b empty (entry (name_of (stored_slot xs).name) (stored_slot xs).lsn) ≡ entry n l → (name_of (stored_slot xs).name ≡ n) × ((stored_slot xs).lsn ≡ l)
    either true e = absurd (let z : ◌≡◌ {A = ℕ} 0 1 = cc in omega arith)
    either false e = (cc, cc)

-- a slot of 32 bytes and a stored name, by the slot's first bytes and its LSN
module _ (xs ns : List ℕ) (l : ℕ) (stored : MarkedName ns) (short : length ns < 28) (long : length xs ≡ 32) where
  front : take (length ns) (take 28 xs) ≡ take (length ns) xs
  front = take-take (length ns) 28 xs (omega arith)

  used : take (length ns) xs ≡ ns → get_or xs 0 0 ≡ 0 → ⊥
  used same none = first_used ns stored (ap (λ l. get_or l 0 0) (sym same) ∙ get_or-take (length ns) xs 0 0 (some ns stored) ∙ none)
    where
      some : (ns : List ℕ) → MarkedName ns → 0 < length ns
      some [] ok = absurd ok
      some (n ∷ ns) ok = omega arith

  pub slot_named : (n : ℕ) → take (length ns) xs ≡ ns → n ≡ (stored_slot xs).lsn → MatchBool (eqb n l) (slot xs ≡ entry (name_of ns) l) (slot xs ≡ entry (name_of ns) l → ⊥)
  unfolding stored_slot
  slot_named n same lsn = elim (cases_eq n l) [
    | inl e ↦ rw (eq-eqb n l e) (slot_has xs (name_of ns) l (used same) (front_is ns (take 28 xs) stored (front ∙ same)) (sym lsn ∙ e))
    | inr ne ↦ rw (ne_eqb n l ne) (λ e. ne (lsn ∙ (slot_only xs (name_of ns) l e).1))
  ]

  pub slot_not_named : (take (length ns) xs ≡ ns → ⊥) → slot xs ≡ entry (name_of ns) l → ⊥
  unfolding stored_slot
  slot_not_named ne e = ne (sym front ∙ front_only ns (take 28 xs) stored (omega (arith, length-take-le 28 xs (omega arith))) (slot_only xs (name_of ns) l e).0)

-- the same of the names "." and ".."
module _ (xs : List ℕ) (l : ℕ) (long : length xs ≡ 32) where
  pub slot_here : (n : ℕ) → get_or xs 0 0 ≡ 174 → n ≡ (stored_slot xs).lsn → MatchBool (eqb n l) (slot xs ≡ entry (codes ".") l) (slot xs ≡ entry (codes ".") l → ⊥)
  slot_here n e lsn = slot_named xs (174 ∷ []) l here_stored (omega arith) long n (begins_one xs 174 (omega arith) e) lsn

  pub slot_not_here : (get_or xs 0 0 ≡ 174 → ⊥) → slot xs ≡ entry (codes ".") l → ⊥
  slot_not_here ne = slot_not_named xs (174 ∷ []) l here_stored (omega arith) long (λ e. ne (sym (get_or-take 1 xs 0 0 (omega arith)) ∙ ap (λ t. get_or t 0 0) e))

  pub slot_up : (n : ℕ) → get_or xs 0 0 ≡ 46 → get_or xs 1 0 ≡ 174 → n ≡ (stored_slot xs).lsn → MatchBool (eqb n l) (slot xs ≡ entry (codes "..") l) (slot xs ≡ entry (codes "..") l → ⊥)
  slot_up n e f lsn = slot_named xs (46 ∷ 174 ∷ []) l up_stored (omega arith) long n (begins_two xs 46 174 (omega arith) e f) lsn

  pub slot_not_up : ((get_or xs 0 0 ≡ 46) × (get_or xs 1 0 ≡ 174) → ⊥) → slot xs ≡ entry (codes "..") l → ⊥
  slot_not_up ne = slot_not_named xs (46 ∷ 174 ∷ []) l up_stored (omega arith) long (λ e. ne (first_two xs 46 174 e))
