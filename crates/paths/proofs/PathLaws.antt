-- Open paths in their places: what a change of one place does to the paths by number.
use Rattle.std.proofs.Common.{◌≡◌, ℕ, zero, suc, ◌+◌, ◌<◌, ◌≤◌, ◌≢◌, Bool, true, false, cond, eqb, ◌⊎◌, List, [], ◌∷◌, length, get_or, set, Some, None, Option, sym, refl, ap, ◌∙◌, subst, inl, inr, arith, get_or-set_other, get_or-set_same, eq-eqb, ne_eqb, drop}
use Rattle.std.proofs.lemmas.List.{at_drop_more}
use Rattle.std.proofs.lemmas.List.Recursion.{is_count_by}
use Rattle.std.specs.Bool.{MatchBool}
use Rattle.std.specs.List.{AllWithin, HoldsAt, count_by}
use Rattle.std.specs.Option.{MatchOption, is_some}
use Rattle.std.proofs.lemmas.Bool.{cases_eq}
use Rattle.paths.specs.Paths.{path_at, open_count, Numbered, First, Free, OpenOn, UpdatedOn}
use Rattle.paths.specs.declared.open_path.PathKind.TheVariants.{Update}
use Rattle.paths.specs.declared.open_path.OpenPath.{OpenPath}

-- a place has no path, or one with this number
abbrev pub Only : Option OpenPath → ℕ → Type 0
Only None n = Unit {0}
Only (Some p) n = p.number ≡ n

-- 1 where there is a path
abbrev pub one : Option OpenPath → ℕ
one None = 0
one (Some p) = 1

skip : (o : Option OpenPath) (ps : List (Option OpenPath)) (n i : ℕ) → (i ≡ n → ⊥) → Only o n → path_at (o ∷ ps) i ≡ path_at ps i
skip None ps n i ne is = refl
skip (Some p) ps n i ne is = ap (λ (b : Bool). cond b (Some p) (path_at ps i)) (ne_eqb p.number i (λ e. ne (sym e ∙ is)))

-- no place has the number
pub path_none : (ps : List (Option OpenPath)) (n : ℕ) → ((j : ℕ) (p : OpenPath) → j < length ps → get_or ps j None ≡ Some p → p.number ≡ n → ⊥) → path_at ps n ≡ None
path_none [] n h = refl
path_none (None ∷ ps) n h = path_none ps n (λ j p lt e. h (suc j) p (omega arith) e)
path_none (Some q ∷ ps) n h =
    ap (λ (b : Bool). cond b (Some q) (path_at ps n)) (ne_eqb q.number n (λ e. h 0 q (omega arith) refl e))
    ∙ path_none ps n (λ j p lt e. h (suc j) p (omega arith) e)

-- the first place that has it
pub path_first : (ps : List (Option OpenPath)) (n k : ℕ) (p : OpenPath) → get_or ps k None ≡ Some p → p.number ≡ n → ((j : ℕ) (q : OpenPath) → j < k → get_or ps j None ≡ Some q → q.number ≡ n → ⊥) → path_at ps n ≡ Some p
path_first [] n k p e is h = absurd (let z : ◌≡◌ {A = ℕ} 0 1 = cc in omega arith)
path_first (None ∷ ps) n zero p e is h = absurd (let z : ◌≡◌ {A = ℕ} 0 1 = cc in omega arith)
path_first (Some q ∷ ps) n zero p e is h =
    let same : q ≡ p = cc in
    ap (λ (b : Bool). cond b (Some q) (path_at ps n)) (eq-eqb q.number n (ap (λ (x : OpenPath). x.number) same ∙ is)) ∙ ap Some same
path_first (None ∷ ps) n (suc k) p e is h = path_first ps n k p e is (λ j q lt f. h (suc j) q (omega arith) f)
path_first (Some a ∷ ps) n (suc k) p e is h =
    ap (λ (b : Bool). cond b (Some a) (path_at ps n)) (ne_eqb a.number n (λ z. h 0 a (omega arith) refl z))
    ∙ path_first ps n k p e is (λ j q lt f. h (suc j) q (omega arith) f)

-- a place changes that had none or this number, and has none or this number: no other number changes
pub set_others : (ps : List (Option OpenPath)) (k n i : ℕ) (o : Option OpenPath) → (i ≡ n → ⊥) → Only (get_or ps k None) n → Only o n → path_at (set ps k o) i ≡ path_at ps i
set_others [] k n i o ne was is = refl
set_others (x ∷ ps) zero n i o ne was is = skip o ps n i ne is ∙ sym (skip x ps n i ne was)
set_others (None ∷ ps) (suc k) n i o ne was is = set_others ps k n i o ne was is
set_others (Some a ∷ ps) (suc k) n i o ne was is = ap (λ (r : Option OpenPath). cond (eqb a.number i) (Some a) r) (set_others ps k n i o ne was is)

-- how many are open after a place changed
pub count_set : (ps : List (Option OpenPath)) (k : ℕ) (o : Option OpenPath) → k < length ps → open_count (set ps k o) + one (get_or ps k None) ≡ open_count ps + one o
count_set [] k o lt = absurd (omega arith)
count_set (None ∷ ps) zero None lt = refl
count_set (None ∷ ps) zero (Some p) lt = omega arith
count_set (Some a ∷ ps) zero None lt = omega arith
count_set (Some a ∷ ps) zero (Some p) lt = omega arith
count_set (None ∷ ps) (suc k) o lt = count_set ps k o (omega arith)
count_set (Some a ∷ ps) (suc k) o lt = omega (arith, count_set ps k o (omega arith))

-- every place has a path
pub count_full : (ps : List (Option OpenPath)) → ((j : ℕ) → j < length ps → get_or ps j None ≡ None → ⊥) → open_count ps ≡ length ps
count_full [] h = refl
count_full (None ∷ ps) h = absurd (h 0 (omega arith) refl)
count_full (Some p ∷ ps) h = omega (arith, count_full ps (λ j lt e. h (suc j) (omega arith) e))

-- what a place has after a change
pub after_set : (ps : List (Option OpenPath)) (k j : ℕ) (o : Option OpenPath) (p : OpenPath) → k < length ps → get_or (set ps k o) j None ≡ Some p → ((j ≡ k) × (o ≡ Some p)) ⊎ ((j ≡ k → ⊥) × (get_or ps j None ≡ Some p))
after_set ps k j o p lt e = elim (cases_eq j k) [
  | inl q ↦ inl (q, sym (get_or-set_same ps k o None lt) ∙ ap (λ (i : ℕ). get_or (set ps k o) i None) (sym q) ∙ e)
  | inr ne ↦ inr (ne, sym (get_or-set_other ps k j o None ne) ∙ e)
]

-- numbers stay lawful where a place gets none, or a path whose number is lawful and no other's
pub numbered_set : (ps : List (Option OpenPath)) (opened opened' k : ℕ) (o : Option OpenPath) → k < length ps → opened ≤ opened'
    → ((p : OpenPath) → o ≡ Some p → (1 ≤ p.number) × (p.number ≤ opened'))
    → ((p q : OpenPath) (j : ℕ) → o ≡ Some p → (j ≡ k → ⊥) → get_or ps j None ≡ Some q → q.number ≡ p.number → ⊥)
    → Numbered ps opened → Numbered (set ps k o) opened'
numbered_set ps opened opened' k o lt more lawful alone n =
    record {
      low = λ j p e. elim (after_set ps k j o p lt e) [ inl h ↦ (lawful p h.1).0 | inr h ↦ n.low j p h.1 ];
      high = λ j p e. elim (after_set ps k j o p lt e) [ inl h ↦ (lawful p h.1).1 | inr h ↦ omega (arith, n.high j p h.1) ];
      apart = λ i j p q e f same. elim (after_set ps k i o p lt e) [
        | inl h ↦ elim (after_set ps k j o q lt f) [
          | inl g ↦ h.0 ∙ sym g.0
          | inr g ↦ absurd (alone p q j h.1 g.0 g.1 (sym same))
        ]
        | inr h ↦ elim (after_set ps k j o q lt f) [
          | inl g ↦ absurd (alone q p i g.1 h.0 h.1 same)
          | inr g ↦ n.apart i j p q h.1 g.1 same
        ]
      ];
    }

-- a loop over the places, one place further: no path before it is wanted, nor the one there
module _ (Wanted : OpenPath → Type 0) (ps : List (Option OpenPath)) (k : ℕ) (before : (j : ℕ) (p : OpenPath) → j < k → get_or ps j None ≡ Some p → Wanted p → ⊥) where
  pub past_none : get_or ps k None ≡ None → (j : ℕ) (p : OpenPath) → j < k + 1 → get_or ps j None ≡ Some p → Wanted p → ⊥
  past_none here j p lt e w = elim (cases_eq j k) [
    | inl q ↦ (let f : get_or ps k None ≡ Some p = ap (λ (i : ℕ). get_or ps i None) (sym q) ∙ e in let z : ◌≡◌ {A = ℕ} 0 1 = cc in omega arith)
    | inr ne ↦ before j p (omega arith) e w
  ]

  pub past_some : (a : OpenPath) → get_or ps k None ≡ Some a → (Wanted a → ⊥) → (j : ℕ) (p : OpenPath) → j < k + 1 → get_or ps j None ≡ Some p → Wanted p → ⊥
  past_some a here other j p lt e w = elim (cases_eq j k) [
    | inl q ↦ (let f : get_or ps k None ≡ Some p = ap (λ (i : ℕ). get_or ps i None) (sym q) ∙ e in let same : p ≡ a = cc in other (subst Wanted same w))
    | inr ne ↦ before j p (omega arith) e w
  ]

-- a place past the end has none
pub within : (ps : List (Option OpenPath)) (k : ℕ) (p : OpenPath) → get_or ps k None ≡ Some p → k < length ps
within [] k p e = absurd (let z : ◌≡◌ {A = ℕ} 0 1 = cc in omega arith)
within (x ∷ ps) zero p e = omega arith
within (x ∷ ps) (suc k) p e = omega (arith, within ps k p e)

-- the open ones, counted from the front
pub count_none : (ps : List (Option OpenPath)) (k : ℕ) → k < length ps → get_or ps k None ≡ None → open_count (drop k ps) ≡ open_count (drop (k + 1) ps)
count_none ps k lt e = at_drop_more open_count ps k None lt ∙ ap (λ (o : Option OpenPath). open_count (o ∷ drop (k + 1) ps)) e

pub count_some : (ps : List (Option OpenPath)) (k : ℕ) (p : OpenPath) → k < length ps → get_or ps k None ≡ Some p → open_count (drop k ps) ≡ 1 + open_count (drop (k + 1) ps)
count_some ps k p lt e = at_drop_more open_count ps k None lt ∙ ap (λ (o : Option OpenPath). open_count (o ∷ drop (k + 1) ps)) e

-- a place has a path that is wanted; it has none that is
abbrev pub Has : (OpenPath → Type 0) → Option OpenPath → Type 0
Has Wanted o = MatchOption o ⊥ Wanted

abbrev pub Lacks : (OpenPath → Type 0) → Option OpenPath → Type 0
Lacks Wanted o = MatchOption o (Unit {0}) (λ p. Wanted p → ⊥)

module _ (Wanted : OpenPath → Type 0) (ps : List (Option OpenPath)) where
  pub some_place : (k : ℕ) → HoldsAt (Has Wanted) ps k → (p : OpenPath) × (get_or ps k None ≡ Some p) × Wanted p
  some_place k h = path_of (get_or ps k None) refl (h None)
    where
      path_of : (o : Option OpenPath) → get_or ps k None ≡ o → Has Wanted o → (p : OpenPath) × (get_or ps k None ≡ Some p) × Wanted p
      path_of None e w = absurd w
      path_of (Some p) e w = (p, e, w)

  pub no_place : (n : ℕ) → AllWithin (Lacks Wanted) ps 0 n → (k : ℕ) (p : OpenPath) → k < n → get_or ps k None ≡ Some p → Wanted p → ⊥
  no_place n h k p lt e =
      let lacks : Lacks Wanted (Some p) = subst (Lacks Wanted) e (h k None (omega arith) lt) in
      lacks

-- what a search for the first path with a number tells
pub place_is : (ps : List (Option OpenPath)) (n : ℕ) (r : Option ℕ) → length ps ≡ 16
    → MatchOption r (AllWithin (Lacks (λ p. p.number ≡ n)) ps 0 (length ps)) (λ i. (i < length ps) × HoldsAt (Has (λ p. p.number ≡ n)) ps i × AllWithin (Lacks (λ p. p.number ≡ n)) ps 0 i)
    → MatchOption r (path_at ps n ≡ None) (First ps n)
place_is ps n None long h = path_none ps n (no_place (λ p. p.number ≡ n) ps (length ps) h)
place_is ps n (Some k) long h =
    let q = some_place (λ p. p.number ≡ n) ps k h.1 in
    record { within = omega arith; path = q.0; there = q.1; number = q.2; before = no_place (λ p. p.number ≡ n) ps k h.2 }

-- what a search for a place with no path tells
pub free_is : (ps : List (Option OpenPath)) (r : Option ℕ) → length ps ≡ 16
    → MatchOption r (AllWithin (λ o. o ≢ None) ps 0 (length ps)) (λ i. (i < length ps) × HoldsAt (λ o. o ≡ None) ps i × AllWithin (λ o. o ≢ None) ps 0 i)
    → MatchOption r (open_count ps ≡ 16) (Free ps)
free_is ps None long h = count_full ps (λ j lt. h j None (omega arith) lt) ∙ long
free_is ps (Some k) long h = (omega arith, h.1 None)

-- what a search for a path on a file tells
pub open_is : (ps : List (Option OpenPath)) (file : ℕ) (r : Bool)
    → MatchBool r ((k : ℕ) × (k < length ps) × HoldsAt (Has (λ p. p.descriptor ≡ file)) ps k) (AllWithin (Lacks (λ p. p.descriptor ≡ file)) ps 0 (length ps))
    → MatchBool r (OpenOn ps file) (OpenOn ps file → ⊥)
open_is ps file true h =
    let q = some_place (λ p. p.descriptor ≡ file) ps h.0 h.2 in
    record { place = h.0; path = q.0; there = q.1; same = q.2 }
open_is ps file false h = λ o. no_place (λ p. p.descriptor ≡ file) ps (length ps) h o.place o.path (within ps o.place o.path o.there) o.there o.same

pub updated_is : (ps : List (Option OpenPath)) (file : ℕ) (r : Bool)
    → MatchBool r ((k : ℕ) × (k < length ps) × HoldsAt (Has (λ p. (p.descriptor ≡ file) × (p.kind ≡ Update))) ps k) (AllWithin (Lacks (λ p. (p.descriptor ≡ file) × (p.kind ≡ Update))) ps 0 (length ps))
    → MatchBool r (UpdatedOn ps file) (UpdatedOn ps file → ⊥)
updated_is ps file true h =
    let q = some_place (λ p. (p.descriptor ≡ file) × (p.kind ≡ Update)) ps h.0 h.2 in
    record { place = h.0; path = q.0; there = q.1; same = q.2.0; update = q.2.1 }
updated_is ps file false h = λ o. no_place (λ p. (p.descriptor ≡ file) × (p.kind ≡ Update)) ps (length ps) h o.place o.path (within ps o.place o.path o.there) o.there (o.same, o.update)

-- the open ones are those places that have a path
pub count_is : (ps : List (Option OpenPath)) → open_count ps ≡ count_by is_some ps
count_is = is_count_by open_count is_some refl one_more
  where
    one_more : (o : Option OpenPath) (ps : List (Option OpenPath)) → open_count (o ∷ ps) ≡ cond (is_some o) (1 + open_count ps) (open_count ps)
    one_more None ps = refl
    one_more (Some p) ps = refl
