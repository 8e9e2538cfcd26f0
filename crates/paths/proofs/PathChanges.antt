-- What adding, moving and removing a path does to the open paths by number.
use Rattle.std.proofs.Common.{◌≡◌, ℕ, ◌+◌, ◌<◌, ◌≢◌, Bool, true, false, List, length, get_or, set, Some, None, Option, sym, refl, ap, ◌∙◌, subst, inl, inr, arith, get_or-set_other, get_or-set_same}
use Rattle.std.specs.Bool.{then_some}
use Rattle.std.specs.Option.{MatchOption}
use Rattle.paths.specs.Paths.{path_at, if_kind, of_kind, First, Free, opened_path, Added, at_position, if_open, Moved, Removed}
use Rattle.paths.specs.declared.open_path.OpenPath.{OpenPath}
use Rattle.paths.specs.declared.open_path.PathKind.{PathKind}
use Rattle.paths.specs.declared.open_path.PathKind.TheVariants.{Read, Update}
use Rattle.paths.proofs.PathLaws.{Only, one, path_none, path_first, set_others, count_set, after_set, numbered_set, within}

-- the kind of a path is asked
pub same_kind : (p : OpenPath) (kind : PathKind) (k : PathKind) → p.kind ≡ k → k ≡ kind → Some p ≡ if_kind kind p p.kind
same_kind p Read Read e f = ap (if_kind Read p) (sym e)
same_kind p Read Update e f = absurd (let z : ◌≡◌ {A = ℕ} 0 1 = cc in omega arith)
same_kind p Update Read e f = absurd (let z : ◌≡◌ {A = ℕ} 0 1 = cc in omega arith)
same_kind p Update Update e f = ap (if_kind Update p) (sym e)

pub other_kind : (p : OpenPath) (kind : PathKind) (k : PathKind) → p.kind ≡ k → (k ≡ kind → ⊥) → None ≡ if_kind kind p p.kind
other_kind p Read Read e f = absurd (f refl)
other_kind p Read Update e f = ap (if_kind Read p) (sym e)
other_kind p Update Read e f = ap (if_kind Update p) (sym e)
other_kind p Update Update e f = absurd (f refl)

-- the path is kept where the kind asked is its own; Tells is what the test told of a path
pub kind_asked : (Tells : OpenPath → Bool → Type 0) (kind : PathKind) (o : Option OpenPath) (p : OpenPath) (r : Option OpenPath) → o ≡ Some p
    → MatchOption o (r ≡ None) (λ x. (b : Bool) × Tells x b × (r ≡ then_some b x))
    → (Tells p true → p.kind ≡ kind) → (Tells p false → p.kind ≢ kind) → r ≡ of_kind kind (Some p)
kind_asked Tells kind o p r is told its other =
    let h = rw is at told in
    h.2 ∙ asked h.0 h.1
  where
    asked : (b : Bool) → Tells p b → then_some b p ≡ of_kind kind (Some p)
    asked true t = same_kind p kind p.kind refl (its t)
    asked false t = other_kind p kind p.kind refl (other t)

-- the first place with a number has the path
pub first_is : (ps : List (Option OpenPath)) (n k : ℕ) (p : OpenPath) → First ps n k → get_or ps k None ≡ Some p → path_at ps n ≡ Some p
first_is ps n k p f e =
    let same : f.path ≡ p = some_same f.path p (sym f.there ∙ e) in
    path_first ps n k p e (ap (λ (x : OpenPath). x.number) (sym same) ∙ f.number) (λ j q lt. f.before j q lt)
  where
    some_same : (a b : OpenPath) → Some a ≡ Some b → a ≡ b
    some_same a b e = cc

-- a path is opened in a free place
module _ (ps : List (Option OpenPath)) (opened k : ℕ) (kind : PathKind) (file : ℕ) (long : length ps ≡ 16) (free : Free ps k) where
  new : OpenPath
  new = opened_path (opened + 1) kind file

  pub path_added : Added ps (set ps k (Some (opened_path (opened + 1) kind file))) opened (opened + 1) kind file (opened + 1)
  path_added =
      let lt : k < length ps = omega (arith, free.0, long) in
      let was : Only (get_or ps k None) (opened + 1) = subst (λ (o : Option OpenPath). Only o (opened + 1)) (sym free.1) tt in
      let o : Option OpenPath = Some (opened_path (opened + 1) kind file) in
      record {
        number = refl;
        count = refl;
        one_more = omega (arith, count_set ps k o lt, ap one free.1);
        put = λ n.
            record {
              here =
                  path_first (set ps k o) (opened + 1) k (opened_path (opened + 1) kind file) (get_or-set_same ps k o None lt) refl
                  (λ j q less e same. omega (arith, n.high j q (sym (get_or-set_other ps k j o None (λ z. omega (arith, z))) ∙ e), same));
              others = λ i ne. set_others ps k (opened + 1) i o ne was refl;
            };
        numbered = λ n.
            numbered_set ps opened (opened + 1) k o lt (omega arith)
            (λ p e. let is : p.number ≡ opened + 1 = some_number p e in (omega (arith, is), omega (arith, is)))
            (λ p q j e ne f same. omega (arith, n.high j q f, same, some_number p e))
            n;
      }
    where
      some_number : (p : OpenPath) → Some (opened_path (opened + 1) kind file) ≡ Some p → p.number ≡ opened + 1
      some_number p e = let same : opened_path (opened + 1) kind file ≡ p = cc in ap (λ (x : OpenPath). x.number) (sym same)

-- the path with a number moves
module _ (ps : List (Option OpenPath)) (opened n k position : ℕ) (p : OpenPath) (long : length ps ≡ 16) (f : First ps n k) (is : get_or ps k None ≡ Some p) where
  pub path_moved : Moved ps (set ps k (Some (at_position position p))) opened n position
  path_moved =
      let lt : k < length ps = within ps k p is in
      let there : path_at ps n ≡ Some p = first_is ps n k p f is in
      let number : p.number ≡ n = number_is in
      let o : Option OpenPath = Some (at_position position p) in
      let was : Only (get_or ps k None) n = subst (λ (x : Option OpenPath). Only x n) (sym is) number in
      record {
        put =
            record {
              here =
                  path_first (set ps k o) n k (at_position position p) (get_or-set_same ps k o None lt) number
                  (λ j q less e. f.before j q less (sym (get_or-set_other ps k j o None (λ z. omega (arith, z))) ∙ e))
                  ∙ sym (ap (if_open (at_position position)) there);
              others = λ i ne. set_others ps k n i o ne was number;
            };
        numbered = λ h.
            numbered_set ps opened opened k o lt (omega arith)
            (λ q e. let same : q.number ≡ p.number = some_number q e in (omega (arith, same, h.low k p is), omega (arith, same, h.high k p is)))
            (λ q r j e ne g same. ne (h.apart j k r p g is (same ∙ some_number q e)))
            h;
      }
    where
      number_is : p.number ≡ n
      number_is = let same : f.path ≡ p = some_same f.path p (sym f.there ∙ is) in ap (λ (x : OpenPath). x.number) (sym same) ∙ f.number
        where
          some_same : (a b : OpenPath) → Some a ≡ Some b → a ≡ b
          some_same a b e = cc

      some_number : (q : OpenPath) → Some (at_position position p) ≡ Some q → q.number ≡ p.number
      some_number q e = let same : at_position position p ≡ q = cc in ap (λ (x : OpenPath). x.number) (sym same)

-- the path with a number is closed
pub path_removed : (ps : List (Option OpenPath)) (opened n k : ℕ) → length ps ≡ 16 → First ps n k → Removed ps (set ps k None) opened n
path_removed ps opened n k long f =
    let lt : k < length ps = omega (arith, f.within, long) in
    let was : Only (get_or ps k None) n = subst (λ (x : Option OpenPath). Only x n) (sym f.there) f.number in
    record {
      put = λ h.
          record {
            here = path_none (set ps k None) n (λ j q less e same. elim (after_set ps k j None q lt e) [
              | inl g ↦ never q g.1
              | inr g ↦ g.0 (h.apart j k q f.path g.1 f.there (same ∙ sym f.number))
            ]);
            others = λ i ne. set_others ps k n i None ne was tt;
          };
      numbered = λ h. numbered_set ps opened opened k None lt (omega arith) (λ p e. absurd (never p e)) (λ p q j e. absurd (never p e)) h;
    }
  where
    never : (p : OpenPath) → None ≡ Some p → ⊥
    never p e = let z : ◌≡◌ {A = ℕ} 0 1 = cc in omega arith
