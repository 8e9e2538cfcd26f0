-- What a search through the records of a table tells.
use Rattle.std.proofs.Common.{◌≡◌, ℕ, ◌+◌, ◌*◌, ◌<◌, ◌≤◌, Bool, true, false, List, length, Some, None, Option, sym, ap, ◌∙◌, subst, suc-mul, arith}
use Rattle.std.specs.Bool.{IsTrue}
use Rattle.std.specs.Option.{IfSome, IsSomeAnd, MatchOption, option_map}
use Rattle.std.specs.List.{IsSubsliceAt}
use Rattle.std.specs.Iterator.Runs.{Run, IsChunksExactRun, CallKeepsClosure, AllItemsGive, IsFirstToGive}
use Rattle.std.specs.Fn.{Called}
use Rattle.std.proofs.lemmas.Nat.{le-div}
use denote.Param.Members.{Mut}
use denote.Ref.{Bor}
use Rattle.layout.specs.Records.{record_at, FirstUnused}

-- the chunks of a table, where they are as wide as a record
pub chunks_at : {S : Type 0} {steps : S → Option (Bor (List ℕ)) → S → Type 0} (p : Run steps) (n w : ℕ) (ys xs : List ℕ) → n ≡ w → ys ≡ xs → 0 < w
    → (0 < n → IsChunksExactRun p n ys) → IsChunksExactRun p w xs
chunks_at p n w ys xs e f some h = subst (λ m. IsChunksExactRun p m xs) e (subst (λ l. IsChunksExactRun p n l) f (h (omega arith)))

module _ {S F : Type 0} {steps : S → Option (Bor (List ℕ)) → S → Type 0} (p : Run steps) (w : ℕ) (xs : List ℕ) (chunks : IsChunksExactRun p w xs)
    (g : Mut F (Bor (List ℕ) × Unit {0}) Bool) (f : F) (unused : List ℕ → Bool) (tells : (x : Bor (List ℕ)) (b : Bool) → length x.now ≡ w → Called g f (x, tt) b f → b ≡ unused x.now) where
  -- what the call at the item k told of the record k
  told : (k : ℕ) (b : Bool) (o : Option (Bor (List ℕ))) → IfSome o (λ x. (length x.now ≡ w) × (k * w + w ≤ length xs) × IsSubsliceAt w xs (k * w) x.now)
      → IsSomeAnd o (λ x. Called g f (x, tt) b f) → (k * w + w ≤ length xs) × (unused (record_at w k xs) ≡ b)
  told k b None h called = absurd called
  told k b (Some x) h called = (h.1, ap unused (sym h.2.0) ∙ sym (tells x b h.0 called))

  -- there is an item, and all items gave the answer
  given : (k : ℕ) (b : Bool) (y : Bor (List ℕ)) (o : Option (Bor (List ℕ))) → option_map (λ z. z) o ≡ Some y → IfSome o (λ x. Called g f (x, tt) b f) → IsSomeAnd o (λ x. Called g f (x, tt) b f)
  given k b y None e h = absurd (let z : ◌≡◌ {A = ℕ} 0 1 = cc in omega arith)
  given k b y (Some x) e h = h

  pub searched : 0 < w → CallKeepsClosure g f → (y : Bor (List ℕ)) → (r : Option ℕ) → MatchOption r (IsTrue p.whole × AllItemsGive p g f false) (λ i. (p.len ≡ i + 1) × IsFirstToGive p g f true false i) → FirstUnused w unused xs r
  searched some keeps y None h = λ j fits.
      let within = le-div (j + 1) (length xs) w some (omega (arith, suc-mul j w)) in
      (told j false (p.at j) (chunks.2 j) (given j false _ (p.at j) (p.reads j y (omega (arith, chunks.1 h.0))) (h.1 keeps j))).1
  searched some keeps y (Some k) h =
      let here = told k true (p.at k) (chunks.2 k) (h.1 keeps).0 in
      (here.0, here.1, λ j lt. (told j false (p.at j) (chunks.2 j) ((h.1 keeps).1 j lt)).1)
