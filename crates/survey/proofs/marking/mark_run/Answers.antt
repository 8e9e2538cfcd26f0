use Rattle.std.proofs.Common.{◌≡◌, ℕ, ◌+◌, ◌-◌, ◌<◌, ◌≤◌, ◌⊎◌, List, length, get_or, take, drop, ◌∙◌, inl, inr, arith, length-drop}
use borrow.Rule.Slice.PartMut.{put_mid}
use Rattle.std.proofs.lemmas.List.{length-take-le, get_or-take, get_or-drop, places}
use Rattle.rules.proofs.Runs.{upto_in}
use Rattle.survey.proofs.Markings.{run_marked, run_once}
use Rattle.survey.proofs.marking.mark_run.Goals as goal

-- the part of the marks that a run has
module _ (es : List ℕ) (s n : ℕ) (le : s + n ≤ length es) where
  part_at : (j : ℕ) → j < n → get_or (take ((s + n) - s) (drop s es)) j 0 ≡ get_or es (s + j) 0
  part_at j lt = get_or-take ((s + n) - s) (drop s es) j 0 (omega arith) ∙ get_or-drop s es j 0

  part_long : length (take ((s + n) - s) (drop s es)) ≡ n
  part_long = omega (arith, length-take-le ((s + n) - s) (drop s es) (omega (arith, length-drop s es)))

  put_in : (ys : List ℕ) (j : ℕ) → length ys ≡ n → j < n → get_or (put_mid s ((s + n) - s) es ys) (s + j) 0 ≡ get_or ys j 0
  put_in ys j long lt = grind (arith, places)

  put_out : (ys : List ℕ) (k : ℕ) → length ys ≡ n → (k < s) ⊎ (s + n ≤ k) → get_or (put_mid s ((s + n) - s) es ys) k 0 ≡ get_or es k 0
  put_out ys k long (inl low) = grind (arith, places)
  put_out ys k long (inr high) = grind (arith, places)

pub returns-then-mark-ne0 : goal.returns-then-mark-ne0
returns-then-mark-ne0 c =
    let s = c.args.start in
    let i = c.loop-i.i in
    let long = part_long c.args.marks.now s c.args.len c.requires in
    let here = upto_in (s + i) s c.args.len (omega arith) (omega arith) in
    (omega (arith, here), omega (arith, here, c.loop-i.invariant.later i (omega arith), part_at c.args.marks.now s c.args.len c.requires i (omega arith)))

pub returns : goal.returns
returns c =
    let es = c.args.marks.now in
    let s = c.args.start in
    let n = c.args.len in
    let ys = c.loop-i.mark-items in
    let inv = c.loop-i.invariant in
    let part = part_long es s n c.requires in
    let long : length ys ≡ n = omega arith in
    let ms = put_mid s ((s + n) - s) es ys in
    let inside : (j : ℕ) → j < n → (get_or ms (s + j) 0 ≡ 1) × (get_or es (s + j) 0 ≡ 0) =
    λ j lt. let m = inv.marked j (omega arith) in (put_in es s n c.requires ys j long lt ∙ m.0, omega (arith, part_at es s n c.requires j lt, m.1)) in
    let outside : (k : ℕ) → (k < s) ⊎ (s + n ≤ k) → get_or ms k 0 ≡ get_or es k 0 = λ k apart. put_out es s n c.requires ys k long apart in
    (run_marked es ms s n inside outside, run_once es ms s n inside outside)
