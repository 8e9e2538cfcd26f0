use Rattle.std.proofs.Common.{◌≡◌, ℕ, ◌+◌, ◌-◌, ◌<◌, ◌≤◌, min, Bool, true, false, List, length, get_or, take, drop, MatchBool, sym, ap, ◌∙◌, arith, rules, length-drop}
use borrow.Author.Tests.{tests}
use Rattle.std.specs.List.{AllWithin, HoldsAt}
use Rattle.std.proofs.lemmas.Bool.Decides.{Decides-eqb}
use Rattle.std.proofs.lemmas.List.{length-take-le, get_or-take, get_or-drop}
use Rattle.std.proofs.lemmas.Slice.Eq.{slice_eq-Decides}
use Rattle.std.proofs.lemmas.Iterator.{cases_from_any, YieldsList-from_slice}
use Rattle.survey.specs.Names.{nobody, Known}
use Rattle.survey.specs.declared.waiting.Waiting.{Waiting}
use Rattle.survey.proofs.known_names.is_known.Goals as goal

-- one of a part of the list has the name, or none has
module _ (ws : List Waiting) (from to m : ℕ) (name : List ℕ) (le : to ≤ length ws) (is : m ≡ min from to) where
  at : (k : ℕ) → k < to - m → get_or (take (to - m) (drop m ws)) k nobody ≡ get_or ws (m + k) nobody
  at k lt = get_or-take (to - m) (drop m ws) k nobody lt ∙ get_or-drop m ws k nobody

  long : length (take (to - m) (drop m ws)) ≡ to - m
  long = length-take-le (to - m) (drop m ws) (omega (arith, length-drop m ws))

  known : (r : Bool) → MatchBool r ((k : ℕ) × (k < length (take (to - m) (drop m ws))) × HoldsAt (λ (w : Waiting). w.name ≡ name) (take (to - m) (drop m ws)) k) (AllWithin (λ (w : Waiting). w.name ≡ name → ⊥) (take (to - m) (drop m ws)) 0 (length (take (to - m) (drop m ws))))
      → MatchBool r (Known ws from to name) (Known ws from to name → ⊥)
  known true h = record {
    at = m + h.0;
    low = omega (arith, h.1, long);
    high = omega (arith, h.1, long);
    same = ap (λ (w : Waiting). w.name) (sym (at h.0 (omega (arith, h.1, long)))) ∙ h.2 nobody;
  }
  known false h = λ k.
      let lt : k.at - m < to - m = omega (arith, k.high, k.low) in
      let there : m + (k.at - m) ≡ k.at = omega (arith, k.low) in
      h (k.at - m) nobody (omega arith) (omega (arith, long)) (ap (λ (w : Waiting). w.name) (at (k.at - m) lt ∙ ap (λ i. get_or ws i nobody) there) ∙ k.same)

pub returns : goal.returns
returns c =
    let h = cases_from_any _ _ c.any.result (λ (w : Waiting). w.name ≡ c.args.name.now) (λ (w : Waiting). w.name ≡ c.args.name.now → ⊥) c.any.ensures.ran (YieldsList-from_slice _ c.iter.ensures.rest) (λ x q k. search (rules, tests, slice_eq-Decides Decides-eqb)) (λ x q k. search (rules, tests, slice_eq-Decides Decides-eqb)) in
    known c.args.waiting.now c.args.from c.args.to c.min.result c.args.name.now c.requires c.min.ensures c.any.result h
