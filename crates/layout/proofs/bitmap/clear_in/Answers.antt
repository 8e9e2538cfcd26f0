use Rattle.std.proofs.Common.{ℕ, ◌≤◌, ◌^◌, Bool, not, cond, sym, ◌∙◌, arith, rules}
use borrow.Author.Tests.{tests}
use Rattle.std.specs.List.{range_with_len, count_by}
use Rattle.std.proofs.lemmas.Iterator.{YieldsList-from_map, YieldsList-from_range}
use Rattle.std.proofs.lemmas.Iterator.Consumers.{fits_by_from_yields_list, sum_by_from_yields_List}
use Rattle.std.proofs.lemmas.List.Sums.{count_by-le-length}
use Rattle.std.proofs.lemmas.List.FromFn.{length-range_with_len}
use Rattle.layout.specs.Map.{bit_of}
use Rattle.layout.proofs.Clears.{clear_counted}
use Rattle.layout.proofs.bitmap.clear_in.Goals as goal

few : (clear : ℕ → Bool) (n : ℕ) → count_by clear (range_with_len 0 n) ≤ n
few clear n = omega (arith, count_by-le-length clear (range_with_len 0 n), length-range_with_len 0 n)

pub sum-requires-clause-fits : goal.sum-requires-clause-fits
sum-requires-clause-fits c =
    let clear = λ (k : ℕ). not (bit_of c.args.map.now k) in
    fits_by_from_yields_list (λ k. cond (clear k) 1 0) (range_with_len 0 c.args.n) c.map.result (2 ^ 64)
    (YieldsList-from_map _ (λ k. cond (clear k) 1 0) (YieldsList-from_range 0 c.args.n c.args.n c.map.ensures.source (omega arith)) c.map.ensures.closure (λ x r q k. search (rules, tests)))
    (omega (arith, few clear c.args.n, c.ranges.n.fits))

pub returns-clause-is : goal.returns-clause-is
returns-clause-is c =
    let clear = λ (k : ℕ). not (bit_of c.args.map.now k) in
    sum_by_from_yields_List (λ k. cond (clear k) 1 0) (range_with_len 0 c.args.n) c.map.result c.sum.result c.sum.ensures.ran
    (YieldsList-from_map _ (λ k. cond (clear k) 1 0) (YieldsList-from_range 0 c.args.n c.args.n c.map.ensures.source (omega arith)) c.map.ensures.closure (λ x r q k. search (rules, tests)))
    ∙ sym (clear_counted (bit_of c.args.map.now) c.args.n)

pub returns-clause-few : goal.returns-clause-few
returns-clause-few c =
    let clear = λ (k : ℕ). not (bit_of c.args.map.now k) in
    omega (arith, few clear c.args.n, clear_counted (bit_of c.args.map.now) c.args.n, returns-clause-is c)
