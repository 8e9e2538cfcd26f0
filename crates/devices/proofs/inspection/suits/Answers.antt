use Rattle.std.proofs.Common.{◌+◌, ◌≤◌, ap, ◌∙◌, arith, rules}
use borrow.Author.Tests.{tests}
use Rattle.std.proofs.iter.runs.Sources.{inclusive_listed}
use Rattle.std.specs.Range.{range_inclusive_start, range_inclusive_end, range_inclusive_exhausted}
use Rattle.devices.proofs.Counted.{any_counted, Shared, suits_is}
use Rattle.devices.proofs.inspection.suits.Goals as goal

pub returns : goal.returns
returns c =
    let k = c.args.interleave in
    let s = c.args.sectors in
    let run = c.any.ensures.runs in
    let listed = inclusive_listed run.0 run.0.seen in
    let low : 1 ≤ k = omega arith in
    let up = listed.4 (ap range_inclusive_exhausted run.1 ∙ c.new.ensures.exhausted) in
    suits_is k s low c.in-true.is c.any.result
    (any_counted run.0 listed.0 listed.1 up.0 2 (k + 1)
    (listed.2 ∙ ap range_inclusive_start run.1 ∙ c.new.ensures.start)
    (listed.3 ∙ ap (λ r. range_inclusive_end r + 1) run.1 ∙ ap (λ n. n + 1) c.new.ensures.end)
    _ _ c.any.result (Shared k s) (λ d. Shared k s d → ⊥)
    (λ a r f t. search (rules, tests)) run.2
    (λ x t. search (rules, tests)) (λ x t. search (rules, tests)))
