use Rattle.std.proofs.Common.{◌≡◌, ℕ, ◌+◌, ◌<◌, ◌≤◌, ◌++◌, length, take, drop, replicate, sym, ap, ◌∙◌, arith, rules}
use borrow.Author.Tests.{tests}
use Rattle.std.proofs.lemmas.List.{length-take-le, drop-replicate}
use Rattle.std.proofs.lemmas.Iterator.{IsFirst-from_position, YieldsList-from_slice}
use Rattle.layout.specs.Directory.{slot_name}
use Rattle.survey.proofs.Tidied.{marked_back, filled_name}
use Rattle.survey.proofs.slot_checks.tidy_name.Goals as goal

pub returns : goal.returns
returns c =
    let xs = c.args.stored.now in
    let n = c.in-Some.last in
    let first = IsFirst-from_position _ _ c.position.result (λ x. 128 ≤ x) (λ x. x < 128) c.position.ensures.ran (YieldsList-from_slice xs c.iter.ensures.rest) (λ x q k. search (rules, tests)) (λ x q k. search (rules, tests)) in
    let here = rw c.in-Some.is at first in
    let long : length (take (n + 1) xs) ≡ n + 1 = length-take-le (n + 1) xs (omega (arith, here.0)) in
    let back = marked_back xs n here.0 (λ j lt. here.2 j 0 (omega arith) lt) (here.1 0) in
    ap (λ l. l ++ drop (n + 1) (replicate {A = ℕ} 28 0)) c.copy_from_slice.ensures.after
    ∙ ap (λ l. take (n + 1) xs ++ l) (drop-replicate {X = ℕ} (n + 1) 28 0)
    ∙ filled_name (take (n + 1) xs) (n + 1) long (omega (arith, here.0, c.requires.long))
    ∙ ap slot_name (sym back)
