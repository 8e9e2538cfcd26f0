use Rattle.std.proofs.Common.{◌≡◌, rules}
use borrow.Author.Tests.{tests}
use Rattle.std.proofs.lemmas.Iterator.{cases_from_any, YieldsList-from_slice}
use Rattle.paths.proofs.PathLaws.{Has, Lacks, open_is}
use Rattle.paths.proofs.open_paths.OpenPaths.is_open.Goals as goal

pub returns : goal.returns
returns c =
    let ps = c.args.self.now.places in
    open_is ps c.args.descriptor c.any.result
    (cases_from_any _ _ _ (Has (λ p. p.descriptor ≡ c.args.descriptor)) (Lacks (λ p. p.descriptor ≡ c.args.descriptor)) c.any.ensures.ran (YieldsList-from_slice ps cc) (λ x q k. search (rules, tests)) (λ x q k. search (rules, tests)))
