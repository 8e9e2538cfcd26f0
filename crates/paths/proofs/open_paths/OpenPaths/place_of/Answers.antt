use Rattle.std.proofs.Common.{◌≡◌, length, rules}
use borrow.Author.Tests.{tests}
use Rattle.std.proofs.lemmas.Iterator.{IsFirst-from_position, YieldsList-from_slice}
use Rattle.paths.proofs.PathLaws.{Has, Lacks, place_is}
use Rattle.paths.proofs.open_paths.OpenPaths.place_of.Goals as goal

pub returns : goal.returns
returns c =
    let ps = c.args.self.now.places in
    let long : length ps ≡ 16 = search rules in
    place_is ps c.args.number c.position.result long
    (IsFirst-from_position _ _ _ (Has (λ p. p.number ≡ c.args.number)) (Lacks (λ p. p.number ≡ c.args.number)) c.position.ensures.ran (YieldsList-from_slice ps cc) (λ x q k. search (rules, tests)) (λ x q k. search (rules, tests)))
