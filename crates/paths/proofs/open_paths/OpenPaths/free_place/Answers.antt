use Rattle.std.proofs.Common.{◌≡◌, ◌≢◌, None, Option, length, rules}
use borrow.Author.Tests.{tests}
use Rattle.std.proofs.lemmas.Iterator.{IsFirst-from_position, YieldsList-from_slice}
use Rattle.paths.proofs.PathLaws.{free_is}
use Rattle.paths.specs.declared.open_path.OpenPath.{OpenPath}
use Rattle.paths.proofs.open_paths.OpenPaths.free_place.Goals as goal

pub returns : goal.returns
returns c =
    let ps = c.args.self.now.places in
    let long : length ps ≡ 16 = search rules in
    free_is ps c.position.result long
    (IsFirst-from_position _ _ _ (λ (o : Option OpenPath). o ≡ None) (λ (o : Option OpenPath). o ≢ None) c.position.ensures.ran (YieldsList-from_slice ps cc) (λ x q k. search (rules, tests)) (λ x q k. search (rules, tests)))
