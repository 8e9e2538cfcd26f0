use Rattle.std.proofs.Common.{◌≡◌, ◌+◌, length, rules}
use Rattle.paths.proofs.PathChanges.{path_added}
use Rattle.paths.proofs.open_paths.OpenPaths.add.Goals as goal

pub returns : goal.returns
returns c =
    let self = c.args.self.now in
    let long : length self.places ≡ 16 = search rules in
    let number : c.in_ok-number.number ≡ self.opened + 1 = search rules in
    rw number (path_added self.places self.opened c.in_ok-k.k c.args.kind c.args.descriptor long c.in_ok-k.ensures)
