use Rattle.std.proofs.Common.{rules}
use Rattle.paths.proofs.PathChanges.{path_moved}
use Rattle.paths.proofs.open_paths.OpenPaths.move_to.Goals as goal

pub returns-in-Some-places-clause-moved : goal.returns-in-Some-places-clause-moved
returns-in-Some-places-clause-moved c =
    let self = c.args.self.now in
    path_moved self.places self.opened c.args.number c.in-Some.k c.args.position c.in-Some-places.path (search rules) c.in-Some.ensures c.in-Some-places.is
