use Rattle.std.proofs.Common.{rules}
use Rattle.paths.proofs.PathChanges.{path_removed}
use Rattle.paths.proofs.open_paths.OpenPaths.remove.Goals as goal

pub returns-clause-removed : goal.returns-clause-removed
returns-clause-removed c =
    let self = c.args.self.now in
    path_removed self.places self.opened c.args.number c.in-Some.k (search rules) c.in-Some.ensures
