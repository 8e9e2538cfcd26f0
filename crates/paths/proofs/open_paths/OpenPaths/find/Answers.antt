use Rattle.std.proofs.Common.{sym, ap, ◌∙◌, rules}
use borrow.Author.Tests.{tests}
use Rattle.paths.specs.Paths.{of_kind}
use Rattle.paths.proofs.PathChanges.{first_is, kind_asked}
use Rattle.paths.proofs.open_paths.OpenPaths.find.Goals as goal

pub returns : goal.returns
returns c =
    let f = c.in_ok-k.ensures in
    kind_asked _ c.args.kind _ f.path c.filter.result f.there c.filter.ensures (λ k. search (rules, tests)) (λ k. search (rules, tests))
    ∙ ap (of_kind c.args.kind) (sym (first_is c.args.self.now.places c.args.number c.in_ok-k.k f.path f f.there))
