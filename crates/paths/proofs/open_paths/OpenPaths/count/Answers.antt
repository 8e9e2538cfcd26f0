use Rattle.std.proofs.Common.{sym, ◌∙◌, rules}
use borrow.Author.Tests.{tests}
use Rattle.std.proofs.lemmas.Iterator.{YieldsList-from_slice}
use Rattle.std.proofs.lemmas.Iterator.Consumers.{YieldsList-from_filter, count_from_yields_List}
use Rattle.std.proofs.lemmas.List.Sums.{length-filter}
use Rattle.std.specs.Option.{is_some}
use Rattle.paths.proofs.PathLaws.{count_is}
use Rattle.paths.proofs.open_paths.OpenPaths.count.Goals as goal

pub returns-clause-is : goal.returns-clause-is
returns-clause-is c =
    let ps = c.args.self.now.places in
    count_from_yields_List c.filter.result _ c.count.ensures.ran (YieldsList-from_filter _ is_some (YieldsList-from_slice ps cc) c.filter.ensures.closure (λ x r q k. search (rules, tests)))
    ∙ length-filter is_some ps ∙ sym (count_is ps)
