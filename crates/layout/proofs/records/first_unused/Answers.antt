use Rattle.std.proofs.Common.{ap, ◌∙◌, rules}
use borrow.Author.Tests.{tests}
use Rattle.std.specs.Slice.Iter.{chunks_exact_rest, chunks_exact_size}
use Rattle.layout.specs.Records.{FirstUnused}
use Rattle.layout.proofs.Searched.{chunks_at, searched}
use Rattle.layout.proofs.records.first_unused.Goals as goal

pub returns : goal.returns
returns g c =
    let w = g.R.Record.WIDTH in
    let xs = c.args.table.now in
    let some = g.met.R.Record.some in
    let run = c.position.ensures.runs in
    let size = ap chunks_exact_size run.1 ∙ c.chunks_exact.ensures.size ∙ c.WIDTH.ensures in
    let rest = ap chunks_exact_rest run.1 ∙ c.chunks_exact.ensures.rest in
    let chunks = chunks_at run.0 _ w _ xs size rest some (c.chunks_exact.ensures.runs run.0 run.0.seen) in
    let found : FirstUnused w g.R.Record.is_unused xs c.position.result = searched run.0 w xs chunks _ _ g.R.Record.is_unused (λ x b long t. search (rules, tests)) some (λ a r f t. search (rules, tests)) c.args.table c.position.result run.2 in
    search (rules, tests)
