use Rattle.std.proofs.Common.{◌+◌, ◌-◌, length, get_or, set, ap, ◌∙◌, arith}
use Rattle.layout.proofs.Marks.{mark_over}
use Rattle.layout.proofs.names.put_marked.Goals as goal

pub returns : goal.returns
returns c =
    let bs = c.args.name.now in
    let p = c.args.at in
    ap (λ ys. set ys (p + (length bs - 1)) (get_or bs (length bs - 1) 0 + 128)) c.put.ensures ∙ mark_over p bs c.args.bytes.now (omega arith) (omega arith)
