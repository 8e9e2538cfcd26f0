use Rattle.std.proofs.Common.{◌+◌, ◌-◌, length, arith}
use Rattle.layout.specs.Overs.{put_is}
use Rattle.layout.proofs.numbers.put.Goals as goal

pub returns : goal.returns
returns c =
    let at = c.args.at in
    let bs = c.args.part.now in
    put_is at ((at + length bs) - at) c.args.bytes.now _ bs (omega arith) c.copy_from_slice.ensures.after
