use Rattle.std.proofs.Common.{◌*◌, arith}
use Rattle.devices.proofs.Putting.{row_whole}
use Rattle.devices.proofs.flat.FlatImageDevice.count.Goals as goal

pub returns-clause-whole : goal.returns-clause-whole
returns-clause-whole c l h =
    let v = c.args.self.now.bytes in
    row_whole v.items (l * 256) (omega (arith, v.ok.0))
