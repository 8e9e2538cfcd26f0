use Rattle.std.proofs.Common.{arith}
use Rattle.content.proofs.ReadSteps.{whole_read}
use Rattle.content.proofs.sector_parts.read_part.Goals as goal

pub returns-then-part-eq-SECTOR : goal.returns-then-part-eq-SECTOR
returns-then-part-eq-SECTOR g c =
    whole_read (g.D.Device.meaning c.args.device.now) c.args.lsn c.args.from c.args.part.now c.read.new.buf c.read.result
    (omega arith) (omega arith) (omega arith) c.read.ensures
