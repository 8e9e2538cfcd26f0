use Rattle.std.proofs.Common.{arith}
use Rattle.content.proofs.WriteSteps.{whole_written}
use Rattle.content.proofs.sector_parts.write_part.Goals as goal

pub returns-then-part-eq-SECTOR : goal.returns-then-part-eq-SECTOR
returns-then-part-eq-SECTOR g c =
    record {
      done = whole_written (g.D.Device.meaning c.args.device.now) (g.D.Device.meaning c.write.new.self) c.args.lsn c.args.from c.args.part.now c.write.result (omega arith) (omega arith) c.write.ensures.done;
      beside = c.write.ensures.beside;
    }
