use Rattle.std.proofs.Common.{◌≡◌, ◌++◌, take, drop}
use Rattle.devices.specs.Meaning.{Whole}
use Rattle.content.specs.Parts.{PartsOf}
use Rattle.content.specs.Rows.{sectors, row, Within}
use Rattle.content.proofs.read_bytes.read_at.Given as goal

abbrev pub invariant-loop-part : goal.invariant-loop-part
invariant-loop-part g l = record {
  can_next : (goal.iterator-loop-part g).can_next l.part-iterator;
  is_finite : (goal.iterator-loop-part g).is_finite l.part-iterator;
  parts : PartsOf l.part-iterator l.descriptor l.position l.wanted;
  got : Whole (g.D.Device.meaning l.device) → Within (g.D.Device.meaning l.device) (sectors l.descriptor) → l.buffer ≡ take l.part-iterator.done (drop l.position (row (g.D.Device.meaning l.device) (sectors l.descriptor))) ++ drop l.part-iterator.done l.initial.buffer;
}
