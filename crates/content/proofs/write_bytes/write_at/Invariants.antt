use Rattle.std.proofs.Common.{◌≡◌, length, take}
use Rattle.content.specs.Parts.{PartsOf}
use Rattle.content.specs.Rows.{sectors}
use Rattle.content.specs.Writing.{Written}
use Rattle.content.proofs.write_bytes.write_at.Given as goal

abbrev pub invariant-loop-part : goal.invariant-loop-part
invariant-loop-part g l = record {
  can_next : (goal.iterator-loop-part g).can_next l.part-iterator;
  is_finite : (goal.iterator-loop-part g).is_finite l.part-iterator;
  parts : PartsOf l.part-iterator l.descriptor l.position (length l.bytes);
  written : Written (g.D.Device.meaning l.initial.device) (g.D.Device.meaning l.device) (sectors l.descriptor) l.position (take l.part-iterator.done l.bytes);
  beside : g.D.Device.aside l.device ≡ g.D.Device.aside l.initial.device;
}
