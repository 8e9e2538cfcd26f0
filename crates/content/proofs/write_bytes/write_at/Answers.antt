use Rattle.std.proofs.Common.{length, take, refl, ◌∙◌, arith}
use Rattle.std.proofs.lemmas.Result.{err_from_is_err_and}
use Rattle.descriptors.proofs.Bounds.{held_few}
use Rattle.content.specs.Rows.{sectors, Beside}
use Rattle.content.proofs.PartSteps.{next_part, refused_at}
use Rattle.content.proofs.WriteSteps.{write_none, write_same, write_part_turn, refused_before}
use Rattle.content.proofs.write_bytes.write_at.Goals as goal

pub of-part-items-requires : goal.of-part-items-requires
of-part-items-requires g c = omega (arith, held_few c.args.descriptor.now c.fits-descriptor, c.requires)

pub loop-part-init : goal.loop-part-init
loop-part-init g c =
    let same = c.into_iter-part-iterator.ensures.into_iter_gives in
    record {
      can_next = tt;
      is_finite = tt;
      parts = rw same c.of-part-items.ensures.of;
      written = rw (same, c.of-part-items.ensures.first) (write_none (g.D.Device.meaning c.args.device.now) (sectors c.args.descriptor.now) c.args.position);
      beside = refl;
    }

pub loop-part-preserved : goal.loop-part-preserved
loop-part-preserved g c =
    let m₀ = g.D.Device.meaning c.args.device.now in
    let m = g.D.Device.meaning c.loop-part.device in
    let m' = g.D.Device.meaning c.write_part.new.device in
    let s = c.args.descriptor.now in
    let bs = c.args.bytes.now in
    let p = c.args.position in
    let ps = c.loop-part.part-iterator in
    let was = c.loop-part.invariant in
    let wrote = c.in_ok-write_part.ensures in
    let turn = next_part ps c.next.new.self s p (length bs) was.parts c.in-Some.part c.in-Some.ensures.steps in
    record {
      can_next = tt;
      is_finite = tt;
      parts = turn.1;
      written = write_part_turn m₀ m m' (sectors s) bs p ps.done was.written c.next.new.self.done c.in-Some.part turn.0 turn.2 wrote.done;
      beside = wrote.beside ∙ was.beside;
    }

pub returns-in_err-write_part-clause-done : goal.returns-in_err-write_part-clause-done
returns-in_err-write_part-clause-done g c =
    let err = err_from_is_err_and c.from_residual.result c.from_residual.ensures.1 in
    let m₀ = g.D.Device.meaning c.args.device.now in
    let m = g.D.Device.meaning c.loop-part.device in
    let m' = g.D.Device.meaning c.write_part.new.device in
    let e = sectors c.args.descriptor.now in
    let bs = c.args.bytes.now in
    let p = c.args.position in
    let done = c.loop-part.part-iterator.done in
    let part = c.in-Some.part in
    let f = c.in_err-write_part.field-0.0 in
    let was = c.loop-part.invariant in
    let is = (next_part c.loop-part.part-iterator c.next.new.self c.args.descriptor.now p (length bs) was.parts part c.in-Some.ensures.steps).0 in
    let refused = c.in_err-write_part.ensures.done in
    rw (err.1, err.2)
    (record {
      done = done;
      less = is.less;
      refused = refused_at m₀ e p (length bs) done part f is (refused_before (Beside e p (length (take done bs))) m₀ m part.lsn f was.written.kept refused.0);
      wrote = write_same m₀ m m' e bs p done was.written refused.1;
    })
