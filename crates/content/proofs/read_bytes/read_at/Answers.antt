use Rattle.std.proofs.Common.{◌≡◌, ◌-◌, get_or, ◌∙◌, arith}
use Rattle.std.proofs.lemmas.Result.{err_from_is_err_and}
use Rattle.content.specs.Rows.{sectors}
use Rattle.content.proofs.PartSteps.{next_part, all_done, refused_at}
use Rattle.content.proofs.ReadSteps.{read_part_turn, put_same, got_content}
use Rattle.content.proofs.read_bytes.read_at.Goals as goal

pub loop-part-preserved : goal.loop-part-preserved
loop-part-preserved g c =
    let m = g.D.Device.meaning c.args.device.now in
    let s = c.args.descriptor.now in
    let ps = c.loop-part.part-iterator in
    let was = c.loop-part.invariant in
    let turn = next_part ps c.next.new.self s c.args.position c.min-wanted.result was.parts c.in-Some.part c.in-Some.ensures.steps in
    record {
      can_next = tt;
      is_finite = tt;
      parts = turn.1;
      got = λ whole within.
          read_part_turn m (sectors s) c.args.buffer.now c.loop-part.buffer c.read_part.new.part c.args.position c.min-wanted.result ps.done c.next.new.self.done c.in-Some.part
          turn.0 turn.2 (omega arith) (λ i h. whole (get_or (sectors s) i 0) (within i h)) (was.got whole within) c.in_ok-read_part.ensures.1;
    }

pub returns-in_err-read_part : goal.returns-in_err-read_part
returns-in_err-read_part g c =
    let err = err_from_is_err_and c.from_residual.result c.from_residual.ensures.1 in
    let m = g.D.Device.meaning c.args.device.now in
    let s = c.args.descriptor.now in
    let part = c.in-Some.part in
    let done = c.loop-part.part-iterator.done in
    let was = c.loop-part.invariant in
    let is = (next_part c.loop-part.part-iterator c.next.new.self s c.args.position c.min-wanted.result was.parts part c.in-Some.ensures.steps).0 in
    let refused = c.in_err-read_part.ensures in
    rw (err.1, err.2)
    (record {
      done = done;
      less = omega (arith, is.less, c.readable.ensures.is);
      refused = refused_at m (sectors s) c.args.position c.min-wanted.result done part c.in_err-read_part.field-0.0 is refused.0;
      got = λ whole within.
          put_same part.bytes.start (part.bytes.end - part.bytes.start) c.loop-part.buffer c.read_part.new.part refused.1
          ∙ got_content m.sector s c.args.buffer.now c.loop-part.buffer c.args.position done (omega (arith, is.less, c.readable.ensures.is)) (was.got whole within);
    })

pub returns : goal.returns
returns g c =
    let m = g.D.Device.meaning c.args.device.now in
    let s = c.args.descriptor.now in
    let ps = c.loop-part.part-iterator in
    let was = c.loop-part.invariant in
    let all : ps.done ≡ c.min-wanted.result = all_done ps c.next.new.self s c.args.position c.min-wanted.result was.parts c.in-None.ensures.steps (omega (arith, c.readable.ensures.is)) in
    rw (← all)
    (omega (arith, c.readable.ensures.is), λ whole within. got_content m.sector s c.args.buffer.now c.loop-part.buffer c.args.position ps.done (omega (arith, c.readable.ensures.is)) (was.got whole within))
