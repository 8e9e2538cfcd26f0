use Rattle.std.proofs.Common.{arith}
use Rattle.std.proofs.lemmas.Result.{err_from_is_err_and}
use Rattle.survey.proofs.Lists.{kept_on}
use Rattle.survey.proofs.Scans.{scan_room}
use Rattle.survey.proofs.Turns.{turn_unread, turn_ends, turn_breaks, turn_steps}
use Rattle.survey.proofs.scan.scan_slots.Goals as goal

pub returns-in_err-slot-clause-scanned : goal.returns-in_err-slot-clause-scanned
returns-in_err-slot-clause-scanned g c =
    let r = c.requires in
    let subject = c.args.subject.now in
    let p = err_from_is_err_and c.from_residual.result c.from_residual.ensures.1 in
    rw (p.1, p.2) (turn_unread (g.D.Device.meaning subject.device.now) c.args.descriptor.now c.args.lsn subject.bounds.low subject.bounds.high c.number_at-slots.result (record { is = r.is; marked = r.directory; right = r.size; within = r.within; there = subject.there; whole = subject.whole; many = c.number_at-slots.ensures.is }) c.loop-k.k c.args.lists.now c.loop-k.lists c.loop-k.invariant.scan c.loop-k.lists.marks.now c.loop-k.lists.waiting.now c.in_err-slot.field-0.0 c.in_err-slot.ensures)

pub take_slot-requires-clause-room : goal.take_slot-requires-clause-room
take_slot-requires-clause-room g c =
    let r = c.requires.ready in
    scan_room _ _ _ _ _ _ _ c.loop-k.k c.loop-k.lists.count c.loop-k.lists.marks.now c.loop-k.lists.waiting.now c.loop-k.auto.k c.loop-k.invariant.scan r.listed r.inside (omega (arith, r.room, c.loop-k.invariant.kept.waiting_long))

pub returns-in_err-take_slot-clause-scanned : goal.returns-in_err-take_slot-clause-scanned
returns-in_err-take_slot-clause-scanned g c =
    let r = c.requires in
    let subject = c.args.subject.now in
    let p = err_from_is_err_and c.from_residual-in_err-take_slot.result c.from_residual-in_err-take_slot.ensures.1 in
    rw (p.1, p.2) (turn_breaks (g.D.Device.meaning subject.device.now) c.args.descriptor.now c.args.lsn subject.bounds.low subject.bounds.high c.number_at-slots.result (record { is = r.is; marked = r.directory; right = r.size; within = r.within; there = subject.there; whole = subject.whole; many = c.number_at-slots.ensures.is }) c.loop-k.k c.args.lists.now c.loop-k.lists c.loop-k.invariant.scan
    c.loop-k.auto.k c.loop-k-test.true c.in_ok-slot.slot c.in_ok-slot.ensures c.take_slot.new.lists c.in_err-take_slot.field-0.0 c.in_err-take_slot.ensures.taken)

pub loop-k-preserved : goal.loop-k-preserved
loop-k-preserved g c =
    let r = c.requires in
    let subject = c.args.subject.now in
    let kept = c.loop-k.invariant.kept in
    record {
      kept = kept_on c.args.lists.now c.loop-k.lists c.take_slot.new.lists kept c.take_slot.ensures.kept;
      scan =
          turn_steps (g.D.Device.meaning subject.device.now) c.args.descriptor.now c.args.lsn subject.bounds.low subject.bounds.high c.number_at-slots.result (record { is = r.is; marked = r.directory; right = r.size; within = r.within; there = subject.there; whole = subject.whole; many = c.number_at-slots.ensures.is }) c.loop-k.k c.args.lists.now c.loop-k.lists c.loop-k.invariant.scan
          c.loop-k.auto.k c.loop-k-test.true c.in_ok-slot.slot c.in_ok-slot.ensures c.take_slot.new.lists r.ready kept c.in_ok-take_slot.ensures.taken;
    }

pub returns-clause-scanned : goal.returns-clause-scanned
returns-clause-scanned g c =
    let r = c.requires in
    let subject = c.args.subject.now in
    turn_ends (g.D.Device.meaning subject.device.now) c.args.descriptor.now c.args.lsn subject.bounds.low subject.bounds.high c.number_at-slots.result (record { is = r.is; marked = r.directory; right = r.size; within = r.within; there = subject.there; whole = subject.whole; many = c.number_at-slots.ensures.is }) c.loop-k.k c.args.lists.now c.loop-k.lists c.loop-k.invariant.scan (omega arith)
