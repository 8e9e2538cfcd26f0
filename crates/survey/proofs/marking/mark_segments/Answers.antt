use Rattle.std.proofs.Common.{◌+◌, ◌-◌, inl, inr, arith}
use Rattle.std.proofs.lemmas.Bool.{cases_lt}
use Rattle.std.proofs.lemmas.Result.{err_from_is_err_and}
use Rattle.layout.specs.Descriptor.{upto}
use Rattle.rules.specs.Nodes.{times}
use Rattle.rules.proofs.Runs.{upto_in}
use Rattle.survey.proofs.Within.{first_and_rest}
use Rattle.survey.proofs.marking.mark_segments.Goals as goal

pub mark_run-requires : goal.mark_run-requires
mark_run-requires c =
    let g = c.in-Some.segment in
    let inv = c.loop-segment.invariant in
    let some = (rw c.in-Some.ensures.steps at inv.storable).0.some in
    let at = (g.start + g.len) - 1 in
    let has = upto_in at g.start g.len (omega arith) (omega arith) in
    let inside = c.requires at (omega (arith, has, first_and_rest g c.loop-segment.segment-iterator c.next.new.self c.in-Some.ensures.steps at, inv.left at)) in
    omega (arith, inside.1, c.loop-segment.auto.marks)

pub returns-in_err-mark_run : goal.returns-in_err-mark_run
returns-in_err-mark_run c =
    let g = c.in-Some.segment in
    let inv = c.loop-segment.invariant in
    let at = c.in_err-mark_run.field-0.0 in
    let clash = c.in_err-mark_run.ensures in
    let more = first_and_rest g c.loop-segment.segment-iterator c.next.new.self c.in-Some.ensures.steps at in
    let p = err_from_is_err_and c.from_residual.result c.from_residual.ensures.1 in
    rw (p.1, p.2) (omega (arith, clash.0, more, inv.left at), omega (arith, clash.1, more, inv.counted at))

pub loop-segment-preserved : goal.loop-segment-preserved
loop-segment-preserved c =
    let g = c.in-Some.segment in
    let inv = c.loop-segment.invariant in
    let steps = c.in-Some.ensures.steps in
    let more = first_and_rest g c.loop-segment.segment-iterator c.next.new.self steps in
    let run = c.in_ok-mark_run.ensures in
    record {
      counted = λ i. omega (arith, more i, run.0 i, inv.counted i);
      once = λ i less. elim (cases_lt 0 (times i (upto g.start g.len))) [
        | inl some ↦ run.1 i some
        | inr none ↦ omega (arith, run.0 i, inv.once i (omega (arith, more i)))
      ];
      left = λ i. omega (arith, more i, inv.left i);
      storable = (rw steps at inv.storable).1;
    }
