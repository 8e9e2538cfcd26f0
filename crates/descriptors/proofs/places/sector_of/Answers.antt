use Rattle.std.proofs.Common.{sym, ap, ◌∙◌}
use Rattle.std.specs.List.{slice_get}
use Rattle.layout.specs.Descriptor.{extent}
use Rattle.descriptors.proofs.Extents.{nth_here, nth_past}
use Rattle.descriptors.proofs.places.sector_of.Goals as goal

pub returns-then-left-segment : goal.returns-then-left-segment
returns-then-left-segment c =
    sym (ap (λ ss. slice_get (extent ss) c.loop-segment.left) c.in-Some.ensures.steps ∙ nth_here c.in-Some.segment c.next.new.self c.loop-segment.left c.if-left-segment.true)
    ∙ c.loop-segment.invariant.0

pub loop-segment-preserved : goal.loop-segment-preserved
loop-segment-preserved c =
    let more = c.in-Some.ensures.steps in (
      sym (ap (λ ss. slice_get (extent ss) c.loop-segment.left) more ∙ nth_past c.in-Some.segment c.next.new.self c.loop-segment.left c.if-left-segment.false) ∙ c.loop-segment.invariant.0,
      (rw more at c.loop-segment.invariant.1).1,
    )
