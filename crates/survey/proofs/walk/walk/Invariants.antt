use Rattle.survey.specs.Lists.{Kept}
use Rattle.survey.proofs.Goings.{Going}
use Rattle.survey.proofs.walk.walk.Given as goal

abbrev pub invariant-loop-turn : goal.invariant-loop-turn
invariant-loop-turn g l =
    record {
      kept : Kept l.initial.lists l.lists;
      going : Going (g.D.Device.meaning l.subject.device.now) l.initial.lists.marks.now l.lists.marks.now l.lists.waiting.now l.turn l.lists.count;
    }
