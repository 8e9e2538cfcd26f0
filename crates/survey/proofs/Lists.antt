-- The work lists, one call after another.
use Rattle.std.proofs.Common.{◌∙◌}
use Rattle.survey.specs.Lists.{Kept}
use Rattle.survey.specs.declared.work_lists.WorkLists.{WorkLists}

pub kept_on : (a b c : WorkLists) → Kept a b → Kept b c → Kept a c
kept_on a b c p q =
    record {
      same_marks = q.same_marks ∙ p.same_marks;
      same_waiting = q.same_waiting ∙ p.same_waiting;
      marks_long = q.marks_long ∙ p.marks_long;
      waiting_long = q.waiting_long ∙ p.waiting_long;
    }
