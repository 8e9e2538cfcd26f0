use Rattle.survey.proofs.Prepares.{Preparing}
use Rattle.survey.proofs.walk.prepare.Given as goal

abbrev pub invariant-loop-k : goal.invariant-loop-k
invariant-loop-k l = Preparing l.bounds.low l.root l.k l.initial.mark-items l.mark-items
