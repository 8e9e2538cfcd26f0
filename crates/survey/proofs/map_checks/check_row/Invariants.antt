use Rattle.std.proofs.Common.{ℕ, ◌+◌, ◌<◌, get_or}
use Rattle.layout.specs.Map.{bit_of}
use Rattle.survey.specs.MapChecks.{Right}
use Rattle.survey.proofs.map_checks.check_row.Given as goal

abbrev pub invariant-loop-i : goal.invariant-loop-i
invariant-loop-i g l = (j : ℕ) → j < l.i → Right (g.D.Device.meaning l.device) (l.first + j) (get_or l.marks (l.first + j) 0) (bit_of l.row j)
