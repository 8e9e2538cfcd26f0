use Rattle.std.proofs.Common.{ℕ, ◌*◌, ◌<◌, get_or}
use Rattle.layout.specs.Map.{taken}
use Rattle.survey.specs.MapChecks.{Right}
use Rattle.survey.proofs.map_checks.check_map.Given as goal

abbrev pub invariant-loop-index : goal.invariant-loop-index
invariant-loop-index g l =
    (k : ℕ) → k < l.index * 2048 → k < l.total → Right (g.D.Device.meaning l.device) k (get_or l.marks k 0) (taken (g.D.Device.meaning l.device).sector k)
