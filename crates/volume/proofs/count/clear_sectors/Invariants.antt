use Rattle.std.proofs.Common.{◌≡◌, ◌*◌, ◌≤◌, min}
use Rattle.layout.specs.Map.{taken, clear_below}
use Rattle.volume.proofs.count.clear_sectors.Given as goal

abbrev pub invariant-loop-index : goal.invariant-loop-index
invariant-loop-index g l =
    (l.clear ≡ clear_below (taken (g.D.Device.meaning l.device).sector) (min l.total (l.index * 2048)))
    × (l.clear ≤ l.index * 2048)
