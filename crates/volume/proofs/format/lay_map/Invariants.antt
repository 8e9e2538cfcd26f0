use Rattle.std.proofs.Common.{◌≡◌}
use Rattle.volume.specs.Formatting.{MapLaid}
use Rattle.volume.proofs.format.lay_map.Given as goal

abbrev pub invariant-loop-index : goal.invariant-loop-index
invariant-loop-index g l =
    MapLaid (g.D.Device.meaning l.initial.device) (g.D.Device.meaning l.device) l.plan.total l.index
    × (g.D.Device.aside l.device ≡ g.D.Device.aside l.initial.device)
