use Rattle.std.proofs.Common.{◌≡◌, ◌^◌, ◌<◌}
use Rattle.layout.specs.Map.{packed}
use Rattle.volume.specs.NewVolume.{taken_first}
use Rattle.volume.proofs.new_map.map_byte.Given as goal

abbrev pub invariant-loop-place : goal.invariant-loop-place
invariant-loop-place g l = (l.byte ≡ packed (taken_first (g.D.Device.meaning l.device) l.plan.total) l.first l.place) × (l.byte < 2 ^ l.place)
