use Rattle.std.proofs.Common.{◌*◌, ◌<◌, refl, arith}
use Rattle.devices.proofs.Interleave.{place_injective, place_below}
use Rattle.devices.proofs.geometry.Geometry.place.Goals as goal

pub returns : goal.returns
returns c =
    let g = c.args.self.now in
    let s = g.sectors_per_track in
    let k = g.interleave in
    let l = c.args.lsn in
    let lt : l < g.tracks * g.sides * s = omega (arith, c.total.ensures) in
    (lt, refl, place_below s k g.wide.0 (g.tracks * g.sides) l lt, λ m e. place_injective s k g.wide.0 g.stride.0 g.stride.2 m l e)
