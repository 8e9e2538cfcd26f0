use Rattle.std.proofs.Common.{◌∙◌, arith}
use Rattle.volume.proofs.Layings.{map_more}
use Rattle.volume.proofs.format.lay_map.Goals as goal

pub loop-index-preserved : goal.loop-index-preserved
loop-index-preserved g c =
    let m = g.D.Device.meaning c.args.device.now in
    let m₁ = g.D.Device.meaning c.loop-index.device in
    let m₂ = g.D.Device.meaning c.replace.new.device in
    let inv = c.loop-index.invariant in (
      map_more m m₁ m₂ c.args.plan.total c.loop-index.index _ c.requires.fits (omega arith) inv.0 c.replace.ensures.kept c.replace.ensures.here c.new_map_sector-sector.ensures,
      c.replace.ensures.beside ∙ inv.1,
    )
