use Rattle.std.proofs.Common.{◌≡◌, ◌+◌, ◌*◌, min, sym, ap, ◌∙◌, ap₂, arith}
use Rattle.layout.specs.Map.{bit_of, taken, clear_below}
use Rattle.layout.proofs.Clears.{clear_sector}
use Rattle.volume.proofs.count.clear_sectors.Goals as goal

pub loop-index-preserved : goal.loop-index-preserved
loop-index-preserved g c =
    let m = g.D.Device.meaning c.args.device.now in
    let T = c.total-total.result in
    let j = c.loop-index.index in
    let n = c.min-bits.result in
    let inv = c.loop-index.invariant in
    let before : min T (j * 2048) ≡ j * 2048 = omega arith in
    let after : min T ((j + 1) * 2048) ≡ j * 2048 + n = omega arith in (
      ap₂ ◌+◌ (inv.0 ∙ ap (clear_below (taken m.sector)) before) (c.clear_in-clear.ensures.is ∙ ap (λ s. clear_below (bit_of s) n) c.in_ok-sector.ensures.1)
          ∙ sym (clear_sector m.sector j n (omega arith))
          ∙ ap (clear_below (taken m.sector)) (sym after),
      omega (arith, inv.1, c.clear_in-clear.ensures.few),
    )
