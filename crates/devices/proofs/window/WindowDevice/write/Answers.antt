use Rattle.std.proofs.Common.{◌<◌, ◌∷◌, sym, refl, ap₂, arith}
use Rattle.std.proofs.lemmas.Result.{err_from_is_err_and}
use Rattle.devices.specs.Window.{extent, window_meaning}
use Rattle.devices.proofs.Windows.{around_written}
use Rattle.devices.proofs.window.WindowDevice.write.Goals as goal

pub returns-in_err-ask-clause-done : goal.returns-in_err-ask-clause-done
returns-in_err-ask-clause-done g c =
    let w = c.args.self.now in
    let p = err_from_is_err_and c.from_residual.result c.from_residual.ensures.1 in
    rw (p.1, p.2)
    (c.in_err-ask.ensures (window_meaning (g.D.Device.meaning w.lower) w.start w.count) (sym c.extent.ensures.is), (refl, λ k h. refl, λ k h u. refl))

pub returns-clause-beside : goal.returns-clause-beside
returns-clause-beside g c =
    let w = c.args.self.now in
    let m = g.D.Device.meaning w.lower in
    let lt : c.args.lsn < extent m w.start w.count = omega (arith, c.in_ok-ask.ensures, c.extent.ensures.is) in
    ap₂ ◌∷◌ (around_written m (g.D.Device.meaning c.write.new.self) w.start w.count c.args.lsn c.args.buf.now c.write.result lt c.write.ensures.done) c.write.ensures.beside
