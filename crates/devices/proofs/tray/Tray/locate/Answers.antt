use Rattle.std.proofs.Common.{◌≡◌, ◌+◌, eqb, get_or, sym, refl, ap, arith}
use Rattle.std.proofs.lemmas.List.{get_or_read_under}
use Rattle.std.proofs.lemmas.Result.{err_from_is_err_and}
use Rattle.devices.specs.Tray.{meaning_under}
use Rattle.devices.proofs.Trays.{long_under}
use Rattle.devices.proofs.tray.Tray.locate.Goals as goal

pub returns-in_err-ask : goal.returns-in_err-ask
returns-in_err-ask c =
    let t = c.args.self.now in
    let p = err_from_is_err_and c.from_residual.result c.from_residual.ensures.1 in
    rw (p.1, p.2) (c.in_err-ask.ensures (meaning_under t.geometry t.bytes.items) (sym c.total-total.ensures))

pub returns-in_default-index : goal.returns-in_default-index
returns-in_default-index c =
    let t = c.args.self.now in
    let v = t.bytes in
    let place = c.in-Some.place in
    let h = c.in-Some.ensures in
    let read = get_or_read_under v.items (8 + place) v.len c.index.result.now 0 c.index.ensures (omega (arith, long_under t (omega (arith, h.0)), v.ok.0, h.2)) v.ok.0 in
    let state : get_or v.items (8 + place) 0 ≡ 1 = omega (arith, read, t.states place h.2) in
    (refl, (c.in_ok-ask.ensures.0, h.0, ap (λ x. eqb x 1) (rw h.1 at state)))
