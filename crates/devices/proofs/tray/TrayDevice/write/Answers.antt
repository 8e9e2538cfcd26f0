use Rattle.std.proofs.Common.{◌≡◌, ◌+◌, ◌-◌, [], ◌∷◌, length, ap, ◌∙◌, arith, rules}
use Rattle.devices.proofs.Putting.{vec_put}
use Rattle.devices.proofs.Written.{sectors_kept, head_kept}
use Rattle.devices.proofs.tray.TrayDevice.write.Goals as goal

pub returns : goal.returns
returns c =
    let t = c.args.self.now in
    let l = c.args.lsn in
    let at = c.in_ok-at.at in
    let h = c.in_ok-at.ensures in
    let ys = c.copy_from_slice.new.self in
    let len : length ys ≡ 256 = search rules in
    let put = vec_put t.bytes c.as_mut_slice.result.now ys at ((at + 256) - at) c.as_mut_slice.ensures.value (omega (arith, t.bytes.ok.0, h.2)) (omega arith) len in
    record {
      done = (h.0, sectors_kept t ys _ l at h.0.1 h.1 put, rw (← h.1) (put.here ∙ c.copy_from_slice.ensures.after));
      beside = ap (λ x. (x ∷ []) ∷ []) (head_kept t ys _ l at h.0.1 h.1 put);
    }
