use Rattle.std.proofs.Common.{◌≡◌, ◌+◌, ◌-◌, ◌*◌, ◌/◌, [], ◌∷◌, length, refl, ap, ◌∙◌, arith, rules}
use Rattle.devices.proofs.Putting.{vec_put, apart}
use Rattle.devices.proofs.flat.FlatImageDevice.write.Goals as goal

pub returns : goal.returns
returns c =
    let v = c.args.self.now.bytes in
    let at = c.in_ok-at.at in
    let h = c.in_ok-at.ensures in
    let ys = c.copy_from_slice.new.self in
    let len : length ys ≡ 256 = search rules in
    let put = vec_put v c.as_mut_slice.result.now ys at ((at + 256) - at) c.as_mut_slice.ensures.value h.2 (omega arith) len in
    record {
      done = (
        h.0,
        (refl, λ k b. refl, λ k b d. put.other (k * 256) (rw h.1 (apart k c.args.lsn d))),
        rw (← h.1) (put.here ∙ c.copy_from_slice.ensures.after),
      );
      beside = ap (λ t. (t ∷ []) ∷ []) (rw put.long (put.back (length v.items / 256 * 256) (omega (arith, v.ok.0, h.0.1, h.1))));
    }
