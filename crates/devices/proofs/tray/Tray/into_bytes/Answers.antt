use Rattle.devices.proofs.Trays.{some_track, sound_under, meaning_is}
use Rattle.devices.proofs.tray.Tray.into_bytes.Goals as goal

pub returns-clause-sound : goal.returns-clause-sound
returns-clause-sound c p =
    let t = c.args.self in
    let xs = t.bytes.items in
    let g = t.geometry in
    let q = some_track g p in
    (sound_under xs g q (t.shape q) (t.spare q) (t.size q) t.states, meaning_is xs g (t.shape q))
