use Rattle.devices.proofs.Trays.{refused_unsound}
use Rattle.devices.proofs.tray.Tray.new.Goals as goal

pub returns-clause-sound : goal.returns-clause-sound
returns-clause-sound c s =
    let h = rw c.as_slice.ensures.value at c.in_default.ensures in
    absurd (refused_unsound c.args.bytes.items c.in_default.field-0.question c.in_default.field-0.place h s)
