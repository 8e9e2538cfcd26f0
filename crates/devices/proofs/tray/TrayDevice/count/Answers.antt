use Rattle.std.proofs.Common.{◌+◌, ◌*◌, arith}
use Rattle.devices.specs.Geometry.{lsn_place}
use Rattle.devices.specs.Tray.{sectors_of}
use Rattle.devices.proofs.Putting.{row_whole}
use Rattle.devices.proofs.Trays.{long_under, sector_fits}
use Rattle.devices.proofs.tray.TrayDevice.count.Goals as goal

pub returns-clause-whole : goal.returns-clause-whole
returns-clause-whole c l lt =
    let t = c.args.self.now in
    let g = t.geometry in
    row_whole t.bytes.items (8 + sectors_of g + lsn_place g.sectors_per_track g.interleave l * 256) (sector_fits t.bytes.items g l (long_under t (omega arith)) lt)
