use Rattle.std.proofs.Common.{rules}
use Rattle.volume.proofs.NewReads.{new_layout}
use Rattle.volume.proofs.NewSound.{new_sound}
use Rattle.volume.proofs.format.format.Goals as goal

pub returns-clause-reads : goal.returns-clause-reads
returns-clause-reads g c = new_layout _ _ c.args.total c.args.name.now (search rules) (search rules) c.lay_volume.ensures.laid

pub returns-clause-sound : goal.returns-clause-sound
returns-clause-sound g c =
    new_sound _ _ c.args.total c.args.name.now (search rules) (search rules) (search rules) (search rules) (search rules) c.lay_volume.ensures.laid
