use Rattle.table.proofs.Building.{sound_table}
use Rattle.table.proofs.Soundness.{table_sound}
use Rattle.table.proofs.Unique.{one_table, root_alone}
use Rattle.table.proofs.laws.table_stands.Goals as goal

pub returns : goal.returns
returns c = record { sound = table_sound; found = sound_table; one = one_table; alone = root_alone }
