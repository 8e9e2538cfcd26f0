use Rattle.table.proofs.Additions.{add_keeps}
use Rattle.table.proofs.Changes.{change_keeps}
use Rattle.table.proofs.Removals.{remove_keeps}
use Rattle.table.proofs.Sames.{same_keeps}
use Rattle.table.proofs.laws.updates_keep.Goals as goal

pub returns : goal.returns
returns c = record { same = same_keeps; change = change_keeps; add = add_keeps; remove = remove_keeps }
