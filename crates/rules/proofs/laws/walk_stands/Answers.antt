use Rattle.rules.proofs.Walks.{walk_starts, walk_turns, walk_clashes, walk_ends, walk_lists, walk_fits}
use Rattle.rules.proofs.laws.walk_stands.Goals as goal

pub returns : goal.returns
returns c = record { starts = walk_starts; turns = walk_turns; clashes = walk_clashes; ends = walk_ends; lists = walk_lists; fits = walk_fits }
