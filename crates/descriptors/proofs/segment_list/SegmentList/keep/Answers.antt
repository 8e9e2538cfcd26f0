use Rattle.descriptors.proofs.Cutting.{kept_extent, freed_extent, cut_all, kept_storable}
use Rattle.descriptors.proofs.segment_list.SegmentList.keep.Goals as goal

pub returns-clause-first : goal.returns-clause-first
returns-clause-first c = rw c.first.ensures (kept_extent c.args.n c.args.self.now)

pub returns-clause-behind : goal.returns-clause-behind
returns-clause-behind c = rw c.behind-runs.ensures (freed_extent c.args.n c.args.self.now)

pub returns-clause-all : goal.returns-clause-all
returns-clause-all c = rw (c.first.ensures, c.behind-runs.ensures) (cut_all c.args.n c.args.self.now)

pub returns-clause-storable : goal.returns-clause-storable
returns-clause-storable c = rw c.first.ensures (kept_storable c.args.n c.args.self.now c.requires)
