use Rattle.std.proofs.Common.{sym, ap, ◌∙◌}
use Rattle.descriptors.specs.Padded.{entries_are}
use Rattle.descriptors.specs.Stored.{entries_of}
use Rattle.descriptors.proofs.segment_list.SegmentList.entries.Goals as goal

pub returns-clause-are : goal.returns-clause-are
returns-clause-are c =
    let self = c.self.inside in
    sym (entries_are self.items self.count c.self.invariant) ∙ ap entries_of c.self.view_is
