use Rattle.std.proofs.Common.{length, ap, ◌∙◌, arith}
use Rattle.descriptors.specs.Lists.{lengthened}
use Rattle.descriptors.specs.Padded.{length_listed}
use Rattle.descriptors.proofs.ListLaws.{put_longer}
use Rattle.descriptors.proofs.segment_list.SegmentList.lengthen.Goals as goal

pub returns-clause-is : goal.returns-clause-is
returns-clause-is c =
    let self = c.self.inside in
    let more = c.args.more in
    put_longer self.items self.count (omega (arith, c.self.invariant.few, c.self.invariant.long)) more
    (omega (arith, length_listed self.items self.count c.self.invariant, ap length c.self.view_is, c.requires.some))
    ∙ ap (λ ss. lengthened ss more) c.self.view_is
