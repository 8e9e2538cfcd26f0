use Rattle.std.proofs.Common.{◌*◌, ap, ◌∙◌, arith}
use borrow.Rule.Slice.PartMut.{put_mid}
use Rattle.layout.specs.Descriptor.{segment_bytes}
use Rattle.layout.specs.Overs.{over_part}
use Rattle.layout.proofs.Segments.{length-segment}
use Rattle.layout.proofs.descriptor.put_segment.Goals as goal

pub returns : goal.returns
returns c =
    let xs = c.args.descriptor.now in
    let s = c.args.segment.now in
    let k = c.args.k in
    ap (put_mid 16 240 xs) c.put_nth.ensures.laid
    ∙ over_part 16 240 (k * 5) (segment_bytes s) xs (omega arith) (omega (arith, length-segment s, c.requires.few))
