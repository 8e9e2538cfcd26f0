use Rattle.std.proofs.Common.{ap, ◌∙◌, arith}
use Rattle.descriptors.specs.Shown.{shown, with_segments}
use Rattle.descriptors.proofs.Creating.{one_byte, fields_show}
use Rattle.descriptors.proofs.new_descriptor.new_descriptor.Goals as goal

pub returns-clause-is : goal.returns-clause-is
returns-clause-is c = cc (one_byte c.args.heading.now.attribute (omega arith))

pub returns-clause-shows : goal.returns-clause-shows
returns-clause-shows c =
    let ss = c.args.segments.now in
    let one = one_byte c.args.heading.now.attribute (omega arith) in
    c.write_segments.ensures.shows
    ∙ ap (λ s. with_segments ss (shown s)) (cc)
    ∙ fields_show c.args.heading.now c.args.size ss (omega arith) (omega arith) (omega arith) (omega arith) c.requires.fits
