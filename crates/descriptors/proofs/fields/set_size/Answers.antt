use Rattle.std.proofs.Common.{ap, ◌∙◌}
use Rattle.layout.specs.Descriptor.{segment}
use Rattle.descriptors.specs.Shown.{shown}
use Rattle.descriptors.proofs.Showings.{size_shown, size_entries}
use Rattle.descriptors.proofs.fields.set_size.Goals as goal

pub returns-clause-laid : goal.returns-clause-laid
returns-clause-laid c = cc

pub returns-clause-shows : goal.returns-clause-shows
returns-clause-shows c = ap shown (returns-clause-laid c) ∙ size_shown c.args.descriptor.now c.told-descriptor c.args.size c.requires

pub returns-clause-entries : goal.returns-clause-entries
returns-clause-entries c k lt = ap (λ s. segment s k) (returns-clause-laid c) ∙ size_entries c.args.descriptor.now c.told-descriptor c.args.size c.requires k lt
