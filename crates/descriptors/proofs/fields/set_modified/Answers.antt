use Rattle.std.proofs.Common.{ap, ◌∙◌, arith}
use Rattle.layout.specs.Descriptor.{segment}
use Rattle.descriptors.specs.Shown.{shown}
use Rattle.descriptors.proofs.Showings.{date_shown, date_entries}
use Rattle.descriptors.proofs.fields.set_modified.Goals as goal

pub returns-clause-shows : goal.returns-clause-shows
returns-clause-shows c = ap shown c.put.ensures ∙ date_shown c.args.descriptor.now c.told-descriptor c.args.date.now (omega arith)

pub returns-clause-entries : goal.returns-clause-entries
returns-clause-entries c k lt = ap (λ s. segment s k) c.put.ensures ∙ date_entries c.args.descriptor.now c.told-descriptor c.args.date.now (omega arith) k lt
