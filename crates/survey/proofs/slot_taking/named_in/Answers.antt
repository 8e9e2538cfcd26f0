use Rattle.layout.specs.Directory.{stored_slot}
use Rattle.survey.proofs.slot_taking.named_in.Goals as goal

pub returns : goal.returns
unfolding stored_slot
returns c = c.number_at.ensures.is
