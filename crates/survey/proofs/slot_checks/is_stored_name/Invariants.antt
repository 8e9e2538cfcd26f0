use Rattle.survey.proofs.Spelt.{Spelt}
use Rattle.survey.proofs.slot_checks.is_stored_name.Given as goal

abbrev pub invariant-loop-byte : goal.invariant-loop-byte
invariant-loop-byte l = Spelt l.stored l.byte-index l.proper
