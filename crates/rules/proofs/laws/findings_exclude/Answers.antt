use Rattle.rules.proofs.Findings.{broken_unsound}
use Rattle.rules.proofs.laws.findings_exclude.Goals as goal

pub returns : goal.returns
returns c = broken_unsound
