use Rattle.std.proofs.Common.{◌/◌, ◌%◌, eqb, ap}
use Rattle.layout.specs.Map.{bit_at}
use Rattle.survey.proofs.descriptor_checks.is_directory.Goals as goal

pub returns : goal.returns
unfolding bit_at
returns c = ap (λ n. eqb (n / 128 % 2) 1) c.number_at.ensures.is
