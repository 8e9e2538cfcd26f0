use Rattle.std.proofs.Common.{◌≡◌, ℕ, ◌<◌, ◌≤◌}
use Rattle.layout.specs.Descriptor.{segment}
use Rattle.survey.proofs.descriptor_checks.is_tidy.Given as goal

abbrev pub invariant-loop-k : goal.invariant-loop-k
invariant-loop-k l = (j : ℕ) → l.initial.k ≤ j → j < l.k → segment l.descriptor j ≡ record { start = 0; len = 0 }
