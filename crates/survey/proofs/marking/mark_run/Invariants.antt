use Rattle.std.proofs.Common.{◌≡◌, ℕ, ◌<◌, ◌≤◌, get_or}
use Rattle.survey.proofs.marking.mark_run.Given as goal

abbrev pub invariant-loop-i : goal.invariant-loop-i
invariant-loop-i l =
    record {
      marked : (j : ℕ) → j < l.i → (get_or l.mark-items j 0 ≡ 1) × (get_or l.initial.mark-items j 0 ≡ 0);
      later : (j : ℕ) → l.i ≤ j → get_or l.mark-items j 0 ≡ get_or l.initial.mark-items j 0;
    }
