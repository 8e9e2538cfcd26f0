use Rattle.std.proofs.Common.{◌≡◌, ℕ, ◌<◌, false}
use Rattle.volume.proofs.format.ask_good.Given as goal

abbrev pub invariant-loop-lsn : goal.invariant-loop-lsn
invariant-loop-lsn g l = (k : ℕ) → k < l.lsn → (g.D.Device.meaning l.device).bad k ≡ false
