use Rattle.std.proofs.Common.{◌≡◌, ◌++◌, take, drop}
use Rattle.std.specs.Fmt.{HasWritten, IsPlainFormatter}
use Rattle.layout.specs.Names.{name_of}
use Rattle.console.proofs.letters.StoredNameDisplay.fmt.Given as goal

-- the bytes so far are letters, and have been written
abbrev pub invariant-loop-b : goal.invariant-loop-b
invariant-loop-b g l =
    (take l.b-index l.self.0.now ++ name_of (drop l.b-index l.self.0.now) ≡ name_of l.self.0.now)
    × (IsPlainFormatter l.initial.f → HasWritten g.W.Write.write_str_gives l.initial.f (take l.b-index l.self.0.now) l.f)
