use Rattle.std.proofs.Common.{◌≡◌, ◌-◌, ◌++◌, length, take, reverse}
use Rattle.layout.specs.Bytes.{bytes as encoded}
use Rattle.layout.proofs.numbers.to_bytes.Given as goal

-- the bytes so far stand, the last one first, behind those of what is left
abbrev pub invariant-loop-byte : goal.invariant-loop-byte
invariant-loop-byte g l = record {
  long : length l.byte-items ≡ g.row.N;
  split : encoded g.row.N l.n ≡ encoded (g.row.N - l.byte-index) l.rest ++ reverse (take l.byte-index l.byte-items);
}
