use Rattle.std.proofs.Common.{◌≡◌, ◌^◌, ◌<◌}
use Rattle.layout.specs.Bytes.{number}
use Rattle.layout.proofs.numbers.number_at.Given as goal

abbrev pub invariant-loop-byte : goal.invariant-loop-byte
invariant-loop-byte l = record {
  is : l.n ≡ number l.at l.byte-index l.bytes;
  fits : l.n < 256 ^ l.byte-index;
}
