use Rattle.std.proofs.Common.{ℕ, ap₂, arith}
use Rattle.layout.specs.Bytes.{number}
use Rattle.layout.specs.Descriptor.{segment_of}
use Rattle.layout.specs.declared.segment.Segment.{Segment}
use Rattle.layout.proofs.segment_entry.SegmentEntryRecord.read.Goals as goal

pub returns : goal.returns
unfolding segment_of number
returns c =
    let make : ℕ → ℕ → Segment = λ s l. record { start = s; len = l } in
    ap₂ make (omega (arith, c.from_be_bytes.ensures)) (omega (arith, c.from.ensures, c.from_be_bytes-2.ensures))
