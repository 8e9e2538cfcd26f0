use Rattle.std.proofs.Common.{◌≡◌, ℕ, ◌-◌, length, get_or, ap, arith}
use Rattle.layout.specs.Bytes.{number}
use Rattle.layout.specs.Directory.{stored_slot}
use Rattle.layout.specs.Slots.{slot_is}
use Rattle.layout.proofs.directory_entry.DirectoryEntryRecord.read.Goals as goal

pub returns : goal.returns
unfolding stored_slot number
returns c =
    let xs = c.args.bytes.now in
    let at_end : (k : ℕ) → get_or xs (length xs - k) 0 ≡ get_or xs (32 - k) 0 = λ k. ap (λ n. get_or xs (n - k) 0) c.requires in
    slot_is _ _ _ _ c.copy_from_slice.ensures.after (omega (arith, c.from_be_bytes.ensures, at_end 3, at_end 2, at_end 1))
