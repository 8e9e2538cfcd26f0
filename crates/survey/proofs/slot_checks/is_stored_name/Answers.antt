use Rattle.std.proofs.Common.{sym, arith}
use Rattle.survey.proofs.Spelt.{proper_more, spelt_end}
use Rattle.survey.proofs.slot_checks.is_stored_name.Goals as goal
use Rattle.survey.proofs.slot_checks.is_stored_name.Goals.{then-letter-ne46, else-letter-ne46}

pub returns-then-byte-ge128 : goal.returns-then-byte-ge128
returns-then-byte-ge128 c =
    let xs = c.args.stored.now in
    let n = c.loop-byte.byte-index in
    let s = c.loop-byte.invariant in
    let here = sym c.if-not-is_name_byte.ensures in
    spelt_end xs n c.loop-byte.proper c.if-letter-ne46.proper (omega (arith, c.requires)) s here c.if-byte-ge128.true
    (elim c.if-letter-ne46.branch [
      | then-letter-ne46 w ↦ rw w.proper-is (n, omega arith, w.if-letter-ne46.true)
      | else-letter-ne46 w ↦ rw w.proper-is (proper_more xs n c.loop-byte.proper s.proper_is w.if-letter-ne46.false)
    ])
