use Rattle.std.proofs.Common.{length, take, sym}
use Rattle.std.proofs.lemmas.Bool.Decides.{Decides-eqb}
use Rattle.std.proofs.lemmas.Slice.Eq.{slice_eq-Decides}
use Rattle.survey.proofs.Periods.{slot_named, slot_not_named}
use Rattle.survey.proofs.dots.is_dot.Goals as goal

pub returns-then-starts_with : goal.returns-then-starts_with
returns-then-starts_with c =
    let ns = c.args.name.now in
    let xs = c.args.slot.now in
    let same = slice_eq-Decides Decides-eqb ns (take (length ns) xs) c.starts_with.result c.starts_with.ensures.value in
    slot_named xs ns c.args.lsn c.requires.stored c.requires.short c.told-slot c.named_in.result (sym (same.0 c.if-starts_with.true)) c.named_in.ensures

pub returns-else-starts_with : goal.returns-else-starts_with
returns-else-starts_with c =
    let ns = c.args.name.now in
    let xs = c.args.slot.now in
    let same = slice_eq-Decides Decides-eqb ns (take (length ns) xs) c.starts_with.result c.starts_with.ensures.value in
    rw c.if-starts_with.false (slot_not_named xs ns c.args.lsn c.requires.stored c.requires.short c.told-slot (λ e. let z = same.1 (sym e) in cc))
