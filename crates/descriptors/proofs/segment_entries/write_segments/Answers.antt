use Rattle.std.proofs.Common.{length, sym, ap, ◌∙◌, arith}
use Rattle.std.specs.List.{flat_map}
use Rattle.std.proofs.lemmas.List.{take_all}
use Rattle.layout.specs.Bytes.{over}
use Rattle.layout.specs.Descriptor.{segment_bytes}
use Rattle.descriptors.specs.Shown.{shown}
use Rattle.descriptors.proofs.Laid.{over_none}
use Rattle.descriptors.proofs.Showings.{segments_shown}
use Rattle.descriptors.proofs.Storing.{entries_length, stored_tidy, entry_more}
use Rattle.descriptors.proofs.segment_entries.write_segments.Goals as goal

pub loop-k-init : goal.loop-k-init
loop-k-init c = sym (over_none 16 c.args.descriptor.now)

pub loop-k-preserved : goal.loop-k-preserved
loop-k-preserved c =
    c.put_segment.ensures
    ∙ entry_more c.entries-entries.result.now c.loop-k.k c.args.descriptor.now c.loop-k.descriptor
    (ap length c.entries-entries.ensures.are ∙ entries_length c.args.segments.now c.entries-entries.ensures.few)
    c.loop-k-test.true c.told-descriptor c.loop-k.invariant

pub returns-clause-laid : goal.returns-clause-laid
returns-clause-laid c =
    let es = c.entries-entries.result.now in
    let long = ap length c.entries-entries.ensures.are ∙ entries_length c.args.segments.now c.entries-entries.ensures.few in
    c.loop-k.invariant
    ∙ ap (λ gs. over 16 (flat_map segment_bytes gs) c.args.descriptor.now) (take_all c.loop-k.k es (omega (arith, long)) ∙ c.entries-entries.ensures.are)

pub returns-clause-shows : goal.returns-clause-shows
returns-clause-shows c =
    ap shown (returns-clause-laid c) ∙ segments_shown c.args.descriptor.now c.told-descriptor c.args.segments.now c.entries-entries.ensures.few c.requires

pub returns-clause-tidy : goal.returns-clause-tidy
returns-clause-tidy c =
    rw (returns-clause-laid c) (stored_tidy c.args.segments.now c.entries-entries.ensures.few c.requires c.args.descriptor.now c.told-descriptor)
