use Rattle.std.proofs.Common.{◌≡◌, ℕ, List, sym, ap, ◌∙◌, subst, rules}
use Rattle.layout.specs.Descriptor.{segments, extent}
use Rattle.rules.specs.Nodes.{is_directory}
use Rattle.rules.specs.Rules.{SegmentsWithin, Tidy, SizeRight, Linked}
use Rattle.survey.specs.Lists.{counted}
use Rattle.survey.specs.Marks.{Marked}
use Rattle.survey.proofs.SlotReads.{wide_of}
use Rattle.survey.proofs.Visits.{visited}
use Rattle.survey.proofs.visit.visit.Goals as goal

pub check_dots-requires-clause-wide : goal.check_dots-requires-clause-wide
check_dots-requires-clause-wide g c =
    let s = c.in_ok-descriptor.descriptor in
    let subject = c.args.subject.now in
    let within : SegmentsWithin s subject.bounds.low subject.bounds.high = search rules in
    wide_of (g.D.Device.meaning subject.device.now) s subject.bounds.low subject.bounds.high subject.whole within subject.there

pub returns-clause-visited : goal.returns-clause-visited
returns-clause-visited g c =
    let d = g.D.Device.meaning c.args.subject.now.device.now in
    let s = c.in_ok-descriptor.descriptor in
    let b = c.args.subject.now.bounds in
    let old = c.args.lists.now in
    let new = c.scan_slots.new.lists in
    let is : s ≡ d.sector c.args.lsn = search rules in
    let right : Linked s × Tidy s × SegmentsWithin s b.low b.high × SizeRight s = search rules in
    let marks : Marked old.marks.now (extent (segments s)) c.mark_segments.new.marks = search rules in
    visited d c.args.lsn c.args.parent b.low b.high old.count old.marks.now c.mark_segments.new.marks new.marks.now old.waiting.now new.waiting.now
    (ap is_directory (sym is) ∙ sym c.if-not-is_directory.ensures)
    (subst Linked is right.0) (subst Tidy is right.1)
    (subst (λ (t : List ℕ). SegmentsWithin t b.low b.high) is right.2)
    (subst SizeRight is right.3)
    c.in_ok-check_dots.ensures
    (subst (λ (t : List ℕ). Marked old.marks.now (extent (segments t)) c.mark_segments.new.marks) is marks)
    (counted new.count c.scan_slots.result) c.scan_slots.ensures.scanned
