use Rattle.std.proofs.Common.{◌≡◌, ℕ, List, Err, sym, refl, ap, ◌∙◌}
use Rattle.std.proofs.lemmas.Result.{err_from_is_err_and}
use Rattle.devices.specs.Meaning.{Meaning}
use Rattle.layout.specs.Directory.{slot}
use Rattle.layout.specs.Names.{name_of}
use Rattle.survey.specs.Slots.{SlotRead}
use Rattle.survey.specs.Visiting.{DotAnswer}
use Rattle.survey.specs.declared.finding.Finding.{Finding}
use Rattle.survey.specs.declared.finding.Finding.TheVariants.{Broken, Unread}
use Rattle.survey.proofs.SlotReads.{slot_is, unread}
use Rattle.survey.proofs.dots.check_dot.Goals as goal

refused : (d : Meaning) (s : List ℕ) (l k : ℕ) (name : List ℕ) (n : ℕ) (f : Finding) → s ≡ d.sector l → SlotRead d s k (Err f) → DotAnswer d l k name n (Err f)
refused d s l k name n (Broken r at) is e = absurd e
refused d s l k name n (Unread w f) is e = unread d s l k w f is e

pub returns-in_err-slot : goal.returns-in_err-slot
returns-in_err-slot g c =
    let p = err_from_is_err_and c.from_residual.result c.from_residual.ensures.1 in
    rw (p.1, p.2) (refused (g.D.Device.meaning c.args.device.now) c.args.descriptor.now c.args.lsn c.args.k (name_of c.args.name.now) c.args.named c.in_err-slot.field-0.0 c.requires.is c.in_err-slot.ensures)

pub returns-in_default : goal.returns-in_default
returns-in_default g c =
    let read = c.in_ok-slot.ensures in
    let is = slot_is (g.D.Device.meaning c.args.device.now) c.args.descriptor.now c.in_ok-slot.slot c.args.lsn c.args.k read.0 c.requires.is c.requires.held c.requires.wide read.1 read.3 in
    rw c.broken.ensures (refl, refl, λ has. c.in_default.ensures (ap slot is ∙ has))

pub returns : goal.returns
returns g c =
    let read = c.in_ok-slot.ensures in
    let is = slot_is (g.D.Device.meaning c.args.device.now) c.args.descriptor.now c.in_ok-slot.slot c.args.lsn c.args.k read.0 c.requires.is c.requires.held c.requires.wide read.1 read.3 in
    sym (ap slot is) ∙ c.in-true.ensures
