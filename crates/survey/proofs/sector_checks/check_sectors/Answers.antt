use Rattle.std.proofs.Common.{ℕ, subst}
use Rattle.survey.specs.MapChecks.{MapAnswer}
use Rattle.survey.proofs.Sweeps.{swept}
use Rattle.survey.proofs.sector_checks.check_sectors.Goals as goal

pub returns : goal.returns
returns g c =
    let d = g.D.Device.meaning c.args.subject.now.device.now in
    let m = c.walk.new.marks in
    swept d c.args.marks.now m c.requires.inside c.in_ok-walk.ensures c.check_map.result
    (subst (λ (T : ℕ). MapAnswer d m T c.check_map.result) c.requires.identified.total c.check_map.ensures)
