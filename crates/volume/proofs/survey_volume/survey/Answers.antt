use Rattle.std.proofs.Common.{length, rules}
use Rattle.std.proofs.lemmas.Result.{err_from_is_err_and}
use Rattle.volume.specs.Surveying.{SurveyAnswer}
use Rattle.volume.proofs.Surveys.{root_refused, exact}
use Rattle.volume.proofs.survey_volume.survey.Goals as goal

pub returns-in_err-check_root : goal.returns-in_err-check_root
returns-in_err-check_root g c =
    let d = g.D.Device.meaning c.args.device.now in
    let a = c.args.allocation in
    let room = length c.args.waiting.now in
    let marks = c.args.marks.now in
    let r = c.from_residual-in_err-check_root.result in
    let p = err_from_is_err_and r c.from_residual-in_err-check_root.ensures.1 in
    let answer : SurveyAnswer d a room marks marks r = rw (p.1, p.2) (root_refused d a room marks marks (search rules) c.in-Some.ensures.is.0 _ c.in_err-check_root.ensures) in
    record { answer = answer; passes = exact d a room marks marks r answer }

pub returns-in_err-check_sectors-clause-passes : goal.returns-in_err-check_sectors-clause-passes
returns-in_err-check_sectors-clause-passes g c = exact _ _ _ c.args.marks.now c.check_sectors.new.marks _ (search rules)
