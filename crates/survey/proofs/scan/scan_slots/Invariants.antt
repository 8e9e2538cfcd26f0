use Rattle.survey.specs.Lists.{Kept}
use Rattle.survey.proofs.Scans.{Scan}
use Rattle.survey.proofs.scan.scan_slots.Given as goal

abbrev pub invariant-loop-k : goal.invariant-loop-k
invariant-loop-k g l =
    record {
      kept : Kept l.initial.lists l.lists;
      scan : Scan (g.D.Device.meaning l.subject.device.now) l.lsn l.subject.bounds.low l.subject.bounds.high l.base l.initial.lists.marks.now l.initial.lists.waiting.now l.k l.lists.count l.lists.marks.now l.lists.waiting.now;
    }
