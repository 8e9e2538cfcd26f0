-- A visit: the descriptor's own bytes, its sectors' marks, and the scan of its slots.
use Rattle.std.proofs.Common.{◌≡◌, ℕ, true, List, Ok, Err, Result, inr, arith}
use Rattle.devices.specs.Meaning.{Meaning}
use Rattle.layout.specs.Descriptor.{segments, extent}
use Rattle.rules.specs.Nodes.{is_directory}
use Rattle.rules.specs.Rules.{SegmentsWithin, Tidy, SizeRight, Linked}
use Rattle.rules.specs.declared.rule.Rule.{Rule}
use Rattle.rules.specs.declared.rule.Rule.TheVariants as rule
use Rattle.survey.specs.Marks.{Marked}
use Rattle.survey.specs.Scanning.{ScanBreaks, ScanAnswer}
use Rattle.survey.specs.Visiting.{VisitBreaks, VisitAnswer, Dotted}
use Rattle.survey.specs.declared.finding.Finding.{Finding}
use Rattle.survey.specs.declared.finding.Finding.TheVariants.{Broken, Unread}
use Rattle.survey.specs.declared.waiting.Waiting.{Waiting}

module _ (d : Meaning) (l p low high base : ℕ) (m₀ m₁ m₂ : List ℕ) (ws₀ ws₂ : List Waiting)
    (dir : is_directory (d.sector l) ≡ true) (linked : Linked (d.sector l)) (tidy : Tidy (d.sector l)) (within : SegmentsWithin (d.sector l) low high) (size : SizeRight (d.sector l))
    (dots : Dotted d l p) (marks : Marked m₀ (extent (segments (d.sector l))) m₁) where
  breaks : (r : Rule) (at : ℕ) → ScanBreaks d l low high m₁ r at → VisitBreaks d l p low high m₀ r at
  breaks rule.A at b = b
  breaks rule.B at b = (b.0, λ points. b.1 points.children_inside)
  breaks rule.C at b = absurd b
  breaks rule.D at b = absurd b
  breaks rule.E at b = (b.0, dir, λ right. b.1 (record { right = right.right; distinct = right.distinct }))
  breaks rule.F at b = absurd b
  breaks rule.G at b = (b.0, b.1, omega (arith, b.2, marks at))
  breaks rule.H at b = b

  pub visited : (r : Result ℕ Finding) → ScanAnswer d l low high base m₁ m₂ ws₀ ws₂ r → VisitAnswer d l p low high base m₀ m₂ ws₀ ws₂ r
  visited (Ok n) s =
      record {
        points = record { segments_inside = within; children_inside = s.inside };
        rule_c = tidy;
        rule_d = size;
        rule_f = linked;
        slots_right = λ e. record { here = dots.here; up = dots.up; right = s.rights.right; distinct = s.rights.distinct };
        lsns_are = s.lsns_are;
        old = s.old;
        enough = s.enough;
        most = s.most;
        parents = s.parents;
        marked = λ c. omega (arith, s.marked c, marks c);
        small = s.small;
      }
  visited (Err (Broken r at)) s = breaks r at s
  visited (Err (Unread w f)) s = (omega (arith, s.0), s.1, inr (within f.lsn s.0).1)
