-- One sector, read for a survey.
use Rattle.std.specs.Prelude.{◌≡◌, ℕ, List, Ok, Err, Result}
use Rattle.devices.specs.Meaning.{Meaning, Accepts, Refuses}
use Rattle.survey.specs.declared.finding.Finding.{Finding}
use Rattle.survey.specs.declared.finding.Finding.TheVariants.{Broken, Unread}
use Rattle.survey.specs.declared.finding.Reading.{Reading}

-- what the sector l holds, or the device's refusal with what was being read
abbrev pub Loaded : Meaning → ℕ → Reading → Result (List ℕ) Finding → Type 0
Loaded d l w (Ok s) = Accepts d l 256 × (s ≡ d.sector l)
Loaded d l w (Err (Broken r at)) = ⊥
Loaded d l w (Err (Unread v f)) = (v ≡ w) × Refuses d l 256 f
