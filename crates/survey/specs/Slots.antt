-- A slot, read from the sector that it lies in.
use Rattle.std.specs.Prelude.{◌≡◌, ℕ, ◌/◌, ◌%◌, List, Some, Ok, Err, Result}
use Rattle.std.specs.List.{slice_get}
use Rattle.devices.specs.Meaning.{Meaning, Accepts, Refuses}
use Rattle.layout.specs.Descriptor.{segments, extent}
use Rattle.layout.specs.Records.{record_at}
use Rattle.survey.specs.declared.finding.Finding.{Finding}
use Rattle.survey.specs.declared.finding.Finding.TheVariants.{Broken, Unread}
use Rattle.survey.specs.declared.finding.Reading.TheVariants.{Directory}

-- the slot k of the directory with the descriptor s: a part of the sector that it lies in, or that sector is refused
abbrev pub SlotRead : Meaning → List ℕ → ℕ → Result (List ℕ) Finding → Type 0
SlotRead d s k (Ok xs) = (l : ℕ) × (slice_get (extent (segments s)) (k / 8) ≡ Some l) × Accepts d l 256 × (xs ≡ record_at 32 (k % 8) (d.sector l))
SlotRead d s k (Err (Broken r at)) = ⊥
SlotRead d s k (Err (Unread w f)) = (w ≡ Directory) × ((l : ℕ) × (slice_get (extent (segments s)) (k / 8) ≡ Some l) × Refuses d l 256 f)
