-- A survey: what it asks, what a pass means, and what a refusal names.
use Rattle.std.specs.Prelude.{◌≡◌, ℕ, ◌<◌, ◌≤◌, true, ◌⊎◌, List, length, Ok, Err, Result, slice_index}
use Rattle.devices.specs.Meaning.{Meaning, Refuses}
use Rattle.devices.specs.declared.device.Cause.TheVariants.{Bad}
use Rattle.rules.specs.Nodes.{is_directory}
use Rattle.rules.specs.Rules.{Inside, sectors_of, root_at, RuleA, Owned, Wanted, Sound, Broken as BrokenAt}
use Rattle.survey.specs.declared.finding.Finding.{Finding}
use Rattle.survey.specs.declared.finding.Finding.TheVariants as finding
use Rattle.survey.specs.declared.finding.Reading.{Reading}
use Rattle.survey.specs.declared.finding.Reading.TheVariants as reading
use Rattle.volume.specs.Formatting.{Fresh}
use Rattle.volume.specs.declared.fault.Part.{Part}
use Rattle.volume.specs.declared.fault.Part.TheVariants as part
use Rattle.volume.specs.declared.fault.VolumeFault.{VolumeFault}
use Rattle.volume.specs.declared.fault.VolumeFault.TheVariants.{Device, Refused, Broken}
use Rattle.volume.specs.declared.fault.VolumeRefusal.{VolumeRefusal}
use Rattle.volume.specs.declared.fault.VolumeRefusal.TheVariants as refusal
use Rattle.volume.specs.declared.volume_record.Volume.{Volume}

-- what ends the survey's walk, as a refusal
abbrev pub part_read : Reading → Part
part_read reading.Descriptor = part.Descriptor
part_read reading.Directory = part.Directory
part_read reading.Map = part.Map
part_read reading.Sector = part.Sector

abbrev pub refusal_for : Finding → VolumeFault
refusal_for (finding.Broken r at) = Broken r at
refusal_for (finding.Unread w f) = Device (record { part = part_read w; fault = f })

-- a root that is no directory behind the map, or whose descriptor cannot be read
abbrev pub RootAnswer : Meaning → Result Unit VolumeFault → Type 0
RootAnswer d (Ok u) = Inside d (root_at d) × (is_directory (d.sector (root_at d)) ≡ true)
RootAnswer d (Err (Device r)) = Inside d (root_at d) × (r.fault.lsn ≡ root_at d) × (r.fault.cause ≡ Bad) × (d.bad (root_at d) ≡ true)
RootAnswer d (Err (Refused r at)) = ⊥
RootAnswer d (Err (Broken r at)) = BrokenAt d r at

-- a lawful allocation size
abbrev pub Allocation : ℕ → Type 0
Allocation a = (1 ≤ a) × (a ≤ 255)

-- a pass: every rule holds; the record is the volume's; and a mark is 1 for each sector that is the system's or held, 0 for each other
pub record Pass (d : Meaning) (a : ℕ) (marks marks' : List ℕ) (v : Volume) : Type 0 where
  pub lawful : Allocation a
  pub sound : Sound d
  pub fresh : Fresh v (sectors_of d) (root_at d) a
  pub owned : (k : ℕ) → k < sectors_of d → Owned d k → slice_index marks' k ≡ 1
  pub others : (k : ℕ) → k < sectors_of d → (Owned d k → ⊥) → slice_index marks' k ≡ 0
  pub later : (k : ℕ) → sectors_of d ≤ k → slice_index marks' k ≡ slice_index marks k

-- LSN 0 cannot be read, or a sector that must be good is bad
abbrev pub Unreadable : Meaning → ℕ → Type 0
Unreadable d l = (l ≡ 0) ⊎ (RuleA d × (d.bad l ≡ true) × Wanted d l)

abbrev pub OwnRefusal : Meaning → ℕ → ℕ → ℕ → VolumeRefusal → Type 0
OwnRefusal d a long room refusal.WorkLists = Allocation a × RuleA d × ((long < sectors_of d) ⊎ (room < sectors_of d))
OwnRefusal d a long room refusal.Arguments = Allocation a → ⊥
OwnRefusal d a long room refusal.Broken = ⊥

-- of a survey with marks of some length and a waiting list of some length
abbrev pub SurveyAnswer : Meaning → ℕ → ℕ → List ℕ → List ℕ → Result Volume VolumeFault → Type 0
SurveyAnswer d a room marks marks' (Ok v) = Pass d a marks marks' v
SurveyAnswer d a room marks marks' (Err (Device r)) = Allocation a × Refuses d r.fault.lsn 256 r.fault × Unreadable d r.fault.lsn
SurveyAnswer d a room marks marks' (Err (Refused r at)) = (at ≡ 0) × OwnRefusal d a (length marks) room r
SurveyAnswer d a room marks marks' (Err (Broken r at)) = Allocation a × BrokenAt d r at

-- a sound volume is never refused, where the allocation size is lawful and the lists are long enough
abbrev pub Passes : Meaning → ℕ → ℕ → ℕ → Result Volume VolumeFault → Type 0
Passes d a long room (Ok v) = Unit {0}
Passes d a long room (Err f) = Sound d → Allocation a → sectors_of d ≤ long → sectors_of d ≤ room → ⊥
