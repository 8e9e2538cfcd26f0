-- A tray: a header, a state for each sector, and the sectors, each at its place.
use Rattle.std.specs.Prelude.{◌≡◌, ℕ, ◌+◌, ◌-◌, ◌*◌, ◌<◌, ◌≤◌, List, length, take, Ok, Err, Result, ◌==◌, slice_index}
use Rattle.devices.specs.Geometry.{Suits, lsn_place}
use Rattle.devices.specs.Meaning.{Meaning, Accepts, Refuses, bytes_at}
use Rattle.devices.specs.declared.device.DeviceFault.{DeviceFault}
use Rattle.devices.specs.declared.geometry.Geometry.{Geometry}
use Rattle.devices.specs.declared.inspection.TrayQuestion.{TrayQuestion}
use Rattle.devices.specs.declared.inspection.TrayQuestion.TheVariants.{Header, Tracks, Sides, Sectors, Interleave, Spare, Length, State}
use Rattle.devices.specs.declared.inspection.TrayFault.{TrayFault}

-- the fields of the header
abbrev pub tracks_of : List ℕ → ℕ
tracks_of xs = slice_index xs 0 * 256 + slice_index xs 1

abbrev pub sides_of : List ℕ → ℕ
sides_of xs = slice_index xs 2

abbrev pub row_of : List ℕ → ℕ
row_of xs = slice_index xs 3

abbrev pub step_of : List ℕ → ℕ
step_of xs = slice_index xs 4

-- how many sectors the header tells of
abbrev pub total_of : List ℕ → ℕ
total_of xs = tracks_of xs * sides_of xs * row_of xs

-- the questions, in their order
abbrev pub HeaderThere : List ℕ → Type 0
HeaderThere xs = 8 ≤ length xs

abbrev pub TracksRight : List ℕ → Type 0
TracksRight xs = 1 ≤ tracks_of xs

abbrev pub SidesRight : List ℕ → Type 0
SidesRight xs = (1 ≤ sides_of xs) × (sides_of xs ≤ 2)

abbrev pub RowRight : List ℕ → Type 0
RowRight xs = (1 ≤ row_of xs) × (row_of xs ≤ 64)

abbrev pub StepRight : List ℕ → Type 0
StepRight xs = Suits (step_of xs) (row_of xs)

abbrev pub SpareRight : List ℕ → Type 0
SpareRight xs = (slice_index xs 5 ≡ 0) × (slice_index xs 6 ≡ 0) × (slice_index xs 7 ≡ 0)

abbrev pub LengthRight : List ℕ → Type 0
LengthRight xs = length xs ≡ 8 + 257 * total_of xs

abbrev pub StatesRight : List ℕ → Type 0
StatesRight xs = (k : ℕ) → k < total_of xs → slice_index xs (8 + k) ≤ 1

-- the header is there, and its fields are right
abbrev pub HeaderRight : List ℕ → Type 0
HeaderRight xs = HeaderThere xs × TracksRight xs × SidesRight xs × RowRight xs × StepRight xs × SpareRight xs

-- every question is answered with yes
abbrev pub Sound : List ℕ → Type 0
Sound xs = HeaderRight xs × LengthRight xs × StatesRight xs

-- a question and a place: those before are answered with yes, this one with no, and there
abbrev pub Denied : List ℕ → TrayQuestion → ℕ → Type 0
Denied xs Header at = (length xs < 8) × (at ≡ 0)
Denied xs Tracks at = HeaderThere xs × (tracks_of xs ≡ 0) × (at ≡ 0)
Denied xs Sides at = HeaderThere xs × TracksRight xs × (SidesRight xs → ⊥) × (at ≡ 2)
Denied xs Sectors at = HeaderThere xs × TracksRight xs × SidesRight xs × (RowRight xs → ⊥) × (at ≡ 3)
Denied xs Interleave at = HeaderThere xs × TracksRight xs × SidesRight xs × RowRight xs × (StepRight xs → ⊥) × (at ≡ 4)
Denied xs Spare at =
    HeaderThere xs × TracksRight xs × SidesRight xs × RowRight xs × StepRight xs
    × (5 ≤ at) × (at < 8) × (0 < slice_index xs at) × ((k : ℕ) → 5 ≤ k → k < at → slice_index xs k ≡ 0)
Denied xs Length at = HeaderRight xs × (LengthRight xs → ⊥) × (at ≡ 8)
Denied xs State at =
    HeaderRight xs × LengthRight xs
    × (8 ≤ at) × (at < 8 + total_of xs) × (1 < slice_index xs at) × ((k : ℕ) → 8 + k < at → slice_index xs (8 + k) ≤ 1)

abbrev pub Refused : List ℕ → TrayFault → Type 0
Refused xs f = Denied xs f.question f.place

-- a geometry is the one that the header tells of
abbrev pub ShapeOf : List ℕ → Geometry → Type 0
ShapeOf xs g =
    (g.tracks ≡ tracks_of xs) × (g.sides ≡ sides_of xs) × (g.sectors_per_track ≡ row_of xs) × (g.interleave ≡ step_of xs)

-- what the fields of the header alone tell
abbrev pub HeaderRead : List ℕ → Result Geometry TrayFault → Type 0
HeaderRead xs (Ok g) = HeaderRight xs × ShapeOf xs g
HeaderRead xs (Err f) = Refused xs f

-- an inspection: the geometry, or the first question that is answered with no
abbrev pub Inspected : List ℕ → Result Geometry TrayFault → Type 0
Inspected xs (Ok g) = Sound xs × ShapeOf xs g
Inspected xs (Err f) = Refused xs f

-- what bytes mean as a tray of n sectors, s to a track, with the interleave k
abbrev pub tray_meaning : List ℕ → ℕ → ℕ → ℕ → Meaning
tray_meaning xs n s k = record {
  count = n;
  bad = λ l. (slice_index xs (8 + lsn_place s k l) == 1);
  sector = λ l. bytes_at xs (8 + n + lsn_place s k l * 256);
}

-- how many sectors a geometry has
abbrev pub sectors_of : Geometry → ℕ
sectors_of g = g.tracks * g.sides * g.sectors_per_track

-- what bytes mean under a geometry, and under that of their own header
abbrev pub meaning_under : Geometry → List ℕ → Meaning
meaning_under g xs = tray_meaning xs (sectors_of g) g.sectors_per_track g.interleave

abbrev pub meaning_of : List ℕ → Meaning
meaning_of xs = tray_meaning xs (total_of xs) (row_of xs) (step_of xs)

-- the bytes before n sectors: of a sound tray its header and its states
abbrev pub head : List ℕ → ℕ → List ℕ
head xs n = take (length xs - 256 * n) xs

-- a search for the LSN l, for len bytes: where its sector begins, or the question that a device answers with no
abbrev pub Located : Geometry → List ℕ → ℕ → ℕ → Result ℕ DeviceFault → Type 0
Located g xs l len (Ok at) =
    Accepts (meaning_under g xs) l len × (at ≡ 8 + sectors_of g + lsn_place g.sectors_per_track g.interleave l * 256) × (at + 256 ≤ length xs)
Located g xs l len (Err f) = Refuses (meaning_under g xs) l len f
