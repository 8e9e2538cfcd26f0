-- The slots of a directory, from slot 2 on: what a scan asks of them, and what waits after it.
use Rattle.std.specs.Prelude.{◌≡◌, ℕ, ◌+◌, ◌<◌, ◌≤◌, List, ◌++◌, map, length, take, Ok, Err, Result, ◌≢◌, slice_index, slice_index_or}
use Rattle.devices.specs.Meaning.{Meaning, Refuses}
use Rattle.layout.specs.Descriptor.{segments, extent}
use Rattle.layout.specs.Names.{name_of}
use Rattle.rules.specs.Nodes.{times, children}
use Rattle.rules.specs.Rules.{slot_bytes_at, slot_count, SlotRight}
use Rattle.rules.specs.declared.rule.Rule.{Rule}
use Rattle.rules.specs.declared.rule.Rule.TheVariants as rule
use Rattle.survey.specs.Marks.{Marked}
use Rattle.survey.specs.Names.{nobody}
use Rattle.survey.specs.Taking.{Empty}
use Rattle.survey.specs.declared.finding.Finding.{Finding}
use Rattle.survey.specs.declared.finding.Finding.TheVariants.{Broken, Unread}
use Rattle.survey.specs.declared.waiting.Waiting.{Waiting}

-- the LSNs of the first n that wait
abbrev pub lsns : ℕ → List Waiting → List ℕ
lsns n ws = map (λ (w : Waiting). w.lsn) (take n ws)

-- each used slot from 2 on and below n is right, and no two have one name
pub record RightBelow (d : Meaning) (l n : ℕ) : Type 0 where
  pub right : (k : ℕ) → 2 ≤ k → k < n → (Empty (slot_bytes_at d l k) → ⊥) → SlotRight (slot_bytes_at d l k)
  pub distinct : (j k : ℕ) → 2 ≤ j → j < k → k < n → (Empty (slot_bytes_at d l j) → ⊥) → (Empty (slot_bytes_at d l k) → ⊥) → name_of (take 28 (slot_bytes_at d l j)) ≢ name_of (take 28 (slot_bytes_at d l k))

-- what a scan of the directory l leaves: its children are marked, each for the first time, and wait behind those that did
pub record Scanned (d : Meaning) (l low high base n : ℕ) (marks marks' : List ℕ) (ws ws' : List Waiting) : Type 0 where
  pub lsns_are : lsns n ws' ≡ lsns base ws ++ children d.sector l
  pub old : take base ws' ≡ take base ws
  pub enough : base ≤ n
  pub most : n ≤ length ws'
  pub parents : (i : ℕ) → base ≤ i → i < n → (slice_index_or ws' i nobody).parent ≡ l
  pub marked : Marked marks (children d.sector l) marks'
  pub small : (c : ℕ) → c < high → slice_index marks' c ≤ 1
  pub inside : (c : ℕ) → 0 < times c (children d.sector l) → (low < c) × (c < high)
  pub rights : RightBelow d l (slot_count d l)

-- what a scan finds broken
abbrev pub ScanBreaks : Meaning → ℕ → ℕ → ℕ → List ℕ → Rule → ℕ → Type 0
ScanBreaks d l low high marks rule.A at = ⊥
ScanBreaks d l low high marks rule.B at = (at ≡ l) × (((c : ℕ) → 0 < times c (children d.sector l) → (low < c) × (c < high)) → ⊥)
ScanBreaks d l low high marks rule.C at = ⊥
ScanBreaks d l low high marks rule.D at = ⊥
ScanBreaks d l low high marks rule.E at = (at ≡ l) × (RightBelow d l (slot_count d l) → ⊥)
ScanBreaks d l low high marks rule.F at = ⊥
ScanBreaks d l low high marks rule.G at = (low < at) × (at < high) × (2 ≤ slice_index marks at + times at (children d.sector l))
ScanBreaks d l low high marks rule.H at = ⊥

abbrev pub ScanAnswer : Meaning → ℕ → ℕ → ℕ → ℕ → List ℕ → List ℕ → List Waiting → List Waiting → Result ℕ Finding → Type 0
ScanAnswer d l low high base marks marks' ws ws' (Ok n) = Scanned d l low high base n marks marks' ws ws'
ScanAnswer d l low high base marks marks' ws ws' (Err (Broken r at)) = ScanBreaks d l low high marks r at
ScanAnswer d l low high base marks marks' ws ws' (Err (Unread w f)) = (0 < times f.lsn (extent (segments (d.sector l)))) × Refuses d f.lsn 256 f
