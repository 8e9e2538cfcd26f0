-- One slot of a directory: what it asks, and what waits after it.
use Rattle.std.specs.Prelude.{◌≡◌, ℕ, ◌+◌, ◌<◌, ◌⊎◌, List, take, Ok, Err, Result, slice_index, slice_index_or, slice_set}
use Rattle.layout.specs.Directory.{stored_slot, slot_name}
use Rattle.layout.specs.Names.{marked, name_of}
use Rattle.rules.specs.Rules.{SlotRight}
use Rattle.rules.specs.declared.rule.Rule.{Rule}
use Rattle.rules.specs.declared.rule.Rule.TheVariants as rule
use Rattle.survey.specs.Names.{Known}
use Rattle.survey.specs.declared.finding.Finding.{Finding}
use Rattle.survey.specs.declared.finding.Finding.TheVariants.{Broken, Unread}
use Rattle.survey.specs.declared.waiting.Waiting.{Waiting}

-- the name in a slot, with zeros behind its last byte
abbrev pub tidied : List ℕ → List ℕ
tidied xs = slot_name (marked (name_of (take 28 xs)))

-- the descriptor that a slot names
abbrev pub names : List ℕ → ℕ
names xs = (stored_slot xs).lsn

abbrev pub Empty : List ℕ → Type 0
Empty xs = slice_index xs 0 ≡ 0

-- a used slot in the directory l is right and new, its descriptor lies behind low and below high and was not marked; now it is, and waits
pub record Taken (xs : List ℕ) (l low high base count : ℕ) (marks marks' : List ℕ) (ws ws' : List Waiting) : Type 0 where
  pub used : Empty xs → ⊥
  pub right : SlotRight xs
  pub new : Known ws base count (tidied xs) → ⊥
  pub above : low < names xs
  pub below : names xs < high
  pub unmarked : slice_index_or marks (names xs) 0 ≡ 0
  pub now_marked : marks' ≡ slice_set marks (names xs) 1
  pub now_waits : ws' ≡ slice_set ws count (record { lsn = names xs; parent = l; name = tidied xs })

-- an empty slot changes nothing
pub record Passed (xs : List ℕ) (marks marks' : List ℕ) (ws ws' : List Waiting) : Type 0 where
  pub unused : Empty xs
  pub same_marks : marks' ≡ marks
  pub same_waiting : ws' ≡ ws

-- what a used slot breaks
abbrev pub Breaks : List ℕ → ℕ → ℕ → ℕ → ℕ → ℕ → List ℕ → List Waiting → Rule → ℕ → Type 0
Breaks xs l low high base count marks ws rule.A at = ⊥
Breaks xs l low high base count marks ws rule.B at = (at ≡ l) × (Empty xs → ⊥) × ((low < names xs) × (names xs < high) → ⊥)
Breaks xs l low high base count marks ws rule.C at = ⊥
Breaks xs l low high base count marks ws rule.D at = ⊥
Breaks xs l low high base count marks ws rule.E at = (at ≡ l) × (Empty xs → ⊥) × ((SlotRight xs → ⊥) ⊎ Known ws base count (tidied xs))
Breaks xs l low high base count marks ws rule.F at = ⊥
Breaks xs l low high base count marks ws rule.G at = (at ≡ names xs) × (Empty xs → ⊥) × (low < at) × (at < high) × (0 < slice_index marks at)
Breaks xs l low high base count marks ws rule.H at = ⊥

abbrev pub SlotTaken : List ℕ → ℕ → ℕ → ℕ → ℕ → ℕ → List ℕ → List ℕ → List Waiting → List Waiting → Result ℕ Finding → Type 0
SlotTaken xs l low high base count marks marks' ws ws' (Ok n) =
    ((n ≡ count) × Passed xs marks marks' ws ws') ⊎ ((n ≡ count + 1) × Taken xs l low high base count marks marks' ws ws')
SlotTaken xs l low high base count marks marks' ws ws' (Err (Broken r at)) = Breaks xs l low high base count marks ws r at
SlotTaken xs l low high base count marks marks' ws ws' (Err (Unread w f)) = ⊥
