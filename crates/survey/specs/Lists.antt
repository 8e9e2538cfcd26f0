-- The work lists of a walk.
use Rattle.std.specs.Prelude.{◌≡◌, ℕ, ◌+◌, ◌<◌, ◌≤◌, List, length, Some, None, Option, Ok, Err, Result, slice_index, slice_index_or}
use Rattle.rules.specs.Nodes.{times}
use Rattle.survey.specs.Names.{nobody}
use Rattle.survey.specs.Scanning.{lsns}
use Rattle.survey.specs.declared.finding.Finding.{Finding}
use Rattle.survey.specs.declared.waiting.Waiting.{Waiting}
use Rattle.survey.specs.declared.work_lists.WorkLists.{WorkLists}

-- the same two lists, with as many places
pub record Kept (before after : WorkLists) : Type 0 where
  pub same_marks : after.marks.ghost_name ≡ before.marks.ghost_name
  pub same_waiting : after.waiting.ghost_name ≡ before.waiting.ghost_name
  pub marks_long : length after.marks.now ≡ length before.marks.now
  pub waiting_long : length after.waiting.now ≡ length before.waiting.now

-- the last of those that wait, if one does
abbrev pub Popped : ℕ → ℕ → List Waiting → Option Waiting → Type 0
Popped before after ws None = before ≡ 0
Popped before after ws (Some w) = (before ≡ after + 1) × (w ≡ slice_index_or ws after nobody)

-- lists in which every mark below high is 0 or 1, and whoever waits is marked and below high; there is room for every sector
pub record Ready (high : ℕ) (lists : WorkLists) : Type 0 where
  pub room : high ≤ length lists.waiting.now
  pub marked : high ≤ length lists.marks.now
  pub some : lists.count ≤ length lists.waiting.now
  pub small : (c : ℕ) → c < high → slice_index lists.marks.now c ≤ 1
  pub listed : (c : ℕ) → times c (lsns lists.count lists.waiting.now) ≤ slice_index lists.marks.now c
  pub inside : (c : ℕ) → 0 < times c (lsns lists.count lists.waiting.now) → c < high

-- an answer with how many wait then
abbrev pub counted : ℕ → Result Unit Finding → Result ℕ Finding
counted n (Ok u) = Ok n
counted n (Err finding) = Err finding
