-- Names among those that wait.
use Rattle.std.specs.Prelude.{◌≡◌, ℕ, ◌<◌, ◌≤◌, List, [], slice_index_or}
use Rattle.survey.specs.declared.waiting.Waiting.{Waiting}

-- nothing that waits
abbrev pub nobody : Waiting
nobody = record { lsn = 0; parent = 0; name = [] }

-- one of those from a place on and below another has this name
pub record Known (ws : List Waiting) (from to : ℕ) (name : List ℕ) : Type 0 where
  pub at : ℕ
  pub low : from ≤ at
  pub high : at < to
  pub same : (slice_index_or ws at nobody).name ≡ name
