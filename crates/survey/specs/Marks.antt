-- Marks: a number for each sector, one more for each time that a sector is marked.
use Rattle.std.specs.Prelude.{◌≡◌, ℕ, ◌+◌, ◌<◌, ◌≤◌, List, Ok, Err, Result, slice_index}
use Rattle.rules.specs.Nodes.{times}

-- some sectors are marked, and every other mark is as it was
abbrev pub Marked : List ℕ → List ℕ → List ℕ → Type 0
Marked before ls after = (k : ℕ) → slice_index after k ≡ slice_index before k + times k ls

-- one of the sectors would be marked twice
abbrev pub Clash : List ℕ → List ℕ → ℕ → Type 0
Clash before ls k = (0 < times k ls) × (2 ≤ slice_index before k + times k ls)

-- either all are marked, each of them for the first time, or one would be marked twice
abbrev pub Marking : List ℕ → List ℕ → List ℕ → Result Unit ℕ → Type 0
Marking before ls after (Ok u) = Marked before ls after × ((k : ℕ) → 0 < times k ls → slice_index after k ≡ 1)
Marking before ls after (Err k) = Clash before ls k
