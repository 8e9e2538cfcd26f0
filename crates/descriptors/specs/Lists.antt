-- Segment lists in memory.
use Rattle.std.specs.Prelude.{ℕ, ◌+◌, ◌-◌, List, [], ◌∷◌, length, slice_index_or}
use Rattle.layout.specs.declared.segment.Segment.{Segment}

-- no segment
abbrev pub nowhere : Segment
nowhere = record { start = 0; len = 0 }

-- the last segment
abbrev pub last_of : List Segment → Segment
last_of ss = slice_index_or ss (length ss - 1) nowhere

-- the segments with n sectors more in the last
abbrev pub lengthened : List Segment → ℕ → List Segment
lengthened [] n = []
lengthened (s ∷ []) n = record { start = s.start; len = s.len + n } ∷ []
lengthened (s ∷ t ∷ ss) n = s ∷ lengthened (t ∷ ss) n
