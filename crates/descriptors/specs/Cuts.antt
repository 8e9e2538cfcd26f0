-- A segment list cut behind its first n sectors.
use Rattle.std.specs.Prelude.{ℕ, ◌+◌, ◌-◌, min, cond, List, [], ◌∷◌, ◌==◌, nat_lt}
use Rattle.layout.specs.declared.segment.Segment.{Segment}

-- the segments of the first n sectors: a shortened one keeps its start, and those behind it are gone
abbrev pub kept : ℕ → List Segment → List Segment
kept n [] = []
kept n (s ∷ ss) = cond (n == 0) [] (record { start = s.start; len = min s.len n } ∷ kept (n - s.len) ss)

-- the runs of the sectors behind them
abbrev pub freed : ℕ → List Segment → List Segment
freed n [] = []
freed n (s ∷ ss) = cond (nat_lt n s.len) (record { start = s.start + n; len = s.len - n } ∷ freed 0 ss) (freed (n - s.len) ss)
