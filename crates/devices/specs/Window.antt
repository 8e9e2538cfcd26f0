-- A window: a part of a device, as a device of its own.
use Rattle.std.specs.Prelude.{ℕ, ◌+◌, ◌-◌, min, cond, ◌&&◌, List, [], ◌∷◌, map, nat_le, nat_lt}
use Rattle.std.specs.List.{range_with_len}
use Rattle.devices.specs.Meaning.{Meaning}

-- how many sectors a window of n sectors from s on has: it ends where either ends
abbrev pub extent : Meaning → ℕ → ℕ → ℕ
extent m s n = min n (m.count - s)

-- what a window means: its sector 0 is the lower one's sector s
abbrev pub window_meaning : Meaning → ℕ → ℕ → Meaning
window_meaning m s n = record { count = extent m s n; bad = λ l. m.bad (s + l); sector = λ l. m.sector (s + l) }

-- the lower sectors outside the window, each at its place
abbrev pub outside : Meaning → ℕ → ℕ → List (List ℕ)
outside m s n = map (λ k. cond (nat_le s k && nat_lt k (s + extent m s n)) [] (m.sector k)) (range_with_len 0 m.count)

-- what a window has beside its sectors: where it lies, and the lower sectors outside it
abbrev pub around : Meaning → ℕ → ℕ → List (List ℕ)
around m s n = (s ∷ n ∷ []) ∷ outside m s n
