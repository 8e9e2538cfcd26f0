-- The interleave: where the sectors of a track lie.
use Rattle.std.specs.Prelude.{◌≡◌, ℕ, ◌+◌, ◌*◌, ◌/◌, ◌%◌, ◌<◌, ◌≤◌, Some, None, Option, ◌≢◌}

-- k and s have no common factor but 1
abbrev pub Coprime : ℕ → ℕ → Type 0
Coprime k s = (d : ℕ) → 1 < d → k % d ≡ 0 → s % d ≢ 0

-- k is an interleave of s sectors
abbrev pub Suits : ℕ → ℕ → Type 0
Suits k s = (1 ≤ k) × (k ≤ s) × Coprime k s

-- the place of the LSN l, with s sectors to a track and the interleave k: it stays in its track, and there it moves by the interleave
abbrev pub lsn_place : ℕ → ℕ → ℕ → ℕ
lsn_place s k l = (l / s) * s + ((l % s) * k) % s

-- of n sectors the one with the LSN l has its place, which is one of n and no other sector's; there is none past the last
abbrev pub Placed : ℕ → ℕ → ℕ → ℕ → Option ℕ → Type 0
Placed n s k l None = n ≤ l
Placed n s k l (Some p) = (l < n) × (p ≡ lsn_place s k l) × (p < n) × ((m : ℕ) → lsn_place s k m ≡ p → m ≡ l)
