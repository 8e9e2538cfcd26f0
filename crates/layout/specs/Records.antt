-- Records of one width, side by side.
use Rattle.std.specs.Prelude.{◌≡◌, ℕ, ◌+◌, ◌*◌, ◌<◌, ◌≤◌, Bool, true, false, List, length, take, drop, Some, None, Option}

-- the k-th record of a table, of w bytes
abbrev pub record_at : ℕ → ℕ → List ℕ → List ℕ
record_at w k xs = take w (drop (k * w) xs)

-- every record below the k-th is used
abbrev pub UsedBelow : ℕ → (List ℕ → Bool) → List ℕ → ℕ → Type 0
UsedBelow w unused xs k = (j : ℕ) → j < k → unused (record_at w j xs) ≡ false

-- the first unused record of a table, or none
abbrev pub FirstUnused : ℕ → (List ℕ → Bool) → List ℕ → Option ℕ → Type 0
FirstUnused w unused xs None = (j : ℕ) → j * w + w ≤ length xs → unused (record_at w j xs) ≡ false
FirstUnused w unused xs (Some k) = (k * w + w ≤ length xs) × (unused (record_at w k xs) ≡ true) × UsedBelow w unused xs k
