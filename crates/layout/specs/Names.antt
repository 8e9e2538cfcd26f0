-- Names: what they are made of, and how they are stored.
use Rattle.std.specs.Prelude.{◌≡◌, ℕ, ◌+◌, ◌-◌, ◌<◌, ◌≤◌, Bool, true, cond, ◌&&◌, ◌||◌, List, [], ◌∷◌, length, ◌==◌, nat_le, nat_lt, slice_index}

abbrev pub between : ℕ → ℕ → ℕ → Bool
between low high b = nat_le low b && nat_le b high

-- a letter, a digit, "_", "$" or "."
abbrev pub name_byte : ℕ → Bool
name_byte b = between 65 90 b || between 97 122 b || between 48 57 b || b == 95 || b == 36 || b == 46

abbrev pub NameBytes : List ℕ → Type 0
NameBytes xs = (k : ℕ) → k < length xs → name_byte (slice_index xs k) ≡ true

-- the name of a volume has 1 to 32 such bytes
abbrev pub VolumeName : List ℕ → Type 0
VolumeName xs = (1 ≤ length xs) × (length xs ≤ 32) × NameBytes xs

-- a name as it is stored: bit 7 is set on its last byte
abbrev pub marked : List ℕ → List ℕ
marked [] = []
marked (x ∷ []) = (x + 128) ∷ []
marked (x ∷ y ∷ xs) = x ∷ marked (y ∷ xs)

-- the letters of a stored name: up to the first byte with bit 7 set, which is the last
abbrev pub name_of : List ℕ → List ℕ
name_of [] = []
name_of (x ∷ xs) = cond (nat_lt x 128) (x ∷ name_of xs) ((x - 128) ∷ [])
