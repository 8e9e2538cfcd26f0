-- The allocation map: a bit for each sector, from LSN 1 on, the first in the highest bit of the first byte; a set bit is taken.
use Rattle.std.specs.Prelude.{ℕ, zero, suc, ◌+◌, ◌-◌, ◌*◌, ◌/◌, ◌%◌, ◌^◌, Bool, cond, List, map, ◌==◌, slice_index}
use Rattle.std.specs.List.{range_with_len}

-- how many bytes the map of T sectors has
abbrev pub map_bytes_of : ℕ → ℕ
map_bytes_of T = (T + 7) / 8

-- how many sectors those bytes fill: m
abbrev pub map_sectors : ℕ → ℕ
map_sectors T = (map_bytes_of T + 255) / 256

-- the bit at place p of a byte, 0 at the highest
unfoldable pub bit_at : ℕ → ℕ → Bool
bit_at b p = b / 2 ^ (7 - p) % 2 == 1

-- the bit k of a row of bytes
abbrev pub bit_of : List ℕ → ℕ → Bool
bit_of xs k = bit_at (slice_index xs (k / 8)) (k % 8)

-- whether the map in these sectors says that sector k is taken: a map sector has 2,048 bits
abbrev pub taken : (ℕ → List ℕ) → ℕ → Bool
taken sector k = bit_of (sector (1 + k / 2048)) (k % 2048)

-- how many of the sectors below n are clear
abbrev pub clear_below : (ℕ → Bool) → ℕ → ℕ
clear_below takes zero = 0
clear_below takes (suc n) = clear_below takes n + cond {A = ℕ} (takes n) 0 1

-- the number that n bits from k on show, the highest first
unfoldable pub packed : (ℕ → Bool) → ℕ → ℕ → ℕ
packed takes k zero = 0
packed takes k (suc n) = packed takes k n * 2 + cond {A = ℕ} (takes (k + n)) 1 0

-- the map sector j, where these sectors are taken
abbrev pub map_sector : (ℕ → Bool) → ℕ → List ℕ
map_sector takes j = map (λ i. packed takes (j * 2048 + i * 8) 8) (range_with_len 0 256)
