-- An attribute, letter by letter.
use Rattle.std.specs.Prelude.{ℕ, cond, List, map, codes, slice_index}
use Rattle.std.specs.List.{range_with_len}
use Rattle.layout.specs.Map.{bit_at}

-- bits 7 to 0: directory, shared by none, execute, write and read for the public, and for the owner
abbrev pub letters : List ℕ
letters = codes "dsewrewr"

-- the letter of each set bit, and "-" for each other, the highest bit first
abbrev pub shown : ℕ → List ℕ
shown attribute = map (λ k. cond {A = ℕ} (bit_at attribute k) (slice_index letters k) 45) (range_with_len 0 8)
