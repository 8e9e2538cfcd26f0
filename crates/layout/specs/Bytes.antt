-- Numbers in bytes, and bytes laid over bytes.
use Rattle.std.specs.Prelude.{ℕ, zero, suc, ◌+◌, ◌*◌, ◌/◌, ◌%◌, List, [], ◌∷◌, ◌++◌, length, take, drop, replicate, slice_index}

-- the number that w bytes from an offset on show, the highest first
unfoldable pub number : ℕ → ℕ → List ℕ → ℕ
number at zero xs = 0
number at (suc w) xs = number at w xs * 256 + slice_index xs (at + w)

-- the w bytes of a number, the highest first
unfoldable pub bytes : ℕ → ℕ → List ℕ
bytes zero n = []
bytes (suc w) n = bytes w (n / 256) ++ (n % 256) ∷ []

-- bytes with bs in place of those from an offset on
unfoldable pub over : ℕ → List ℕ → List ℕ → List ℕ
over at bs xs = take at xs ++ (bs ++ drop (at + length bs) xs)

-- a field of a sector: its offset, and its bytes
pub record Field : Type 0 where
  pub at : ℕ
  pub holds : List ℕ

-- bytes with some fields laid over them
abbrev pub laid_over : List ℕ → List Field → List ℕ
laid_over xs [] = xs
laid_over xs (f ∷ fs) = laid_over (over f.at f.holds xs) fs

-- a sector of these fields, and zero everywhere else
abbrev pub laid : List Field → List ℕ
laid fs = laid_over (replicate 256 0) fs
