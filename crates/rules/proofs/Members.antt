-- Elements of a list, and how often they stand in it.
use Rattle.std.proofs.Common.{◌≡◌, ℕ, zero, suc, ◌<◌, List, [], ◌∷◌, length, get_or, Some, arith}
use Rattle.std.specs.List.{slice_get}
use Rattle.std.proofs.lemmas.Option.{get_or_from_slice_get, slice_get_within}
use Rattle.rules.specs.Nodes.{times}
use Rattle.rules.proofs.Times.{hit_self}

-- every place of a list has an element
pub get_or-times : (xs : List ℕ) (i : ℕ) → i < length xs → 0 < times (get_or xs i 0) xs
get_or-times [] i lt = absurd (omega arith)
get_or-times (y ∷ xs) zero lt = omega (arith, hit_self y)
get_or-times (y ∷ xs) (suc i) lt = omega (arith, get_or-times xs i (omega arith))

-- an element of a list stands in it
pub nth-times : (xs : List ℕ) (i x : ℕ) → slice_get xs i ≡ Some x → 0 < times x xs
nth-times xs i x e = rw (get_or_from_slice_get xs i x 0 e) at (get_or-times xs i (slice_get_within xs i x e))
