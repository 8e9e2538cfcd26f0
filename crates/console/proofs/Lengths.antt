-- The length of a flat image, by its sectors and what stands behind them.
use Rattle.std.proofs.Common.{◌≡◌, ℕ, ◌*◌, ◌/◌, List, length, ap, arith, length-drop}
use Rattle.devices.specs.Flat.{tail}

-- an image of n whole sectors has that length still, where the sectors are as many and the rest is the same
pub same_length : (xs ys : List ℕ) (n : ℕ) → length xs ≡ n * 256 → length ys / 256 ≡ n → tail ys ≡ tail xs → length ys ≡ n * 256
same_length xs ys n long count rest =
    let e : length (tail ys) ≡ length (tail xs) = ap length rest in
    let a = length-drop (length ys / 256 * 256) ys in
    let b = length-drop (length xs / 256 * 256) xs in
    omega arith
