use Rattle.std.proofs.Common.{◌≡◌, ℕ, ◌+◌, ◌-◌, ◌<◌, ◌≤◌, List, get_or, take, drop, ◌∙◌, arith, rules}
use Rattle.std.proofs.lemmas.List.{get_or-take, get_or-drop, length-take, length-drop}
use Rattle.devices.proofs.inspection.read_header.Goals as goal

-- the first n spare bytes are zero, wherever their places are counted from
zero_before : (xs : List ℕ) (n : ℕ) → ((j : ℕ) → j < n → get_or xs (5 + j) 0 ≡ 0) → (j : ℕ) → 5 ≤ j → j < 5 + n → get_or xs j 0 ≡ 0
zero_before xs n zeros j le lt = let place : 5 + (j - 5) ≡ j = omega arith in rw place at (zeros (j - 5) (omega arith))

pub returns-in_default-byte : goal.returns-in_default-byte
returns-in_default-byte c =
    let xs = c.args.bytes.now in
    let k = c.loop-k.k in
    let e = c.at-in_default-byte.ensures in
    let inside : k < 3 = omega (arith, length-take 3 (drop 5 xs), c.loop-k-test.true) in
    let is : get_or (take 3 (drop 5 xs)) k 0 ≡ get_or xs (5 + k) 0 = get_or-take 3 (drop 5 xs) k 0 inside ∙ get_or-drop 5 xs k 0 in
    let some : 0 < get_or xs (5 + k) 0 = omega (arith, is) in
    let before = zero_before xs k c.loop-k.invariant in
    rw (e.0, e.1) (search rules)

pub returns : goal.returns
returns c =
    let xs = c.args.bytes.now in
    let all : 3 ≤ c.loop-k.k = omega (arith, length-take 3 (drop 5 xs), length-drop 5 xs, c.in-len8-up.len_at_least, c.loop-k-test.false) in
    let first : get_or xs 5 0 ≡ 0 = c.loop-k.invariant 0 (omega arith) in
    let second : get_or xs 6 0 ≡ 0 = c.loop-k.invariant 1 (omega arith) in
    let third : get_or xs 7 0 ≡ 0 = c.loop-k.invariant 2 (omega arith) in
    search rules
