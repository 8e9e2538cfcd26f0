use Rattle.std.proofs.Common.{◌≡◌, ℕ, ◌+◌, ◌-◌, ◌<◌, List, get_or, take, drop, length, ◌∙◌, arith, below_more}
use Rattle.std.proofs.lemmas.List.{get_or-take, get_or-drop, length-take}
use Rattle.devices.specs.Tray.{total_of}
use Rattle.devices.proofs.Trays.{total_is}
use Rattle.devices.proofs.inspection.inspect.Goals as goal

-- the state at a place of the sectors' states
state_is : (xs : List ℕ) (n k : ℕ) → k < length (take ((8 + n) - 8) (drop 8 xs)) → get_or (take ((8 + n) - 8) (drop 8 xs)) k 0 ≡ get_or xs (8 + k) 0
state_is xs n k lt = get_or-take ((8 + n) - 8) (drop 8 xs) k 0 (omega (arith, length-take ((8 + n) - 8) (drop 8 xs))) ∙ get_or-drop 8 xs k 0

pub returns-in_default-state : goal.returns-in_default-state
returns-in_default-state c =
    let xs = c.args.bytes.now in
    let place = c.loop-place.place in
    let e = c.at-in_default-state.ensures in
    let h = c.in_ok-geometry.ensures in
    let n : c.total-total.result ≡ total_of xs = c.total-total.ensures ∙ total_is xs c.in_ok-geometry.geometry h.1 in
    let state = state_is xs c.total-total.result place c.loop-place-test.true in
    rw (e.0, e.1) (h.0, omega (arith, n), omega arith, omega (arith, n, length-take ((8 + c.total-total.result) - 8) (drop 8 xs)), omega (arith, state), λ k lt. c.loop-place.invariant k (omega arith))

pub loop-place-preserved : goal.loop-place-preserved
loop-place-preserved c =
    below_more _ _ c.loop-place.invariant (omega (arith, state_is c.args.bytes.now c.total-total.result c.loop-place.place c.loop-place-test.true, c.in-0.is))
