use Rattle.std.proofs.Common.{◌≡◌, ℕ, suc, ◌+◌, ◌-◌, ◌*◌, ◌^◌, ◌<◌, ◌≤◌, List, length, take, drop, get_or, refl, ap₂, ◌∙◌, pow-suc, add-one, arith, length-take, length-drop}
use native.Mathlib.Nat.{pow-le-pow_right}
use Rattle.std.proofs.lemmas.List.{get_or-take, get_or-drop}
use Rattle.layout.specs.Bytes.{number}
use Rattle.layout.proofs.numbers.number_at.Goals as goal

-- three bytes at most were read before this one
room : (n k w : ℕ) → n < 256 ^ k → k < w → w ≤ 4 → n < 2 ^ 24
room n k w h lt le =
    let few : k ≤ 3 = omega arith in
    let some : 0 < 256 = omega arith in
    omega (arith, pow-le-pow_right some few)

part_long : (p w : ℕ) (xs : List ℕ) → p + w ≤ length xs → length (take ((p + w) - p) (drop p xs)) ≡ w
part_long p w xs inside = simp (length-take, length-drop) (omega arith)

part_byte : (p w k : ℕ) (xs : List ℕ) → k < w → get_or (take ((p + w) - p) (drop p xs)) k 0 ≡ get_or xs (p + k) 0
part_byte p w k xs lt = get_or-take ((p + w) - p) (drop p xs) k 0 (omega arith) ∙ get_or-drop p xs k 0

pub loop-byte-init : goal.loop-byte-init
unfolding number
loop-byte-init c = record { is = refl; fits = omega arith }

pub overflow_mul-n : goal.overflow_mul-n
overflow_mul-n c =
    let k = c.loop-byte.byte-index in
    let lt : k < c.args.width = omega (arith, part_long c.args.at c.args.width c.args.bytes.now c.requires.inside) in
    omega (arith, room c.loop-byte.n k c.args.width c.loop-byte.invariant.fits lt c.requires.narrow)

pub overflow_add-n : goal.overflow_add-n
overflow_add-n c =
    let k = c.loop-byte.byte-index in
    let lt : k < c.args.width = omega (arith, part_long c.args.at c.args.width c.args.bytes.now c.requires.inside) in
    let byte = c.from.ensures ∙ part_byte c.args.at c.args.width k c.args.bytes.now lt in
    omega (arith, room c.loop-byte.n k c.args.width c.loop-byte.invariant.fits lt c.requires.narrow, byte, c.type_inv.bytes (c.args.at + k))

pub loop-byte-preserved : goal.loop-byte-preserved
unfolding number
loop-byte-preserved c =
    let k = c.loop-byte.byte-index in
    let lt : k < c.args.width = omega (arith, part_long c.args.at c.args.width c.args.bytes.now c.requires.inside) in
    let byte = c.from.ensures ∙ part_byte c.args.at c.args.width k c.args.bytes.now lt in
    let more : 256 ^ suc k ≡ 256 ^ k * 256 = pow-suc 256 k in
    rw add-one record {
      is = ap₂ (λ m d. m * 256 + d) c.loop-byte.invariant.is byte;
      fits = omega (arith, byte, c.type_inv.bytes (c.args.at + k), c.loop-byte.invariant.fits);
    }
