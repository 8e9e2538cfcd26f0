use Rattle.std.proofs.Common.{◌≡◌, ℕ, suc, ◌+◌, ◌-◌, ◌/◌, ◌%◌, ◌<◌, ◌++◌, List, length, take, set, reverse, sym, ◌∙◌, arith, add-one, append_assoc, length-set}
use Rattle.std.proofs.Math.Seq.{take-suc-set}
use Rattle.std.proofs.lemmas.List.{reverse-append, take_all}
use Rattle.layout.specs.Bytes.{bytes}
use Rattle.layout.proofs.numbers.to_bytes.Goals as goal

-- one byte more
byte_more : (w i n : ℕ) (xs : List ℕ) → i < w → i < length xs → bytes (w - i) n ++ reverse (take i xs) ≡ bytes (w - (i + 1)) (n / 256) ++ reverse (take (i + 1) (set xs i (n % 256)))
unfolding bytes
byte_more w i n xs lt inside =
    let one : w - i ≡ suc (w - (i + 1)) = omega arith in
    rw one (rw (add-one, take-suc-set xs i (n % 256) inside, reverse-append) (simp append_assoc))

pub loop-byte-preserved : goal.loop-byte-preserved
loop-byte-preserved g c =
    let xs = c.loop-byte.byte-items in
    record {
      long = length-set xs c.loop-byte.byte-index (c.loop-byte.rest % 256) ∙ c.loop-byte.invariant.long;
      split = c.loop-byte.invariant.split ∙ byte_more g.row.N c.loop-byte.byte-index c.loop-byte.rest xs (omega arith) (omega arith);
    }

pub returns : goal.returns
unfolding bytes
returns g c =
    let xs = c.loop-byte.byte-items in
    let none : g.row.N - c.loop-byte.byte-index ≡ 0 = omega arith in
    let whole = take_all c.loop-byte.byte-index xs (omega arith) in
    c.reverse.ensures.after ∙ sym (rw (none, whole) at c.loop-byte.invariant.split)
