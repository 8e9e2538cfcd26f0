-- Bytes written over the sectors of a file.
use Rattle.std.proofs.Common.{◌≡◌, ℕ, zero, suc, ◌+◌, ◌-◌, ◌*◌, ◌/◌, ◌<◌, ◌≤◌, List, [], ◌∷◌, ◌++◌, length, get_or, take, drop, Ok, Err, Result, sym, refl, ap, ◌∙◌, ap₂, inl, inr, suc-mul, zero-add, zero-mul, arith, length-drop, take-add, ◌%◌, subst}
use lib.Seq.{take-append-add, drop-append-add}
use Rattle.std.specs.List.{flat_map}
use Rattle.std.proofs.lemmas.List.{append-nil, append_assoc, take-append-le, drop-append-le, drop_all, length-take-le}
use Rattle.std.proofs.lemmas.Bool.{cases_eq}
use Rattle.descriptors.proofs.Blocks.{Wide, length-row}
use Rattle.descriptors.proofs.Laid.{over_none}
use Rattle.devices.specs.Meaning.{Meaning, Whole, Fails, Refuses, Kept, Same, WriteDone}
use Rattle.devices.specs.declared.device.Cause.{Cause}
use Rattle.devices.specs.declared.device.Cause.TheVariants.{Length, Range, Bad}
use Rattle.devices.specs.declared.device.DeviceFault.{DeviceFault}
use Rattle.layout.specs.Bytes.{over}
use Rattle.layout.specs.Overs.{over_over}
use Rattle.content.specs.Parts.{IsPart}
use Rattle.content.specs.Rows.{row, Within, Distinct, Beside}
use Rattle.content.specs.Writing.{PartDone, PartWritten, Written}
use Rattle.content.specs.declared.file_parts.FilePart.{FilePart}
use Rattle.content.proofs.PartSteps.{part_sector}

pub over_left : (o : ℕ) (bs x y : List ℕ) → o + length bs ≤ length x → over o bs (x ++ y) ≡ over o bs x ++ y
unfolding over
over_left o bs x y h =
    ap₂ (λ a b. a ++ (bs ++ b)) (take-append-le o x y (omega arith)) (drop-append-le (o + length bs) x y h) ∙ simp append_assoc

pub over_right : (w p : ℕ) (bs x y : List ℕ) → length x ≡ w → over (w + p) bs (x ++ y) ≡ x ++ over p bs y
unfolding over
over_right w p bs x y e =
    let q : (w + p) + length bs ≡ length x + (p + length bs) = omega arith in
    ap₂ (λ a b. a ++ (bs ++ b))
    (ap (λ k. take (k + p) (x ++ y)) (sym e) ∙ take-append-add x y p)
    (ap (λ k. drop k (x ++ y)) q ∙ drop-append-add x y (p + length bs))
    ∙ append_assoc x (take p y) (bs ++ drop (p + length bs) y)

-- everything is laid over
pub over_whole : (p : ℕ) (bs xs : List ℕ) → p ≡ 0 → length xs ≡ length bs → bs ≡ over p bs xs
unfolding over
over_whole p bs xs z e =
    sym (append-nil bs) ∙ ap (λ l. bs ++ l) (sym (drop_all (0 + length bs) xs (omega arith))) ∙ ap (λ q. over q bs xs) (sym z)

-- a sector that is written whole
pub whole_written : (m m' : Meaning) (l o : ℕ) (bs : List ℕ) (r : Result Unit DeviceFault) → length bs ≡ 256 → o ≡ 0 → WriteDone m m' l bs r → PartWritten m m' l o bs r
whole_written m m' l o bs (Ok u) long none (a, k, is) =
    record {
      accepted = (refl, a.1, a.2);
      kept = k;
      long = ap length is ∙ long;
      put = λ whole. is ∙ over_whole o bs (m.sector l) none (whole l a.1 ∙ sym long);
    }
whole_written m m' l o bs (Err f) long none (a, k) = (rw long at a, k)

module _ (f f' : ℕ → List ℕ) where
  pub same_row : (e : List ℕ) → ((j : ℕ) → j < length e → f' (get_or e j 0) ≡ f (get_or e j 0)) → flat_map f' e ≡ flat_map f e
  same_row [] all = refl
  same_row (x ∷ e) all = ap₂ ◌++◌ (all 0 (omega arith)) (same_row e (λ j d. all (suc j) (omega arith)))

  -- one block is written in part, and the others stay
  pub put_block : (w : ℕ) (e : List ℕ) (i o : ℕ) (bs : List ℕ) → Wide f w e → i < length e → o + length bs ≤ w → f' (get_or e i 0) ≡ over o bs (f (get_or e i 0)) → ((j : ℕ) → j < length e → (j ≡ i → ⊥) → f' (get_or e j 0) ≡ f (get_or e j 0)) → flat_map f' e ≡ over (i * w + o) bs (flat_map f e)
  put_block w [] i o bs all h l is same = absurd (omega arith)
  put_block w (x ∷ e) zero o bs all h l is same =
      let wide : length (f x) ≡ w = all 0 (omega arith) in
      let q : zero * w + o ≡ o = ap (λ z. z + o) (zero-mul w) ∙ zero-add o in
      ap₂ ◌++◌ is (same_row e (λ j d. same (suc j) (omega arith) (λ z. omega arith)))
      ∙ sym (over_left o bs (f x) (flat_map f e) (omega arith))
      ∙ ap (λ k. over k bs (f x ++ flat_map f e)) (sym q)
  put_block w (x ∷ e) (suc i) o bs all h l is same =
      let q : w + (i * w + o) ≡ suc i * w + o = omega (arith, suc-mul i w) in
      ap₂ ◌++◌ (same 0 (omega arith) (λ z. omega arith)) (put_block w e i o bs (λ j d. all (suc j) (omega arith)) (omega arith) l is (λ j d ne. same (suc j) (omega arith) (λ z. ne (omega arith))))
      ∙ sym (over_right w (i * w + o) bs (f x) (flat_map f e) (all 0 (omega arith)))
      ∙ ap (λ k. over k bs (f x ++ flat_map f e)) q

-- what a device refuses, it refused before
fails_before : (P : ℕ → Type 0) (m m' : Meaning) (l : ℕ) (c : Cause) → Kept P m m' → Fails m' l 256 c → Fails m l 256 c
fails_before P m m' l Length k a = a
fails_before P m m' l Range k a = (a.0, omega (arith, k.0, a.1))
fails_before P m m' l Bad k a = let lt : l < m.count = omega (arith, k.0, a.1) in (a.0, lt, sym (k.1 l lt) ∙ a.2)

pub refused_before : (P : ℕ → Type 0) (m m' : Meaning) (l : ℕ) (f : DeviceFault) → Kept P m m' → Refuses m' l 256 f → Refuses m l 256 f
refused_before P m m' l f k a = (a.0, fails_before P m m' l f.cause k a.1)

-- nothing is written yet
pub write_none : (m : Meaning) (e : List ℕ) (p : ℕ) → Written m m e p []
write_none m e p = record { kept = (refl, (λ k h. refl), λ k h out. refl); whole = λ w. w; is = λ whole within distinct. sym (over_none p (row m e)) }

module _ (m₀ m m' : Meaning) (e bs : List ℕ) (p d : ℕ) (w : Written m₀ m e p (take d bs)) where
  on_both : (j : ℕ) → j < m₀.count → j < m.count
  on_both j h = omega (arith, w.kept.0)

  -- a turn that the device refused
  pub write_same : Same m m' → Written m₀ m' e p (take d bs)
  write_same k =
      record {
        kept = (k.0 ∙ w.kept.0, (λ j h. k.1 j (on_both j h) ∙ w.kept.1 j h), λ j h out. k.2 j (on_both j h) tt ∙ w.kept.2 j h out);
        whole = λ all l lt. let low : l < m.count = omega (arith, k.0) in ap length (k.2 l low tt) ∙ w.whole all l low;
        is = λ whole within distinct. same_row m.sector m'.sector e (λ j h. k.2 (get_or e j 0) (on_both _ (within j h)) tt) ∙ w.is whole within distinct;
      }

  -- a turn that wrote a part of the sector in which the byte p + d lies
  module _ (end lsn : ℕ) (part : List ℕ) (h : (p + d) / 256 < length e) (at : lsn ≡ get_or e ((p + d) / 256) 0) (le : d < end) (top : end ≤ length bs) (fits : end ≤ d + (256 - (p + d) % 256)) (got : part ≡ take (end - d) (drop d bs)) (done : PartDone m m' lsn ((p + d) % 256) part) where
    long_before : length (take d bs) ≡ d
    long_before = length-take-le d bs (omega arith)

    long_after : length (take end bs) ≡ end
    long_after = length-take-le end bs top

    long_part : length part ≡ end - d
    long_part = ap length got ∙ length-take-le (end - d) (drop d bs) (simp length-drop (omega arith))

    turn_kept : Kept (Beside e p (length (take end bs))) m₀ m'
    turn_kept = (
      done.kept.0 ∙ w.kept.0,
      λ j lt. done.kept.1 j (on_both j lt) ∙ w.kept.1 j lt,
      λ j lt out.
          done.kept.2 j (on_both j lt) (λ z. out (p + d) (omega arith) (omega (arith, long_after)) (z ∙ at))
          ∙ w.kept.2 j lt (λ i lo hi. out i lo (omega (arith, long_before, long_after))),
    )

    turn_whole : Whole m₀ → Whole m'
    turn_whole all l lt = let low : l < m.count = omega (arith, done.kept.0) in elim (cases_eq l lsn) [
      | inl same ↦ ap (λ k. length (m'.sector k)) same ∙ done.long
      | inr other ↦ ap length (done.kept.2 l low other) ∙ w.whole all l low
    ]

    turn_is : Whole m₀ → Within m₀ e → Distinct e → row m' e ≡ over p (take end bs) (row m₀ e)
    turn_is whole within distinct =
        let cut : (p + d) / 256 * 256 + (p + d) % 256 ≡ p + d = omega arith in
        let s : d + (end - d) ≡ end = omega arith in
        let all : Whole m = w.whole whole in
        let long : length (row m₀ e) ≡ length e * 256 = length-row m₀.sector 256 e (λ i lt. whole (get_or e i 0) (within i lt)) in
        let one : row m' e ≡ over ((p + d) / 256 * 256 + (p + d) % 256) part (row m e) =
        put_block m.sector m'.sector 256 e ((p + d) / 256) ((p + d) % 256) part
        (λ i lt. all (get_or e i 0) (on_both _ (within i lt))) h (omega (arith, long_part))
        (ap m'.sector (sym at) ∙ done.put all ∙ ap (λ l. over ((p + d) % 256) part (m.sector l)) at)
        (λ j lt ne. done.kept.2 (get_or e j 0) (on_both _ (within j lt)) (λ z. ne (distinct j ((p + d) / 256) lt h (z ∙ at)))) in
        one ∙ ap₂ (λ q xs. over q part xs) cut (w.is whole within distinct)
        ∙ over_over p (p + d) (take d bs) part (row m₀ e) (omega (arith, long_before)) (omega (arith, long))
        ∙ ap (λ l. over p l (row m₀ e)) (ap (λ l. take d bs ++ l) got ∙ sym (take-add d (end - d) bs) ∙ ap (λ k. take k bs) s)

    pub write_turn : Written m₀ m' e p (take end bs)
    write_turn = record { kept = turn_kept; whole = turn_whole; is = turn_is }

  -- the same of a part as the parts of a file's bytes have it
  pub write_part_turn : (d' : ℕ) (part : FilePart) → IsPart e p (length bs) d part → d' ≡ part.bytes.end → PartDone m m' part.lsn part.from (take (part.bytes.end - part.bytes.start) (drop part.bytes.start bs)) → Written m₀ m' e p (take d' bs)
  write_part_turn d' part is next done =
      let at = part_sector e p (length bs) d part is in
      let piece : List ℕ = take (part.bytes.end - part.bytes.start) (drop part.bytes.start bs) in
      let same : piece ≡ take (d' - d) (drop d bs) = ap₂ (λ (a b : ℕ). take (a - b) (drop b bs)) (sym next) is.start in
      write_turn d' part.lsn piece at.0 at.1 (omega (arith, is.less, is.from, is.end)) (omega (arith, is.less, is.end)) (omega (arith, is.from, is.end)) same
      (subst (λ (o : ℕ). PartDone m m' part.lsn o piece) is.from done)
