-- A slot of a directory is written in its sector: what the directory's bytes are afterwards.
use Rattle.std.proofs.Common.{◌≡◌, ℕ, zero, suc, ◌+◌, ◌-◌, ◌*◌, ◌/◌, ◌%◌, ◌<◌, ◌≤◌, List, [], ◌∷◌, ◌++◌, length, get_or, take, drop, Some, sym, refl, ap, ◌∙◌, inl, inr, arith, length-append}
use lib.Seq.{drop-append-add}
use Rattle.std.specs.List.{slice_get}
use Rattle.std.proofs.lemmas.List.{append_assoc, drop-drop, length-take-le}
use Rattle.std.proofs.lemmas.Option.{slice_get-get_or}
use Rattle.std.proofs.lemmas.Bool.{cases_eq, cases_lt}
use Rattle.layout.specs.Bytes.{over}
use Rattle.layout.specs.Descriptor.{size, segments, extent, content}
use Rattle.layout.specs.Records.{record_at}
use Rattle.layout.specs.Overs.{part_over}
use Rattle.layout.proofs.Rows.{record_below}
use Rattle.descriptors.proofs.Blocks.{Wide, slot_block}
use Rattle.rules.specs.Nodes.{times}
use Rattle.rules.proofs.Members.{nth-times}
use Rattle.rules.proofs.Times.{hit_self}

-- a number that stands in a list once has one place
pub nth_once : (xs : List ℕ) (a b x : ℕ) → slice_get xs a ≡ Some x → slice_get xs b ≡ Some x → times x xs ≤ 1 → a ≡ b
nth_once [] a b x p q few = cc
nth_once (y ∷ xs) zero zero x p q few = refl
nth_once (y ∷ xs) zero (suc b) x p q few = let same : y ≡ x = cc in absurd (omega (arith, rw same at few, hit_self x, nth-times xs b x q))
nth_once (y ∷ xs) (suc a) zero x p q few = let same : y ≡ x = cc in absurd (omega (arith, rw same at few, hit_self x, nth-times xs a x p))
nth_once (y ∷ xs) (suc a) (suc b) x p q few = ap suc (nth_once xs a b x p q (omega arith))

-- a record behind the bytes that were laid over others
pub record_above : (j w p : ℕ) (bs xs : List ℕ) → p + length bs ≤ j * w → p ≤ length xs → record_at w j (over p bs xs) ≡ record_at w j xs
unfolding over
record_above j w p bs xs high fits =
    let n = j * w - (p + length bs) in
    let front = take p xs ++ bs in
    let long : length front ≡ p + length bs = length-append (take p xs) bs ∙ ap (λ k. k + length bs) (length-take-le p xs fits) in
    let at : length front + n ≡ j * w = omega arith in
    ap (λ ys. take w (drop (j * w) ys)) (sym (append_assoc (take p xs) bs (drop (p + length bs) xs)))
    ∙ ap (λ k. take w (drop k (front ++ drop (p + length bs) xs))) (sym at)
    ∙ ap (take w) (drop-append-add front (drop (p + length bs) xs) n)
    ∙ ap (take w) (drop-drop n (p + length bs) xs)
    ∙ ap (λ k. take w (drop k xs)) (omega arith)

-- the slot i of a directory is written in its sector p; its descriptor changes from s to s', and its sectors before are its first ones after
module _ (sector sector' : ℕ → List ℕ) (s s' : List ℕ) (i p : ℕ) (bs : List ℕ)
    (wide : Wide sector 256 (extent (segments s))) (wide' : Wide sector' 256 (extent (segments s')))
    (longer : (q l : ℕ) → slice_get (extent (segments s)) q ≡ Some l → slice_get (extent (segments s')) q ≡ Some l)
    (once : (k : ℕ) → times k (extent (segments s')) ≤ 1)
    (there : slice_get (extent (segments s')) (i / 8) ≡ Some p) (short : length bs ≤ 32) (full : length (sector p) ≡ 256)
    (written : sector' p ≡ over (i % 8 * 32) bs (sector p))
    (others : (k : ℕ) → 0 < times k (extent (segments s')) → (k ≡ p → ⊥) → sector' k ≡ sector k) where
  -- a record of any of its sectors, but the one that is written
  same_record : (j l : ℕ) → (j ≡ i → ⊥) → slice_get (extent (segments s')) (j / 8) ≡ Some l → record_at 32 (j % 8) (sector' l) ≡ record_at 32 (j % 8) (sector l)
  same_record j l ne at = elim (cases_eq l p) [
    | inl e ↦
        let same : j / 8 ≡ i / 8 = nth_once (extent (segments s')) (j / 8) (i / 8) l at (there ∙ ap Some (sym e)) (once l) in
        ap (λ k. record_at 32 (j % 8) (sector' k)) e
        ∙ ap (record_at 32 (j % 8)) written
        ∙ elim (cases_lt (j % 8) (i % 8)) [
          | inl lt ↦ record_below (j % 8) 32 (i % 8 * 32) bs (sector p) (omega arith) (omega arith)
          | inr le ↦ record_above (j % 8) 32 (i % 8 * 32) bs (sector p) (omega (arith, le, ne, same)) (omega arith)
        ]
        ∙ ap (λ k. record_at 32 (j % 8) (sector k)) (sym e)
    | inr other ↦ ap (record_at 32 (j % 8)) (others l (nth-times (extent (segments s')) (j / 8) l at) other)
  ]

  -- every other slot is as it was
  pub slot_other : size s ≤ 256 * length (extent (segments s)) → (j : ℕ) → (j ≡ i → ⊥) → j * 32 + 32 ≤ size s → j * 32 + 32 ≤ size s' → record_at 32 j (content sector' s') ≡ record_at 32 j (content sector s)
  slot_other held j ne low low' =
      let l = get_or (extent (segments s)) (j / 8) 0 in
      let at : slice_get (extent (segments s)) (j / 8) ≡ Some l = slice_get-get_or (extent (segments s)) (j / 8) 0 (omega arith) in
      let at' : slice_get (extent (segments s')) (j / 8) ≡ Some l = longer (j / 8) l at in
      slot_block sector' s' j l low' wide' at' ∙ same_record j l ne at' ∙ sym (slot_block sector s j l low wide at)

  -- and the slot has what was written, and behind that what its place had
  pub slot_here : i * 32 + 32 ≤ size s' → record_at 32 i (content sector' s') ≡ bs ++ take (32 - length bs) (drop (i % 8 * 32 + length bs) (sector p))
  slot_here low = slot_block sector' s' i p low wide' there ∙ ap (record_at 32 (i % 8)) written ∙ part_over (i % 8 * 32) 32 bs (sector p) (omega arith) short
