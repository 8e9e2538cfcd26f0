-- Sectors side by side, and the slots in them.
use Rattle.std.proofs.Common.{◌≡◌, ℕ, zero, suc, ◌+◌, ◌*◌, ◌/◌, ◌%◌, ◌<◌, ◌≤◌, List, [], ◌∷◌, ◌++◌, length, get_or, take, drop, Some, sym, ap, ◌∙◌, suc-mul, zero-add, zero-mul, arith, length-append, length-drop}
use Rattle.std.specs.List.{flat_map, slice_get}
use Rattle.std.proofs.lemmas.List.{take-append-le, drop-append-le, drop-drop, drop_at, length-take-le}
use Rattle.std.proofs.lemmas.Option.{slice_get_within, get_or_from_slice_get}
use Rattle.layout.specs.Descriptor.{size, segments, extent, content}
use Rattle.layout.specs.Records.{record_at}
use Rattle.layout.proofs.Rows.{record_take}

-- each of these sectors has w bytes
abbrev pub Wide : (ℕ → List ℕ) → ℕ → List ℕ → Type 0
Wide f w e = (i : ℕ) → i < length e → length (f (get_or e i 0)) ≡ w

pub nth_some : (xs : List ℕ) (i x : ℕ) → slice_get xs i ≡ Some x → (i < length xs) × (x ≡ get_or xs i 0)
nth_some xs i x e = (slice_get_within xs i x e, sym (get_or_from_slice_get xs i x 0 e))

-- a part of one sector is a part of the row
pub block : (f : ℕ → List ℕ) (w : ℕ) (e : List ℕ) (i o n : ℕ) → Wide f w e → i < length e → o + n ≤ w → take n (drop (i * w + o) (flat_map f e)) ≡ take n (drop o (f (get_or e i 0)))
block f w [] i o n all h l = absurd (omega arith)
block f w (x ∷ e) zero o n all h l =
    let wide : length (f x) ≡ w = all 0 (omega arith) in
    ap (λ k. take n (drop k (f x ++ flat_map f e))) (ap (λ z. z + o) (zero-mul w) ∙ zero-add o)
    ∙ ap (take n) (drop-append-le o (f x) (flat_map f e) (omega arith))
    ∙ take-append-le n (drop o (f x)) (flat_map f e) (simp length-drop (omega arith))
block f w (x ∷ e) (suc i) o n all h l =
    let q : suc i * w + o ≡ w + (i * w + o) = omega (arith, suc-mul i w) in
    ap (λ k. take n (drop k (f x ++ flat_map f e))) q
    ∙ ap (take n) (sym (drop-drop (i * w + o) w (f x ++ flat_map f e)) ∙ ap (drop (i * w + o)) (drop_at (f x) (flat_map f e) w (all 0 (omega arith))))
    ∙ block f w e i o n (λ j d. all (suc j) (omega arith)) (omega arith) l

-- the slot k of a directory lies in its sector k / 8
pub slot_block : (sector : ℕ → List ℕ) (s : List ℕ) (k l : ℕ) → k * 32 + 32 ≤ size s → Wide sector 256 (extent (segments s)) → slice_get (extent (segments s)) (k / 8) ≡ Some l → record_at 32 k (content sector s) ≡ record_at 32 (k % 8) (sector l)
slot_block sector s k l fits wide there =
    let e : List ℕ = extent (segments s) in
    let at = nth_some e (k / 8) l there in
    let cut : k / 8 * 256 + k % 8 * 32 ≡ k * 32 = omega arith in
    record_take k 32 (size s) (flat_map sector e) fits
    ∙ ap (λ n. take 32 (drop n (flat_map sector e))) (sym cut)
    ∙ block sector 256 e (k / 8) (k % 8 * 32) 32 wide at.0 (omega arith)
    ∙ ap (λ j. take 32 (drop (k % 8 * 32) (sector j))) (sym at.1)

pub length-row : (f : ℕ → List ℕ) (w : ℕ) (e : List ℕ) → Wide f w e → length (flat_map f e) ≡ length e * w
length-row f w [] all = sym (zero-mul w)
length-row f w (x ∷ e) all =
    let r = length-row f w e (λ j d. all (suc j) (omega arith)) in
    length-append (f x) (flat_map f e) ∙ omega (arith, r, all 0 (omega arith), suc-mul (length e) w)

-- the bytes of a file that its segments hold
pub content-length : (sector : ℕ → List ℕ) (s : List ℕ) → Wide sector 256 (extent (segments s)) → size s ≤ 256 * length (extent (segments s)) → length (content sector s) ≡ size s
content-length sector s wide held = length-take-le (size s) (flat_map sector (extent (segments s))) (omega (arith, length-row sector 256 (extent (segments s)) wide))
