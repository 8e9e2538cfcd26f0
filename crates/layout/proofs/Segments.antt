-- The five bytes of a segment entry, in a descriptor.
use Rattle.std.proofs.Common.{◌≡◌, ℕ, ◌+◌, ◌*◌, ◌<◌, ◌≤◌, List, [], ◌∷◌, length, get_or, take, drop, sym, refl, ap, ◌∙◌, ap₂, arith, length-append, eq-eqb, ne_eqb}
use Rattle.std.proofs.lemmas.List.{get_or-take, get_or-drop}
use Rattle.layout.specs.Bytes.{number}
use Rattle.layout.specs.Descriptor.{segment_of, segment_bytes, segment, segments, used}
use Rattle.layout.specs.Records.{record_at}
use Rattle.layout.specs.declared.segment.Segment.{Segment}
use Rattle.layout.specs.Digits.{length-bytes, number_same}

pub length-segment : (s : Segment) → length (segment_bytes s) ≡ 5
length-segment s = simp (length-append, length-bytes) (omega arith)

-- a segment is settled by its five bytes
pub segment_same : (xs ys : List ℕ) → ((i : ℕ) → i < 5 → get_or xs i 0 ≡ get_or ys i 0) → segment_of xs ≡ segment_of ys
unfolding segment_of
segment_same xs ys h =
    let make : ℕ → ℕ → Segment = λ a b. record { start = a; len = b } in
    ap₂ make (number_same 0 0 3 xs ys (λ k lt. h (0 + k) (omega arith))) (number_same 3 3 2 xs ys (λ k lt. h (3 + k) (omega arith)))

-- a byte of the k-th record of a part
pub byte_in : (p n w k i : ℕ) (xs : List ℕ) → i < w → k * w + w ≤ n → get_or (record_at w k (take n (drop p xs))) i 0 ≡ get_or (drop (p + k * w) xs) i 0
byte_in p n w k i xs lt fits =
    get_or-take w (drop (k * w) (take n (drop p xs))) i 0 lt
    ∙ get_or-drop (k * w) (take n (drop p xs)) i 0
    ∙ get_or-take n (drop p xs) (k * w + i) 0 (omega arith)
    ∙ get_or-drop p xs (k * w + i) 0
    ∙ ap (λ j. get_or xs j 0) (omega arith)
    ∙ sym (get_or-drop (p + k * w) xs i 0)

-- the k-th entry of the list is the descriptor's
pub entry_is : (k : ℕ) (xs : List ℕ) → k < 48 → segment_of (record_at 5 k (take 240 (drop 16 xs))) ≡ segment_of (drop (16 + k * 5) xs)
entry_is k xs few = segment_same _ _ (λ i lt. byte_in 16 240 5 k i xs lt (omega arith))

-- an entry by its numbers in the descriptor
pub segment_numbers : (s : List ℕ) (k : ℕ) → segment s k ≡ record { start = number (16 + k * 5) 3 s; len = number (16 + k * 5 + 3) 2 s }
unfolding segment_of
segment_numbers s k =
    let make : ℕ → ℕ → Segment = λ a b. record { start = a; len = b } in
    ap₂ make
    (number_same 0 (16 + k * 5) 3 (drop (16 + k * 5) s) s (λ i lt. get_or-drop (16 + k * 5) s (0 + i) 0 ∙ ap (λ j. get_or s j 0) (omega arith)))
    (number_same 3 (16 + k * 5 + 3) 2 (drop (16 + k * 5) s) s (λ i lt. get_or-drop (16 + k * 5) s (3 + i) 0 ∙ ap (λ j. get_or s j 0) (omega arith)))

-- a descriptor with one segment
pub one_segment : (s : List ℕ) (start len : ℕ) → number 16 3 s ≡ start → number 19 2 s ≡ len → (len ≡ 0 → ⊥) → number 24 2 s ≡ 0 → segments s ≡ record { start = start; len = len } ∷ []
unfolding used
one_segment s start len a b some none =
    let make : ℕ → ℕ → Segment = λ x y. record { start = x; len = y } in
    let first : segment s 0 ≡ make start len = segment_numbers s 0 ∙ ap₂ make a b in
    let second : (segment s 1).len ≡ 0 = ap (λ (g : Segment). g.len) (segment_numbers s 1) ∙ none in
    rw (first, ne_eqb len 0 some) (ap (λ l. make start len ∷ l) (rw (eq-eqb (segment s 1).len 0 second) refl))
