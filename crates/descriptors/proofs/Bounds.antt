-- How many sectors a descriptor can name.
use Rattle.std.proofs.Common.{◌≡◌, ℕ, zero, suc, ◌+◌, ◌*◌, ◌<◌, ◌^◌, ◌≤◌, List, [], ◌∷◌, length, get_or, zero-add, refl, sym, ap, ap₂, ◌∙◌, inl, inr, arith, length-append, eq-eqb, ne_eqb}
use Rattle.std.specs.List.{sum_by}
use Rattle.std.proofs.lemmas.Bool.{cases_eq}
use Rattle.std.proofs.lemmas.List.Sums.{sum_by-cons}
use Rattle.layout.specs.Descriptor.{segment, used, segments, extent}
use Rattle.layout.specs.declared.segment.Segment.{Segment}
use Rattle.layout.specs.Digits.{number_lt}
use Rattle.layout.proofs.Segments.{segment_numbers}
use Rattle.descriptors.specs.Entries.{Used}
use Rattle.descriptors.specs.Stored.{AllStorable}
use Rattle.descriptors.proofs.Extents.{length-upto, used_before, used_first}

-- n entries give at most n segments
pub length-used : (s : List ℕ) (k n : ℕ) → length (used s k n) ≤ n
unfolding used
length-used s k zero = omega arith
length-used s k (suc n) = elim (cases_eq (segment s k).len 0) [
  | inl none ↦ rw (eq-eqb (segment s k).len 0 none) (omega arith)
  | inr some ↦ rw (ne_eqb (segment s k).len 0 some) (omega (arith, length-used s (k + 1) n))
]

-- a list has the sectors of its segments
pub sum_len : (ss : List Segment) → length (extent ss) ≡ sum_by (λ (s : Segment). s.len) ss
sum_len [] = refl
sum_len (s ∷ ss) = rw (length-append, sum_by-cons) (ap₂ ◌+◌ (length-upto s.start s.len) (sum_len ss))

-- storable segments have few sectors each
pub storable_few : (ss : List Segment) → AllStorable ss → sum_by (λ (s : Segment). s.len) ss ≤ 65535 * length ss
storable_few [] all = omega arith
storable_few (s ∷ ss) all = rw sum_by-cons (omega (arith, all.0.short, storable_few ss all.1))

pub sum_small : (ss : List Segment) → length ss ≤ 48 → AllStorable ss → sum_by (λ (s : Segment). s.len) ss < 2 ^ 22
sum_small ss few all = omega (arith, storable_few ss all)

module _ (s : List ℕ) (byte : (k : ℕ) → get_or s k 0 < 256) where
  -- an entry has three bytes for its start, and two for its size
  entry_low : (k : ℕ) → (segment s k).start < 2 ^ 24
  entry_low k = omega (arith, ap (λ (g : Segment). g.start) (segment_numbers s k), number_lt (16 + k * 5) 3 s byte)

  pub entry_short : (k : ℕ) → (segment s k).len < 65536
  entry_short k = omega (arith, ap (λ (g : Segment). g.len) (segment_numbers s k), number_lt (16 + k * 5 + 3) 2 s byte)

  -- the used entries are storable
  pub used_storable : (k n : ℕ) → AllStorable (used s k n)
  unfolding used
  used_storable k zero = tt
  used_storable k (suc n) = elim (cases_eq (segment s k).len 0) [
    | inl none ↦ rw (eq-eqb (segment s k).len 0 none) tt
    | inr some ↦
        rw (ne_eqb (segment s k).len 0 some)
        (record { some = omega arith; short = omega (arith, entry_short k); low = entry_low k }, used_storable (k + 1) n)
  ]

  pub held_few : length (extent (segments s)) ≤ 65535 * 48
  held_few = omega (arith, sum_len (segments s), storable_few (segments s) (used_storable 0 48), length-used s 0 48)

-- as many entries are used as there are segments
pub used_segments : (s : List ℕ) → Used s (length (segments s))
used_segments s = record {
  most = length-used s 0 48;
  before = λ j lt z. used_before s 0 48 j lt (ap (λ i. (segment s i).len) (zero-add j) ∙ z);
  first = λ lt. ap (λ i. (segment s i).len) (sym (zero-add (length (segments s)))) ∙ used_first s 0 48 lt;
}
