-- What a new descriptor shows.
use Rattle.std.proofs.Common.{◌≡◌, ℕ, ◌+◌, ◌%◌, ◌^◌, ◌<◌, ◌≤◌, List, [], ◌∷◌, length, replicate, refl, ap, ◌∙◌, arith}
use Rattle.std.proofs.lemmas.List.{length-replicate}
use Rattle.layout.specs.Bytes.{bytes, over}
use Rattle.layout.specs.declared.segment.Segment.{Segment}
use Rattle.layout.specs.Digits.{length-bytes, number_over, number_below}
use Rattle.layout.specs.Overs.{length_over}
use Rattle.descriptors.specs.Created.{new_shown, new_descriptor}
use Rattle.descriptors.specs.declared.heading.Heading.{Heading}
use Rattle.descriptors.specs.Shown.{shown, with_segments}
use Rattle.descriptors.proofs.Laid.{part_below, part_in}
use Rattle.descriptors.proofs.Showings.{shown_by, segments_shown}
use Rattle.descriptors.specs.Stored.{AllStorable}

-- a number of one byte
pub one_byte : (n : ℕ) → n < 256 → n ∷ [] ≡ bytes 1 n
unfolding bytes
one_byte n small = let e : n ≡ n % 256 = omega arith in ap (λ k. k ∷ []) e

module _ (h : Heading) (n : ℕ) (ss : List Segment) (byte : h.attribute < 256) (word : h.owner < 65536) (five : length h.modified ≡ 5) (three : length h.created ≡ 3) (small : n < 2 ^ 32) where
  -- the descriptor as field after field is laid
  abbrev d0 : List ℕ
  d0 = replicate 256 0

  abbrev d1 : List ℕ
  d1 = over 0 (h.attribute ∷ []) d0

  abbrev d2 : List ℕ
  d2 = over 1 (bytes 2 h.owner) d1

  abbrev d3 : List ℕ
  d3 = over 3 h.modified d2

  abbrev d4 : List ℕ
  d4 = over 8 (1 ∷ []) d3

  abbrev d5 : List ℕ
  d5 = over 9 (bytes 4 n) d4

  abbrev d6 : List ℕ
  d6 = over 13 h.created d5

  -- each has 256 bytes
  l0 : length d0 ≡ 256
  l0 = length-replicate {A = ℕ} 256 0

  f1 : 0 + length (h.attribute ∷ []) ≤ length d0
  f1 = omega (arith, l0)

  l1 : length d1 ≡ 256
  l1 = length_over 0 (h.attribute ∷ []) d0 f1 ∙ l0

  f2 : 1 + length (bytes 2 h.owner) ≤ length d1
  f2 = omega (arith, l1, length-bytes 2 h.owner)

  l2 : length d2 ≡ 256
  l2 = length_over 1 (bytes 2 h.owner) d1 f2 ∙ l1

  f3 : 3 + length h.modified ≤ length d2
  f3 = omega (arith, l2)

  l3 : length d3 ≡ 256
  l3 = length_over 3 h.modified d2 f3 ∙ l2

  f4 : 8 + length {A = ℕ} (1 ∷ []) ≤ length d3
  f4 = omega (arith, l3)

  l4 : length d4 ≡ 256
  l4 = length_over 8 (1 ∷ []) d3 f4 ∙ l3

  f5 : 9 + length (bytes 4 n) ≤ length d4
  f5 = omega (arith, l4, length-bytes 4 n)

  l5 : length d5 ≡ 256
  l5 = length_over 9 (bytes 4 n) d4 f5 ∙ l4

  f6 : 13 + length h.created ≤ length d5
  f6 = omega (arith, l5)

  pub l6 : length d6 ≡ 256
  l6 = length_over 13 h.created d5 f6 ∙ l5

  -- its fields, whatever segments are laid over its entries
  pub fields_show : with_segments ss (shown d6) ≡ new_shown h n ss
  fields_show =
      shown_by (with_segments ss (shown d6)) (new_shown h n ss)
      (number_below 13 h.created d5 f6 0 1 (omega arith)
      ∙ number_below 9 (bytes 4 n) d4 f5 0 1 (omega arith)
      ∙ number_below 8 (1 ∷ []) d3 f4 0 1 (omega arith)
      ∙ number_below 3 h.modified d2 f3 0 1 (omega arith)
      ∙ number_below 1 (bytes 2 h.owner) d1 f2 0 1 (omega arith)
      ∙ number_over 0 (h.attribute ∷ []) d0 f1 1 h.attribute (one_byte h.attribute byte) (omega arith))
      (number_below 13 h.created d5 f6 1 2 (omega arith)
      ∙ number_below 9 (bytes 4 n) d4 f5 1 2 (omega arith)
      ∙ number_below 8 (1 ∷ []) d3 f4 1 2 (omega arith)
      ∙ number_below 3 h.modified d2 f3 1 2 (omega arith)
      ∙ number_over 1 (bytes 2 h.owner) d1 f2 2 h.owner refl (omega arith))
      (part_below 13 h.created d5 f6 3 5 (omega arith)
      ∙ part_below 9 (bytes 4 n) d4 f5 3 5 (omega arith)
      ∙ part_below 8 (1 ∷ []) d3 f4 3 5 (omega arith)
      ∙ part_in 3 h.modified d2 f3 5 five)
      (number_below 13 h.created d5 f6 8 1 (omega arith)
      ∙ number_below 9 (bytes 4 n) d4 f5 8 1 (omega arith)
      ∙ number_over 8 (1 ∷ []) d3 f4 1 1 (one_byte 1 (omega arith)) (omega arith))
      (number_below 13 h.created d5 f6 9 4 (omega arith)
      ∙ number_over 9 (bytes 4 n) d4 f5 4 n refl (omega arith))
      (part_in 13 h.created d5 f6 3 three)
      refl

  pub new_shows : length ss ≤ 48 → AllStorable ss → shown (new_descriptor h n ss) ≡ new_shown h n ss
  new_shows few all = segments_shown d6 l6 ss few all ∙ fields_show
