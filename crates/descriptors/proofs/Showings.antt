-- What a descriptor shows after bytes were laid over one of its fields.
use Rattle.std.proofs.Common.{◌≡◌, ℕ, ◌+◌, ◌^◌, ◌<◌, ◌≤◌, List, length, refl, ap, ◌∙◌, ap₂, arith}
use Rattle.layout.specs.Bytes.{bytes, over}
use Rattle.layout.specs.declared.segment.Segment.{Segment}
use Rattle.layout.specs.Digits.{length-bytes, number_over, number_below, number_above}
use Rattle.descriptors.specs.Shown.{Shown, shown, with_size, with_date, with_segments, SameEntries}
use Rattle.descriptors.specs.Stored.{AllStorable, stored}
use Rattle.descriptors.proofs.Laid.{part_below, part_above, part_in, entry_above, segments_above}
use Rattle.descriptors.proofs.Storing.{stored_length, segments_are}

-- fields that are equal one by one
abbrev make : ℕ → ℕ → List ℕ → ℕ → ℕ → List ℕ → List Segment → Shown
make a o m l n c ss = record { attribute = a; owner = o; modified = m; links = l; size = n; created = c; segments = ss }

pub shown_by : (e f : Shown)
    → e.attribute ≡ f.attribute → e.owner ≡ f.owner → e.modified ≡ f.modified → e.links ≡ f.links → e.size ≡ f.size → e.created ≡ f.created → e.segments ≡ f.segments
    → e ≡ f
shown_by e f a o m l n c ss =
    ap (λ x. make x e.owner e.modified e.links e.size e.created e.segments) a
    ∙ ap (λ x. make f.attribute x e.modified e.links e.size e.created e.segments) o
    ∙ ap (λ x. make f.attribute f.owner x e.links e.size e.created e.segments) m
    ∙ ap (λ x. make f.attribute f.owner f.modified x e.size e.created e.segments) l
    ∙ ap (λ x. make f.attribute f.owner f.modified f.links x e.created e.segments) n
    ∙ ap₂ (λ x y. make f.attribute f.owner f.modified f.links f.size x y) c ss

module _ (xs : List ℕ) (wide : length xs ≡ 256) where
  -- the size
  module _ (n : ℕ) (small : n < 2 ^ 32) where
    size_fits : 9 + length (bytes 4 n) ≤ length xs
    size_fits = omega (arith, length-bytes 4 n)

    pub size_shown : shown (over 9 (bytes 4 n) xs) ≡ with_size n (shown xs)
    size_shown =
        let fits = size_fits in
        let bs = bytes 4 n in
        let after = length-bytes 4 n in
        shown_by (shown (over 9 bs xs)) (with_size n (shown xs))
        (number_below 9 bs xs fits 0 1 (omega arith))
        (number_below 9 bs xs fits 1 2 (omega arith))
        (part_below 9 bs xs fits 3 5 (omega arith))
        (number_below 9 bs xs fits 8 1 (omega arith))
        (number_over 9 bs xs fits 4 n refl (omega arith))
        (part_above 9 bs xs fits 13 3 (omega arith))
        (segments_above 9 bs xs fits (omega arith))

    pub size_entries : SameEntries xs (over 9 (bytes 4 n) xs)
    size_entries k lt = entry_above 9 (bytes 4 n) xs size_fits (omega (arith, length-bytes 4 n)) k

  -- the date of the last change
  module _ (date : List ℕ) (five : length date ≡ 5) where
    date_fits : 3 + length date ≤ length xs
    date_fits = omega arith

    pub date_shown : shown (over 3 date xs) ≡ with_date date (shown xs)
    date_shown =
        let fits = date_fits in
        shown_by (shown (over 3 date xs)) (with_date date (shown xs))
        (number_below 3 date xs fits 0 1 (omega arith))
        (number_below 3 date xs fits 1 2 (omega arith))
        (part_in 3 date xs fits 5 five)
        (number_above 3 date xs fits 8 1 (omega arith))
        (number_above 3 date xs fits 9 4 (omega arith))
        (part_above 3 date xs fits 13 3 (omega arith))
        (segments_above 3 date xs fits (omega arith))

    pub date_entries : SameEntries xs (over 3 date xs)
    date_entries k lt = entry_above 3 date xs date_fits (omega arith) k

  -- the segments
  module _ (ss : List Segment) (few : length ss ≤ 48) (all : AllStorable ss) where
    pub segments_shown : shown (over 16 (stored ss) xs) ≡ with_segments ss (shown xs)
    segments_shown =
        let bs = stored ss in
        let fits : 16 + length bs ≤ length xs = omega (arith, stored_length ss few) in
        shown_by (shown (over 16 bs xs)) (with_segments ss (shown xs))
        (number_below 16 bs xs fits 0 1 (omega arith))
        (number_below 16 bs xs fits 1 2 (omega arith))
        (part_below 16 bs xs fits 3 5 (omega arith))
        (number_below 16 bs xs fits 8 1 (omega arith))
        (number_below 16 bs xs fits 9 4 (omega arith))
        (part_below 16 bs xs fits 13 3 (omega arith))
        (segments_are ss few all xs wide)
