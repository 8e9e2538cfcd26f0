-- Segment lists that grow and shrink: the sectors that an entry holds, by counting.
use Rattle.std.proofs.Common.{◌≡◌, ℕ, ◌+◌, ◌<◌, List, ◌++◌, length, take, drop, Some, sym, ap, ◌∙◌, arith}
use Rattle.std.proofs.lemmas.Grind.{flat_map-append}
use Rattle.std.proofs.lemmas.List.{take-append-drop}
use Rattle.layout.specs.Descriptor.{upto, extent}
use Rattle.layout.specs.declared.segment.Segment.{Segment}
use Rattle.descriptors.specs.Lists.{last_of, lengthened}
use Rattle.descriptors.proofs.Growing as growing
use Rattle.rules.specs.Nodes.{times}
use Rattle.rules.proofs.Times.{times-++}
use Rattle.table.specs.Entries.{Entry, held}

-- a list that is two in a row
in_two : (k : ℕ) (ls xs ys : List ℕ) → ls ≡ xs ++ ys → times k ls ≡ times k xs + times k ys
in_two k ls xs ys is = ap (times k) is ∙ times-++ k xs ys

-- the last segment has n sectors more: those right behind it
pub extent-lengthened : (k : ℕ) (ss : List Segment) (n : ℕ) → 0 < length ss → times k (extent (lengthened ss n)) ≡ times k (extent ss) + times k (upto ((last_of ss).start + (last_of ss).len) n)
extent-lengthened k ss n some = in_two k _ _ _ (growing.extent-lengthened ss n some)

module _ (k l : ℕ) (e e' : Entry) where
  -- an entry with more segments behind its own
  pub held_more : (rs : List Segment) → e'.segments ≡ e.segments ++ rs → times k (held l (Some e')) ≡ times k (held l (Some e)) + times k (extent rs)
  held_more rs is = omega (arith, in_two k (extent e'.segments) (extent e.segments) (extent rs) (ap extent is ∙ flat_map-append _ e.segments rs))

  -- an entry with n sectors more in its last segment, and with more segments behind it
  pub held_longer : (n : ℕ) (rs : List Segment) → 0 < length e.segments → e'.segments ≡ lengthened e.segments n ++ rs
      → times k (held l (Some e')) ≡ times k (held l (Some e)) + times k (upto ((last_of e.segments).start + (last_of e.segments).len) n) + times k (extent rs)
  held_longer n rs some is = omega (arith, in_two k (extent e'.segments) (extent (lengthened e.segments n)) (extent rs) (ap extent is ∙ flat_map-append _ (lengthened e.segments n) rs), extent-lengthened k e.segments n some)

  -- an entry that keeps the first n of its sectors
  pub held_less : (n : ℕ) → extent e'.segments ≡ take n (extent e.segments) → times k (held l (Some e')) + times k (drop n (extent e.segments)) ≡ times k (held l (Some e))
  held_less n is = let ls = extent e.segments in omega (arith, ap (times k) is, in_two k ls (take n ls) (drop n ls) (sym (take-append-drop n ls)))
