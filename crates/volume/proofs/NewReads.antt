-- What format leaves, read by the layout.
use Rattle.std.proofs.Common.{◌≡◌, ℕ, ◌+◌, ◌*◌, ◌/◌, ◌^◌, ◌<◌, ◌≤◌, true, List, [], ◌∷◌, map, length, get_or, take, replicate, codes, sym, refl, ap, ◌∙◌, ap₂, arith, rules}
use Rattle.std.specs.List.{flat_map, range_with_len}
use Rattle.std.proofs.lemmas.List.{append-nil, length-replicate, length-take-le}
use Rattle.std.proofs.lemmas.Bool.Decides.{nat_tests}
use Rattle.devices.specs.Meaning.{Meaning}
use Rattle.layout.specs.Bytes.{Field, number, bytes, over, laid_over, laid}
use Rattle.layout.specs.Descriptor.{segment, upto, extent, content, segment_bytes}
use Rattle.layout.specs.Directory.{entry, slot, slots, slot_name, slot_bytes}
use Rattle.layout.specs.Map.{map_bytes_of, map_sectors}
use Rattle.layout.specs.Names.{VolumeName, name_byte, marked, name_of}
use Rattle.layout.specs.Records.{record_at}
use Rattle.layout.specs.declared.segment.Segment.{Segment}
use Rattle.layout.proofs.Bits.{map-taken}
use Rattle.layout.specs.Digits.{length-bytes}
use Rattle.layout.proofs.Lays.{Inside, Apart, Holds, length-laid, number_apart, number_held, number_zeros}
use Rattle.layout.proofs.Marks.{length_marked, name_of_marked}
use Rattle.layout.specs.Overs.{length_over, over_over, part_over}
use Rattle.layout.proofs.Rows.{record_here, record_take, record_below}
use Rattle.layout.proofs.Segments.{segment_numbers, one_segment}
use Rattle.layout.specs.Slots.{length-slot, slot_entry}
use Rattle.volume.specs.Formatting.{Formatted}
use Rattle.volume.specs.NewLayout.{IdentificationReads, RootReads, NewLayout}
use Rattle.volume.specs.NewVolume.{root_of, slots_of, new_identification, new_root, new_slots, here, up, taken_first}

-- 256 zeros, before any field is laid
abbrev none : List ℕ
none = replicate 256 0

none_long : length none ≡ 256
none_long = length-replicate {A = ℕ} 256 0

plain : (b : ℕ) → name_byte b ≡ true → b < 128
plain b h = grind (arith, nat_tests)

-- a field of a sector is read back
held : (at w v : ℕ) (fs : List Field) → v < 256 ^ w → Inside 256 fs → Holds at w v fs → number at w (laid fs) ≡ v
held at w v fs small within = number_held at w v small none fs 256 none_long within

-- and where no field lies there are zeros
blank : (at w : ℕ) (fs : List Field) → Inside 256 fs → Apart at w fs → number at w (laid fs) ≡ 0
blank at w fs within apart = number_apart at w none fs 256 none_long within apart ∙ number_zeros at w 256

-- the identification sector
module _ (T : ℕ) (name : List ℕ) (few : T ≤ 65536) (named : VolumeName name) where
  -- its fields, without the name and with it
  abbrev numbers : List Field
  numbers =
      record { at = 0; holds = bytes 3 T }
      ∷ record { at = 4; holds = bytes 2 (map_bytes_of T) }
      ∷ record { at = 6; holds = bytes 2 1 }
      ∷ record { at = 8; holds = bytes 3 (root_of T) }
      ∷ record { at = 13; holds = 191 ∷ [] }
      ∷ []

  abbrev fields : List Field
  fields =
      record { at = 0; holds = bytes 3 T }
      ∷ record { at = 4; holds = bytes 2 (map_bytes_of T) }
      ∷ record { at = 6; holds = bytes 2 1 }
      ∷ record { at = 8; holds = bytes 3 (root_of T) }
      ∷ record { at = 13; holds = 191 ∷ [] }
      ∷ record { at = 31; holds = marked name }
      ∷ []

  within : Inside 256 fields
  within = search (rules, length-bytes, length_marked, named.1)

  short : Inside 256 numbers
  short = search (rules, length-bytes)

  -- what lies behind the fields from the name on
  behind : (at w : ℕ) → 63 ≤ at → Apart at w fields
  behind at w le = search (rules, length-bytes, length_marked, named.1)

  pub identification_reads : IdentificationReads (new_identification T name) T name
  unfolding bytes
  identification_reads =
      record {
        total_is = held 0 3 T fields (omega arith) within (search rules);
        map_bytes_are = held 4 2 (map_bytes_of T) fields (omega arith) within (search rules);
        one_sector_clusters = held 6 2 1 fields (omega arith) within (search rules);
        root_is = held 8 3 (root_of T) fields (omega arith) within (search rules);
        attribute_is = held 13 1 191 fields (omega arith) within (search rules);
        name_is =
            ap name_of (part_over 31 32 (marked name) (laid_over none numbers) (omega (arith, length-laid none numbers 256 none_long short)) (omega (arith, length_marked name, named.1)))
            ∙ name_of_marked name _ (omega (arith, named.0)) (λ k lt. plain (get_or name k 0) (named.2 k lt));
        usual_sectors = blank 104 2 fields within (behind 104 2 (omega arith));
      }

-- the root's descriptor and slots
module _ (T : ℕ) (few : T ≤ 65536) where
  abbrev first : Segment
  first = record { start = slots_of T; len = 1 }

  abbrev start_fields : List Field
  start_fields = record { at = 0; holds = 191 ∷ [] } ∷ record { at = 8; holds = 1 ∷ [] } ∷ record { at = 9; holds = bytes 4 64 } ∷ []

  abbrev root_fields : List Field
  root_fields =
      record { at = 0; holds = 191 ∷ [] }
      ∷ record { at = 8; holds = 1 ∷ [] }
      ∷ record { at = 9; holds = bytes 4 64 }
      ∷ record { at = 16; holds = segment_bytes first }
      ∷ []

  -- the same with the segment's two numbers as fields of their own
  abbrev root_numbers : List Field
  root_numbers =
      record { at = 0; holds = 191 ∷ [] }
      ∷ record { at = 8; holds = 1 ∷ [] }
      ∷ record { at = 9; holds = bytes 4 64 }
      ∷ record { at = 16; holds = bytes 3 (slots_of T) }
      ∷ record { at = 19; holds = bytes 2 1 }
      ∷ []

  root_within : Inside 256 root_numbers
  root_within = search (rules, length-bytes)

  start_within : Inside 256 start_fields
  start_within = search (rules, length-bytes)

  -- two pieces laid one behind the other are one
  root_same : laid_over none root_fields ≡ laid_over none root_numbers
  root_same =
      let s = laid_over none start_fields in
      let long : length s ≡ 256 = length-laid none start_fields 256 none_long start_within in
      sym (over_over 16 19 (bytes 3 (slots_of T)) (bytes 2 1) s (omega (arith, length-bytes 3 (slots_of T))) (omega arith))

  pub root_reads : RootReads (new_root T) T
  unfolding bytes
  root_reads =
      rw root_same
      (record {
        attribute_is = held 0 1 191 root_numbers (omega arith) root_within (search rules);
        owner_is = blank 1 2 root_numbers root_within (search (rules, length-bytes));
        one_link = held 8 1 1 root_numbers (omega arith) root_within (search rules);
        size_is = held 9 4 64 root_numbers (omega arith) root_within (search rules);
        one_segment =
            one_segment _ (slots_of T) 1
            (held 16 3 (slots_of T) root_numbers (omega arith) root_within (search rules))
            (held 19 2 1 root_numbers (omega arith) root_within (search rules))
            (λ e. omega arith)
            (blank 24 2 root_numbers root_within (search (rules, length-bytes)));
      })

  -- the two slots
  dots : List ℕ
  dots = slot_bytes (slot_name here) (root_of T)

  dot_dots : List ℕ
  dot_dots = slot_bytes (slot_name up) (root_of T)

  name_long : (stored : List ℕ) → length stored ≤ 28 → length (slot_name stored) ≡ 28
  name_long stored le = length_over 0 stored (replicate 28 0) (omega (arith, length-replicate {A = ℕ} 28 0)) ∙ length-replicate {A = ℕ} 28 0

  dots_long : length dots ≡ 32
  unfolding dots
  dots_long = length-slot (slot_name here) (root_of T) (name_long here (omega arith))

  dot_dots_long : length dot_dots ≡ 32
  unfolding dot_dots
  dot_dots_long = length-slot (slot_name up) (root_of T) (name_long up (omega arith))

  first_long : length (over 0 dots none) ≡ 256
  first_long = length_over 0 dots none (omega (arith, dots_long, none_long)) ∙ none_long

  both : List ℕ
  both = over 32 dot_dots (over 0 dots none)

  both_long : length both ≡ 256
  unfolding both
  both_long = length_over 32 dot_dots (over 0 dots none) (omega (arith, dot_dots_long, first_long)) ∙ first_long

  -- each slot is where it was laid
  slot_0 : record_at 32 0 both ≡ dots
  unfolding both
  slot_0 = record_below 0 32 32 dot_dots (over 0 dots none) (omega arith) (omega (arith, first_long)) ∙ record_here 0 32 dots none (omega (arith, none_long)) dots_long

  slot_1 : record_at 32 1 both ≡ dot_dots
  unfolding both
  slot_1 = record_here 1 32 dot_dots (over 0 dots none) (omega (arith, first_long)) dot_dots_long

  dots_are : slot dots ≡ entry (codes ".") (root_of T)
  unfolding dots over
  dots_are = slot_entry (slot_name here) (root_of T) (codes ".") refl (omega arith) (λ e. omega arith) refl

  dot_dots_are : slot dot_dots ≡ entry (codes "..") (root_of T)
  unfolding dot_dots over
  dot_dots_are = slot_entry (slot_name up) (root_of T) (codes "..") refl (omega arith) (λ e. omega arith) refl

  two_slots : (xs : List ℕ) → length xs ≡ 64 → slots xs ≡ slot (record_at 32 0 xs) ∷ slot (record_at 32 1 xs) ∷ []
  two_slots xs long = ap (λ n. map (λ k. slot (record_at 32 k xs)) (range_with_len 0 (n / 32))) long

  pub here_read : slot (record_at 32 0 (take 64 (new_slots T))) ≡ entry (codes ".") (root_of T)
  unfolding both dots dot_dots
  here_read = ap slot (record_take 0 32 64 both (omega arith) ∙ slot_0) ∙ dots_are

  pub up_read : slot (record_at 32 1 (take 64 (new_slots T))) ≡ entry (codes "..") (root_of T)
  unfolding both dots dot_dots
  up_read = ap slot (record_take 1 32 64 both (omega arith) ∙ slot_1) ∙ dot_dots_are

  pub slots_long : length (take 64 (new_slots T)) ≡ 64
  unfolding both dots dot_dots
  slots_long = length-take-le 64 both (omega (arith, both_long))

  pub slots_read : slots (take 64 (new_slots T)) ≡ entry (codes ".") (root_of T) ∷ entry (codes "..") (root_of T) ∷ []
  unfolding both dots dot_dots
  slots_read = two_slots (take 64 both) slots_long ∙ ap₂ (λ a b. a ∷ b ∷ []) here_read up_read

  -- the entries behind the first are zero
  behind_first : (at w : ℕ) → 21 ≤ at → Apart at w root_numbers
  behind_first at w le = search (rules, length-bytes)

  pub first_len : (segment (new_root T) 0).len ≡ 1
  first_len =
      ap (λ (g : Segment). g.len) (segment_numbers (new_root T) 0)
      ∙ ap (number 19 2) root_same
      ∙ held 19 2 1 root_numbers (omega arith) root_within (search rules)

  pub rest_zero : (k : ℕ) → 1 ≤ k → segment (new_root T) k ≡ record { start = 0; len = 0 }
  rest_zero k le =
      let make : ℕ → ℕ → Segment = λ x y. record { start = x; len = y } in
      let zero-at : (at w : ℕ) → 21 ≤ at → number at w (new_root T) ≡ 0 = λ at w ge. ap (number at w) root_same ∙ blank at w root_numbers root_within (behind_first at w ge) in
      segment_numbers (new_root T) k ∙ ap₂ make (zero-at (16 + k * 5) 3 (omega arith)) (zero-at (16 + k * 5 + 3) 2 (omega arith))

-- the bytes of a file of one sector
pub one_sector : (sector : ℕ → List ℕ) (s : List ℕ) (T : ℕ) → RootReads s T → content sector s ≡ take 64 (sector (slots_of T))
unfolding upto
one_sector sector s T r =
    ap₂ (λ (n : ℕ) (ss : List Segment). take n (flat_map sector (extent ss))) r.size_is r.one_segment ∙ ap (take 64) (append-nil (sector (slots_of T)))

pub new_layout : (m m' : Meaning) (T : ℕ) (name : List ℕ) → T ≤ 65536 → VolumeName name → Formatted m m' T name → NewLayout m m'.sector T name
new_layout m m' T name few named f =
    let reads : RootReads (m'.sector (root_of T)) T = rw f.root (root_reads T few) in
    record {
      identification = rw f.identification (identification_reads T name few named);
      map = map-taken (taken_first m T) m'.sector (map_sectors T) f.map;
      root_reads = reads;
      slots_are = ap slots (one_sector m'.sector (m'.sector (root_of T)) T reads ∙ ap (take 64) f.slots) ∙ slots_read T few;
    }
