-- A descriptor, by its fields, and the sectors that its segments name. Every 256 bytes can be read so, damaged ones too.
use Rattle.std.specs.Prelude.{ℕ, zero, suc, ◌+◌, ◌*◌, cond, List, [], ◌∷◌, ◌++◌, take, drop, ◌==◌}
use Rattle.std.specs.List.{flat_map}
use Rattle.layout.specs.Bytes.{number, bytes}
use Rattle.layout.specs.declared.segment.Segment.{Segment}

abbrev pub attribute : List ℕ → ℕ
attribute s = number 0 1 s

abbrev pub owner : List ℕ → ℕ
owner s = number 1 2 s

-- the date of the last change
abbrev pub modified : List ℕ → List ℕ
modified s = take 5 (drop 3 s)

abbrev pub link_count : List ℕ → ℕ
link_count s = number 8 1 s

-- how many bytes the file has
abbrev pub size : List ℕ → ℕ
size s = number 9 4 s

abbrev pub created : List ℕ → List ℕ
created s = take 3 (drop 13 s)

-- a segment entry of five bytes: where the segment starts, and how many sectors it has
unfoldable pub segment_of : List ℕ → Segment
segment_of xs = record { start = number 0 3 xs; len = number 3 2 xs }

-- a segment entry as it is stored
abbrev pub segment_bytes : Segment → List ℕ
segment_bytes s = bytes 3 s.start ++ bytes 2 s.len

-- the entry k of the segment list, which begins at offset 16
abbrev pub segment : List ℕ → ℕ → Segment
segment s k = segment_of (drop (16 + k * 5) s)

-- the used entries, of n from the entry k on: one of no sectors is unused, and ends the list
unfoldable pub used : List ℕ → ℕ → ℕ → List Segment
used s k zero = []
used s k (suc n) = cond ((segment s k).len == 0) [] (segment s k ∷ used s (k + 1) n)

-- the segments of a descriptor
abbrev pub segments : List ℕ → List Segment
segments s = used s 0 48

-- n sectors from one on
unfoldable pub upto : ℕ → ℕ → List ℕ
upto k zero = []
upto k (suc n) = k ∷ upto (k + 1) n

-- the sectors of a segment list, in their order
abbrev pub extent : List Segment → List ℕ
extent ss = flat_map (λ (s : Segment). upto s.start s.len) ss

-- the bytes of the file: its sectors one after the other, cut at its size
abbrev pub content : (ℕ → List ℕ) → List ℕ → List ℕ
content sector s = take (size s) (flat_map sector (extent (segments s)))
