-- A segment list as a descriptor stores it.
use Rattle.std.specs.Prelude.{ℕ, ◌-◌, ◌^◌, ◌<◌, List, ◌++◌, length, replicate}
use Rattle.std.specs.List.{flat_map, AllByRecursion}
use Rattle.layout.specs.Descriptor.{segment_bytes}
use Rattle.layout.specs.declared.segment.Segment.{Segment}
use Rattle.descriptors.specs.Lists.{nowhere}

-- a used segment that an entry can hold: it has 1 to 65,535 sectors, and its start fits three bytes
pub record Storable (s : Segment) : Type 0 where
  pub some : 0 < s.len
  pub short : s.len < 2 ^ 16
  pub low : s.start < 2 ^ 24

abbrev pub AllStorable : List Segment → Type 0
AllStorable ss = AllByRecursion Storable ss

-- the 48 entries: the segments, and then unused ones, all zero
abbrev pub entries_of : List Segment → List Segment
entries_of ss = ss ++ replicate (48 - length ss) nowhere

-- their 240 bytes
abbrev pub stored : List Segment → List ℕ
stored ss = flat_map segment_bytes (entries_of ss)
