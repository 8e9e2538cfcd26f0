-- The identification sector, LSN 0, by its fields.
use Rattle.std.specs.Prelude.{ℕ, List, take, drop}
use Rattle.layout.specs.Bytes.{number}
use Rattle.layout.specs.Names.{name_of}

-- T, how many sectors the volume has
abbrev pub total : List ℕ → ℕ
total s = number 0x00 3 s

-- how many bytes the map has
abbrev pub map_bytes : List ℕ → ℕ
map_bytes s = number 0x04 2 s

-- how many sectors a bit of the map stands for
abbrev pub cluster_size : List ℕ → ℕ
cluster_size s = number 0x06 2 s

-- the LSN of the root's descriptor
abbrev pub root : List ℕ → ℕ
root s = number 0x08 3 s

abbrev pub volume_attribute : List ℕ → ℕ
volume_attribute s = number 0x0D 1 s

abbrev pub volume_name : List ℕ → List ℕ
volume_name s = name_of (take 32 (drop 0x1F s))

-- how many bytes a sector has, 0 meaning 256
abbrev pub sector_size : List ℕ → ℕ
sector_size s = number 0x68 2 s
