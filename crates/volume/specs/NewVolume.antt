-- A new volume: what each of its first sectors holds.
use Rattle.std.specs.Prelude.{ℕ, ◌+◌, Bool, ◌||◌, List, [], ◌∷◌, nat_le}
use Rattle.devices.specs.Meaning.{Meaning}
use Rattle.layout.specs.Bytes.{bytes, laid}
use Rattle.layout.specs.Descriptor.{segment_bytes}
use Rattle.layout.specs.Directory.{slot_bytes, slot_name}
use Rattle.layout.specs.Map.{map_bytes_of, map_sectors}
use Rattle.layout.specs.Names.{marked}

-- the root's descriptor stands behind the map
abbrev pub root_of : ℕ → ℕ
root_of T = map_sectors T + 1

-- and its one sector of slots behind that: the last sector that is written
abbrev pub slots_of : ℕ → ℕ
slots_of T = map_sectors T + 2

-- LSN 0
abbrev pub new_identification : ℕ → List ℕ → List ℕ
new_identification T name = laid
    (record { at = 0x00; holds = bytes 3 T }
    ∷ record { at = 0x04; holds = bytes 2 (map_bytes_of T) }
    ∷ record { at = 0x06; holds = bytes 2 1 }
    ∷ record { at = 0x08; holds = bytes 3 (root_of T) }
    ∷ record { at = 0x0D; holds = 0xBF ∷ [] }
    ∷ record { at = 0x1F; holds = marked name }
    ∷ [])

-- the sectors that the map has as taken: those that are written, the bad ones, and all from T on
abbrev pub taken_first : Meaning → ℕ → ℕ → Bool
taken_first m T k = nat_le k (slots_of T) || (nat_le T k || m.bad k)

-- the root's descriptor: a directory of 64 bytes in one sector
abbrev pub new_root : ℕ → List ℕ
new_root T = laid
    (record { at = 0; holds = 0xBF ∷ [] }
    ∷ record { at = 8; holds = 1 ∷ [] }
    ∷ record { at = 9; holds = bytes 4 64 }
    ∷ record { at = 16; holds = segment_bytes (record { start = slots_of T; len = 1 }) }
    ∷ [])

-- "." and ".." as they are stored
abbrev pub here : List ℕ
here = 0xAE ∷ []

abbrev pub up : List ℕ
up = 0x2E ∷ 0xAE ∷ []

-- the root's slots: both name the root
abbrev pub new_slots : ℕ → List ℕ
new_slots T = laid
    (record { at = 0; holds = slot_bytes (slot_name here) (root_of T) }
    ∷ record { at = 32; holds = slot_bytes (slot_name up) (root_of T) }
    ∷ [])
