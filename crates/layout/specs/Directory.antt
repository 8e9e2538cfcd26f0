-- A directory: slots of 32 bytes, one after the other.
use Rattle.std.specs.Prelude.{ℕ, ◌/◌, cond, List, ◌∷◌, ◌++◌, map, length, take, replicate, ◌==◌, slice_index}
use Rattle.std.specs.List.{range_with_len}
use Rattle.layout.specs.Bytes.{number, bytes, over}
use Rattle.layout.specs.Names.{name_of}
use Rattle.layout.specs.Records.{record_at}
use Rattle.layout.specs.declared.stored_slot.StoredSlot.{StoredSlot}

-- a slot is empty, or has a name and the LSN of a descriptor
pub data Slot : Type 0 where
  empty : Slot
  entry : (name : List ℕ) (lsn : ℕ) → Slot

-- a slot's 32 bytes: the name in bytes 0 to 27, one byte, the LSN in bytes 29 to 31
unfoldable pub stored_slot : List ℕ → StoredSlot
stored_slot xs = record { name = take 28 xs; lsn = number 29 3 xs }

-- a slot whose first byte is 0 is empty
abbrev pub slot : List ℕ → Slot
slot xs = cond (slice_index xs 0 == 0) empty (entry (name_of (stored_slot xs).name) (stored_slot xs).lsn)

-- the slots of a directory, given its bytes
abbrev pub slots : List ℕ → List Slot
slots xs = map (λ k. slot (record_at 32 k xs)) (range_with_len 0 (length xs / 32))

-- a stored name in the 28 bytes of a slot, with zeros behind it
abbrev pub slot_name : List ℕ → List ℕ
slot_name stored = over 0 stored (replicate 28 0)

-- a slot as it is stored, with the 28 bytes of its name
abbrev pub slot_bytes : List ℕ → ℕ → List ℕ
slot_bytes stored lsn = stored ++ (0 ∷ bytes 3 lsn)
