-- The table of a volume: its files and directories, each by the LSN of its descriptor.
use Rattle.std.specs.Prelude.{◌≡◌, ℕ, cond, List, [], ◌∷◌, drop, Some, None, codes, Option, ◌==◌, slice_index_or}
use Rattle.devices.specs.Meaning.{Meaning}
use Rattle.layout.specs.Descriptor as descriptor
use Rattle.layout.specs.Descriptor.{extent, content}
use Rattle.layout.specs.Directory.{Slot, empty, entry, slots}
use Rattle.layout.specs.declared.segment.Segment.{Segment}
use Rattle.rules.specs.Nodes.{is_directory, named_by}

-- a file with its bytes, or a directory with its slots
pub data Body : Type 0 where
  file : (bytes : List ℕ) → Body
  directory : (slots : List Slot) → Body

-- a file or directory as its users know it
pub record Node : Type 0 where
  pub attribute : ℕ
  pub owner : ℕ
  pub modified : List ℕ
  pub created : List ℕ
  pub body : Body

-- and with the segments that hold it
pub record Entry : Type 0 where
  pub segments : List Segment
  pub node : Node

abbrev pub Table : Type 0
Table = ℕ → Option Entry

-- the table with another entry, or none, at x
abbrev pub put : Table → ℕ → Option Entry → Table
put t x o l = cond (l == x) o (t l)

-- the entry that the descriptor s and the bytes xs of its file show; a function on any bytes, damaged ones too
unfoldable pub read_entry : List ℕ → List ℕ → Entry
read_entry s xs = record {
  segments = descriptor.segments s;
  node = record {
    attribute = descriptor.attribute s;
    owner = descriptor.owner s;
    modified = descriptor.modified s;
    created = descriptor.created s;
    body = cond (is_directory s) (directory (slots xs)) (file xs);
  };
}

-- what a device shows at the descriptor l
abbrev pub at : Meaning → ℕ → Entry
at d l = read_entry (d.sector l) (content d.sector (d.sector l))

-- 1 where there is an entry
abbrev pub present : Option Entry → ℕ
present None = 0
present (Some e) = 1

-- the sectors that an entry holds: its descriptor l, and those of its segments
abbrev pub held : ℕ → Option Entry → List ℕ
held l None = []
held l (Some e) = l ∷ extent e.segments

-- the descriptors that the slots of a directory name, from slot 2 on
abbrev pub named_in : Body → List ℕ
named_in (file xs) = []
named_in (directory ss) = named_by (drop 2 ss)

abbrev pub names : Option Entry → List ℕ
names None = []
names (Some e) = named_in e.node.body

-- slot 1 of a directory; a file has none
abbrev pub up_slot : Body → Option Slot
up_slot (file xs) = None
up_slot (directory ss) = Some (slice_index_or ss 1 empty)

abbrev pub up_of : Option Entry → Option Slot
up_of None = None
up_of (Some e) = up_slot e.node.body

-- ".." that names p
abbrev pub dots : ℕ → Slot
dots p = entry (codes "..") p

-- slot 1, if there is one, is ".." and names p
abbrev pub Upward : Option Slot → ℕ → Type 0
Upward None p = Unit {0}
Upward (Some s) p = s ≡ dots p
