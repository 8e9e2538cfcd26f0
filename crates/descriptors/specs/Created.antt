-- A new descriptor.
use Rattle.std.specs.Prelude.{ℕ, List, [], ◌∷◌}
use Rattle.layout.specs.Bytes.{bytes, laid}
use Rattle.layout.specs.declared.segment.Segment.{Segment}
use Rattle.descriptors.specs.declared.heading.Heading.{Heading}
use Rattle.descriptors.specs.Shown.{Shown}
use Rattle.descriptors.specs.Stored.{stored}

-- all its 256 bytes: a descriptor with one link
abbrev pub new_descriptor : Heading → ℕ → List Segment → List ℕ
new_descriptor h n ss = laid
    (record { at = 0; holds = h.attribute ∷ [] }
    ∷ record { at = 1; holds = bytes 2 h.owner }
    ∷ record { at = 3; holds = h.modified }
    ∷ record { at = 8; holds = 1 ∷ [] }
    ∷ record { at = 9; holds = bytes 4 n }
    ∷ record { at = 13; holds = h.created }
    ∷ record { at = 16; holds = stored ss }
    ∷ [])

-- what it shows
abbrev pub new_shown : Heading → ℕ → List Segment → Shown
new_shown h n ss = record {
  attribute = h.attribute;
  owner = h.owner;
  modified = h.modified;
  links = 1;
  size = n;
  created = h.created;
  segments = ss;
}
