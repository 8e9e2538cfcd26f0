-- What a descriptor shows, field by field.
use Rattle.std.specs.Prelude.{◌≡◌, ℕ, ◌<◌, ◌≤◌, List}
use Rattle.layout.specs.Descriptor as layout
use Rattle.layout.specs.declared.segment.Segment.{Segment}

pub record Shown : Type 0 where
  pub attribute : ℕ
  pub owner : ℕ
  pub modified : List ℕ
  pub links : ℕ
  pub size : ℕ
  pub created : List ℕ
  pub segments : List Segment

-- the fields of a descriptor, by the layout
abbrev pub shown : List ℕ → Shown
shown s = record {
  attribute = layout.attribute s;
  owner = layout.owner s;
  modified = layout.modified s;
  links = layout.link_count s;
  size = layout.size s;
  created = layout.created s;
  segments = layout.segments s;
}

-- the same fields but for one
abbrev pub with_size : ℕ → Shown → Shown
with_size n f = record {
  attribute = f.attribute;
  owner = f.owner;
  modified = f.modified;
  links = f.links;
  size = n;
  created = f.created;
  segments = f.segments;
}

abbrev pub with_date : List ℕ → Shown → Shown
with_date d f = record {
  attribute = f.attribute;
  owner = f.owner;
  modified = d;
  links = f.links;
  size = f.size;
  created = f.created;
  segments = f.segments;
}

abbrev pub with_segments : List Segment → Shown → Shown
with_segments ss f = record {
  attribute = f.attribute;
  owner = f.owner;
  modified = f.modified;
  links = f.links;
  size = f.size;
  created = f.created;
  segments = ss;
}

-- every entry of the segment list, used or not, is as it was
abbrev pub SameEntries : List ℕ → List ℕ → Type 0
SameEntries s s' = (k : ℕ) → k < 48 → layout.segment s' k ≡ layout.segment s k

-- an unused entry is zero, and so is each behind it
abbrev pub TidyEntries : List ℕ → Type 0
TidyEntries s = (j k : ℕ) → j ≤ k → k < 48 → (layout.segment s j).len ≡ 0 → layout.segment s k ≡ record { start = 0; len = 0 }
