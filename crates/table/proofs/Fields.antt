-- An entry, field by field, as its descriptor has it.
use Rattle.std.proofs.Common.{◌≡◌, ℕ, true, false, cond, List, refl, ap}
use Rattle.layout.specs.Descriptor.{attribute, owner, modified, created, segments}
use Rattle.layout.specs.Directory.{slots}
use Rattle.rules.specs.Nodes.{is_directory}
use Rattle.table.specs.Entries.{Body, file, directory, read_entry}

module _ (s xs : List ℕ) where
  pub segments_read : (read_entry s xs).segments ≡ segments s
  unfolding read_entry
  segments_read = refl

  pub attribute_read : (read_entry s xs).node.attribute ≡ attribute s
  unfolding read_entry
  attribute_read = refl

  pub owner_read : (read_entry s xs).node.owner ≡ owner s
  unfolding read_entry
  owner_read = refl

  pub modified_read : (read_entry s xs).node.modified ≡ modified s
  unfolding read_entry
  modified_read = refl

  pub created_read : (read_entry s xs).node.created ≡ created s
  unfolding read_entry
  created_read = refl

  -- a directory has slots, a file has bytes
  pub directory_read : is_directory s ≡ true → (read_entry s xs).node.body ≡ directory (slots xs)
  unfolding read_entry
  directory_read is = ap (λ b. cond {A = Body} b (directory (slots xs)) (file xs)) is

  pub file_read : is_directory s ≡ false → (read_entry s xs).node.body ≡ file xs
  unfolding read_entry
  file_read is = ap (λ b. cond {A = Body} b (directory (slots xs)) (file xs)) is
