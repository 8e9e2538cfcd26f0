-- A new volume, read by the layout.
use Rattle.std.specs.Prelude.{◌≡◌, ℕ, ◌*◌, ◌<◌, List, [], ◌∷◌, codes}
use Rattle.devices.specs.Meaning.{Meaning}
use Rattle.layout.specs.Identification.{total, map_bytes, cluster_size, root, volume_attribute, volume_name, sector_size}
use Rattle.layout.specs.Map.{map_bytes_of, map_sectors, taken}
use Rattle.layout.specs.Descriptor.{attribute, owner, link_count, size, segments, content}
use Rattle.layout.specs.Directory.{entry, slots}
use Rattle.volume.specs.NewVolume.{root_of, slots_of, taken_first}

-- the identification sector s of a volume of T sectors
pub record IdentificationReads (s : List ℕ) (T : ℕ) (name : List ℕ) : Type 0 where
  pub total_is : total s ≡ T
  pub map_bytes_are : map_bytes s ≡ map_bytes_of T
  pub one_sector_clusters : cluster_size s ≡ 1
  pub root_is : root s ≡ root_of T
  pub attribute_is : volume_attribute s ≡ 0xBF
  pub name_is : volume_name s ≡ name
  pub usual_sectors : sector_size s ≡ 0

-- the root's descriptor s: a directory of two slots in one sector
pub record RootReads (s : List ℕ) (T : ℕ) : Type 0 where
  pub attribute_is : attribute s ≡ 0xBF
  pub owner_is : owner s ≡ 0
  pub one_link : link_count s ≡ 1
  pub size_is : size s ≡ 64
  pub one_segment : segments s ≡ record { start = slots_of T; len = 1 } ∷ []

-- the whole volume in these sectors, made on a device that meant m
pub record NewLayout (m : Meaning) (sector : ℕ → List ℕ) (T : ℕ) (name : List ℕ) : Type 0 where
  pub identification : IdentificationReads (sector 0) T name
  pub map : (k : ℕ) → k < map_sectors T * 2048 → taken sector k ≡ taken_first m T k
  pub root_reads : RootReads (sector (root_of T)) T
  pub slots_are : slots (content sector (sector (root_of T))) ≡ entry (codes ".") (root_of T) ∷ entry (codes "..") (root_of T) ∷ []
