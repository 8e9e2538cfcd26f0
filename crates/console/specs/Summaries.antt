-- What is read back of a new volume, by the layout.
use Rattle.std.specs.Prelude.{◌≡◌, ℕ, List, take, drop, Ok, Err, Result}
use Rattle.devices.specs.Meaning.{Meaning}
use Rattle.layout.specs.Descriptor.{attribute, link_count, size, segment}
use Rattle.layout.specs.Directory.{stored_slot}
use Rattle.layout.specs.Identification.{total, map_bytes, cluster_size, root, volume_attribute}
use Rattle.layout.specs.Map.{taken, clear_below}
use Rattle.layout.specs.Records.{record_at}
use Rattle.volume.specs.declared.volume_record.Volume.{Volume}
use Rattle.files.specs.CallFaults.{number_of}
use Rattle.files.specs.declared.call_fault.CallFault.{CallFault}
use Rattle.console.specs.declared.summary.Identification.{Identification}
use Rattle.console.specs.declared.summary.RootDescriptor.{RootDescriptor}
use Rattle.console.specs.declared.summary.Summary.{Summary}

pub record IdentificationFields (s : List ℕ) (i : Identification) : Type 0 where
  pub total_is : i.total ≡ total s
  pub map_bytes_are : i.map_bytes ≡ map_bytes s
  pub cluster_size_is : i.cluster_size ≡ cluster_size s
  pub root_is : i.root ≡ root s
  pub attribute_is : i.attribute.0 ≡ volume_attribute s
  pub name_is : i.name ≡ take 32 (drop 31 s)

pub record RootFields (s : List ℕ) (r : RootDescriptor) : Type 0 where
  pub attribute_is : r.attribute.0 ≡ attribute s
  pub links_are : r.link_count ≡ link_count s
  pub size_is : r.size ≡ size s
  pub segment_is : r.segment ≡ segment s 0

-- a summary tells what the sectors hold
pub record Tells (m : Meaning) (v : Volume) (s : Summary) : Type 0 where
  pub identification : IdentificationFields (m.sector 0) s.identification
  pub clear_are : s.clear ≡ clear_below (taken m.sector) v.total
  pub root_tells : RootFields (m.sector v.root) s.root
  pub here_is : s.here ≡ stored_slot (record_at 32 0 (m.sector (segment (m.sector v.root) 0).start))
  pub up_is : s.up ≡ stored_slot (record_at 32 1 (m.sector (segment (m.sector v.root) 0).start))

-- it fails only where the device refuses
abbrev pub Summarized : Meaning → Volume → Result Summary CallFault → Type 0
Summarized m v (Ok s) = Tells m v s
Summarized m v (Err f) = number_of f ≡ 14
