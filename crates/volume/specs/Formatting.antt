-- Format: what it asks, what it leaves, and what it refuses.
use Rattle.std.specs.Prelude.{◌≡◌, ℕ, ◌+◌, ◌<◌, ◌≤◌, true, false, cond, List, Ok, Err, Result, ◌==◌, nat_le}
use Rattle.devices.specs.Meaning.{Meaning, Kept, Same}
use Rattle.devices.specs.declared.device.Cause.TheVariants.{Bad}
use Rattle.devices.specs.declared.device.DeviceFault.{DeviceFault}
use Rattle.layout.specs.Map.{map_sectors, map_sector}
use Rattle.layout.specs.Names.{VolumeName}
use Rattle.paths.specs.Paths.{open_count}
use Rattle.volume.specs.NewVolume.{root_of, slots_of, new_identification, taken_first, new_root, new_slots}
use Rattle.volume.specs.declared.fault.Part.{Part}
use Rattle.volume.specs.declared.fault.Part.TheVariants as part
use Rattle.volume.specs.declared.fault.VolumeFault.{VolumeFault}
use Rattle.volume.specs.declared.fault.VolumeFault.TheVariants.{Device, Refused, Broken}
use Rattle.volume.specs.declared.fault.VolumeRefusal.TheVariants.{Arguments}
use Rattle.volume.specs.declared.volume_record.Volume.{Volume}

-- lawful arguments: T is 16 to 65,536 and at most the device's count, the name can name a volume, the allocation size is 1 to 255
pub record Lawful (m : Meaning) (T : ℕ) (name : List ℕ) (a : ℕ) : Type 0 where
  pub least : 16 ≤ T
  pub most : T ≤ 65536
  pub fits : T ≤ m.count
  pub named : VolumeName name
  pub some : 1 ≤ a
  pub small : a ≤ 255

-- no sector up to n is bad
abbrev pub GoodTo : Meaning → ℕ → Type 0
GoodTo m n = (k : ℕ) → k ≤ n → m.bad k ≡ false

-- the part of a new volume that the sector l belongs to
abbrev pub part_of : ℕ → ℕ → Part
part_of T l = cond (l == 0) part.Identification (cond (nat_le l (map_sectors T)) part.Map (cond (l == root_of T) part.Descriptor part.Directory))

-- the map is laid up to the map sector n, and every other sector is as it was
pub record MapLaid (m m' : Meaning) (T n : ℕ) : Type 0 where
  pub kept : Kept (λ k. (1 ≤ k) → (k ≤ n) → ⊥) m m'
  pub map : (j : ℕ) → j < n → m'.sector (1 + j) ≡ map_sector (taken_first m T) j

-- what format leaves: every sector up to the root's slots is the new volume's, and every other one is as it was
pub record Formatted (m m' : Meaning) (T : ℕ) (name : List ℕ) : Type 0 where
  pub kept : Kept (λ k. slots_of T < k) m m'
  pub identification : m'.sector 0 ≡ new_identification T name
  pub map : (j : ℕ) → j < map_sectors T → m'.sector (1 + j) ≡ map_sector (taken_first m T) j
  pub root : m'.sector (root_of T) ≡ new_root T
  pub slots : m'.sector (slots_of T) ≡ new_slots T

-- the record of a new volume
pub record Fresh (v : Volume) (T root a : ℕ) : Type 0 where
  pub total : v.total ≡ T
  pub root_is : v.root ≡ root
  pub allocation : v.allocation ≡ a
  pub none_open : open_count v.paths.places ≡ 0
  pub none_opened : v.paths.opened ≡ 0

-- the first bad sector of those that format writes
pub record FirstBad (m : Meaning) (T l : ℕ) : Type 0 where
  pub written : l ≤ slots_of T
  pub bad : m.bad l ≡ true
  pub first : (k : ℕ) → k < l → m.bad k ≡ false

-- a bad sector among those, as the device and the part that was being read say it
abbrev pub BadSector : Meaning → ℕ → Part → DeviceFault → Type 0
BadSector m T p f = (f.cause ≡ Bad) × FirstBad m T f.lsn × (p ≡ part_of T f.lsn)

-- the answer to the question whether all of them are good
abbrev pub GoodAnswer : Meaning → ℕ → Result Unit VolumeFault → Type 0
GoodAnswer m T (Ok u) = GoodTo m (slots_of T)
GoodAnswer m T (Err (Device r)) = BadSector m T r.part r.fault
GoodAnswer m T (Err (Refused r at)) = ⊥
GoodAnswer m T (Err (Broken r at)) = ⊥

abbrev pub FormatRefuses : Meaning → ℕ → List ℕ → ℕ → VolumeFault → Type 0
FormatRefuses m T name a (Device r) = Lawful m T name a × BadSector m T r.part r.fault
FormatRefuses m T name a (Refused r at) = (r ≡ Arguments) × (at ≡ 0) × (Lawful m T name a → ⊥)
FormatRefuses m T name a (Broken r at) = ⊥

abbrev pub FormatDone : Meaning → Meaning → ℕ → List ℕ → ℕ → Result Volume VolumeFault → Type 0
FormatDone m m' T name a (Ok v) = Lawful m T name a × GoodTo m (slots_of T) × Formatted m m' T name × Fresh v T (root_of T) a
FormatDone m m' T name a (Err f) = FormatRefuses m T name a f × Same m m'
