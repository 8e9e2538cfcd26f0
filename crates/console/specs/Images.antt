-- A new image: a flat image that a volume fills.
use Rattle.std.specs.Prelude.{◌≡◌, ℕ, ◌*◌, min, List, replicate, Ok, Err, vec_items, vec_len, Result}
use Rattle.devices.specs.Flat.{flat_meaning}
use Rattle.devices.specs.Meaning.{Meaning}
use Rattle.devices.specs.declared.flat.FlatImage.{FlatImage}
use Rattle.volume.specs.Formatting.{Lawful, Formatted, Fresh, FormatRefuses}
use Rattle.volume.specs.NewLayout.{NewLayout}
use Rattle.volume.specs.NewVolume.{root_of}
use Rattle.volume.specs.declared.fault.VolumeFault.{VolumeFault}
use Rattle.volume.specs.declared.volume_record.Volume.{Volume}
use Rattle.files.specs.declared.call_fault.CallFault.TheVariants as call
use Rattle.console.specs.declared.image.NewImage.{NewImage}
use Rattle.console.specs.declared.image.ImageFault.{ImageFault}
use Rattle.console.specs.declared.image.ImageFault.TheVariants.{Call, Memory}

-- a flat image of n sectors of zeros
abbrev pub blank : ℕ → Meaning
blank n = flat_meaning (replicate (n * 256) 0) (n * 256)

-- what an image means
abbrev pub image_meaning : FlatImage → Meaning
image_meaning i = flat_meaning (vec_items i.bytes) (vec_len i.bytes)

-- the image has just T sectors, the volume fills it, and this is its record
pub record Made (T : ℕ) (name : List ℕ) (a : ℕ) (i : FlatImage) (v : Volume) : Type 0 where
  pub lawful : Lawful (blank T) T name a
  pub long : vec_len i.bytes ≡ T * 256
  pub formatted : Formatted (blank T) (image_meaning i) T name
  pub layout : NewLayout (blank T) (image_meaning i).sector T name
  pub fresh : Fresh v T (root_of T) a

-- a refusal of format's, as the refusal of a new image
abbrev pub of_format : VolumeFault → ImageFault
of_format f = Call (call.Volume f)

-- a refusal is format's; want of memory may refuse too
abbrev pub ImageRefuses : ℕ → List ℕ → ℕ → ImageFault → Type 0
ImageRefuses T name a (Call (call.Volume f)) = FormatRefuses (blank (min T 65536)) T name a f
ImageRefuses T name a (Call (call.Tray f)) = ⊥
ImageRefuses T name a Memory = Unit {0}

abbrev pub ImageDone : ℕ → List ℕ → ℕ → Result NewImage ImageFault → Type 0
ImageDone T name a (Ok n) = Made T name a n.image n.volume
ImageDone T name a (Err f) = ImageRefuses T name a f
