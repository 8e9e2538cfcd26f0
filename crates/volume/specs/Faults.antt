-- Refusals of the volume layer: number, place and first layer.
use Rattle.std.specs.Prelude.{ℕ, List, Ok, Err, Result, codes}
use Rattle.devices.specs.declared.device.DeviceFault.{DeviceFault}
use Rattle.volume.specs.declared.fault.Layer.{Layer}
use Rattle.volume.specs.declared.fault.Layer.TheVariants.{Devices, Volume, Files, Pathlists}
use Rattle.volume.specs.declared.fault.Part.{Part}
use Rattle.volume.specs.declared.fault.Reading.{Reading}
use Rattle.volume.specs.declared.fault.VolumeFault.{VolumeFault}
use Rattle.volume.specs.declared.fault.VolumeFault.TheVariants as fault
use Rattle.volume.specs.declared.fault.VolumeRefusal.{VolumeRefusal}
use Rattle.volume.specs.declared.fault.VolumeRefusal.TheVariants as refusal

-- the name of a layer in a refusal's line
abbrev pub layer_word : Layer → List ℕ
layer_word Devices = codes "devices"
layer_word Volume = codes "volume"
layer_word Files = codes "files"
layer_word Pathlists = codes "pathlists"

-- a device's refusal becomes the volume's, whole
abbrev pub as_volume : Reading → VolumeFault
as_volume r = fault.Device r

abbrev pub carried : {X : Type 0} → Result X DeviceFault → Part → Result X Reading
carried (Ok x) p = Ok x
carried (Err f) p = Err (record { part = p; fault = f })

abbrev pub refusal_number : VolumeRefusal → ℕ
refusal_number refusal.WorkLists = 19
refusal_number refusal.Arguments = 20
refusal_number refusal.Broken = 22

abbrev pub number_of : VolumeFault → ℕ
number_of (fault.Device r) = 14
number_of (fault.Refused r at) = refusal_number r
number_of (fault.Broken r at) = 22

abbrev pub place_of : VolumeFault → ℕ
place_of (fault.Device r) = r.fault.lsn
place_of (fault.Refused r at) = at
place_of (fault.Broken r at) = at

abbrev pub layer_of : VolumeFault → Layer
layer_of (fault.Device r) = Devices
layer_of (fault.Refused r at) = Volume
layer_of (fault.Broken r at) = Volume
