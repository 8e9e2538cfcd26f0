-- Refusals of a call: number, place and first layer are those of the refusal inside.
use Rattle.std.specs.Prelude.{ℕ, List, ◌++◌, codes, decimal}
use Rattle.devices.specs.declared.inspection.TrayFault.{TrayFault}
use Rattle.volume.specs.Faults.{layer_word, number_of as volume_number, place_of as volume_place, layer_of as volume_layer}
use Rattle.volume.specs.declared.fault.Layer.{Layer}
use Rattle.volume.specs.declared.fault.Layer.TheVariants.{Devices}
use Rattle.volume.specs.declared.fault.VolumeFault.{VolumeFault}
use Rattle.files.specs.declared.call_fault.CallFault.{CallFault}
use Rattle.files.specs.declared.call_fault.CallFault.TheVariants.{Tray, Volume}

abbrev pub of_tray : TrayFault → CallFault
of_tray f = Tray f

abbrev pub of_volume : VolumeFault → CallFault
of_volume f = Volume f

abbrev pub number_of : CallFault → ℕ
number_of (Tray f) = 21
number_of (Volume f) = volume_number f

abbrev pub place_of : CallFault → ℕ
place_of (Tray f) = f.place
place_of (Volume f) = volume_place f

abbrev pub layer_of : CallFault → Layer
layer_of (Tray f) = Devices
layer_of (Volume f) = volume_layer f

-- "refused NUMBER PLACE LAYER"
abbrev pub line_text : ℕ → ℕ → List ℕ → List ℕ
line_text number place layer = codes "refused " ++ (decimal number ++ (codes " " ++ (decimal place ++ (codes " " ++ layer))))

abbrev pub refusal_text : CallFault → List ℕ
refusal_text f = line_text (number_of f) (place_of f) (layer_word (layer_of f))
