-- What a survey answers, as a line of text.
use Rattle.std.specs.Prelude.{ℕ, List, ◌++◌, Ok, Err, Result, codes, decimal}
use Rattle.std.proofs.Math.Utf8.{encode}
use Rattle.rules.specs.Letters.{letter}
use Rattle.volume.specs.Faults.{layer_word, number_of, place_of, layer_of}
use Rattle.volume.specs.declared.fault.VolumeFault.{VolumeFault}
use Rattle.volume.specs.declared.fault.VolumeFault.TheVariants.{Device, Refused, Broken}
use Rattle.damages.specs.declared.answer.Passed.{Passed}

-- "LABEL: refused NUMBER PLACE LAYER"
abbrev pub line_text : List ℕ → ℕ → ℕ → List ℕ → List ℕ
line_text label number place layer = label ++ (codes ": refused " ++ (decimal number ++ (codes " " ++ (decimal place ++ (codes " " ++ layer)))))

-- "LABEL: refused 22 PLACE volume RULE"
abbrev pub broken_text : List ℕ → ℕ → ℕ → List ℕ
broken_text label place rule = label ++ (codes ": refused 22 " ++ (decimal place ++ (codes " volume " ++ encode rule)))

abbrev pub refusal_text : List ℕ → VolumeFault → List ℕ
refusal_text label (Device r) = line_text label (number_of (Device r)) (place_of (Device r)) (layer_word (layer_of (Device r)))
refusal_text label (Refused n p) = line_text label (number_of (Refused n p)) (place_of (Refused n p)) (layer_word (layer_of (Refused n p)))
refusal_text label (Broken rule at) = broken_text label at (letter rule)

-- "LABEL: passed T ROOT"
abbrev pub answer_text : List ℕ → Result Passed VolumeFault → List ℕ
answer_text label (Ok p) = label ++ (codes ": passed " ++ (decimal p.total ++ (codes " " ++ decimal p.root)))
answer_text label (Err f) = refusal_text label f
