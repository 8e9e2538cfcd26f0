-- A flat image: its bytes are its sectors, one after the other.
use Rattle.std.specs.Prelude.{◌≡◌, ℕ, ◌+◌, ◌*◌, ◌/◌, ◌≤◌, false, List, length, drop, Ok, Err, Result}
use Rattle.devices.specs.Meaning.{Meaning, Accepts, Refuses, bytes_at}
use Rattle.devices.specs.declared.device.DeviceFault.{DeviceFault}

-- what n bytes mean as a flat image
abbrev pub flat_meaning : List ℕ → ℕ → Meaning
flat_meaning xs n = record { count = n / 256; bad = λ l. false; sector = λ l. bytes_at xs (l * 256) }

-- the bytes behind the last whole sector
abbrev pub tail : List ℕ → List ℕ
tail xs = drop (length xs / 256 * 256) xs

-- a search for the LSN l, for len bytes, in an image of n bytes: where its sector begins, or the question that a device answers with no
abbrev pub FlatLocated : List ℕ → ℕ → ℕ → ℕ → Result ℕ DeviceFault → Type 0
FlatLocated xs n l len (Ok at) = Accepts (flat_meaning xs n) l len × (at ≡ l * 256) × (at + 256 ≤ n)
FlatLocated xs n l len (Err f) = Refuses (flat_meaning xs n) l len f
