-- Reading the bytes of a file.
use Rattle.std.specs.Prelude.{◌≡◌, ℕ, ◌+◌, ◌-◌, ◌*◌, ◌<◌, min, List, ◌++◌, length, take, drop, Ok, Err, Result}
use Rattle.devices.specs.Meaning.{Meaning, Whole, Accepts, Refuses}
use Rattle.devices.specs.declared.device.DeviceFault.{DeviceFault}
use Rattle.layout.specs.Descriptor.{size, content}
use Rattle.content.specs.Rows.{sectors, Within, RefusedAt}

-- a part of the sector l, from the byte o on, read into the buffer b
abbrev pub PartRead : Meaning → ℕ → ℕ → List ℕ → List ℕ → Result Unit DeviceFault → Type 0
PartRead m l o b b' (Ok u) = Accepts m l 256 × (b' ≡ take (length b) (drop o (m.sector l)))
PartRead m l o b b' (Err f) = Refuses m l 256 f × (b' ≡ b)

-- how many bytes a file has to read: its size, but no more than its sectors hold
abbrev pub readable : List ℕ → ℕ
readable s = min (size s) (256 * length (sectors s))

-- and how many of them a buffer of n bytes takes, from p on
abbrev pub wanted : List ℕ → ℕ → ℕ → ℕ
wanted s p n = min n (readable s - p)

-- n bytes of the file were read into the buffer b, which has become b': its other bytes stay
abbrev pub Got : Meaning → List ℕ → ℕ → ℕ → List ℕ → List ℕ → Type 0
Got m s p n b b' = Whole m → Within m (sectors s) → b' ≡ take n (drop p (content m.sector s)) ++ drop n b

-- a read that the device stopped: which sector it refused, and what was read until then
pub record ReadStopped (m : Meaning) (s : List ℕ) (p : ℕ) (b b' : List ℕ) (f : DeviceFault) : Type 0 where
  pub done : ℕ
  pub less : done < wanted s p (length b)
  pub refused : RefusedAt m (sectors s) (p + done) f
  pub got : Got m s p done b b'

abbrev pub ReadAt : Meaning → List ℕ → ℕ → List ℕ → List ℕ → Result ℕ DeviceFault → Type 0
ReadAt m s p b b' (Ok n) = (n ≡ wanted s p (length b)) × Got m s p n b b'
ReadAt m s p b b' (Err f) = ReadStopped m s p b b' f
