-- Writing bytes into the sectors of a file.
use Rattle.std.specs.Prelude.{◌≡◌, ℕ, ◌+◌, ◌<◌, List, length, take, Ok, Err, Result, ◌≢◌}
use Rattle.devices.specs.Meaning.{Meaning, Whole, Accepts, Refuses, Kept, Same}
use Rattle.devices.specs.declared.device.DeviceFault.{DeviceFault}
use Rattle.layout.specs.Bytes.{over}
use Rattle.content.specs.Rows.{row, Within, Distinct, Beside, RefusedAt}

-- bs is written over a part of the sector l, from the byte o on
pub record PartDone (m m' : Meaning) (l o : ℕ) (bs : List ℕ) : Type 0 where
  pub accepted : Accepts m l 256
  pub kept : Kept (λ k. k ≢ l) m m'
  pub long : length (m'.sector l) ≡ 256
  pub put : Whole m → m'.sector l ≡ over o bs (m.sector l)

abbrev pub PartWritten : Meaning → Meaning → ℕ → ℕ → List ℕ → Result Unit DeviceFault → Type 0
PartWritten m m' l o bs (Ok u) = PartDone m m' l o bs
PartWritten m m' l o bs (Err f) = Refuses m l 256 f × Same m m'

-- bs is written from the byte p on, over the sectors e: no sector that has none of these bytes changes
pub record Written (m m' : Meaning) (e : List ℕ) (p : ℕ) (bs : List ℕ) : Type 0 where
  pub kept : Kept (Beside e p (length bs)) m m'
  pub whole : Whole m → Whole m'
  pub is : Whole m → Within m e → Distinct e → row m' e ≡ over p bs (row m e)

-- a write that the device stopped: which sector it refused, and what was written until then
pub record WriteStopped (m m' : Meaning) (e : List ℕ) (p : ℕ) (bs : List ℕ) (f : DeviceFault) : Type 0 where
  pub done : ℕ
  pub less : done < length bs
  pub refused : RefusedAt m e (p + done) f
  pub wrote : Written m m' e p (take done bs)

abbrev pub WriteAt : Meaning → Meaning → List ℕ → ℕ → List ℕ → Result Unit DeviceFault → Type 0
WriteAt m m' e p bs (Ok u) = Written m m' e p bs
WriteAt m m' e p bs (Err f) = WriteStopped m m' e p bs f
