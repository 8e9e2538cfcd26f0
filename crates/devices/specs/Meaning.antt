-- What a device means, and what reading and writing do to it.
use Rattle.std.specs.Prelude.{◌≡◌, ℕ, ◌<◌, ◌≤◌, Bool, true, false, List, length, take, drop, Ok, Err, Result, ◌≢◌}
use Rattle.devices.specs.declared.device.Cause.{Cause}
use Rattle.devices.specs.declared.device.Cause.TheVariants.{Length, Range, Bad}
use Rattle.devices.specs.declared.device.DeviceFault.{DeviceFault}

-- how many sectors a device has, which are bad, and what each holds
pub record Meaning : Type 0 where
  pub count : ℕ
  pub bad : ℕ → Bool
  pub sector : ℕ → List ℕ

-- every sector has 256 bytes
abbrev pub Whole : Meaning → Type 0
Whole m = (l : ℕ) → l < m.count → length (m.sector l) ≡ 256

-- the three questions in their order, of the sector l and a buffer of n bytes: the one that is answered with no
abbrev pub Fails : Meaning → ℕ → ℕ → Cause → Type 0
Fails m l n Length = n ≡ 256 → ⊥
Fails m l n Range = (n ≡ 256) × (m.count ≤ l)
Fails m l n Bad = (n ≡ 256) × (l < m.count) × (m.bad l ≡ true)

-- a refusal names the sector that was asked for and the question that failed
abbrev pub Refuses : Meaning → ℕ → ℕ → DeviceFault → Type 0
Refuses m l n f = (f.lsn ≡ l) × Fails m l n f.cause

-- every question is answered with yes
abbrev pub Accepts : Meaning → ℕ → ℕ → Type 0
Accepts m l n = (n ≡ 256) × (l < m.count) × (m.bad l ≡ false)

-- a read: the buffer b has become b'
abbrev pub ReadDone : Meaning → ℕ → List ℕ → List ℕ → Result Unit DeviceFault → Type 0
ReadDone m l b b' (Ok u) = Accepts m l (length b) × (b' ≡ m.sector l)
ReadDone m l b b' (Err f) = Refuses m l (length b) f × (b' ≡ b)

-- the count and the bad sectors stay, and of the sectors those that P names
abbrev pub Kept : (ℕ → Type 0) → Meaning → Meaning → Type 0
Kept P m m' =
    (m'.count ≡ m.count)
    × ((k : ℕ) → k < m.count → m'.bad k ≡ m.bad k)
    × ((k : ℕ) → k < m.count → P k → m'.sector k ≡ m.sector k)

-- nothing has changed
abbrev pub Same : Meaning → Meaning → Type 0
Same m m' = Kept (λ k. Unit {0}) m m'

-- a write of the buffer b: that sector alone is replaced, or nothing is
abbrev pub WriteDone : Meaning → Meaning → ℕ → List ℕ → Result Unit DeviceFault → Type 0
WriteDone m m' l b (Ok u) = Accepts m l (length b) × Kept (λ k. k ≢ l) m m' × (m'.sector l ≡ b)
WriteDone m m' l b (Err f) = Refuses m l (length b) f × Same m m'

-- the 256 bytes from a place on
abbrev pub bytes_at : List ℕ → ℕ → List ℕ
bytes_at xs at = take 256 (drop at xs)

-- the questions on the buffer and on the range, of a device of n sectors: a refusal here is one of every such device
abbrev pub Asked : ℕ → ℕ → ℕ → Result Unit DeviceFault → Type 0
Asked n l len (Ok u) = (len ≡ 256) × (l < n)
Asked n l len (Err f) = (m : Meaning) → m.count ≡ n → Refuses m l len f
