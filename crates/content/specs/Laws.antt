-- What becomes of a file's bytes when its sectors, its size or its segments change.
use Rattle.std.specs.Prelude.{◌≡◌, ℕ, ◌+◌, ◌*◌, ◌<◌, ◌≤◌, max, List, ◌++◌, length, take, slice_index}
use Rattle.devices.specs.Meaning.{Meaning, Whole}
use Rattle.devices.specs.declared.device.DeviceFault.{DeviceFault}
use Rattle.layout.specs.Bytes.{over}
use Rattle.layout.specs.Descriptor.{size, content}
use Rattle.content.specs.Rows.{sectors, Within, Good, Distinct, Outside, RefusedAt}
use Rattle.content.specs.Writing.{Written}

-- the sectors of a file lie on the device, and hold its size
pub record Holds (m : Meaning) (s : List ℕ) : Type 0 where
  pub whole : Whole m
  pub within : Within m (sectors s)
  pub held : size s ≤ 256 * length (sectors s)

-- a file has as many bytes as its size says
abbrev pub ContentLength : Type 0
ContentLength = (m : Meaning) (s : List ℕ) → Holds m s → length (content m.sector s) ≡ size s

-- after a write that begins within the file, with its size raised to the write's end if that lies behind it: the file may have got sectors behind its others
abbrev pub ContentWritten : Type 0
ContentWritten = (m m' : Meaning) (s s' more : List ℕ) (p : ℕ) (bs : List ℕ)
    → sectors s' ≡ sectors s ++ more → size s' ≡ max (size s) (p + length bs) → Written m m' (sectors s') p bs
    → Whole m → Within m (sectors s') → Distinct (sectors s') → p ≤ size s → size s ≤ 256 * length (sectors s)
    → content m'.sector s' ≡ over p bs (content m.sector s)

-- more sectors alone change nothing
abbrev pub ContentGrown : Type 0
ContentGrown = (m : Meaning) (s s' more : List ℕ) → Holds m s → sectors s' ≡ sectors s ++ more → size s' ≡ size s → content m.sector s' ≡ content m.sector s

-- nor do fewer, where those that stay hold the size
abbrev pub ContentShrunk : Type 0
ContentShrunk = (m : Meaning) (s s' : List ℕ) (n : ℕ) → Holds m s → sectors s' ≡ take n (sectors s) → size s' ≡ size s → size s ≤ 256 * n → content m.sector s' ≡ content m.sector s

-- a smaller size keeps the bytes before it
abbrev pub ContentCut : Type 0
ContentCut = (m : Meaning) (s s' : List ℕ) → sectors s' ≡ sectors s → size s' ≤ size s → content m.sector s' ≡ take (size s') (content m.sector s)

-- what leaves a file's sectors leaves its bytes
abbrev pub ContentKept : Type 0
ContentKept = (m m' : Meaning) (s : List ℕ) → ((i : ℕ) → i < length (sectors s) → m'.sector (slice_index (sectors s) i) ≡ m.sector (slice_index (sectors s) i)) → content m'.sector s ≡ content m.sector s

-- and a write over some sectors leaves those of every file that has none of them
abbrev pub ContentBeside : Type 0
ContentBeside = (m m' : Meaning) (e : List ℕ) (p : ℕ) (bs s : List ℕ)
    → Written m m' e p bs → p + length bs ≤ 256 * length e → Within m (sectors s) → ((i : ℕ) → i < length (sectors s) → Outside e (slice_index (sectors s) i))
    → content m'.sector s ≡ content m.sector s

-- good sectors on the device are never refused
abbrev pub NeverRefused : Type 0
NeverRefused = (m : Meaning) (e : List ℕ) (j : ℕ) (f : DeviceFault) → Within m e → Good m e → RefusedAt m e j f → ⊥
