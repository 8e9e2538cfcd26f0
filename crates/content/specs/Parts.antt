-- The bytes of a file from a position on, sector by sector.
use Rattle.std.specs.Prelude.{◌≡◌, ℕ, ◌+◌, ◌-◌, ◌/◌, ◌%◌, ◌<◌, ◌≤◌, min, ◌⊎◌, List, length, Some, None, Option}
use Rattle.std.specs.List.{slice_get}
use Rattle.content.specs.Rows.{sectors}
use Rattle.content.specs.declared.file_parts.FilePart.{FilePart}
use Rattle.content.specs.declared.file_parts.FileParts.{FileParts}

-- n bytes from p on, of the file with the descriptor s
pub record PartsOf (ps : FileParts) (s : List ℕ) (p n : ℕ) : Type 0 where
  pub descriptor : ps.descriptor.now ≡ s
  pub position : ps.position ≡ p
  pub wanted : ps.wanted ≡ n

-- the part of n bytes from p on, over the sectors e, that begins with the k-th of them: it ends with its sector, or with the last of them
pub record IsPart (e : List ℕ) (p n k : ℕ) (part : FilePart) : Type 0 where
  pub less : k < n
  pub lsn : slice_get e ((p + k) / 256) ≡ Some part.lsn
  pub from : part.from ≡ (p + k) % 256
  pub start : part.bytes.start ≡ k
  pub end : part.bytes.end ≡ k + min (n - k) (256 - part.from)

-- the next part, or none where all are done or the file has no more sectors
abbrev pub NextPart : FileParts → Option FilePart → FileParts → Type 0
NextPart ps (Some part) ps' = IsPart (sectors ps.descriptor.now) ps.position ps.wanted ps.done part × PartsOf ps' ps.descriptor.now ps.position ps.wanted × (ps'.done ≡ part.bytes.end)
NextPart ps None ps' = ((ps.done ≡ ps.wanted) ⊎ (length (sectors ps.descriptor.now) ≤ (ps.position + ps.done) / 256)) × (ps' ≡ ps)
