-- The parts of a file's bytes, and the sectors in which they lie.
use Rattle.std.proofs.Common.{◌≡◌, ℕ, ◌+◌, ◌-◌, ◌*◌, ◌/◌, ◌<◌, ◌≤◌, List, length, get_or, Some, None, subst, inl, inr, arith}
use Rattle.descriptors.proofs.Blocks.{nth_some}
use Rattle.devices.specs.Meaning.{Meaning, Refuses}
use Rattle.devices.specs.declared.device.DeviceFault.{DeviceFault}
use Rattle.content.specs.Parts.{PartsOf, IsPart, NextPart}
use Rattle.content.specs.Rows.{sectors, RefusedAt}
use Rattle.content.specs.declared.file_parts.FilePart.{FilePart}
use Rattle.content.specs.declared.file_parts.FileParts.{FileParts}

module _ (ps ps' : FileParts) (s : List ℕ) (p n : ℕ) (of : PartsOf ps s p n) where
  pub next_part : (part : FilePart) → NextPart ps (Some part) ps' → IsPart (sectors s) p n ps.done part × PartsOf ps' s p n × (ps'.done ≡ part.bytes.end)
  next_part part step = rw (of.descriptor, of.position, of.wanted) at step

  -- no part is left: all the bytes are done, as the sectors have them
  pub all_done : NextPart ps None ps' → n ≤ 256 * length (sectors s) - p → ps.done ≡ n
  all_done step held = elim step.0 [
    | inl all ↦ omega arith
    | inr past ↦ omega (arith, rw of.descriptor at past)
  ]

-- the sector of a part
pub part_sector : (e : List ℕ) (p n k : ℕ) (part : FilePart) → IsPart e p n k part → ((p + k) / 256 < length e) × (part.lsn ≡ get_or e ((p + k) / 256) 0)
part_sector e p n k part is = nth_some e ((p + k) / 256) part.lsn is.lsn

-- a device that refuses it refuses the sector of the part's first byte
pub refused_at : (m : Meaning) (e : List ℕ) (p n k : ℕ) (part : FilePart) (f : DeviceFault) → IsPart e p n k part → Refuses m part.lsn 256 f → RefusedAt m e (p + k) f
refused_at m e p n k part f is refuses =
    let at = part_sector e p n k part is in
    (at.0, subst (λ l. Refuses m l 256 f) at.1 refuses)
