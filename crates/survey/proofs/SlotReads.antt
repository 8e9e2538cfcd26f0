-- Slots as they are read, and as the directory has them.
use Rattle.std.proofs.Common.{◌≡◌, ℕ, ◌+◌, ◌*◌, ◌/◌, ◌%◌, ◌<◌, ◌≤◌, List, length, get_or, true, Some, Ok, Err, sym, refl, ap, ◌∙◌, subst, arith}
use Rattle.std.specs.List.{slice_get}
use Rattle.devices.specs.Meaning.{Meaning, Whole, Fails, Refuses}
use Rattle.devices.specs.declared.device.DeviceFault.{DeviceFault}
use Rattle.layout.specs.Descriptor.{size, segments, extent, content}
use Rattle.layout.specs.Records.{record_at}
use Rattle.rules.specs.Nodes.{times, is_directory}
use Rattle.rules.specs.Rules.{SegmentsWithin, SizeRight, slot_bytes_at, slot_count}
use Rattle.descriptors.proofs.Blocks.{Wide, slot_block, content-length}
use Rattle.rules.proofs.Members.{nth-times, get_or-times}
use Rattle.survey.specs.Slots.{SlotRead}
use Rattle.survey.specs.declared.finding.Finding.TheVariants.{Unread}
use Rattle.survey.specs.declared.finding.Reading.{Reading}

-- the sectors of a file lie on the device
pub wide_of : (d : Meaning) (s : List ℕ) (low high : ℕ) → Whole d → SegmentsWithin s low high → high ≤ d.count → Wide d.sector 256 (extent (segments s))
wide_of d s low high whole within there i lt = whole (get_or (extent (segments s)) i 0) (omega (arith, (within (get_or (extent (segments s)) i 0) (get_or-times (extent (segments s)) i lt)).1))

-- a slot that was read is the directory's
pub slot_is : (d : Meaning) (s xs : List ℕ) (l k p : ℕ) → s ≡ d.sector l → k * 32 + 32 ≤ size s → Wide d.sector 256 (extent (segments s)) → slice_get (extent (segments s)) (k / 8) ≡ Some p → xs ≡ record_at 32 (k % 8) (d.sector p) → xs ≡ slot_bytes_at d l k
slot_is d s xs l k p is fits wide there read = read ∙ sym (slot_block d.sector s k p fits wide there) ∙ ap (λ t. record_at 32 k (content d.sector t)) is

-- and so it is where the sectors of the directory lie within bounds
pub slot_within : (d : Meaning) (s xs : List ℕ) (l k low high : ℕ) → Whole d → high ≤ d.count → SegmentsWithin s low high → s ≡ d.sector l → k * 32 + 32 ≤ size s → SlotRead d s k (Ok xs) → xs ≡ slot_bytes_at d l k
slot_within d s xs l k low high whole there within is fits read = slot_is d s xs l k read.0 is fits (wide_of d s low high whole within there) read.1 read.3

-- how many slots there are
pub count_is : (d : Meaning) (s : List ℕ) (l n : ℕ) → s ≡ d.sector l → Wide d.sector 256 (extent (segments s)) → size s ≤ 256 * length (extent (segments s)) → n ≡ size s → slot_count d l ≡ n / 32
count_is d s l n is wide held e =
    ap (λ (t : List ℕ). length (content d.sector t) / 32) (sym is) ∙ ap (λ i. i / 32) (content-length d.sector s wide held ∙ sym e)

-- a sector of the directory that the device refuses
pub unread : (d : Meaning) (s : List ℕ) (l k : ℕ) (w : Reading) (f : DeviceFault) → s ≡ d.sector l → SlotRead d s k (Err (Unread w f)) → (0 < times f.lsn (extent (segments (d.sector l)))) × Refuses d f.lsn 256 f
unread d s l k w f is e =
    let some = nth-times (extent (segments s)) (k / 8) e.1.0 e.1.1 in (
      omega (arith, some, ap (λ (p : ℕ). times p (extent (segments s))) e.1.2.0, ap (λ (t : List ℕ). times f.lsn (extent (segments t))) is),
      (refl, subst (λ (p : ℕ). Fails d p 256 f.cause) (sym e.1.2.0) e.1.2.1),
    )

-- the descriptor s of a directory within bounds, of n bytes
pub record Directory (d : Meaning) (s : List ℕ) (l low high n : ℕ) : Type 0 where
  pub is : s ≡ d.sector l
  pub marked : is_directory s ≡ true
  pub right : SizeRight s
  pub within : SegmentsWithin s low high
  pub there : high ≤ d.count
  pub whole : Whole d
  pub many : n ≡ size s

module _ (d : Meaning) (s : List ℕ) (l low high n : ℕ) (dir : Directory d s l low high n) where
  wide : Wide d.sector 256 (extent (segments s))
  wide = wide_of d s low high dir.whole dir.within dir.there

  pub directory_is : is_directory (d.sector l) ≡ true
  directory_is = ap is_directory (sym dir.is) ∙ dir.marked

  pub directory_count : slot_count d l ≡ n / 32
  directory_count = count_is d s l n dir.is wide dir.right.held dir.many

  pub directory_two : 2 ≤ n / 32
  directory_two = omega (arith, dir.right.two dir.marked, dir.many)

  pub directory_slot : (k : ℕ) (xs : List ℕ) → k < n / 32 → SlotRead d s k (Ok xs) → xs ≡ slot_bytes_at d l k
  directory_slot k xs lt read = slot_within d s xs l k low high dir.whole dir.there dir.within dir.is (omega (arith, dir.many)) read
