-- Slots of the sectors that were read, and of the directory's bytes.
use Rattle.std.proofs.Common.{◌≡◌, ℕ, ◌+◌, ◌*◌, ◌/◌, ◌%◌, ◌≤◌, ◌⊎◌, List, sym, ap, ◌∙◌, subst, inl, inr, arith}
use Rattle.std.proofs.lemmas.Bool.{cases_eq}
use Rattle.devices.specs.Meaning.{Meaning}
use Rattle.layout.specs.Descriptor.{size, segments, extent, content}
use Rattle.layout.specs.Records.{record_at}
use Rattle.descriptors.proofs.Blocks.{Wide, slot_block}
use Rattle.content.specs.Slots.{SlotsAt}

-- the slot k lies in the sector k / 8
pub slot_of : (d : Meaning) (s sec : List ℕ) (k : ℕ) → k * 32 + 32 ≤ size s → Wide d.sector 256 (extent (segments s)) → SlotsAt d s (k / 8) sec → record_at 32 (k % 8) sec ≡ record_at 32 k (content d.sector s)
slot_of d s sec k fits wide (p, there, read) = ap (record_at 32 (k % 8)) read ∙ sym (slot_block d.sector s k p fits wide there)

-- the next slot lies in the same sector, or begins another
pub next_slot : (d : Meaning) (s sec : List ℕ) (k : ℕ) → SlotsAt d s (k / 8) sec → ((k + 1) % 8 ≡ 0) ⊎ SlotsAt d s ((k + 1) / 8) sec
next_slot d s sec k at = elim (cases_eq ((k + 1) % 8) 0) [
  | inl e ↦ inl e
  | inr ne ↦ inr (subst (λ (i : ℕ). SlotsAt d s i sec) (omega (arith, ne)) at)
]
