use Rattle.std.proofs.Common.{◌≡◌, ℕ, ◌+◌, ◌<◌, ◌≤◌, get_or}
use Rattle.layout.specs.Descriptor.{segments, extent}
use Rattle.rules.specs.Nodes.{times}
use Rattle.descriptors.specs.Stored.{AllStorable}
use Rattle.survey.proofs.marking.mark_segments.Given as goal

abbrev pub invariant-loop-segment : goal.invariant-loop-segment
invariant-loop-segment l =
    record {
      counted : (i : ℕ) → get_or l.marks i 0 + times i (extent l.segment-iterator) ≡ get_or l.initial.marks i 0 + times i (extent (segments l.descriptor));
      once : (i : ℕ) → times i (extent l.segment-iterator) < times i (extent (segments l.descriptor)) → get_or l.marks i 0 ≡ 1;
      left : (i : ℕ) → times i (extent l.segment-iterator) ≤ times i (extent (segments l.descriptor));
      storable : AllStorable l.segment-iterator;
    }
