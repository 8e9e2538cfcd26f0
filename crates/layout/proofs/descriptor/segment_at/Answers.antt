use Rattle.std.proofs.Common.{◌≡◌, ◌+◌, ◌*◌, ap, ◌∙◌, arith}
use Rattle.layout.specs.Bytes.{number}
use Rattle.layout.specs.declared.segment.Segment.{Segment}
use Rattle.layout.specs.Digits.{number_lt}
use Rattle.layout.proofs.Segments.{entry_is, segment_numbers}
use Rattle.layout.proofs.descriptor.segment_at.Goals as goal

pub returns : goal.returns
returns c =
    let xs = c.args.descriptor.now in
    let k = c.args.k in
    let is = c.nth.ensures ∙ entry_is k xs c.requires in
    let start : c.nth.result.start ≡ number (16 + k * 5) 3 xs = ap (λ (s : Segment). s.start) (is ∙ segment_numbers xs k) in
    let len : c.nth.result.len ≡ number (16 + k * 5 + 3) 2 xs = ap (λ (s : Segment). s.len) (is ∙ segment_numbers xs k) in
    record {
      is = is;
      low = omega (arith, start, number_lt (16 + k * 5) 3 xs c.fits-descriptor);
      short = omega (arith, len, number_lt (16 + k * 5 + 3) 2 xs c.fits-descriptor);
    }
