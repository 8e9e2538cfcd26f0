use Rattle.std.proofs.Common.{◌≡◌, ℕ, ◌+◌, ◌-◌, ◌*◌, ◌/◌, ◌%◌, ◌<◌, ◌≤◌, Bool, List, get_or, sym, ap, ◌∙◌, subst, ap₂, inl, inr, arith, rules}
use Rattle.std.proofs.lemmas.Bool.{cases_lt}
use Rattle.devices.specs.Meaning.{Meaning}
use Rattle.layout.specs.Map.{bit_of, taken}
use Rattle.survey.specs.MapChecks.{Right}
use Rattle.survey.proofs.map_checks.check_map.Goals as goal

-- a sector of a row is one of the volume
of_row : (d : Meaning) (marks row : List ℕ) (index k : ℕ) → index * 2048 ≤ k → k < (index + 1) * 2048 → row ≡ d.sector (1 + index)
    → Right d (index * 2048 + (k - index * 2048)) (get_or marks (index * 2048 + (k - index * 2048)) 0) (bit_of row (k - index * 2048))
    → Right d k (get_or marks k 0) (taken d.sector k)
of_row d marks row index k low high is right =
    let at : index * 2048 + (k - index * 2048) ≡ k = omega arith in
    let place : k % 2048 ≡ k - index * 2048 = omega arith in
    let number : k / 2048 ≡ index = omega arith in
    let bit : bit_of row (k - index * 2048) ≡ taken d.sector k =
    ap (λ r. bit_of r (k - index * 2048)) is ∙ sym (ap₂ (λ (i p : ℕ). bit_of (d.sector (1 + i)) p) number place) in
    let moved = subst (λ (j : ℕ). Right d j (get_or marks j 0) (bit_of row (k - index * 2048))) at right in
    subst (λ (b : Bool). Right d k (get_or marks k 0) b) bit moved

pub loop-index-preserved : goal.loop-index-preserved
loop-index-preserved g c =
    let d = g.D.Device.meaning c.args.device.now in
    let index = c.loop-index.index in
    let row = c.in_ok-row.row in
    let read : row ≡ d.sector (1 + index) = search rules in
    λ k lt tot. elim (cases_lt k (index * 2048)) [
      | inl low ↦ c.loop-index.invariant k low tot
      | inr high ↦ of_row d c.args.marks.now row index k high lt read (c.in_ok-check_row.ensures (k - index * 2048) (omega arith))
    ]
