-- A device that means the same shows the same table.
use Rattle.std.proofs.Common.{◌≡◌, ℕ, ◌<◌, [], Some, refl, ap, arith}
use Rattle.devices.specs.Meaning.{Meaning, Same}
use Rattle.rules.specs.Nodes.{times}
use Rattle.rules.specs.Rules.{sectors_of, map_of, root_at}
use Rattle.table.specs.Counts.{occupied}
use Rattle.table.specs.Entries.{Entry, Table, held}
use Rattle.table.specs.Laws.{SameKeeps}
use Rattle.table.specs.Standing.{Shows, Stands}
use Rattle.table.proofs.Frames.{frame}
use Rattle.table.proofs.Holdings.{below, held_taken, root_there}
use Rattle.table.proofs.Occupied.{occupied_same, occupied_below}
use Rattle.table.proofs.Spaces.{held_self}
use Rattle.table.proofs.Updating.{update_stands}

module _ (d d' : Meaning) (w : ℕ → ℕ) (t : Table) (s : Stands d w t) (same : Same d d') where
  sector_same : (k : ℕ) → k < sectors_of d → d'.sector k ≡ d.sector k
  sector_same k lt = same.2 k (omega (arith, lt, s.rule_a.fits)) tt

  -- the root is one place of the table, and LSN 0 another
  root_low : (map_of d < root_at d) × (root_at d < sectors_of d)
  root_low =
      let there = root_there d w t s in
      let h = held_taken d w t s (root_at d) (root_at d) (held_self (root_at d) (t (root_at d)) there) in
      (h.1, below d w t s (root_at d) there)

  shown_same : (l : ℕ) (e : Entry) → t l ≡ Some e → Shows d' l e
  shown_same l e is =
      frame d d' l e (λ k pos. sector_same k (held_low l k e is pos)) (s.shown l e is)
    where
      held_low : (l k : ℕ) (e : Entry) → t l ≡ Some e → 0 < times k (held l (Some e)) → k < sectors_of d
      held_low l k e is pos =
          occupied_below d k (omega (arith, (held_taken d w t s l k (omega (arith, pos, ap (λ o. times k (held l o)) is))).0))

  same_stands : Stands d' w t
  same_stands =
      let bits : (k : ℕ) → occupied d' k ≡ occupied d k = occupied_same d d' (sector_same 0 (omega (arith, s.rule_a.least))) (λ k low high. sector_same k (omega (arith, high, root_low))) in
      update_stands d d' w t t s (root_at d) 0 (λ e. omega (arith, e, root_low)) root_low.1 (omega (arith, s.rule_a.least)) (λ l nr n0. refl) []
      (same.0, same.1, λ k lt h. same.2 k lt tt)
      (λ k a b a' b'. refl)
      (λ k. omega (arith, bits k))
      (shown_same (root_at d)) (shown_same 0)
      (λ l. refl) s.tree.top s.tree.up s.tree.reached

pub same_keeps : SameKeeps
same_keeps d d' w t s same = same_stands d d' w t s same
