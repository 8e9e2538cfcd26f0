-- The whole walk, from the root on.
use Rattle.std.specs.Prelude.{◌≡◌, ℕ, ◌+◌, ◌<◌, ◌≤◌, true, false, List, Ok, Err, Result, slice_index}
use Rattle.devices.specs.Meaning.{Meaning}
use Rattle.devices.specs.declared.device.Cause.TheVariants.{Bad}
use Rattle.layout.specs.Map.{taken}
use Rattle.rules.specs.Rules.{sectors_of, map_of, root_at, Owned, Wanted, Broken as BrokenAt}
use Rattle.rules.specs.Walking.{system, hit, Walked}
use Rattle.survey.specs.declared.finding.Finding.{Finding}
use Rattle.survey.specs.declared.finding.Finding.TheVariants.{Broken, Unread}

-- the root, the last sector of the map and the number of sectors are those of the identification sector
pub record Identified (d : Meaning) (root low high : ℕ) : Type 0 where
  pub total : high ≡ sectors_of d
  pub map : low ≡ map_of d
  pub top : root ≡ root_at d

-- the marks before the first visit: the system's sectors and the root's descriptor
pub record Prepared (low high root : ℕ) (marks marks' : List ℕ) : Type 0 where
  pub set_up : (k : ℕ) → k < high → slice_index marks' k ≡ system low k + hit root k
  pub later : (k : ℕ) → high ≤ k → slice_index marks' k ≡ slice_index marks k

-- a walk to the end, or something that is truly broken, or a sector that must be good and is bad
abbrev pub WalkAnswer : Meaning → List ℕ → List ℕ → Result Unit Finding → Type 0
WalkAnswer d marks marks' (Ok u) = Walked d (λ k. slice_index marks' k) × ((k : ℕ) → sectors_of d ≤ k → slice_index marks' k ≡ slice_index marks k)
WalkAnswer d marks marks' (Err (Broken r at)) = BrokenAt d r at
WalkAnswer d marks marks' (Err (Unread w f)) = (f.cause ≡ Bad) × (d.bad f.lsn ≡ true) × Wanted d f.lsn

-- the walk and the map together: every rule from the reached descriptors on, and every sector that must be good is good
pub record Checked (d : Meaning) (marks marks' : List ℕ) : Type 0 where
  pub walked : Walked d (λ k. slice_index marks' k)
  pub rule_h : (k : ℕ) → Owned d k → taken d.sector k ≡ true
  pub good : (k : ℕ) → Wanted d k → d.bad k ≡ false
  pub later : (k : ℕ) → sectors_of d ≤ k → slice_index marks' k ≡ slice_index marks k

abbrev pub CheckAnswer : Meaning → List ℕ → List ℕ → Result Unit Finding → Type 0
CheckAnswer d marks marks' (Ok u) = Checked d marks marks'
CheckAnswer d marks marks' (Err (Broken r at)) = BrokenAt d r at
CheckAnswer d marks marks' (Err (Unread w f)) = (f.cause ≡ Bad) × (d.bad f.lsn ≡ true) × Wanted d f.lsn
