-- The walk of a survey: what was visited, what waits, and what is marked.
use Rattle.std.specs.Prelude.{◌≡◌, ℕ, ◌+◌, ◌<◌, ◌≤◌, true, cond, List, [], ◌∷◌, length, ◌==◌, nat_le}
use Rattle.std.specs.List.{flat_map}
use Rattle.devices.specs.Meaning.{Meaning}
use Rattle.layout.specs.Descriptor.{segments, extent}
use Rattle.rules.specs.Nodes.{times, is_directory, children, holds, Parent}
use Rattle.rules.specs.Rules.{sectors_of, map_of, root_at, Found, Inside, RuleB, RuleC, RuleD, RuleE, RuleF, SlotsRight, Twice, Owned, Listed}

-- 1 for the system's sectors, and 0 for every other
abbrev pub system : ℕ → ℕ → ℕ
system m k = cond {A = ℕ} (nat_le k m) 1 0

-- 1 where two numbers are the same
abbrev pub hit : ℕ → ℕ → ℕ
hit x k = cond {A = ℕ} (k == x) 1 0

-- what a visit has shown of the descriptor l
pub record Visited (d : Meaning) (l : ℕ) : Type 0 where
  pub rule_b : RuleB d l
  pub rule_c : RuleC d l
  pub rule_d : RuleD d l
  pub rule_f : RuleF d l
  pub parent : ℕ
  pub of_parent : Parent d.sector (root_at d) parent l
  pub slots_right : is_directory (d.sector l) ≡ true → SlotsRight d l parent

-- vs were visited, the descriptors ls wait, and a mark is 1 for the system's sectors, for those that visited descriptors hold and for those that wait
pub record Walking (d : Meaning) (vs ls : List ℕ) (marks : ℕ → ℕ) : Type 0 where
  pub marked : (k : ℕ) → k < sectors_of d → marks k ≡ system (map_of d) k + times k (flat_map (holds d.sector) vs) + times k ls
  pub small : (k : ℕ) → k < sectors_of d → marks k ≤ 1
  pub named : (l : ℕ) → times l (root_at d ∷ flat_map (children d.sector) vs) ≡ times l vs + times l ls
  pub found : (l : ℕ) → 0 < times l vs + times l ls → Found d l
  pub within : (l : ℕ) → 0 < times l vs + times l ls → Inside d l
  pub visited : (l : ℕ) → 0 < times l vs → Visited d l

-- the start: the root waits
abbrev pub WalkStarts : Type 0
WalkStarts = (d : Meaning) (marks : ℕ → ℕ) → Inside d (root_at d) → ((k : ℕ) → k < sectors_of d → marks k ≡ system (map_of d) k + hit (root_at d) k) → Walking d [] (root_at d ∷ []) marks

-- a turn: l is visited; ls waited with it, and ls' wait now
abbrev pub WalkTurns : Type 0
WalkTurns = (d : Meaning) (vs ls ls' : List ℕ) (l : ℕ) (marks marks' : ℕ → ℕ)
    → Walking d vs ls marks
    → 0 < times l ls
    → Visited d l
    → ((k : ℕ) → times k ls' + hit l k ≡ times k ls + times k (children d.sector l))
    → ((k : ℕ) → k < sectors_of d → marks' k ≡ marks k + times k (extent (segments (d.sector l))) + times k (children d.sector l))
    → ((k : ℕ) → k < sectors_of d → marks' k ≤ 1)
    → Walking d (l ∷ vs) ls' marks'

-- a sector that a visit would mark twice is held twice
abbrev pub WalkClashes : Type 0
WalkClashes = (d : Meaning) (vs ls : List ℕ) (l : ℕ) (marks : ℕ → ℕ)
    → Walking d vs ls marks
    → 0 < times l ls
    → (k : ℕ) → Inside d k
    → 2 ≤ marks k + times k (extent (segments (d.sector l))) + times k (children d.sector l)
    → Twice d k

-- the end: nothing waits, so everything that is reached was visited, no sector is held twice, and the marks are those of owned sectors
pub record Walked (d : Meaning) (marks : ℕ → ℕ) : Type 0 where
  pub rule_b : (l : ℕ) → Found d l → RuleB d l
  pub rule_c : (l : ℕ) → Found d l → RuleC d l
  pub rule_d : (l : ℕ) → Found d l → RuleD d l
  pub rule_e : (l : ℕ) → Found d l → is_directory (d.sector l) ≡ true → RuleE d l
  pub rule_f : (l : ℕ) → Found d l → RuleF d l
  pub rule_g : (k : ℕ) → Twice d k → ⊥
  pub below : (l k : ℕ) → Found d l → 0 < times k (holds d.sector l) → k < sectors_of d
  pub small : (k : ℕ) → k < sectors_of d → marks k ≤ 1
  pub owned : (k : ℕ) → k < sectors_of d → marks k ≡ 1 → Owned d k
  pub others : (k : ℕ) → k < sectors_of d → Owned d k → marks k ≡ 1

abbrev pub WalkEnds : Type 0
WalkEnds = (d : Meaning) (vs : List ℕ) (marks : ℕ → ℕ) → Inside d (root_at d) → Walking d vs [] marks → Walked d marks

-- and what was visited is a list of all that is reached
abbrev pub WalkLists : Type 0
WalkLists = (d : Meaning) (vs : List ℕ) (marks : ℕ → ℕ) → Walking d vs [] marks → Listed d vs

-- there is room: no more are visited and wait than the volume has sectors
abbrev pub WalkFits : Type 0
WalkFits = (d : Meaning) (vs ls : List ℕ) (marks : ℕ → ℕ) → Walking d vs ls marks → length vs + length ls ≤ sectors_of d
