-- The same of a table that stands: its entries lie within the volume, and what they hold is taken.
use Rattle.std.proofs.Common.{◌≡◌, ℕ, ◌+◌, ◌<◌, ◌≤◌, None}
use Rattle.devices.specs.Meaning.{Meaning}
use Rattle.rules.specs.Nodes.{times}
use Rattle.rules.specs.Rules.{sectors_of, map_of, root_at}
use Rattle.table.specs.Counts.{claims, namings, occupied}
use Rattle.table.specs.Entries.{Table, present, held, names}
use Rattle.table.specs.Standing.{Stands}
use Rattle.table.proofs.Occupied.{occupied_small}
use Rattle.table.proofs.Spaces as spaces

module _ (d : Meaning) (w : ℕ → ℕ) (t : Table) (s : Stands d w t) where
  -- entries lie within the volume
  pub below : (l : ℕ) → 0 < present (t l) → l < sectors_of d
  below = spaces.below (sectors_of d) t s.within

  pub claim_one : (k l : ℕ) → times k (held l (t l)) ≤ claims t (sectors_of d) k
  claim_one = spaces.claim_one (sectors_of d) t s.within

  pub naming_one : (l p : ℕ) → times l (names (t p)) ≤ namings t (sectors_of d) l
  naming_one = spaces.naming_one (sectors_of d) t s.within

  pub naming_two : (l p q : ℕ) → (p ≡ q → ⊥) → times l (names (t p)) + times l (names (t q)) ≤ namings t (sectors_of d) l
  naming_two = spaces.naming_two (sectors_of d) t s.within

  -- a sector that an entry holds is taken, and not the system's
  pub held_taken : (l k : ℕ) → 0 < times k (held l (t l)) → (occupied d k ≡ 1) × (map_of d < k) × (w k ≡ 0)
  held_taken = spaces.held_taken (sectors_of d) t s.within (map_of d) w (occupied d) (occupied_small d) s.space

  -- two entries share no sector
  pub held_apart : (l x k : ℕ) → (l ≡ x → ⊥) → 0 < times k (held l (t l)) → times k (held x (t x)) ≡ 0
  held_apart = spaces.held_apart (sectors_of d) t s.within (map_of d) w (occupied d) (occupied_small d) s.space

  pub held_once : (l k : ℕ) → times k (held l (t l)) ≤ 1
  held_once = spaces.held_once (sectors_of d) t s.within (map_of d) w (occupied d) (occupied_small d) s.space

  -- a clear sector has no entry, and neither has one of the system's
  pub clear_none : (x : ℕ) → occupied d x ≡ 0 → t x ≡ None
  clear_none = spaces.clear_none (sectors_of d) t s.within (map_of d) w (occupied d) (occupied_small d) s.space

  pub system_none : (x : ℕ) → x ≤ map_of d → t x ≡ None
  system_none = spaces.system_none (sectors_of d) t s.within (map_of d) w (occupied d) (occupied_small d) s.space

  -- what is named is there, and so is the root
  pub named_there : (p l : ℕ) → 0 < times l (names (t p)) → 0 < present (t l)
  named_there = spaces.named_there (sectors_of d) t s.within (root_at d) s.tree

  pub root_there : 0 < present (t (root_at d))
  root_there = spaces.root_there (sectors_of d) t s.within (root_at d) s.tree

  -- the root is named by no slot
  pub root_unnamed : (p l : ℕ) → 0 < times l (names (t p)) → l ≡ root_at d → ⊥
  root_unnamed = spaces.root_unnamed (sectors_of d) t s.within (root_at d) s.tree
