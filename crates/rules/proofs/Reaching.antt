-- What directories reach, and what their naming reaches, is one.
use Rattle.std.proofs.Common.{ℕ, List}
use Rattle.rules.specs.Nodes.{children, Reached, at_root, by_slot, ReachedBy, at_start, by_name}

pub to_naming : (sector : ℕ → List ℕ) (root l : ℕ) → Reached sector root l → ReachedBy (children sector) root l
to_naming sector root _ at_root = at_start
to_naming sector root _ (by_slot p l r pos) = by_name p l (to_naming sector root p r) pos

pub from_naming : (sector : ℕ → List ℕ) (root l : ℕ) → ReachedBy (children sector) root l → Reached sector root l
from_naming sector root _ at_start = at_root
from_naming sector root _ (by_name p l r pos) = by_slot p l (from_naming sector root p r) pos
