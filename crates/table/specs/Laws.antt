-- The laws of a table: it stands exactly where every rule holds, it is the only one, and the three updates keep it.
use Rattle.std.specs.Prelude.{◌≡◌, ℕ, [], Some, None, ◌≢◌}
use Rattle.devices.specs.Meaning.{Meaning, Whole, Same}
use Rattle.rules.specs.Nodes.{children}
use Rattle.rules.specs.Rules.{root_at, Sound}
use Rattle.table.specs.Entries.{Entry, Table, at}
use Rattle.table.specs.Standing.{Stands}
use Rattle.table.specs.Updates.{Changed, Added, Removed}

-- every rule of a sound volume holds where a table stands
abbrev pub TableSound : Type 0
TableSound = (d : Meaning) (w : ℕ → ℕ) (t : Table) → Stands d w t → Sound d

-- and where every rule holds, a table stands
abbrev pub SoundTable : Type 0
SoundTable = (d : Meaning) → Whole d → Sound d → (t : Table) × (w : ℕ → ℕ) × Stands d w t

-- there is one table at most, and one set of withheld sectors
abbrev pub OneTable : Type 0
OneTable = (d : Meaning) (w w' : ℕ → ℕ) (t t' : Table) → Stands d w t → Stands d w' t' → ((l : ℕ) → t l ≡ t' l) × ((k : ℕ) → w k ≡ w' k)

-- a volume whose root names nothing has its root, and no other entry
abbrev pub RootAlone : Type 0
RootAlone = (d : Meaning) (w : ℕ → ℕ) (t : Table) → Stands d w t → children d.sector (root_at d) ≡ [] → (t (root_at d) ≡ Some (at d (root_at d))) × ((l : ℕ) → (l ≢ root_at d) → t l ≡ None)

-- a device that means the same shows the same table
abbrev pub SameKeeps : Type 0
SameKeeps = (d d' : Meaning) (w : ℕ → ℕ) (t : Table) → Stands d w t → Same d d' → Stands d' w t

-- each update leaves a volume on which the new table stands, with the same sectors withheld
abbrev pub ChangeKeeps : Type 0
ChangeKeeps = (d d' : Meaning) (w : ℕ → ℕ) (t t' : Table) (x : ℕ) (e e' : Entry) → Stands d w t → Changed d d' t t' x e e' → Stands d' w t'

abbrev pub AddKeeps : Type 0
AddKeeps = (d d' : Meaning) (w : ℕ → ℕ) (t t' : Table) (p : ℕ) (e e' : Entry) (x : ℕ) (f : Entry) → Stands d w t → Added d d' t t' p e e' x f → Stands d' w t'

abbrev pub RemoveKeeps : Type 0
RemoveKeeps = (d d' : Meaning) (w : ℕ → ℕ) (t t' : Table) (p : ℕ) (e e' : Entry) (x : ℕ) (f : Entry) → Stands d w t → Removed d d' t t' p e e' x f → Stands d' w t'
