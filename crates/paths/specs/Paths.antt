-- The open paths of a volume, by their numbers.
use Rattle.std.specs.Prelude.{◌≡◌, ℕ, ◌+◌, ◌<◌, ◌≤◌, cond, ◌⊎◌, List, [], ◌∷◌, get_or, Some, None, Option, ◌==◌, ◌≢◌, slice_index_or}
use Rattle.paths.specs.declared.open_path.OpenPath.{OpenPath}
use Rattle.paths.specs.declared.open_path.PathKind.{PathKind}
use Rattle.paths.specs.declared.open_path.PathKind.TheVariants.{Read, Update}

-- the open path with the number n, in some places of which each has a path or none
abbrev pub path_at : List (Option OpenPath) → ℕ → Option OpenPath
path_at [] n = None
path_at (None ∷ ps) n = path_at ps n
path_at (Some p ∷ ps) n = cond (p.number == n) (Some p) (path_at ps n)

-- how many paths are open
abbrev pub open_count : List (Option OpenPath) → ℕ
open_count [] = 0
open_count (None ∷ ps) = open_count ps
open_count (Some p ∷ ps) = 1 + open_count ps

-- a path, if it is of this kind
abbrev pub if_kind : PathKind → OpenPath → PathKind → Option OpenPath
if_kind Read p Read = Some p
if_kind Read p Update = None
if_kind Update p Read = None
if_kind Update p Update = Some p

abbrev pub of_kind : PathKind → Option OpenPath → Option OpenPath
of_kind kind None = None
of_kind kind (Some p) = if_kind kind p p.kind

-- the numbers of open paths are from 1 to the count ever opened, and no two are the same
pub record Numbered (ps : List (Option OpenPath)) (opened : ℕ) : Type 0 where
  pub low : (k : ℕ) (p : OpenPath) → slice_index_or ps k None ≡ Some p → 1 ≤ p.number
  pub high : (k : ℕ) (p : OpenPath) → slice_index_or ps k None ≡ Some p → p.number ≤ opened
  pub apart : (j k : ℕ) (p q : OpenPath) → slice_index_or ps j None ≡ Some p → slice_index_or ps k None ≡ Some q → p.number ≡ q.number → j ≡ k

-- one number has another path or none now, and every other as it had
pub record Put (ps ps' : List (Option OpenPath)) (n : ℕ) (o : Option OpenPath) : Type 0 where
  pub here : path_at ps' n ≡ o
  pub others : (i : ℕ) → (i ≢ n) → path_at ps' i ≡ path_at ps i

-- the first place whose path has the number n
pub record First (ps : List (Option OpenPath)) (n k : ℕ) : Type 0 where
  pub within : k < 16
  pub path : OpenPath
  pub there : get_or ps k None ≡ Some path
  pub number : path.number ≡ n
  pub before : (j : ℕ) (p : OpenPath) → j < k → slice_index_or ps j None ≡ Some p → p.number ≢ n

-- a place that has no path
abbrev pub Free : List (Option OpenPath) → ℕ → Type 0
Free ps k = (k < 16) × (slice_index_or ps k None ≡ None)

-- a path is open on a file; one for update is
pub record OpenOn (ps : List (Option OpenPath)) (file : ℕ) : Type 0 where
  pub place : ℕ
  pub path : OpenPath
  pub there : get_or ps place None ≡ Some path
  pub same : path.descriptor ≡ file

pub record UpdatedOn (ps : List (Option OpenPath)) (file : ℕ) : Type 0 where
  pub place : ℕ
  pub path : OpenPath
  pub there : get_or ps place None ≡ Some path
  pub same : path.descriptor ≡ file
  pub update : path.kind ≡ Update

-- a new path: its number is one more than those opened before
abbrev pub opened_path : ℕ → PathKind → ℕ → OpenPath
opened_path n kind file = record { number = n; kind = kind; descriptor = file; position = 0 }

pub record Added (ps ps' : List (Option OpenPath)) (opened opened' : ℕ) (kind : PathKind) (file n : ℕ) : Type 0 where
  pub number : n ≡ opened + 1
  pub count : opened' ≡ n
  pub one_more : open_count ps' ≡ open_count ps + 1
  pub put : Numbered ps opened → Put ps ps' n (Some (opened_path n kind file))
  pub numbered : Numbered ps opened → Numbered ps' opened'

-- no path can be opened: sixteen are open, or no number is left
pub record NoRoom (ps ps' : List (Option OpenPath)) (opened opened' : ℕ) : Type 0 where
  pub why : (open_count ps ≡ 16) ⊎ (opened ≡ 4294967295)
  pub same : ps' ≡ ps
  pub count : opened' ≡ opened

abbrev pub AddAnswer : List (Option OpenPath) → List (Option OpenPath) → ℕ → ℕ → PathKind → ℕ → Option ℕ → Type 0
AddAnswer ps ps' opened opened' kind file None = NoRoom ps ps' opened opened'
AddAnswer ps ps' opened opened' kind file (Some n) = Added ps ps' opened opened' kind file n

-- a path at another position
abbrev pub at_position : ℕ → OpenPath → OpenPath
at_position position p = record { number = p.number; kind = p.kind; descriptor = p.descriptor; position = position }

abbrev pub if_open : {X Y : Type 0} → (X → Y) → Option X → Option Y
if_open f None = None
if_open f (Some x) = Some (f x)

pub record Moved (ps ps' : List (Option OpenPath)) (opened n position : ℕ) : Type 0 where
  pub put : Put ps ps' n (if_open (at_position position) (path_at ps n))
  pub numbered : Numbered ps opened → Numbered ps' opened

pub record Removed (ps ps' : List (Option OpenPath)) (opened n : ℕ) : Type 0 where
  pub put : Numbered ps opened → Put ps ps' n None
  pub numbered : Numbered ps opened → Numbered ps' opened
