-- How often each sector is held, and each descriptor named.
use Rattle.std.specs.Prelude.{ℕ, zero, suc, ◌+◌, Bool, cond, ◌&&◌, nat_lt}
use Rattle.devices.specs.Meaning.{Meaning}
use Rattle.layout.specs.Map.{taken}
use Rattle.rules.specs.Nodes.{times}
use Rattle.rules.specs.Rules.{sectors_of}
use Rattle.table.specs.Entries.{Table, held, names}

-- f 0 + .. + f (n - 1)
unfoldable pub sum : (ℕ → ℕ) → ℕ → ℕ
sum f zero = 0
sum f (suc n) = sum f n + f n

-- how often the entries below T hold the sector k
abbrev pub claims : Table → ℕ → ℕ → ℕ
claims t T k = sum (λ l. times k (held l (t l))) T

-- how often the slots of the entries below T name the descriptor l
abbrev pub namings : Table → ℕ → ℕ → ℕ
namings t T l = sum (λ p. times l (names (t p))) T

-- 1 where a sector below T is taken in a map, which says of each sector whether it is
unfoldable pub taken_in : (ℕ → Bool) → ℕ → ℕ → ℕ
taken_in takes T k = cond {A = ℕ} (nat_lt k T && takes k) 1 0

-- the same in the map of a volume
abbrev pub occupied : Meaning → ℕ → ℕ
occupied d k = taken_in (taken d.sector) (sectors_of d) k
