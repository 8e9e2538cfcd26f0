-- A device shows one table at most; and the root alone, where it names nothing.
use Rattle.std.proofs.Common.{◌≡◌, ℕ, [], None, sym, refl, ap, ◌∙◌, inl, inr, arith}
use Rattle.std.proofs.lemmas.Bool.{cases_lt}
use Rattle.devices.specs.Meaning.{Meaning}
use Rattle.rules.specs.Nodes.{times, children, at_root, by_slot}
use Rattle.rules.specs.Rules.{sectors_of, root_at, Found}
use Rattle.table.specs.Entries.{Table, present, held}
use Rattle.table.specs.Laws.{OneTable, RootAlone}
use Rattle.table.specs.Standing.{Stands}
use Rattle.table.proofs.Reading.{entry_read, there_found, found_there}
use Rattle.table.proofs.Spaces.{none_of}
use Rattle.table.proofs.Sums.{sum_same}

-- what is not in one table is not in the other
absent : (d : Meaning) (w w' : ℕ → ℕ) (t t' : Table) → Stands d w t → Stands d w' t' → (l : ℕ) → present (t l) ≡ 0 → t' l ≡ None
absent d w w' t t' s s' l z = none_of (t' l) (elim (cases_lt 0 (present (t' l))) [ inl pos ↦ absurd (omega (arith, z, found_there d w t s l (there_found d w' t' s' l pos))) | inr le ↦ omega arith ])

same_table : (d : Meaning) (w w' : ℕ → ℕ) (t t' : Table) → Stands d w t → Stands d w' t' → (l : ℕ) → t l ≡ t' l
same_table d w w' t t' s s' l = elim (cases_lt 0 (present (t l))) [
  | inl pos ↦ entry_read d w t s l pos ∙ sym (entry_read d w' t' s' l (found_there d w' t' s' l (there_found d w t s l pos)))
  | inr le ↦ none_of (t l) (omega arith) ∙ sym (absent d w w' t t' s s' l (omega arith))
]

pub one_table : OneTable
one_table d w w' t t' s s' =
    let same : (l : ℕ) → t l ≡ t' l = same_table d w w' t t' s s' in (
      same,
      λ k. omega (arith, s.space k, s'.space k, sum_same (λ l. times k (held l (t l))) (λ l. times k (held l (t' l))) (sectors_of d) (λ l lt. ap (λ o. times k (held l o)) (sym (same l)))),
    )

-- nothing but the root is reached
only_root : (d : Meaning) → children d.sector (root_at d) ≡ [] → (l : ℕ) → Found d l → l ≡ root_at d
only_root d none _ at_root = refl
only_root d none _ (by_slot p l r pos) = absurd (omega (arith, pos, ap (times l) (ap (children d.sector) (only_root d none p r) ∙ none)))

pub root_alone : RootAlone
root_alone d w t s none = (
  entry_read d w t s (root_at d) (found_there d w t s (root_at d) at_root),
  λ l ne. none_of (t l) (elim (cases_lt 0 (present (t l))) [ inl pos ↦ absurd (ne (only_root d none l (there_found d w t s l pos))) | inr le ↦ omega arith ]),
)
