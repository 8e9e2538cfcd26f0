-- A walk that ended, and then the map: what the two show together.
use Rattle.std.proofs.Common.{ℕ, ◌<◌, List, get_or, Ok, Err, Result, sym, subst, inl, inr, arith}
use Rattle.devices.specs.Meaning.{Meaning}
use Rattle.rules.specs.declared.rule.Rule.{Rule}
use Rattle.rules.specs.Rules.{sectors_of, root_at, Inside, Owned, Broken as BrokenAt}
use Rattle.survey.specs.MapChecks.{MapAnswer}
use Rattle.survey.specs.Walks.{WalkAnswer, CheckAnswer}
use Rattle.survey.specs.declared.finding.Finding.{Finding}
use Rattle.survey.specs.declared.finding.Finding.TheVariants.{Broken, Unread}

module _ (d : Meaning) (m₀ m : List ℕ) (in-volume : Inside d (root_at d)) (w : WalkAnswer d m₀ m (Ok tt)) where
  owned_below : (k : ℕ) → Owned d k → k < sectors_of d
  owned_below k (inl le) = omega (arith, le, in-volume.0, in-volume.1)
  owned_below k (inr h) = w.0.below h.by k h.there h.has

  owned_marked : (k : ℕ) → Owned d k → 0 < get_or m k 0
  owned_marked k o = omega (arith, w.0.others k (owned_below k o) o)

  marked_owned : (k : ℕ) → k < sectors_of d → 0 < get_or m k 0 → Owned d k
  marked_owned k lt pos = w.0.owned k lt (omega (arith, w.0.small k lt, pos))

  pub swept : (r : Result Unit Finding) → MapAnswer d m (sectors_of d) r → CheckAnswer d m₀ m r
  swept (Ok u) all = record {
    walked = w.0;
    rule_h = λ k o. (all k (owned_below k o)).taken_too (owned_marked k o);
    good = λ k wanted. (all k wanted.0).good (elim wanted.1 [ inl o ↦ inl (owned_marked k o) | inr clear ↦ inr clear ]);
    later = w.1;
  }
  swept (Err (Broken r at)) (is, lt, un) = subst (λ (x : Rule). BrokenAt d x at) (sym is) (marked_owned at lt un.marked, un.clear)
  swept (Err (Unread p f)) (bad, lt, spoilt, which) = (
    bad,
    spoilt,
    (
      lt,
      elim which [
        | inl h ↦ inl (inl h.1)
        | inr s ↦ elim s.wanted [ inl pos ↦ inl (marked_owned f.lsn lt pos) | inr clear ↦ inr clear ]
      ],
    ),
  )
