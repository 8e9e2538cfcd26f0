-- An entry changes in place.
use Rattle.std.proofs.Common.{◌≡◌, ℕ, ◌<◌, ◌++◌, Some, None, Option, sym, refl, ap, ◌∙◌, subst, inl, inr, arith}
use Rattle.std.proofs.lemmas.Bool.{cases_eq}
use Rattle.devices.specs.Meaning.{Meaning}
use Rattle.layout.specs.Directory.{Slot}
use Rattle.rules.specs.Nodes.{times}
use Rattle.rules.specs.Rules.{sectors_of, root_at}
use Rattle.rules.proofs.Times.{times-++}
use Rattle.table.specs.Entries.{Entry, Table, present, held, names, up_of, Upward}
use Rattle.table.specs.Laws.{ChangeKeeps}
use Rattle.table.specs.Standing.{Shows, Stands}
use Rattle.table.specs.Updates.{Changed}
use Rattle.table.proofs.Holdings.{below, system_none}
use Rattle.table.proofs.Reaches.{reach_more}
use Rattle.table.proofs.Spaces.{of_entry}
use Rattle.table.proofs.Updating.{update_stands}

module _ (d d' : Meaning) (w : ℕ → ℕ) (t t' : Table) (x : ℕ) (e e' : Entry) (s : Stands d w t) (c : Changed d d' t t' x e e') where
  -- LSN 0 is the second place: there is no entry, before or after
  none_at : t 0 ≡ None
  none_at = system_none d w t s 0 (omega arith)

  ne : x ≡ 0 → ⊥
  ne q = let a = ap present (ap t q ∙ none_at) in let b = ap present c.was in omega arith

  none_after : t' 0 ≡ None
  none_after = c.others 0 (λ q. ne (sym q)) ∙ none_at

  held_as : (k : ℕ) → times k (held x (t x)) ≡ times k (held x (Some e))
  held_as k = ap (λ o. times k (held x o)) c.was

  held_as' : (k : ℕ) → times k (held x (t' x)) ≡ times k (held x (Some e'))
  held_as' k = ap (λ o. times k (held x o)) c.is

  -- what the two entries share, the tables do
  shared : {X : Type 0} (F : Option Entry → X) → F (Some e') ≡ F (Some e) → (l : ℕ) → F (t' l) ≡ F (t l)
  shared F h l = elim (cases_eq l x) [
    | inl i ↦ ap (λ j. F (t' j)) i ∙ ap F c.is ∙ h ∙ sym (ap F c.was) ∙ ap (λ j. F (t j)) (sym i)
    | inr nx ↦ ap F (c.others l nx)
  ]

  named_same : (q l : ℕ) → times l (names (t' q)) ≡ times l (names (t q))
  named_same q l = shared (λ o. times l (names o)) (c.naming l) q

  change_stands : Stands d' w t'
  change_stands =
      let low : x < sectors_of d = below d w t s x (omega (arith, ap present c.was)) in
      let ups : (l : ℕ) → up_of (t' l) ≡ up_of (t l) = shared up_of c.up in
      update_stands d d' w t t' s x 0 ne low (omega (arith, s.rule_a.least)) (λ l nx n0. c.others l nx) (held x (Some e) ++ held x (Some e')) c.kept
      (λ k a b a' b'. omega (arith, times-++ k (held x (Some e)) (held x (Some e')), held_as k, held_as' k))
      (λ k. omega (arith, c.bits k, held_as k, held_as' k, ap (λ o. times k (held 0 o)) none_at, ap (λ o. times k (held 0 o)) none_after))
      (of_entry (Shows d' x) t' x e' c.is c.shows)
      (λ f is. absurd (omega (arith, ap present is, ap present none_after)))
      (λ l. omega (arith, named_same x l, named_same 0 l, shared present refl l))
      (ups (root_at d) ∙ s.tree.top)
      (λ q l pos. subst (λ (o : Option Slot). Upward o q) (sym (ups l)) (s.tree.up q l (omega (arith, pos, named_same q l))))
      (λ l is. reach_more (root_at d) (λ q. names (t q)) (λ q. names (t' q)) (λ q i pos. omega (arith, pos, named_same q i)) l (s.tree.reached l (omega (arith, is, shared present refl l))))

pub change_keeps : ChangeKeeps
change_keeps d d' w t t' x e e' s c = change_stands d d' w t t' x e e' s c
