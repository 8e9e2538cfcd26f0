-- A leaf is removed from a directory.
use Rattle.std.proofs.Common.{◌≡◌, ℕ, ◌<◌, ◌++◌, Some, Option, sym, ap, ◌∙◌, subst, inl, inr, arith}
use Rattle.std.proofs.lemmas.Bool.{cases_eq}
use Rattle.devices.specs.Meaning.{Meaning}
use Rattle.layout.specs.Directory.{Slot}
use Rattle.rules.specs.Nodes.{times, ReachedBy}
use Rattle.rules.specs.Rules.{root_at}
use Rattle.rules.proofs.Times.{hit_self, times-++}
use Rattle.table.specs.Entries.{Entry, Table, present, held, names, up_of, Upward}
use Rattle.table.specs.Laws.{RemoveKeeps}
use Rattle.table.specs.Standing.{Shows, Stands}
use Rattle.table.specs.Updates.{Removed}
use Rattle.table.proofs.Holdings.{below, root_unnamed}
use Rattle.table.proofs.Leaves.{Leaf, leaf_ups, leaf_present, leaf_one, leaf_none, leaf_others, leaf_balance}
use Rattle.table.proofs.Reaches.{reach_less}
use Rattle.table.proofs.Spaces.{of_entry}
use Rattle.table.proofs.Updating.{update_stands}

module _ (d d' : Meaning) (w : ℕ → ℕ) (t t' : Table) (p : ℕ) (e e' : Entry) (x : ℕ) (f : Entry) (s : Stands d w t) (c : Removed d d' t t' p e e' x f) where
  -- the leaf names nothing, and the directory names it
  ne : p ≡ x → ⊥
  ne q = omega (arith, c.naming x, c.leaf x, hit_self x, ap (λ o. times x (names o)) (sym c.was ∙ ap t q ∙ c.old))

  -- the table before has one leaf more than the one after
  leaf_of : Leaf t' t p e' e x f
  leaf_of = record { apart = ne; was = c.is; is = c.was; free = c.gone; new = c.old; others = λ l np nx. sym (c.others l np nx); naming = c.naming; leaf = c.leaf; up = sym c.up }

  held_as : (k : ℕ) → times k (held p (t p)) ≡ times k (held p (Some e))
  held_as k = ap (λ o. times k (held p o)) c.was

  held_as' : (k : ℕ) → times k (held p (t' p)) ≡ times k (held p (Some e'))
  held_as' k = ap (λ o. times k (held p o)) c.is

  held_old : (k : ℕ) → times k (held x (t x)) ≡ times k (held x (Some f))
  held_old k = ap (λ o. times k (held x o)) c.old

  root_not : root_at d ≡ x → ⊥
  root_not q = root_unnamed d w t s p x (omega (arith, leaf_one leaf_of x, hit_self x)) (sym q)

  remove_up : (q l : ℕ) → 0 < times l (names (t' q)) → Upward (up_of (t' l)) q
  remove_up q l pos = elim (cases_eq l x) [
    | inl i ↦ subst (λ (o : Option Entry). Upward (up_of o) q) (sym (ap t' i ∙ c.gone)) tt
    | inr nx ↦ subst (λ (o : Option Slot). Upward o q) (leaf_ups leaf_of l nx) (s.tree.up q l (omega (arith, pos, leaf_others leaf_of q l nx)))
  ]

  remove_reached : (l : ℕ) → 0 < present (t' l) → ReachedBy (λ q. names (t' q)) (root_at d) l
  remove_reached l is =
      reach_less (root_at d) x (λ q. names (t q)) (λ q. names (t' q)) (λ q i ni pos. omega (arith, pos, leaf_others leaf_of q i ni)) (λ i. (leaf_none leaf_of i).1) l
      (s.tree.reached l (omega (arith, is, leaf_present leaf_of l)))
      (λ i. omega (arith, is, ap present (ap t' i ∙ c.gone)))

  remove_stands : Stands d' w t'
  remove_stands =
      update_stands d d' w t t' s p x ne
      (below d w t s p (omega (arith, ap present c.was)))
      (below d w t s x (omega (arith, ap present c.old)))
      c.others (held p (Some e) ++ held p (Some e') ++ held x (Some f)) c.kept
      (λ k a b a' b'. omega (arith, times-++ k (held p (Some e)) (held p (Some e')), times-++ k (held p (Some e) ++ held p (Some e')) (held x (Some f)), held_as k, held_as' k, held_old k))
      (λ k. omega (arith, c.bits k, held_as k, held_as' k, held_old k, ap (λ o. times k (held x o)) c.gone))
      (of_entry (Shows d' p) t' p e' c.is c.shows)
      (λ g is. absurd (omega (arith, ap present is, ap present c.gone)))
      (λ l. sym (leaf_balance leaf_of l))
      (sym (leaf_ups leaf_of (root_at d) root_not) ∙ s.tree.top)
      remove_up
      remove_reached

pub remove_keeps : RemoveKeeps
remove_keeps d d' w t t' p e e' x f s c = remove_stands d d' w t t' p e e' x f s c
