-- A leaf is added to a directory.
use Rattle.std.proofs.Common.{◌≡◌, ℕ, ◌<◌, ◌++◌, Some, None, Option, sym, refl, ap, ◌∙◌, subst, inl, inr, arith}
use Rattle.std.proofs.lemmas.Bool.{cases_eq, cases_lt}
use Rattle.devices.specs.Meaning.{Meaning}
use Rattle.layout.specs.Directory.{Slot}
use Rattle.layout.specs.Identification.{total}
use Rattle.rules.specs.Nodes.{times, ReachedBy, by_name}
use Rattle.rules.specs.Rules.{sectors_of, root_at}
use Rattle.rules.proofs.Times.{hit_is, hit_self, times-++}
use Rattle.table.specs.Entries.{Entry, Table, present, held, names, up_of, Upward}
use Rattle.table.specs.Laws.{AddKeeps}
use Rattle.table.specs.Standing.{Shows, Stands}
use Rattle.table.specs.Updates.{Added}
use Rattle.table.proofs.Holdings.{below, held_taken, clear_none, named_there, root_there}
use Rattle.table.proofs.Leaves.{Leaf, leaf_ups, leaf_present, leaf_one, leaf_names, leaf_others, leaf_more, leaf_balance}
use Rattle.table.proofs.Occupied.{occupied_below}
use Rattle.table.proofs.Reaches.{reach_more}
use Rattle.table.proofs.Spaces.{of_entry}
use Rattle.table.proofs.Updating.{update_stands}

module _ (d d' : Meaning) (w : ℕ → ℕ) (t t' : Table) (p : ℕ) (e e' : Entry) (x : ℕ) (f : Entry) (s : Stands d w t) (c : Added d d' t t' p e e' x f) where
  free : t x ≡ None
  free = clear_none d w t s x c.clear

  ne : p ≡ x → ⊥
  ne q = omega (arith, ap present (ap t q ∙ free), ap present c.was)

  low_p : p < sectors_of d
  low_p = below d w t s p (omega (arith, ap present c.was))

  held_as : (k : ℕ) → times k (held p (t p)) ≡ times k (held p (Some e))
  held_as k = ap (λ o. times k (held p o)) c.was

  held_as' : (k : ℕ) → times k (held p (t' p)) ≡ times k (held p (Some e'))
  held_as' k = ap (λ o. times k (held p o)) c.is

  -- the new descriptor lies in the volume, since its bit is one of the volume's
  low_x : x < sectors_of d
  low_x =
      let zero : d'.sector 0 ≡ d.sector 0 = c.kept.2 0 (omega (arith, s.rule_a.least, s.rule_a.fits)) (inl refl) in
      let not-held : times x (held p (t p)) ≡ 0 = elim (cases_lt 0 (times x (held p (t p)))) [
        | inl pos ↦ absurd (omega (arith, c.clear, (held_taken d w t s p x pos).0))
        | inr le ↦ omega arith
      ] in
      omega (arith, ap total zero, occupied_below d' x (omega (arith, c.bits x, held_as x, not-held, hit_self x)))

  root_not : root_at d ≡ x → ⊥
  root_not q = omega (arith, root_there d w t s, ap present (ap t q ∙ free))

  -- nothing named the leaf before
  unnamed : (q : ℕ) → times x (names (t q)) ≡ 0
  unnamed q = elim (cases_lt 0 (times x (names (t q)))) [
    | inl pos ↦ absurd (omega (arith, named_there d w t s q x pos, ap present free))
    | inr le ↦ omega arith
  ]

  leaf_of : Leaf t t' p e e' x f
  leaf_of = record { apart = ne; was = c.was; is = c.is; free = free; new = c.new; others = c.others; naming = c.naming; leaf = c.leaf; up = c.up }

  add_up : (q l : ℕ) → 0 < times l (names (t' q)) → Upward (up_of (t' l)) q
  add_up q l pos = elim (cases_eq l x) [
    | inl i ↦ elim (leaf_names leaf_of q l) [
      | inl same ↦ absurd (omega (arith, pos, same, unnamed q, ap (λ j. times j (names (t q))) i))
      | inr h ↦ subst (λ (j : ℕ). Upward (up_of (t' l)) j) (sym h.0) (subst (λ (o : Option Entry). Upward (up_of o) p) (sym (ap t' i ∙ c.new)) c.up_new)
    ]
    | inr nx ↦
        subst (λ (o : Option Slot). Upward o q) (sym (leaf_ups leaf_of l nx)) (s.tree.up q l (omega (arith, pos, leaf_others leaf_of q l nx)))
  ]

  -- what was reached still is
  still : (l : ℕ) → 0 < present (t l) → ReachedBy (λ q. names (t' q)) (root_at d) l
  still l is =
      reach_more (root_at d) (λ q. names (t q)) (λ q. names (t' q))
      (λ q i pos. omega (arith, pos, leaf_more leaf_of q i))
      l (s.tree.reached l is)

  add_reached : (l : ℕ) → 0 < present (t' l) → ReachedBy (λ q. names (t' q)) (root_at d) l
  add_reached l is = elim (hit_is l x) [
    | inl h ↦ subst (ReachedBy (λ q. names (t' q)) (root_at d)) (sym h.0) (by_name p x (still p (omega (arith, ap present c.was))) (omega (arith, leaf_one leaf_of x, hit_self x)))
    | inr h ↦ still l (omega (arith, is, leaf_present leaf_of l, h.1))
  ]

  add_stands : Stands d' w t'
  add_stands =
      update_stands d d' w t t' s p x ne low_p low_x c.others (held p (Some e) ++ held p (Some e') ++ held x (Some f)) c.kept
      (λ k a b a' b'.
      omega (arith, times-++ k (held p (Some e)) (held p (Some e')), times-++ k (held p (Some e) ++ held p (Some e')) (held x (Some f)), held_as k, held_as' k, ap (λ o. times k (held x o)) c.new))
      (λ k. omega (arith, c.bits k, held_as k, held_as' k, ap (λ o. times k (held x o)) free, ap (λ o. times k (held x o)) c.new))
      (of_entry (Shows d' p) t' p e' c.is c.shows)
      (of_entry (Shows d' x) t' x f c.new c.shows_new)
      (leaf_balance leaf_of)
      (leaf_ups leaf_of (root_at d) root_not ∙ s.tree.top)
      add_up
      add_reached

pub add_keeps : AddKeeps
add_keeps d d' w t t' p e e' x f s c = add_stands d d' w t t' p e e' x f s c
