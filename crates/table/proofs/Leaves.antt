-- Two tables of which one has a leaf more: x, with the entry f, which the directory p names.
use Rattle.std.proofs.Common.{◌≡◌, ℕ, ◌+◌, ◌≤◌, ◌⊎◌, Some, None, Option, sym, refl, ap, ◌∙◌, inl, inr, arith}
use Rattle.std.proofs.lemmas.Bool.{cases_eq}
use Rattle.rules.specs.Nodes.{times}
use Rattle.rules.specs.Walking.{hit}
use Rattle.rules.proofs.Times.{hit_is}
use Rattle.table.specs.Entries.{Entry, Table, present, names, up_slot, up_of}

pub record Leaf (t t' : Table) (p : ℕ) (e e' : Entry) (x : ℕ) (f : Entry) : Type 0 where
  pub apart : p ≡ x → ⊥
  pub was : t p ≡ Some e
  pub is : t' p ≡ Some e'
  pub free : t x ≡ None
  pub new : t' x ≡ Some f
  pub others : (l : ℕ) → (l ≡ p → ⊥) → (l ≡ x → ⊥) → t' l ≡ t l
  pub naming : (l : ℕ) → times l (names (Some e')) ≡ times l (names (Some e)) + hit x l
  pub leaf : (l : ℕ) → times l (names (Some f)) ≡ 0
  pub up : up_slot e'.node.body ≡ up_slot e.node.body

module _ {t t' : Table} {p : ℕ} {e e' : Entry} {x : ℕ} {f : Entry} (g : Leaf t t' p e e' x f) where
  -- what the two entries of p share, the tables do everywhere but at x
  shared : {X : Type 0} (F : Option Entry → X) → F (Some e') ≡ F (Some e) → (l : ℕ) → (l ≡ x → ⊥) → F (t' l) ≡ F (t l)
  shared F h l nx = elim (cases_eq l p) [
    | inl i ↦ ap (λ j. F (t' j)) i ∙ ap F g.is ∙ h ∙ sym (ap F g.was) ∙ ap (λ j. F (t j)) (sym i)
    | inr np ↦ ap F (g.others l np nx)
  ]

  pub leaf_ups : (l : ℕ) → (l ≡ x → ⊥) → up_of (t' l) ≡ up_of (t l)
  leaf_ups = shared up_of g.up

  pub leaf_present : (l : ℕ) → present (t' l) ≡ present (t l) + hit x l
  leaf_present l = elim (hit_is l x) [
    | inl h ↦ omega (arith, h.1, ap (λ i. present (t' i)) h.0, ap present g.new, ap (λ i. present (t i)) h.0, ap present g.free)
    | inr h ↦ omega (arith, h.1, shared present refl l h.0)
  ]

  -- the leaf names nothing, and the directory one more
  pub leaf_none : (l : ℕ) → (times l (names (t x)) ≡ 0) × (times l (names (t' x)) ≡ 0)
  leaf_none l = (ap (λ o. times l (names o)) g.free, ap (λ o. times l (names o)) g.new ∙ g.leaf l)

  pub leaf_one : (l : ℕ) → times l (names (t' p)) ≡ times l (names (t p)) + hit x l
  leaf_one l = omega (arith, ap (λ o. times l (names o)) g.was, ap (λ o. times l (names o)) g.is, g.naming l)

  pub leaf_names : (q l : ℕ) → (times l (names (t' q)) ≡ times l (names (t q))) ⊎ ((q ≡ p) × (l ≡ x))
  leaf_names q l = elim (cases_eq q p) [
    | inl i ↦ elim (hit_is l x) [
      | inl h ↦ inr (i, h.0)
      | inr h ↦ inl (omega (arith, h.1, leaf_one l, ap (λ j. times l (names (t j))) i, ap (λ j. times l (names (t' j))) i))
    ]
    | inr np ↦ elim (cases_eq q x) [
      | inl i ↦ inl (omega (arith, leaf_none l, ap (λ j. times l (names (t j))) i, ap (λ j. times l (names (t' j))) i))
      | inr nx ↦ inl (ap (λ o. times l (names o)) (g.others q np nx))
    ]
  ]

  -- no descriptor but the leaf's is named more often, or less
  pub leaf_others : (q l : ℕ) → (l ≡ x → ⊥) → times l (names (t' q)) ≡ times l (names (t q))
  leaf_others q l nx = elim (leaf_names q l) [ inl same ↦ same | inr h ↦ absurd (nx h.1) ]

  pub leaf_more : (q l : ℕ) → times l (names (t q)) ≤ times l (names (t' q))
  leaf_more q l = elim (leaf_names q l) [
    | inl same ↦ omega arith
    | inr h ↦ omega (arith, leaf_one l, ap (λ j. times l (names (t j))) h.0, ap (λ j. times l (names (t' j))) h.0)
  ]

  pub leaf_balance : (l : ℕ) → times l (names (t' p)) + times l (names (t' x)) + present (t l) ≡ times l (names (t p)) + times l (names (t x)) + present (t' l)
  leaf_balance l = omega (arith, leaf_one l, leaf_none l, leaf_present l)
