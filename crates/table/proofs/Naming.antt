-- Slots of a directory, and how often they name a descriptor.
use Rattle.std.proofs.Common.{◌≡◌, ℕ, zero, suc, ◌+◌, ◌-◌, ◌<◌, ◌≤◌, List, [], ◌∷◌, ◌++◌, length, get_or, drop, set, Some, sym, ap, ◌∙◌, inl, inr, arith, length-drop}
use Rattle.std.proofs.lemmas.List.{drop-set-add, drop-append-le, get_or-drop, get_or-set_other, get_or_append_left}
use Rattle.layout.specs.Directory.{Slot, empty, entry}
use Rattle.rules.specs.Nodes.{times, named_by}
use Rattle.rules.specs.Walking.{hit}
use Rattle.rules.proofs.Times.{hit_is, hit_self}
use Rattle.table.specs.Entries.{directory, Entry, named_in, names, up_slot}

-- whether a slot names l, as 1 or 0
abbrev pub points : ℕ → Slot → ℕ
points l empty = 0
points l (entry n x) = hit x l

named_cons : (l : ℕ) (s : Slot) (ss : List Slot) → times l (named_by (s ∷ ss)) ≡ points l s + times l (named_by ss)
named_cons l empty ss = omega arith
named_cons l (entry n x) ss = omega arith

-- a slot is replaced
named_set : (l : ℕ) (ss : List Slot) (i : ℕ) (v : Slot) → i < length ss → times l (named_by (set ss i v)) + points l (get_or ss i empty) ≡ times l (named_by ss) + points l v
named_set l [] i v lt = absurd (omega arith)
named_set l (s ∷ ss) zero v lt = omega (arith, named_cons l s ss, named_cons l v ss)
named_set l (s ∷ ss) (suc i) v lt = omega (arith, named_cons l s ss, named_cons l s (set ss i v), named_set l ss i v (omega arith))

-- a slot comes behind the last
named_push : (l : ℕ) (ss : List Slot) (v : Slot) → times l (named_by (ss ++ v ∷ [])) ≡ times l (named_by ss) + points l v
named_push l [] v = omega (arith, named_cons l v [])
named_push l (s ∷ ss) v = omega (arith, named_cons l s ss, named_cons l s (ss ++ v ∷ []), named_push l ss v)

-- a descriptor that is named has a slot, and a slot's descriptor is named
named_some : (l : ℕ) (ss : List Slot) → 0 < times l (named_by ss) → (i : ℕ) × (n : List ℕ) × (i < length ss) × (get_or ss i empty ≡ entry n l)
named_some l [] pos = absurd (omega arith)
named_some l (empty ∷ ss) pos = let r = named_some l ss (omega arith) in (suc r.0, r.1, omega (arith, r.2), r.3)
named_some l (entry n x ∷ ss) pos = elim (hit_is l x) [
  | inl h ↦ (0, n, omega arith, ap (entry n) (sym h.0))
  | inr h ↦ let r = named_some l ss (omega (arith, h.1)) in (suc r.0, r.1, omega (arith, r.2), r.3)
]

named_has : (l : ℕ) (ss : List Slot) (i : ℕ) (n : List ℕ) → get_or ss i empty ≡ entry n l → 0 < times l (named_by ss)
named_has l [] i n is = absurd (cc)
named_has l (s ∷ ss) zero n is = omega (arith, named_cons l s ss, ap (points l) is, hit_self l)
named_has l (s ∷ ss) (suc i) n is = omega (arith, named_cons l s ss, named_has l ss i n is)

module _ (l : ℕ) (ss : List Slot) where
  pub child_set : (i : ℕ) (v : Slot) → 2 ≤ i → i < length ss → times l (named_by (drop 2 (set ss i v))) + points l (get_or ss i empty) ≡ times l (named_by (drop 2 ss)) + points l v
  child_set i v two lt =
      let at : 2 + (i - 2) ≡ i = omega arith in
      let there : get_or (drop 2 ss) (i - 2) empty ≡ get_or ss i empty = get_or-drop 2 ss (i - 2) empty ∙ ap (λ j. get_or ss j empty) at in
      let after : drop 2 (set ss i v) ≡ set (drop 2 ss) (i - 2) v = ap (λ j. drop 2 (set ss j v)) (sym at) ∙ drop-set-add 2 ss (i - 2) v in
      omega (arith, ap (λ xs. times l (named_by xs)) after, ap (points l) there, named_set l (drop 2 ss) (i - 2) v (simp length-drop (omega arith)))

  pub child_push : (v : Slot) → 2 ≤ length ss → times l (named_by (drop 2 (ss ++ v ∷ []))) ≡ times l (named_by (drop 2 ss)) + points l v
  child_push v two = ap (λ xs. times l (named_by xs)) (drop-append-le 2 ss (v ∷ []) two) ∙ named_push l (drop 2 ss) v

  pub child_some : 0 < times l (named_by (drop 2 ss)) → (i : ℕ) × (n : List ℕ) × (2 ≤ i) × (i < length ss) × (get_or ss i empty ≡ entry n l)
  child_some pos =
      let r = named_some l (drop 2 ss) pos in
      (2 + r.0, r.1, omega arith, omega (arith, simp length-drop at r.2), sym (get_or-drop 2 ss r.0 empty) ∙ r.3)

  pub child_has : (i : ℕ) (n : List ℕ) → 2 ≤ i → get_or ss i empty ≡ entry n l → 0 < times l (named_by (drop 2 ss))
  child_has i n two is =
      let at : 2 + (i - 2) ≡ i = omega arith in
      named_has l (drop 2 ss) (i - 2) n (get_or-drop 2 ss (i - 2) empty ∙ ap (λ j. get_or ss j empty) at ∙ is)

-- a directory whose slots change: what it names, and that slot 1 stays
module _ (e e' : Entry) (ss : List Slot) (was : e.node.body ≡ directory ss) where
  body_names : (f : Entry) (rs : List Slot) → f.node.body ≡ directory rs → (l : ℕ) → times l (names (Some f)) ≡ times l (named_by (drop 2 rs))
  body_names f rs is l = ap (λ b. times l (named_in b)) is

  -- an empty slot gets a name
  pub naming_put : (i : ℕ) (n : List ℕ) (x : ℕ) → e'.node.body ≡ directory (set ss i (entry n x)) → 2 ≤ i → i < length ss → get_or ss i empty ≡ empty → (l : ℕ) → times l (names (Some e')) ≡ times l (names (Some e)) + hit x l
  naming_put i n x is two lt free l =
      omega (arith, body_names e ss was l, body_names e' (set ss i (entry n x)) is l, child_set l ss i (entry n x) two lt, ap (points l) free)

  -- a slot comes behind the last
  pub naming_push : (n : List ℕ) (x : ℕ) → e'.node.body ≡ directory (ss ++ entry n x ∷ []) → 2 ≤ length ss → (l : ℕ) → times l (names (Some e')) ≡ times l (names (Some e)) + hit x l
  naming_push n x is two l = omega (arith, body_names e ss was l, body_names e' (ss ++ entry n x ∷ []) is l, child_push l ss (entry n x) two)

  -- a slot is emptied
  pub naming_clear : (i : ℕ) (n : List ℕ) (x : ℕ) → e'.node.body ≡ directory (set ss i empty) → 2 ≤ i → i < length ss → get_or ss i empty ≡ entry n x → (l : ℕ) → times l (names (Some e)) ≡ times l (names (Some e')) + hit x l
  naming_clear i n x is two lt there l =
      omega (arith, body_names e ss was l, body_names e' (set ss i empty) is l, child_set l ss i empty two lt, ap (points l) there)

  pub up_set : (i : ℕ) (v : Slot) → e'.node.body ≡ directory (set ss i v) → 2 ≤ i → up_slot e'.node.body ≡ up_slot e.node.body
  up_set i v is two = ap up_slot is ∙ ap Some (get_or-set_other ss i 1 v empty (λ z. omega arith)) ∙ sym (ap up_slot was)

  pub up_push : (v : Slot) → e'.node.body ≡ directory (ss ++ v ∷ []) → 2 ≤ length ss → up_slot e'.node.body ≡ up_slot e.node.body
  up_push v is two = ap up_slot is ∙ ap Some (get_or_append_left ss (v ∷ []) empty 1 (omega arith)) ∙ sym (ap up_slot was)
