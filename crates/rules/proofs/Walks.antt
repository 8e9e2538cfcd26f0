-- The walk of a survey: how it starts, what a turn does, what a clash shows, and what is known at its end.
use Rattle.std.proofs.Common.{◌≡◌, ℕ, ◌+◌, ◌<◌, ◌≤◌, ◌⊎◌, List, [], ◌∷◌, ◌++◌, sym, refl, ap, ◌∙◌, subst, inl, inr, arith, length-append, le-leb}
use borrow.Author.Tests.{lt-leb}
use Rattle.std.specs.List.{flat_map}
use Rattle.std.proofs.lemmas.Bool.{cases_eq, cases_lt}
use Rattle.devices.specs.Meaning.{Meaning}
use Rattle.layout.specs.Descriptor.{segments, extent}
use Rattle.rules.specs.Nodes.{times, children, at_root, by_slot, holds, Parent, of_root, of_child}
use Rattle.rules.specs.Rules.{sectors_of, map_of, root_at, Found, Inside, SlotsRight, Again, root_too, same_directory, two_directories, Twice, inside, shared, again, Owned}
use Rattle.rules.specs.Walking.{system, Visited, Walking, WalkStarts, WalkTurns, WalkClashes, WalkEnds, WalkLists, WalkFits}
use Rattle.rules.proofs.Joins.{joined_has, joined_two, joined_some}
use Rattle.rules.proofs.Room.{room}
use Rattle.rules.proofs.Times.{hit_is, hit_self, times-++, times-one}

-- whether a sector is the system's, as 1 or 0
pub system_is : (m k : ℕ) → ((k ≤ m) × (system m k ≡ 1)) ⊎ ((m < k) × (system m k ≡ 0))
system_is m k = elim (cases_lt m k) [
  | inl lt ↦ inr (lt, rw (lt-leb k m lt) refl)
  | inr le ↦ inl (le, rw (le-leb k m le) refl)
]

-- a descriptor holds itself
holds_self : (sector : ℕ → List ℕ) (l : ℕ) → 0 < times l (holds sector l)
holds_self sector l = omega (arith, hit_self l)

-- what was visited is held
own : (sector : ℕ → List ℕ) (l : ℕ) (vs : List ℕ) → times l vs ≤ times l (flat_map (holds sector) vs)
own sector l [] = omega arith
own sector l (v ∷ vs) = omega (arith, times-++ l (holds sector v) (flat_map (holds sector) vs), own sector l vs)

-- what is known while the walk is under way
module _ (d : Meaning) (vs ls : List ℕ) (marks : ℕ → ℕ) (w : Walking d vs ls marks) where
  -- nothing is visited or waits twice
  once : (l : ℕ) → times l vs + times l ls ≤ 1
  once l = elim (cases_lt 0 (times l vs + times l ls)) [
    | inl pos ↦
        let lt : l < sectors_of d = (w.within l pos).1 in
        omega (arith, w.marked l lt, w.small l lt, own d.sector l vs)
    | inr le ↦ omega arith
  ]

  -- what waits was not visited
  unvisited : (l v : ℕ) → 0 < times l ls → 0 < times v vs → v ≡ l → ⊥
  unvisited l v waits pos e = omega (arith, once l, ap (λ i. times i vs) e)

  seen : (v : ℕ) → 0 < times v vs → Found d v
  seen v pos = w.found v (omega arith)

  -- a descriptor that was visited or waits already is named again
  named_again : (l k : ℕ) → 0 < times l ls → 0 < times k vs + times k ls → 0 < times k (children d.sector l) → Again d k
  named_again l k waits there child =
      let r : Found d l = w.found l (omega arith) in
      elim (hit_is k (root_at d)) [
        | inl h ↦ root_too l r h.0 child
        | inr h ↦
            let p = joined_some k (children d.sector) vs (omega (arith, w.named k, h.1)) in
            two_directories p.0 l (unvisited l p.0 waits p.1) (seen p.0 p.1) r p.2 child
      ]

  module _ (l k : ℕ) (waits : 0 < times l ls) where
    reached : Found d l
    reached = w.found l (omega arith)

    -- a sector of a segment, which was marked or is a child's
    segment_clash : 0 < times k (extent (segments (d.sector l))) → Found d k → Twice d k
    segment_clash seg r = elim (hit_is k l) [
      | inl h ↦ inside l reached (omega (arith, h.1))
      | inr h ↦ shared l k (λ e. h.0 (sym e)) reached r (omega arith) (holds_self d.sector k)
    ]

    -- a sector of what was visited
    held_clash : 0 < times k (flat_map (holds d.sector) vs) → 0 < times k (extent (segments (d.sector l))) + times k (children d.sector l) → Twice d k
    held_clash held new =
        let v = joined_some k (holds d.sector) vs held in
        elim (cases_lt 0 (times k (children d.sector l))) [
          | inl child ↦
              let r : Found d k = by_slot l k reached child in
              elim (cases_eq v.0 k) [
                | inl e ↦ again k r (named_again l k waits (omega (arith, v.1, ap (λ i. times i vs) e)) child) (holds_self d.sector k)
                | inr ne ↦ shared v.0 k ne (seen v.0 v.1) r v.2 (holds_self d.sector k)
              ]
          | inr le ↦ shared v.0 l (unvisited l v.0 waits v.1) (seen v.0 v.1) reached v.2 (omega arith)
        ]

    -- a descriptor that waits
    waiting_clash : 0 < times k ls → 0 < times k (extent (segments (d.sector l))) + times k (children d.sector l) → Twice d k
    waiting_clash too new =
        let r : Found d k = w.found k (omega arith) in
        elim (cases_lt 0 (times k (children d.sector l))) [
          | inl child ↦ again k r (named_again l k waits (omega arith) child) (holds_self d.sector k)
          | inr le ↦ segment_clash (omega arith) r
        ]

    -- a sector that is new twice
    new_clash : 2 ≤ times k (extent (segments (d.sector l))) + times k (children d.sector l) → Twice d k
    new_clash two = elim (cases_lt 0 (times k (children d.sector l))) [
      | inl child ↦
          let r : Found d k = by_slot l k reached child in
          elim (cases_lt 0 (times k (extent (segments (d.sector l))))) [
            | inl seg ↦ segment_clash seg r
            | inr le ↦ again k r (same_directory l reached (omega arith)) (holds_self d.sector k)
          ]
      | inr le ↦ inside l reached (omega arith)
    ]

pub walk_starts : WalkStarts
walk_starts d marks ins are =
    let is : (l : ℕ) → 0 < times l [] + times l (root_at d ∷ []) → l ≡ root_at d = λ l pos. times-one l (root_at d) (omega arith) in
    record {
      marked = λ k lt. omega (arith, are k lt);
      small = λ k lt. elim (system_is (map_of d) k) [
        | inl s ↦ elim (hit_is k (root_at d)) [ inl h ↦ absurd (omega (arith, h.0, s.0, ins.0)) | inr h ↦ omega (arith, are k lt, h.1, s.1) ]
        | inr s ↦ elim (hit_is k (root_at d)) [ inl h ↦ omega (arith, are k lt, h.1, s.1) | inr h ↦ omega (arith, are k lt, h.1, s.1) ]
      ];
      named = λ l. omega arith;
      found = λ l pos. subst (Found d) (sym (is l pos)) at_root;
      within = λ l pos. subst (Inside d) (sym (is l pos)) ins;
      visited = λ l pos. absurd (omega arith);
    }

pub walk_turns : WalkTurns
walk_turns d vs ls ls' l marks marks' w waits v moved marked small =
    -- what was visited and waits now was so before, or is a child
    let was : (k : ℕ) → 0 < times k (l ∷ vs) + times k ls' → (0 < times k vs + times k ls) ⊎ (0 < times k (children d.sector l)) =
    λ k pos. elim (cases_lt 0 (times k (children d.sector l))) [
      | inl lt ↦ inr lt
      | inr le ↦ inl (omega (arith, moved k))
    ] in
    record {
      marked = λ k lt. omega (arith, marked k lt, w.marked k lt, moved k, times-++ k (holds d.sector l) (flat_map (holds d.sector) vs));
      small = small;
      named = λ k. omega (arith, w.named k, moved k, times-++ k (children d.sector l) (flat_map (children d.sector) vs));
      found = λ k pos. elim (was k pos) [
        | inl old ↦ w.found k old
        | inr new ↦ by_slot l k (w.found l (omega arith)) new
      ];
      within = λ k pos. elim (was k pos) [
        | inl old ↦ w.within k old
        | inr new ↦ v.rule_b.children_inside k new
      ];
      visited = λ k pos. elim (hit_is k l) [
        | inl h ↦ subst (Visited d) (sym h.0) v
        | inr h ↦ w.visited k (omega (arith, h.1))
      ];
    }

pub walk_clashes : WalkClashes
walk_clashes d vs ls l marks w waits k ins two =
    let are = w.marked k ins.1 in
    let few = w.small k ins.1 in
    let free : system (map_of d) k ≡ 0 = elim (system_is (map_of d) k) [ inl s ↦ absurd (omega (arith, s.0, ins.0)) | inr s ↦ s.1 ] in
    elim (cases_lt 0 (times k (flat_map (holds d.sector) vs))) [
      | inl held ↦ held_clash d vs ls marks w l k waits held (omega arith)
      | inr none ↦ elim (cases_lt 0 (times k ls)) [
        | inl too ↦ waiting_clash d vs ls marks w l k waits too (omega arith)
        | inr le ↦ new_clash d vs ls marks w l k waits (omega arith)
      ]
    ]

pub walk_fits : WalkFits
walk_fits d vs ls marks w =
    let both : (k : ℕ) → times k (vs ++ ls) ≡ times k vs + times k ls = λ k. times-++ k vs ls in
    let fits = room (sectors_of d) (vs ++ ls) (λ k. omega (arith, both k, once d vs ls marks w k)) (λ k pos. (w.within k (omega (arith, both k))).1) in
    omega (arith, length-append vs ls)

-- a parent is the root's, or a reached directory that names its child
parent_is : (d : Meaning) (p l : ℕ) → Parent d.sector (root_at d) p l → ((p ≡ root_at d) × (l ≡ root_at d)) ⊎ (Found d p × (0 < times l (children d.sector p)))
parent_is d _ _ of_root = inl (refl, refl)
parent_is d _ _ (of_child p l r pos) = inr (r, pos)

-- what is known at the end, where nothing waits
module _ (d : Meaning) (vs : List ℕ) (marks : ℕ → ℕ) (w : Walking d vs [] marks) where
  -- everything that is reached was visited
  all_visited : (l : ℕ) → Found d l → 0 < times l vs
  all_visited _ at_root = omega (arith, w.named (root_at d), hit_self (root_at d))
  all_visited _ (by_slot p l r pos) = omega (arith, w.named l, joined_has l (children d.sector) p vs (all_visited p r))

  -- nothing is named twice, the root once with no slot
  named_once : (l : ℕ) → times l (root_at d ∷ flat_map (children d.sector) vs) ≤ 1
  named_once l = omega (arith, w.named l, once d vs [] marks w l)

  child_of : (p l : ℕ) → Found d p → times l (children d.sector p) ≤ times l (flat_map (children d.sector) vs)
  child_of p l r = joined_has l (children d.sector) p vs (all_visited p r)

  child_of_two : (p q l : ℕ) → (p ≡ q → ⊥) → Found d p → Found d q → times l (children d.sector p) + times l (children d.sector q) ≤ times l (flat_map (children d.sector) vs)
  child_of_two p q l ne r s = joined_two l (children d.sector) p q vs ne (all_visited p r) (all_visited q s)

  not_again : (l : ℕ) → Again d l → ⊥
  not_again l (root_too p r e pos) = elim (hit_is l (root_at d)) [ inl h ↦ omega (arith, named_once l, child_of p l r, h.1) | inr h ↦ h.0 e ]
  not_again l (same_directory p r two) = omega (arith, named_once l, child_of p l r)
  not_again l (two_directories p q ne r s pos pos') = omega (arith, named_once l, child_of_two p q l ne r s)

  one_parent : (p q l : ℕ) → Parent d.sector (root_at d) p l → Parent d.sector (root_at d) q l → p ≡ q
  one_parent p q l a b = elim (parent_is d p l a) [
    | inl h ↦ elim (parent_is d q l b) [
      | inl i ↦ h.0 ∙ sym i.0
      | inr i ↦ absurd (not_again l (root_too q i.0 h.1 i.1))
    ]
    | inr h ↦ elim (parent_is d q l b) [
      | inl i ↦ absurd (not_again l (root_too p h.0 i.1 h.1))
      | inr i ↦ elim (cases_eq p q) [ inl e ↦ e | inr ne ↦ absurd (not_again l (two_directories p q ne h.0 i.0 h.1 i.1)) ]
    ]
  ]

  visit_of : (l : ℕ) → Found d l → Visited d l
  visit_of l r = w.visited l (all_visited l r)

  -- what a reached descriptor holds lies within the volume
  held_below : (l k : ℕ) → Found d l → 0 < times k (holds d.sector l) → k < sectors_of d
  held_below l k r pos = elim (hit_is k l) [
    | inl h ↦ omega (arith, h.0, (w.within l (omega (arith, all_visited l r))).1)
    | inr h ↦ ((visit_of l r).rule_b.segments_inside k (omega (arith, h.1))).1
  ]

  held_once : (k : ℕ) → k < sectors_of d → times k (flat_map (holds d.sector) vs) ≤ 1
  held_once k lt = omega (arith, w.marked k lt, w.small k lt)

  held_by : (l k : ℕ) → Found d l → times k (holds d.sector l) ≤ times k (flat_map (holds d.sector) vs)
  held_by l k r = joined_has k (holds d.sector) l vs (all_visited l r)

  not_twice : (k : ℕ) → Twice d k → ⊥
  not_twice k (inside l r two) = omega (arith, held_once k (held_below l k r (omega arith)), held_by l k r)
  not_twice k (shared l l' ne r s pos pos') = omega (arith, held_once k (held_below l k r pos), joined_two k (holds d.sector) l l' vs ne (all_visited l r) (all_visited l' s))
  not_twice k (again l r a pos) = not_again l a

  is_owned : (k : ℕ) → k < sectors_of d → marks k ≡ 1 → Owned d k
  is_owned k lt one = elim (system_is (map_of d) k) [
    | inl s ↦ inl s.0
    | inr s ↦
        let v = joined_some k (holds d.sector) vs (omega (arith, w.marked k lt, s.1)) in
        inr (record { by = v.0; there = w.found v.0 (omega (arith, v.1)); has = v.2 })
  ]

  is_marked : (k : ℕ) → k < sectors_of d → Owned d k → marks k ≡ 1
  is_marked k lt (inl le) = elim (system_is (map_of d) k) [ inl s ↦ omega (arith, w.marked k lt, w.small k lt, s.1) | inr s ↦ absurd (omega (arith, s.0)) ]
  is_marked k lt (inr h) = omega (arith, w.marked k lt, w.small k lt, h.has, held_by h.by k h.there)

pub walk_ends : WalkEnds
walk_ends d vs marks ins w =
    record {
      rule_b = λ l r. (visit_of d vs marks w l r).rule_b;
      rule_c = λ l r. (visit_of d vs marks w l r).rule_c;
      rule_d = λ l r. (visit_of d vs marks w l r).rule_d;
      rule_e = λ l r dir p of.
          let v = visit_of d vs marks w l r in
          subst (SlotsRight d l) (one_parent d vs marks w v.parent p l v.of_parent of) (v.slots_right dir);
      rule_f = λ l r. (visit_of d vs marks w l r).rule_f;
      rule_g = not_twice d vs marks w;
      below = held_below d vs marks w;
      small = w.small;
      owned = is_owned d vs marks w;
      others = is_marked d vs marks w;
    }

pub walk_lists : WalkLists
walk_lists d vs marks w =
    record {
      all = λ l r. omega (arith, all_visited d vs marks w l r, once d vs [] marks w l);
      only = λ l pos. w.found l (omega arith);
    }
