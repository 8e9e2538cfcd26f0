-- The walk, one visit after another.
use Rattle.std.proofs.Common.{◌≡◌, ℕ, ◌+◌, ◌-◌, ◌<◌, ◌≤◌, true, ◌⊎◌, List, [], ◌∷◌, ◌++◌, map, length, get_or, take, Some, Err, sym, refl, ap, ◌∙◌, subst, inl, inr, arith, length-append}
use Rattle.std.proofs.lemmas.List.{take_more, map-append, get_or-take, get_or-map, get_or-append_right, length-map, length-take-le, get_or_default}
use Rattle.std.proofs.lemmas.Bool.{cases_lt}
use Rattle.devices.specs.Meaning.{Meaning, Fails, Refuses}
use Rattle.devices.specs.declared.device.Cause.{Cause}
use Rattle.devices.specs.declared.device.Cause.TheVariants.{Length, Range, Bad}
use Rattle.devices.specs.declared.device.DeviceFault.{DeviceFault}
use Rattle.layout.specs.Descriptor.{segments, extent}
use Rattle.rules.specs.Nodes.{times, is_directory, children, holds, Parent, of_root, of_child}
use Rattle.rules.specs.Rules.{sectors_of, map_of, root_at, Found, Inside, RuleB, RuleC, RuleD, RuleE, RuleF, Wanted, Broken}
use Rattle.rules.specs.Walking.{system, hit, Visited, Walking, Walked}
use Rattle.rules.specs.declared.rule.Rule.{Rule}
use Rattle.rules.specs.declared.rule.Rule.TheVariants as rule
use Rattle.rules.proofs.Times.{hit_is, times-++}
use Rattle.rules.proofs.Walks.{walk_starts, walk_turns, walk_clashes, walk_fits, walk_ends}
use Rattle.survey.specs.Lists.{Popped, Ready}
use Rattle.survey.specs.Names.{nobody}
use Rattle.survey.specs.Scanning.{lsns}
use Rattle.survey.specs.Visiting.{Visit, VisitBreaks, VisitAnswer}
use Rattle.survey.specs.Walks.{WalkAnswer}
use Rattle.survey.specs.declared.finding.Finding.{Finding}
use Rattle.survey.specs.declared.finding.Finding.TheVariants as finding
use Rattle.survey.specs.declared.waiting.Waiting.{Waiting}
use Rattle.survey.specs.declared.work_lists.WorkLists.{WorkLists}
use Rattle.rules.proofs.Members.{get_or-times}

-- after some turns: what was visited, and what waits with its parent
pub record Going (d : Meaning) (m₀ m : List ℕ) (ws : List Waiting) (turn count : ℕ) : Type 0 where
  pub vs : List ℕ
  pub long : length vs ≡ turn
  pub walking : Walking d vs (lsns count ws) (λ k. get_or m k 0)
  pub parents : (i : ℕ) → i < count → Parent d.sector (root_at d) (get_or ws i nobody).parent (get_or ws i nobody).lsn
  pub most : count ≤ length ws
  pub later : (k : ℕ) → sectors_of d ≤ k → get_or m k 0 ≡ get_or m₀ k 0

length-lsns : (n : ℕ) (ws : List Waiting) → n ≤ length ws → length (lsns n ws) ≡ n
length-lsns n ws le = length-map (take n ws) (λ (w : Waiting). w.lsn) ∙ length-take-le n ws le

lsns_more : (n : ℕ) (ws : List Waiting) → n < length ws → lsns (n + 1) ws ≡ lsns n ws ++ (get_or ws n nobody).lsn ∷ []
lsns_more n ws lt = ap (map (λ (w : Waiting). w.lsn)) (take_more ws n nobody lt) ∙ map-append (λ (w : Waiting). w.lsn) (take n ws) (get_or ws n nobody ∷ [])

lsns_at : (n i : ℕ) (ws : List Waiting) → n ≤ length ws → i < n → get_or (lsns n ws) i 0 ≡ (get_or ws i nobody).lsn
lsns_at n i ws le lt =
    get_or-map (λ (w : Waiting). w.lsn) (take n ws) i nobody 0 (omega (arith, length-take-le n ws le)) ∙ ap (λ (w : Waiting). w.lsn) (get_or-take n ws i nobody lt)

module _ (d : Meaning) (m₀ m : List ℕ) (ws : List Waiting) (turn base : ℕ) (s : Going d m₀ m ws turn (base + 1)) where
  -- the one that is visited
  abbrev l : ℕ
  l = (get_or ws base nobody).lsn

  abbrev p : ℕ
  p = (get_or ws base nobody).parent

  fits : base < length ws
  fits = omega (arith, s.most)

  one_more : (c : ℕ) → times c (lsns (base + 1) ws) ≡ times c (lsns base ws) + times c (l ∷ [])
  one_more c = ap (times c) (lsns_more base ws fits) ∙ times-++ c (lsns base ws) (l ∷ [])

  waits : 0 < times l (lsns (base + 1) ws)
  waits = elim (hit_is l l) [ inl h ↦ omega (arith, one_more l, h.1) | inr h ↦ absurd (h.0 refl) ]

  found : Found d l
  found = s.walking.found l (omega (arith, waits))

  parent : Parent d.sector (root_at d) p l
  parent = s.parents base (omega arith)

  pub going_inside : (c : ℕ) → 0 < times c (lsns base ws) → c < sectors_of d
  going_inside c pos = (s.walking.within c (omega (arith, one_more c))).1

  pub going_listed : (c : ℕ) → times c (lsns base ws) ≤ get_or m c 0
  going_listed c = elim (cases_lt c (sectors_of d)) [
    | inl lt ↦ omega (arith, s.walking.marked c lt, one_more c)
    | inr ge ↦ elim (cases_lt 0 (times c (lsns base ws))) [ inl some ↦ absurd (omega (arith, going_inside c some)) | inr none ↦ omega arith ]
  ]

  pub going_small : (c : ℕ) → c < sectors_of d → get_or m c 0 ≤ 1
  going_small c lt = s.walking.small c lt

  -- a visit
  module _ (n : ℕ) (m' : List ℕ) (ws' : List Waiting) (v : Visit d l p (map_of d) (sectors_of d) base n m m' ws ws') where
    seen : Visited d l
    seen =
        record {
          rule_b = record { segments_inside = v.points.segments_inside; children_inside = v.points.children_inside };
          rule_c = v.rule_c;
          rule_d = v.rule_d;
          rule_f = v.rule_f;
          parent = p;
          of_parent = parent;
          slots_right = v.slots_right;
        }

    all_wait : (c : ℕ) → times c (lsns n ws') ≡ times c (lsns base ws) + times c (children d.sector l)
    all_wait c = ap (times c) v.lsns_are ∙ times-++ c (lsns base ws) (children d.sector l)

    how_many : n ≡ base + length (children d.sector l)
    how_many =
        sym (length-lsns n ws' v.most) ∙ ap length v.lsns_are ∙ length-append (lsns base ws) (children d.sector l)
        ∙ ap (λ k. k + length (children d.sector l)) (length-lsns base ws (omega (arith, fits)))

    new_child : (i : ℕ) → base ≤ i → i < n → 0 < times (get_or ws' i nobody).lsn (children d.sector l)
    new_child i le lt =
        let at : (get_or ws' i nobody).lsn ≡ get_or (children d.sector l) (i - base) 0 =
        sym (lsns_at n i ws' v.most lt) ∙ ap (λ xs. get_or xs i 0) v.lsns_are ∙ get_or-append_right (lsns base ws) (children d.sector l) base i 0 (length-lsns base ws (omega (arith, fits))) le in
        omega (arith, get_or-times (children d.sector l) (i - base) (omega (arith, how_many)), ap (λ c. times c (children d.sector l)) at)

    old_same : (i : ℕ) → i < base → get_or ws' i nobody ≡ get_or ws i nobody
    old_same i lt = sym (get_or-take base ws' i nobody lt) ∙ ap (λ (xs : List Waiting). get_or xs i nobody) v.old ∙ get_or-take base ws i nobody lt

    pub going_on : Going d m₀ m' ws' (turn + 1) n
    going_on =
        record {
          vs = l ∷ s.vs;
          long = omega (arith, s.long);
          walking = walk_turns d s.vs (lsns (base + 1) ws) (lsns n ws') l (λ k. get_or m k 0) (λ k. get_or m' k 0) s.walking waits seen (λ k. omega (arith, all_wait k, one_more k)) (λ k lt. v.marked k) v.small;
          parents = λ i lt. elim (cases_lt i base) [
            | inl low ↦
                let e = old_same i low in
                subst (λ (w : Waiting). Parent d.sector (root_at d) w.parent w.lsn) (sym e) (s.parents i (omega arith))
            | inr high ↦
                subst (λ (q : ℕ). Parent d.sector (root_at d) q (get_or ws' i nobody).lsn) (sym (v.parents i high lt)) (of_child l (get_or ws' i nobody).lsn found (new_child i high lt))
          ];
          most = v.most;
          later = λ k ge.
              let none-a : times k (extent (segments (d.sector l))) ≡ 0 = elim (cases_lt 0 (times k (extent (segments (d.sector l))))) [ inl some ↦ absurd (omega (arith, (v.points.segments_inside k some).1)) | inr none ↦ omega arith ] in
              let none-b : times k (children d.sector l) ≡ 0 = elim (cases_lt 0 (times k (children d.sector l))) [ inl some ↦ absurd (omega (arith, (v.points.children_inside k some).1)) | inr none ↦ omega arith ] in
              omega (arith, v.marked k, none-a, none-b, s.later k ge);
        }

  -- what a visit finds is truly broken
  pub going_breaks : (r : Rule) (at : ℕ) → VisitBreaks d l p (map_of d) (sectors_of d) m r at → Broken d r at
  going_breaks rule.A at b = absurd b
  going_breaks rule.B at b = inr (subst (λ (k : ℕ). Found d k × (RuleB d k → ⊥)) (sym b.0) (found, λ right. b.1 (record { segments_inside = right.segments_inside; children_inside = right.children_inside })))
  going_breaks rule.C at b = subst (λ (k : ℕ). Found d k × (RuleC d k → ⊥)) (sym b.0) (found, b.1)
  going_breaks rule.D at b = subst (λ (k : ℕ). Found d k × (RuleD d k → ⊥)) (sym b.0) (found, b.1)
  going_breaks rule.E at b = subst (λ (k : ℕ). Found d k × (is_directory (d.sector k) ≡ true) × (RuleE d k → ⊥)) (sym b.0) (found, b.1, λ right. b.2 (right p parent))
  going_breaks rule.F at b = inr (subst (λ (k : ℕ). Found d k × (RuleF d k → ⊥)) (sym b.0) (found, b.1))
  going_breaks rule.G at b = walk_clashes d s.vs (lsns (base + 1) ws) l (λ k. get_or m k 0) s.walking waits at (b.0, b.1) b.2
  going_breaks rule.H at b = absurd b

  -- a sector that a visit could not read is one that is held, and so it is bad
  pub going_unread : (f : DeviceFault) → sectors_of d ≤ d.count → 0 < times f.lsn (holds d.sector l) → Refuses d f.lsn 256 f → (f.lsn ≡ l) ⊎ (f.lsn < sectors_of d) → (f.cause ≡ Bad) × (d.bad f.lsn ≡ true) × Wanted d f.lsn
  going_unread f there has no_one low =
      let lt : f.lsn < sectors_of d = elim low [ inl e ↦ omega (arith, e, (s.walking.within l (omega (arith, waits))).1) | inr less ↦ less ] in
      let bad = spoilt f.lsn f.cause (omega arith) no_one.1 in
      (bad.0, bad.1, (lt, inl (inr (record { by = l; there = found; has = has }))))
    where
      spoilt : (k : ℕ) (c : Cause) → k < d.count → Fails d k 256 c → (c ≡ Bad) × (d.bad k ≡ true)
      spoilt k Length lt e = absurd (e refl)
      spoilt k Range lt e = absurd (omega (arith, e.1))
      spoilt k Bad lt e = (refl, e.2)

-- the start, and the end
pub going_starts : (d : Meaning) (m₀ m : List ℕ) (ws : List Waiting) → Inside d (root_at d) → ((k : ℕ) → k < sectors_of d → get_or m k 0 ≡ system (map_of d) k + hit (root_at d) k) → ((k : ℕ) → sectors_of d ≤ k → get_or m k 0 ≡ get_or m₀ k 0) → 1 ≤ length ws → (get_or ws 0 nobody).lsn ≡ root_at d → (get_or ws 0 nobody).parent ≡ root_at d → Going d m₀ m ws 0 1
going_starts d m₀ m ws in-volume set_up later some lsn parent =
    record {
      vs = [];
      long = refl;
      walking = subst (λ (ls : List ℕ). Walking d [] ls (λ k. get_or m k 0)) (sym (lsns_more 0 ws some ∙ ap (λ n. n ∷ []) lsn)) (walk_starts d (λ k. get_or m k 0) in-volume set_up);
      parents = λ i lt.
          let e : i ≡ 0 = omega arith in
          subst (λ (j : ℕ). Parent d.sector (root_at d) (get_or ws j nobody).parent (get_or ws j nobody).lsn) (sym e)
          (subst (λ (q : ℕ). Parent d.sector (root_at d) q (get_or ws 0 nobody).lsn) (sym parent) (subst (λ (q : ℕ). Parent d.sector (root_at d) (root_at d) q) (sym lsn) of_root));
      most = some;
      later = later;
    }

pub going_ends : (d : Meaning) (m₀ m : List ℕ) (ws : List Waiting) (turn : ℕ) → Inside d (root_at d) → Going d m₀ m ws turn 0 → Walked d (λ k. get_or m k 0) × ((k : ℕ) → sectors_of d ≤ k → get_or m k 0 ≡ get_or m₀ k 0)
going_ends d m₀ m ws turn in-volume s = (walk_ends d s.vs (λ k. get_or m k 0) in-volume s.walking, s.later)

-- after as many turns as the volume has sectors nothing waits
pub going_done : (d : Meaning) (m₀ m : List ℕ) (ws : List Waiting) (turn count : ℕ) → sectors_of d ≤ turn → Going d m₀ m ws turn count → count ≡ 0
going_done d m₀ m ws turn count le s = omega (arith, walk_fits d s.vs (lsns count ws) (λ k. get_or m k 0) s.walking, s.long, length-lsns count ws s.most)

-- the same, as a turn of the loop has it: the last of those that wait is visited
module _ (d : Meaning) (m₀ m : List ℕ) (ws : List Waiting) (turn count low high : ℕ) (map_is : low ≡ map_of d) (total_is : high ≡ sectors_of d) (some : count ≡ 0 → ⊥) (s : Going d m₀ m ws turn count) (x : Waiting) where
  going_last : Going d m₀ m ws turn ((count - 1) + 1)
  going_last = subst (λ (n : ℕ). Going d m₀ m ws turn n) (omega arith) s

  last_is : get_or ws (count - 1) x ≡ get_or ws (count - 1) nobody
  last_is = get_or_default ws (count - 1) x nobody (omega (arith, s.most))

  pub turn_listed : (c : ℕ) → times c (lsns (count - 1) ws) ≤ get_or m c 0
  turn_listed = going_listed d m₀ m ws turn (count - 1) going_last

  pub turn_inside : (c : ℕ) → 0 < times c (lsns (count - 1) ws) → c < high
  turn_inside c pos = omega (arith, total_is, going_inside d m₀ m ws turn (count - 1) going_last c pos)

  pub turn_small : (c : ℕ) → c < high → get_or m c 0 ≤ 1
  turn_small c lt = s.walking.small c (omega (arith, total_is))

  pub turn_on : (n : ℕ) (m' : List ℕ) (ws' : List Waiting) → Visit d (get_or ws (count - 1) x).lsn (get_or ws (count - 1) x).parent low high (count - 1) n m m' ws ws' → Going d m₀ m' ws' (turn + 1) n
  turn_on n m' ws' v =
      going_on d m₀ m ws turn (count - 1) going_last n m' ws'
      (subst (λ (w : Waiting). Visit d w.lsn w.parent (map_of d) (sectors_of d) (count - 1) n m m' ws ws') last_is
      (subst (λ (h : ℕ). Visit d (get_or ws (count - 1) x).lsn (get_or ws (count - 1) x).parent (map_of d) h (count - 1) n m m' ws ws') total_is
      (subst (λ (h : ℕ). Visit d (get_or ws (count - 1) x).lsn (get_or ws (count - 1) x).parent h high (count - 1) n m m' ws ws') map_is v)))

  pub turn_finds : (there : high ≤ d.count) (mₑ m' : List ℕ) (ws' : List Waiting) (f : Finding) → VisitAnswer d (get_or ws (count - 1) x).lsn (get_or ws (count - 1) x).parent low high (count - 1) m m' ws ws' (Err f) → WalkAnswer d mₑ m' (Err f)
  turn_finds there mₑ m' ws' f v =
      either f
      (subst (λ (w : Waiting). VisitAnswer d w.lsn w.parent (map_of d) (sectors_of d) (count - 1) m m' ws ws' (Err f)) last_is
      (subst (λ (h : ℕ). VisitAnswer d (get_or ws (count - 1) x).lsn (get_or ws (count - 1) x).parent (map_of d) h (count - 1) m m' ws ws' (Err f)) total_is
      (subst (λ (h : ℕ). VisitAnswer d (get_or ws (count - 1) x).lsn (get_or ws (count - 1) x).parent h high (count - 1) m m' ws ws' (Err f)) map_is v)))
    where
      either : (f : Finding) → VisitAnswer d (get_or ws (count - 1) nobody).lsn (get_or ws (count - 1) nobody).parent (map_of d) (sectors_of d) (count - 1) m m' ws ws' (Err f) → WalkAnswer d mₑ m' (Err f)
      either (finding.Broken r at) b = going_breaks d m₀ m ws turn (count - 1) going_last r at b
      either (finding.Unread w f) b = going_unread d m₀ m ws turn (count - 1) going_last f (omega (arith, there, total_is)) b.0 b.1 b.2

-- the same, with the lists of the walk: one that waited was taken, and is visited
module _ (d : Meaning) (m₀ : List ℕ) (lists after : WorkLists) (turn low high : ℕ) (map_is : low ≡ map_of d) (total_is : high ≡ sectors_of d)
    (s : Going d m₀ lists.marks.now lists.waiting.now turn lists.count) (next : Waiting)
    (same_marks : after.marks.now ≡ lists.marks.now) (same_waiting : after.waiting.now ≡ lists.waiting.now) (taken : Popped lists.count after.count lists.waiting.now (Some next)) where
  going : Going d m₀ after.marks.now after.waiting.now turn (after.count + 1)
  going =
      subst (λ (m : List ℕ). Going d m₀ m after.waiting.now turn (after.count + 1)) (sym same_marks)
      (subst (λ (ws : List Waiting). Going d m₀ lists.marks.now ws turn (after.count + 1)) (sym same_waiting)
      (subst (λ (n : ℕ). Going d m₀ lists.marks.now lists.waiting.now turn n) taken.0 s))

  next_is : next ≡ get_or after.waiting.now after.count nobody
  next_is = taken.1 ∙ ap (λ (ws : List Waiting). get_or ws after.count nobody) (sym same_waiting)

  pub turn_ready : high ≤ length lists.waiting.now → high ≤ length lists.marks.now → Ready high after
  turn_ready room marked = record {
    room = omega (arith, room, ap length same_waiting);
    marked = omega (arith, marked, ap length same_marks);
    some = omega (arith, going.most);
    small = λ c lt. going_small d m₀ after.marks.now after.waiting.now turn after.count going c (omega (arith, total_is));
    listed = going_listed d m₀ after.marks.now after.waiting.now turn after.count going;
    inside = λ c pos. omega (arith, total_is, going_inside d m₀ after.marks.now after.waiting.now turn after.count going c pos);
  }

  pub popped_on : (n : ℕ) (m' : List ℕ) (ws' : List Waiting) → Visit d next.lsn next.parent low high after.count n after.marks.now m' after.waiting.now ws' → Going d m₀ m' ws' (turn + 1) n
  popped_on n m' ws' v =
      going_on d m₀ after.marks.now after.waiting.now turn after.count going n m' ws'
      (subst (λ (w : Waiting). Visit d w.lsn w.parent (map_of d) (sectors_of d) after.count n after.marks.now m' after.waiting.now ws') next_is
      (subst (λ (h : ℕ). Visit d next.lsn next.parent (map_of d) h after.count n after.marks.now m' after.waiting.now ws') total_is
      (subst (λ (h : ℕ). Visit d next.lsn next.parent h high after.count n after.marks.now m' after.waiting.now ws') map_is v)))

  pub popped_finds : (there : high ≤ d.count) (mₑ m' mₓ : List ℕ) (ws' : List Waiting) (f : Finding) → VisitAnswer d next.lsn next.parent low high after.count after.marks.now m' after.waiting.now ws' (Err f) → WalkAnswer d mₑ mₓ (Err f)
  popped_finds there mₑ m' mₓ ws' f v =
      either f
      (subst (λ (w : Waiting). VisitAnswer d w.lsn w.parent (map_of d) (sectors_of d) after.count after.marks.now m' after.waiting.now ws' (Err f)) next_is
      (subst (λ (h : ℕ). VisitAnswer d next.lsn next.parent (map_of d) h after.count after.marks.now m' after.waiting.now ws' (Err f)) total_is
      (subst (λ (h : ℕ). VisitAnswer d next.lsn next.parent h high after.count after.marks.now m' after.waiting.now ws' (Err f)) map_is v)))
    where
      either : (f : Finding) → VisitAnswer d (get_or after.waiting.now after.count nobody).lsn (get_or after.waiting.now after.count nobody).parent (map_of d) (sectors_of d) after.count after.marks.now m' after.waiting.now ws' (Err f) → WalkAnswer d mₑ mₓ (Err f)
      either (finding.Broken r at) b = going_breaks d m₀ after.marks.now after.waiting.now turn after.count going r at b
      either (finding.Unread w f) b = going_unread d m₀ after.marks.now after.waiting.now turn after.count going f (omega (arith, there, total_is)) b.0 b.1 b.2
