-- A scan, one slot after another.
use Rattle.std.proofs.Common.{◌≡◌, ℕ, zero, suc, ◌+◌, ◌-◌, ◌<◌, ◌≤◌, true, cond, ◌⊎◌, List, [], ◌∷◌, ◌++◌, map, length, get_or, take, drop, set, sym, refl, ap, ◌∙◌, subst, inl, inr, arith, length-set, get_or-set_other, get_or-set_same, eq-eqb, ne_eqb}
use Rattle.std.specs.List.{range_with_len}
use Rattle.std.proofs.lemmas.List.FromFn.{map-range_with_len_more}
use Rattle.std.proofs.lemmas.List.{append_assoc, append-nil, take_more_set, take-set-le, map-append, length-map, length-take-le}
use Rattle.std.proofs.lemmas.Bool.{cases_eq, cases_lt}
use Rattle.devices.specs.Meaning.{Meaning}
use Rattle.layout.specs.Descriptor.{content}
use Rattle.layout.specs.Directory.{Slot, empty, entry, slot, slots, stored_slot, slot_name}
use Rattle.layout.specs.Names.{marked, name_of}
use Rattle.rules.specs.Nodes.{times, is_directory, named_by, children}
use Rattle.rules.specs.Rules.{slot_bytes_at, slot_count, SlotRight}
use Rattle.rules.proofs.Times.{hit_is, times-++, times-one}
use Rattle.rules.proofs.Room.{room}
use Rattle.survey.specs.Marks.{Marked}
use Rattle.survey.specs.Names.{nobody, Known}
use Rattle.survey.specs.Scanning.{lsns, RightBelow, Scanned}
use Rattle.survey.specs.Taking.{tidied, names, Empty, Taken, Passed}
use Rattle.survey.specs.declared.waiting.Waiting.{Waiting}
use Rattle.survey.proofs.Tidied.{tidied_name}

one_hit : (c x : ℕ) → ((c ≡ x) × (times c (x ∷ []) ≡ 1)) ⊎ ((c ≡ x → ⊥) × (times c (x ∷ []) ≡ 0))
one_hit c x = elim (hit_is c x) [ inl h ↦ inl (h.0, omega (arith, h.1)) | inr h ↦ inr (h.0, omega (arith, h.1)) ]

-- what the slots from 2 on and below k name
abbrev pub so_far : Meaning → ℕ → ℕ → List ℕ
so_far d l k = named_by (map (λ j. slot (slot_bytes_at d l j)) (range_with_len 2 (k - 2)))

named-++ : (ss ts : List Slot) → named_by (ss ++ ts) ≡ named_by ss ++ named_by ts
named-++ [] ts = refl
named-++ (empty ∷ ss) ts = named-++ ss ts
named-++ (entry n l ∷ ss) ts = ap (λ xs. l ∷ xs) (named-++ ss ts)

module _ (d : Meaning) (l k : ℕ) (two : 2 ≤ k) where
  one_more : so_far d l (k + 1) ≡ so_far d l k ++ named_by (slot (slot_bytes_at d l k) ∷ [])
  one_more =
      let n : (k + 1) - 2 ≡ (k - 2) + 1 = omega arith in
      ap (λ i. named_by (map (λ j. slot (slot_bytes_at d l j)) (range_with_len 2 i))) n
      ∙ ap named_by (map-range_with_len_more (λ j. slot (slot_bytes_at d l j)) 2 (k - 2) k (omega arith))
      ∙ named-++ (map (λ j. slot (slot_bytes_at d l j)) (range_with_len 2 (k - 2))) (slot (slot_bytes_at d l k) ∷ [])

  pub so_far_empty : Empty (slot_bytes_at d l k) → so_far d l (k + 1) ≡ so_far d l k
  so_far_empty e =
      one_more
      ∙ ap (λ b. so_far d l k ++ named_by (cond b empty (entry (name_of (stored_slot (slot_bytes_at d l k)).name) (stored_slot (slot_bytes_at d l k)).lsn) ∷ [])) (eq-eqb _ 0 e)
      ∙ append-nil (so_far d l k)

  pub so_far_used : (Empty (slot_bytes_at d l k) → ⊥) → so_far d l (k + 1) ≡ so_far d l k ++ names (slot_bytes_at d l k) ∷ []
  so_far_used ne =
      one_more
      ∙ ap (λ b. so_far d l k ++ named_by (cond b empty (entry (name_of (stored_slot (slot_bytes_at d l k)).name) (stored_slot (slot_bytes_at d l k)).lsn) ∷ [])) (ne_eqb _ 0 ne)

skip_two : (f : ℕ → Slot) (n : ℕ) → 2 ≤ n → map f (range_with_len 2 (n - 2)) ≡ drop 2 (map f (range_with_len 0 n))
skip_two f zero two = absurd (omega arith)
skip_two f (suc zero) two = absurd (omega arith)
skip_two f (suc (suc m)) two = ap (λ i. map f (range_with_len 2 i)) (omega arith)

-- at the end it is what the directory names
pub so_far_all : (d : Meaning) (l n : ℕ) → is_directory (d.sector l) ≡ true → slot_count d l ≡ n → 2 ≤ n → so_far d l n ≡ children d.sector l
so_far_all d l n dir count two =
    ap named_by (skip_two (λ j. slot (slot_bytes_at d l j)) n two)
    ∙ ap (λ i. named_by (drop 2 (map (λ j. slot (slot_bytes_at d l j)) (range_with_len 0 i)))) (sym count)
    ∙ sym (ap (λ b. cond b (named_by (drop 2 (slots (content d.sector (d.sector l))))) []) dir)

-- where a scan stands before slot k: base waited and marks were as m₀ when it began
pub record Scan (d : Meaning) (l low high base : ℕ) (m₀ : List ℕ) (ws₀ : List Waiting) (k count : ℕ) (m : List ℕ) (ws : List Waiting) : Type 0 where
  pub lsns_are : lsns count ws ≡ lsns base ws₀ ++ so_far d l k
  pub old : take base ws ≡ take base ws₀
  pub enough : base ≤ count
  pub most : count ≤ length ws
  pub parents : (i : ℕ) → base ≤ i → i < count → (get_or ws i nobody).parent ≡ l
  pub marked : Marked m₀ (so_far d l k) m
  pub small : (c : ℕ) → c < high → get_or m c 0 ≤ 1
  pub inside : (c : ℕ) → 0 < times c (so_far d l k) → (low < c) × (c < high)
  pub rights : RightBelow d l k
  pub seen : (j : ℕ) → 2 ≤ j → j < k → (Empty (slot_bytes_at d l j) → ⊥) → Known ws base count (tidied (slot_bytes_at d l j))
  pub whose : (i : ℕ) → base ≤ i → i < count → (j : ℕ) × (2 ≤ j) × (j < k) × (Empty (slot_bytes_at d l j) → ⊥) × ((get_or ws i nobody).name ≡ tidied (slot_bytes_at d l j))

module _ (d : Meaning) (l low high base : ℕ) (m₀ : List ℕ) (ws₀ : List Waiting) where
  pub scan_starts : base ≤ length ws₀ → ((c : ℕ) → c < high → get_or m₀ c 0 ≤ 1) → Scan d l low high base m₀ ws₀ 2 base m₀ ws₀
  scan_starts fits small =
      record {
        lsns_are = sym (append-nil (lsns base ws₀));
        old = refl;
        enough = omega arith;
        most = fits;
        parents = λ i le lt. absurd (omega arith);
        marked = λ c. omega arith;
        small = small;
        inside = λ c pos. absurd (omega arith);
        rights = record { right = λ k two lt. absurd (omega arith); distinct = λ j k two less lt. absurd (omega arith) };
        seen = λ j two lt. absurd (omega arith);
        whose = λ i le lt. absurd (omega arith);
      }

  module _ (k count : ℕ) (m : List ℕ) (ws : List Waiting) (two : 2 ≤ k) (s : Scan d l low high base m₀ ws₀ k count m ws) where
    -- an empty slot
    pub scan_passes : (m' : List ℕ) (ws' : List Waiting) → Passed (slot_bytes_at d l k) m m' ws ws' → Scan d l low high base m₀ ws₀ (k + 1) count m' ws'
    scan_passes m' ws' p =
        let e = so_far_empty d l k two p.unused in
        let q = p.same_waiting in
        record {
          lsns_are = ap (lsns count) q ∙ s.lsns_are ∙ ap (λ xs. lsns base ws₀ ++ xs) (sym e);
          old = ap (take base) q ∙ s.old;
          enough = s.enough;
          most = rw q s.most;
          parents = λ i le lt. ap (λ (x : List Waiting). (get_or x i nobody).parent) q ∙ s.parents i le lt;
          marked = λ c. ap (λ x. get_or x c 0) p.same_marks ∙ s.marked c ∙ ap (λ xs. get_or m₀ c 0 + times c xs) (sym e);
          small = λ c lt. omega (arith, s.small c lt, ap (λ x. get_or x c 0) p.same_marks);
          inside = λ c pos. s.inside c (omega (arith, pos, ap (times c) e));
          rights =
              record {
                right = λ j low-j lt used. s.rights.right j low-j (not_here j lt used p) used;
                distinct = λ i j low-i less lt ui uj. s.rights.distinct i j low-i less (not_here j lt uj p) ui uj;
              };
          seen = λ j low-j lt used. subst (λ (x : List Waiting). Known x base count (tidied (slot_bytes_at d l j))) (sym q) (s.seen j low-j (not_here j lt used p) used);
          whose = λ i le lt.
              let w = s.whose i le lt in
              (w.0, w.1, omega (arith, w.2), w.3, ap (λ (x : List Waiting). (get_or x i nobody).name) q ∙ w.4);
        }
      where
        not_here : (j : ℕ) → j < k + 1 → (Empty (slot_bytes_at d l j) → ⊥) → Passed (slot_bytes_at d l k) m m' ws ws' → j < k
        not_here j lt used p = elim (cases_eq j k) [ inl e ↦ absurd (used (ap (λ i. get_or (slot_bytes_at d l i) 0 0) e ∙ p.unused)) | inr ne ↦ omega arith ]

    -- a used slot
    pub scan_takes : (m' : List ℕ) (ws' : List Waiting) → count < length ws → high ≤ length m → Taken (slot_bytes_at d l k) l low high base count m m' ws ws' → Scan d l low high base m₀ ws₀ (k + 1) (count + 1) m' ws'
    scan_takes m' ws' fits long t =
        let xs = slot_bytes_at d l k in
        let c₀ = names xs in
        let w : Waiting = record { lsn = c₀; parent = l; name = tidied xs } in
        let e = so_far_used d l k two t.used in
        let q : ws' ≡ set ws count w = t.now_waits in
        let there : get_or ws' count nobody ≡ w = ap (λ (x : List Waiting). get_or x count nobody) q ∙ get_or-set_same ws count w nobody fits in
        let other : (i : ℕ) → (i ≡ count → ⊥) → get_or ws' i nobody ≡ get_or ws i nobody = λ i ne. ap (λ (x : List Waiting). get_or x i nobody) q ∙ get_or-set_other ws count i w nobody ne in
        let more : (c : ℕ) → times c (so_far d l (k + 1)) ≡ times c (so_far d l k) + times c (c₀ ∷ []) = λ c. ap (times c) e ∙ times-++ c (so_far d l k) (c₀ ∷ []) in
        let known : (n : List ℕ) → Known ws base count n → Known ws' base (count + 1) n = λ n h. record { at = h.at; low = h.low; high = omega (arith, h.high); same = ap (λ (x : Waiting). x.name) (other h.at (λ z. omega (arith, z, h.high))) ∙ h.same } in
        record {
          lsns_are =
              ap (λ (x : List Waiting). lsns (count + 1) x) q
              ∙ ap (map (λ (x : Waiting). x.lsn)) (take_more_set ws count w fits)
              ∙ map-append (λ (x : Waiting). x.lsn) (take count ws) (w ∷ [])
              ∙ ap (λ ys. ys ++ (c₀ ∷ [])) s.lsns_are
              ∙ append_assoc (lsns base ws₀) (so_far d l k) (c₀ ∷ [])
              ∙ ap (λ ys. lsns base ws₀ ++ ys) (sym e);
          old = ap (take base) q ∙ take-set-le base ws count w s.enough ∙ s.old;
          enough = omega (arith, s.enough);
          most = omega (arith, ap length q, length-set ws count w);
          parents = λ i le lt. elim (cases_eq i count) [
            | inl z ↦ ap (λ j. (get_or ws' j nobody).parent) z ∙ ap (λ (x : Waiting). x.parent) there
            | inr ne ↦ ap (λ (x : Waiting). x.parent) (other i ne) ∙ s.parents i le (omega arith)
          ];
          marked = λ c. elim (one_hit c c₀) [
            | inl h ↦ omega (arith, h.0, h.1, more c, s.marked c, ap (λ i. get_or m i 0) h.0, t.unmarked, ap (λ (x : List ℕ). get_or x c 0) t.now_marked, ap (λ i. get_or (set m c₀ 1) i 0) h.0, get_or-set_same m c₀ 1 0 (omega (arith, t.below)))
            | inr h ↦ omega (arith, h.1, more c, s.marked c, ap (λ (x : List ℕ). get_or x c 0) t.now_marked, get_or-set_other m c₀ c 1 0 h.0)
          ];
          small = λ c lt. elim (one_hit c c₀) [
            | inl h ↦ omega (arith, ap (λ (x : List ℕ). get_or x c 0) t.now_marked, ap (λ i. get_or (set m c₀ 1) i 0) h.0, get_or-set_same m c₀ 1 0 (omega (arith, t.below)))
            | inr h ↦ omega (arith, s.small c lt, ap (λ (x : List ℕ). get_or x c 0) t.now_marked, get_or-set_other m c₀ c 1 0 h.0)
          ];
          inside = λ c pos. elim (cases_lt 0 (times c (so_far d l k))) [
            | inl some ↦ s.inside c some
            | inr none ↦ let z = times-one c c₀ (omega (arith, more c)) in (omega (arith, z, t.above), omega (arith, z, t.below))
          ];
          rights =
              record {
                right = λ j low-j lt used. elim (cases_eq j k) [
                  | inl z ↦ subst (λ (i : ℕ). SlotRight (slot_bytes_at d l i)) (sym z) t.right
                  | inr ne ↦ s.rights.right j low-j (omega arith) used
                ];
                distinct = λ i j low-i less lt ui uj same. elim (cases_eq j k) [
                  | inl z ↦
                      let name : tidied (slot_bytes_at d l i) ≡ tidied xs = ap (λ n. slot_name (marked n)) (same ∙ ap (λ a. name_of (take 28 (slot_bytes_at d l a))) z) in
                      t.new (subst (λ (n : List ℕ). Known ws base count n) name (s.seen i low-i (omega arith) ui))
                  | inr ne ↦ s.rights.distinct i j low-i less (omega arith) ui uj same
                ];
              };
          seen = λ j low-j lt used. elim (cases_eq j k) [
            | inl z ↦ subst (λ (i : ℕ). Known ws' base (count + 1) (tidied (slot_bytes_at d l i))) (sym z) (record { at = count; low = s.enough; high = omega arith; same = ap (λ (x : Waiting). x.name) there })
            | inr ne ↦ known _ (s.seen j low-j (omega arith) used)
          ];
          whose = λ i le lt. elim (cases_eq i count) [
            | inl z ↦ (k, two, omega arith, t.used, ap (λ j. (get_or ws' j nobody).name) z ∙ ap (λ (x : Waiting). x.name) there)
            | inr ne ↦ let h = s.whose i le (omega arith) in (h.0, h.1, omega (arith, h.2), h.3, ap (λ (x : Waiting). x.name) (other i ne) ∙ h.4)
          ];
        }

    -- there is room for one more, while a sector is not marked
    pub scan_room : ((c : ℕ) → times c (lsns base ws₀) ≤ get_or m₀ c 0) → ((c : ℕ) → 0 < times c (lsns base ws₀) → c < high) → high ≤ length ws → (c : ℕ) → c < high → get_or m c 0 ≡ 0 → count < length ws
    scan_room listed low_ones fits c lt clear =
        let all : (x : ℕ) → times x (lsns count ws) ≡ times x (lsns base ws₀) + times x (so_far d l k) = λ x. ap (times x) s.lsns_are ∙ times-++ x (lsns base ws₀) (so_far d l k) in
        let below : (x : ℕ) → 0 < times x (lsns count ws) → x < high = λ x pos. elim (cases_lt 0 (times x (lsns base ws₀))) [ inl some ↦ low_ones x some | inr none ↦ (s.inside x (omega (arith, all x))).1 ] in
        let once : (x : ℕ) → times x (c ∷ lsns count ws) ≤ 1 = λ x. elim (cases_lt 0 (times x (lsns count ws))) [
          | inl some ↦ elim (hit_is x c) [
            | inl h ↦ omega (arith, h.1, h.0, all x, listed x, s.marked x, ap (λ i. get_or m i 0) h.0)
            | inr h ↦ omega (arith, h.1, all x, listed x, s.marked x, s.small x (below x some))
          ]
          | inr none ↦ elim (hit_is x c) [ inl h ↦ omega (arith, h.1) | inr h ↦ omega (arith, h.1) ]
        ] in
        let members : (x : ℕ) → 0 < times x (c ∷ lsns count ws) → x < high = λ x pos. elim (hit_is x c) [ inl h ↦ omega (arith, h.0) | inr h ↦ below x (omega (arith, h.1)) ] in
        omega (arith, room high (c ∷ lsns count ws) once members, length-map (take count ws) (λ (x : Waiting). x.lsn), length-take-le count ws s.most)

-- what was named stays named
grows : (d : Meaning) (l k : ℕ) → 2 ≤ k → (c : ℕ) → times c (so_far d l k) ≤ times c (so_far d l (k + 1))
grows d l k two c = elim (cases_eq (get_or (slot_bytes_at d l k) 0 0) 0) [
  | inl e ↦ omega (arith, ap (times c) (so_far_empty d l k two e))
  | inr ne ↦ omega (arith, ap (times c) (so_far_used d l k two ne) ∙ times-++ c (so_far d l k) (names (slot_bytes_at d l k) ∷ []))
]

pub grows_to : (d : Meaning) (l k f n : ℕ) → 2 ≤ k → k + f ≡ n → (c : ℕ) → times c (so_far d l k) ≤ times c (so_far d l n)
grows_to d l k zero n two e c = omega (arith, ap (λ i. times c (so_far d l i)) (sum_zero k n e))
  where
    sum_zero : (k n : ℕ) → k + zero ≡ n → k ≡ n
    sum_zero k n e = omega arith
grows_to d l k (suc f) n two e c = omega (arith, grows d l k two c, grows_to d l (k + 1) f n (omega arith) (omega arith) c)

-- what a slot breaks, the directory does
module _ (d : Meaning) (l low high base n : ℕ) (m₀ : List ℕ) (ws₀ : List Waiting) (dir : is_directory (d.sector l) ≡ true) (total : slot_count d l ≡ n)
    (k count : ℕ) (m : List ℕ) (ws : List Waiting) (two : 2 ≤ k) (lt : k < n) (s : Scan d l low high base m₀ ws₀ k count m ws) where
  named_now : (Empty (slot_bytes_at d l k) → ⊥) → (c : ℕ) → times c (so_far d l k) + times c (names (slot_bytes_at d l k) ∷ []) ≤ times c (children d.sector l)
  named_now used c =
      omega (arith, ap (times c) (so_far_used d l k two used) ∙ times-++ c (so_far d l k) (names (slot_bytes_at d l k) ∷ []), grows_to d l (k + 1) (n - (k + 1)) n (omega arith) (omega arith) c, ap (times c) (so_far_all d l n dir total (omega arith)))

  pub breaks_b : (Empty (slot_bytes_at d l k) → ⊥) → ((low < names (slot_bytes_at d l k)) × (names (slot_bytes_at d l k) < high) → ⊥) → ((c : ℕ) → 0 < times c (children d.sector l) → (low < c) × (c < high)) → ⊥
  breaks_b used out all =
      let c = names (slot_bytes_at d l k) in
      elim (one_hit c c) [ inl h ↦ out (all c (omega (arith, h.1, named_now used c))) | inr h ↦ h.0 refl ]

  pub breaks_g : (at : ℕ) → at ≡ names (slot_bytes_at d l k) → (Empty (slot_bytes_at d l k) → ⊥) → 0 < get_or m at 0 → 2 ≤ get_or m₀ at 0 + times at (children d.sector l)
  breaks_g at e used some = elim (one_hit at (names (slot_bytes_at d l k))) [
    | inl h ↦ omega (arith, h.1, named_now used at, s.marked at)
    | inr h ↦ absurd (h.0 e)
  ]

  pub breaks_e : (Empty (slot_bytes_at d l k) → ⊥) → (SlotRight (slot_bytes_at d l k) → ⊥) ⊎ Known ws base count (tidied (slot_bytes_at d l k)) → RightBelow d l (slot_count d l) → ⊥
  breaks_e used (inl wrong) all = wrong (all.right k two (omega (arith, total)) used)
  breaks_e used (inr known) all =
      let w = s.whose known.at known.low known.high in
      let j = w.0 in
      let right-j = all.right j w.1 (omega (arith, total, w.2)) w.3 in
      let right-k = all.right k two (omega (arith, total)) used in
      let same : tidied (slot_bytes_at d l j) ≡ tidied (slot_bytes_at d l k) = sym w.4 ∙ known.same in
      all.distinct j k w.1 w.2 (omega (arith, total)) w.3 used
      (sym (tidied_name (take 28 (slot_bytes_at d l j)) right-j.name_right) ∙ ap name_of same ∙ tidied_name (take 28 (slot_bytes_at d l k)) right-k.name_right)

-- the end of a scan
pub scan_ends : (d : Meaning) (l low high base n count : ℕ) (m₀ m : List ℕ) (ws₀ ws : List Waiting) → is_directory (d.sector l) ≡ true → slot_count d l ≡ n → 2 ≤ n → Scan d l low high base m₀ ws₀ n count m ws → Scanned d l low high base count m₀ m ws₀ ws
scan_ends d l low high base n count m₀ m ws₀ ws dir total two s =
    let all = so_far_all d l n dir total two in
    record {
      lsns_are = s.lsns_are ∙ ap (λ xs. lsns base ws₀ ++ xs) all;
      old = s.old;
      enough = s.enough;
      most = s.most;
      parents = s.parents;
      marked = λ c. s.marked c ∙ ap (λ xs. get_or m₀ c 0 + times c xs) all;
      small = s.small;
      inside = λ c pos. s.inside c (omega (arith, pos, ap (times c) all));
      rights = subst (RightBelow d l) (sym total) s.rights;
    }
