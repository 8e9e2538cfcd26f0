-- A volume of which two entries change at most: what an update keeps, whatever it is.
use Rattle.std.proofs.Common.{◌≡◌, ℕ, ◌+◌, ◌<◌, ◌≤◌, List, Some, None, sym, refl, ap, ◌∙◌, subst, inl, inr, arith}
use Rattle.std.proofs.lemmas.Bool.{cases_eq}
use Rattle.devices.specs.Meaning.{Meaning, Kept}
use Rattle.layout.specs.Identification.{total, map_bytes, cluster_size, root, sector_size}
use Rattle.layout.specs.Map.{map_bytes_of, map_sectors}
use Rattle.rules.specs.Nodes.{times, ReachedBy}
use Rattle.rules.specs.Rules.{sectors_of, map_of, root_at, RuleA}
use Rattle.rules.specs.Walking.{hit}
use Rattle.table.specs.Counts.{namings, occupied}
use Rattle.table.specs.Entries.{Entry, Table, present, held, names, up_of, dots, Upward}
use Rattle.table.specs.Standing.{Shows, Space, Tree, Stands}
use Rattle.table.specs.Updates.{Beside}
use Rattle.table.proofs.Frames.{frame}
use Rattle.table.proofs.Holdings.{held_taken, held_apart}
use Rattle.table.proofs.Occupied.{occupied_small, occupied_below}
use Rattle.table.proofs.Spaces.{claim_two}
use Rattle.table.proofs.Sums.{sum_two}

module _ (d d' : Meaning) (w : ℕ → ℕ) (t t' : Table) (s : Stands d w t) (p x : ℕ) (ne : p ≡ x → ⊥) (low_p : p < sectors_of d) (low_x : x < sectors_of d)
    (others : (l : ℕ) → (l ≡ p → ⊥) → (l ≡ x → ⊥) → t' l ≡ t l)
    (ls : List ℕ) (kept : Kept (Beside (map_of d) ls) d d')
    (touched : (k : ℕ) → times k (held p (t p)) ≡ 0 → times k (held x (t x)) ≡ 0 → times k (held p (t' p)) ≡ 0 → times k (held x (t' x)) ≡ 0 → times k ls ≡ 0)
    (bits : (k : ℕ) → occupied d' k + times k (held p (t p)) + times k (held x (t x)) ≡ occupied d k + times k (held p (t' p)) + times k (held x (t' x)))
    (shows-p : (e : Entry) → t' p ≡ Some e → Shows d' p e) (shows-x : (e : Entry) → t' x ≡ Some e → Shows d' x e) where
  -- LSN 0 is as it was
  same_zero : d'.sector 0 ≡ d.sector 0
  same_zero = kept.2 0 (omega (arith, s.rule_a.least, s.rule_a.fits)) (inl refl)

  within' : (l : ℕ) → sectors_of d ≤ l → t' l ≡ None
  within' l le = others l (λ e. omega arith) (λ e. omega arith) ∙ s.within l le

  space' : Space (map_of d) (sectors_of d) w (occupied d') t'
  space' k =
      let two = sum_two (λ l. times k (held l (t l))) (λ l. times k (held l (t' l))) (sectors_of d) p x low_p low_x ne (λ l lt np nx. ap (λ o. times k (held l o)) (others l np nx)) in
      omega (arith, two, s.space k, bits k)

  apart' : (l y k : ℕ) → (l ≡ y → ⊥) → 0 < times k (held l (t' l)) → times k (held y (t' y)) ≡ 0
  apart' l y k ny pos = omega (arith, claim_two (sectors_of d) t' within' k l y ny, space' k, occupied_small d' k)

  -- a sector that another entry holds has not changed
  same_sector : (l k : ℕ) → (l ≡ p → ⊥) → (l ≡ x → ⊥) → 0 < times k (held l (t l)) → d'.sector k ≡ d.sector k
  same_sector l k np nx pos =
      let pos' : 0 < times k (held l (t' l)) = omega (arith, ap (λ o. times k (held l o)) (others l np nx)) in
      let old = held_taken d w t s l k pos in
      let apart = held_apart d w t s l in
      let free = touched k (apart p k np pos) (apart x k nx pos) (apart' l p k np pos') (apart' l x k nx pos') in
      kept.2 k (omega (arith, occupied_below d k (omega (arith, old.0)), s.rule_a.fits)) (inr (old.1, free))

  shown' : (l : ℕ) (e : Entry) → t' l ≡ Some e → Shows d' l e
  shown' l e is = elim (cases_eq l p) [
    | inl q ↦ subst (λ (i : ℕ). Shows d' i e) (sym q) (shows-p e (ap t' (sym q) ∙ is))
    | inr np ↦ elim (cases_eq l x) [
      | inl q ↦ subst (λ (i : ℕ). Shows d' i e) (sym q) (shows-x e (ap t' (sym q) ∙ is))
      | inr nx ↦
          let was : t l ≡ Some e = sym (others l np nx) ∙ is in
          frame d d' l e (λ k pos. same_sector l k np nx (omega (arith, pos, ap (λ o. times k (held l o)) was))) (s.shown l e was)
    ]
  ]

  rule_a' : RuleA d'
  rule_a' =
      let a = s.rule_a in
      let T : sectors_of d' ≡ sectors_of d = ap total same_zero in
      record {
        least = omega (arith, T, a.least);
        most = omega (arith, T, a.most);
        fits = omega (arith, T, a.fits, kept.0);
        map_right = ap map_bytes same_zero ∙ a.map_right ∙ ap map_bytes_of (sym T);
        clusters = ap cluster_size same_zero ∙ a.clusters;
        width = elim a.width [ inl z ↦ inl (ap sector_size same_zero ∙ z) | inr z ↦ inr (ap sector_size same_zero ∙ z) ];
      }

  module _ (balance : (l : ℕ) → times l (names (t' p)) + times l (names (t' x)) + present (t l) ≡ times l (names (t p)) + times l (names (t x)) + present (t' l)) where
    named' : (l : ℕ) → hit (root_at d) l + namings t' (sectors_of d) l ≡ present (t' l)
    named' l =
        let two = sum_two (λ q. times l (names (t q))) (λ q. times l (names (t' q))) (sectors_of d) p x low_p low_x ne (λ q lt np nx. ap (λ o. times l (names o)) (others q np nx)) in
        omega (arith, two, s.tree.named l, balance l)

    -- what is left to show of an update: ".." of each directory, and that every entry is reached
    pub update_stands :
        up_of (t' (root_at d)) ≡ Some (dots (root_at d)) → ((q l : ℕ) → 0 < times l (names (t' q)) → Upward (up_of (t' l)) q) → ((l : ℕ) → 0 < present (t' l) → ReachedBy (λ q. names (t' q)) (root_at d) l) → Stands d' w t'
    update_stands top' up' reached' =
        let T : sectors_of d' ≡ sectors_of d = ap total same_zero in
        record {
          rule_a = rule_a';
          shown = shown';
          within = λ l le. within' l (omega (arith, T, le));
          space = subst (λ (z : List ℕ). Space (map_sectors (total z)) (total z) w (occupied d') t') (sym same_zero) space';
          tree = subst (λ (z : List ℕ). Tree (root z) (total z) t') (sym same_zero) (record { named = named'; top = top'; up = up'; reached = reached' });
          good = λ k lt free. kept.1 k (omega (arith, T, lt, s.rule_a.fits)) ∙ s.good k (omega (arith, T, lt)) free;
        }
