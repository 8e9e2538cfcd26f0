-- What one equation a sector says: held sectors are taken, lie behind the map, and are held once.
use Rattle.std.proofs.Common.{◌≡◌, ℕ, ◌+◌, ◌<◌, ◌≤◌, Some, None, Option, refl, ap, subst, inl, inr, arith}
use Rattle.std.proofs.lemmas.Bool.{cases_lt}
use Rattle.rules.specs.Nodes.{times}
use Rattle.rules.proofs.Times.{hit_is, hit_self}
use Rattle.rules.proofs.Walks.{system_is}
use Rattle.table.specs.Counts.{claims, namings}
use Rattle.table.specs.Entries.{Entry, Table, present, held, names}
use Rattle.table.specs.Standing.{Space, Tree}
use Rattle.table.proofs.Sums.{sum_any, sum_both}

pub present_small : (o : Option Entry) → present o ≤ 1
present_small None = omega arith
present_small (Some e) = omega arith

-- where there is an entry, it is some entry
pub entry_of : (o : Option Entry) → 0 < present o → (e : Entry) × (o ≡ Some e)
entry_of None pos = absurd (omega arith)
entry_of (Some e) pos = (e, refl)

pub none_of : (o : Option Entry) → present o ≡ 0 → o ≡ None
none_of None z = refl
none_of (Some e) z = absurd (omega arith)

-- a fact of the entry at a place, which is the only one there
pub of_entry : (P : Entry → Type 0) (t : Table) (l : ℕ) (e : Entry) → t l ≡ Some e → P e → (f : Entry) → t l ≡ Some f → P f
of_entry P t l e is h f q = let same : e ≡ f = cc in subst P same h

-- an entry holds its own descriptor
pub held_self : (l : ℕ) (o : Option Entry) → 0 < present o → 0 < times l (held l o)
held_self l None pos = absurd (omega arith)
held_self l (Some e) pos = omega (arith, hit_self l)

pub held_some : (l k : ℕ) (o : Option Entry) → 0 < times k (held l o) → 0 < present o
held_some l k None pos = absurd (omega arith)
held_some l k (Some e) pos = omega arith

pub names_some : (l : ℕ) (o : Option Entry) → 0 < times l (names o) → 0 < present o
names_some l None pos = absurd (omega arith)
names_some l (Some e) pos = omega arith

module _ (T : ℕ) (t : Table) (within : (l : ℕ) → T ≤ l → t l ≡ None) where
  -- entries lie below T
  pub below : (l : ℕ) → 0 < present (t l) → l < T
  below l pos = elim (cases_lt l T) [ inl lt ↦ lt | inr le ↦ absurd (omega (arith, ap present (within l le))) ]

  pub claim_one : (k l : ℕ) → times k (held l (t l)) ≤ claims t T k
  claim_one k = sum_any (λ l. times k (held l (t l))) T (λ l le. ap (λ o. times k (held l o)) (within l le))

  pub claim_two : (k l x : ℕ) → (l ≡ x → ⊥) → times k (held l (t l)) + times k (held x (t x)) ≤ claims t T k
  claim_two k = sum_both (λ l. times k (held l (t l))) T (λ l le. ap (λ o. times k (held l o)) (within l le))

  pub naming_one : (l p : ℕ) → times l (names (t p)) ≤ namings t T l
  naming_one l = sum_any (λ p. times l (names (t p))) T (λ p le. ap (λ o. times l (names o)) (within p le))

  pub naming_two : (l p q : ℕ) → (p ≡ q → ⊥) → times l (names (t p)) + times l (names (t q)) ≤ namings t T l
  naming_two l = sum_both (λ p. times l (names (t p))) T (λ p le. ap (λ o. times l (names o)) (within p le))

  module _ (m : ℕ) (w bits : ℕ → ℕ) (small : (k : ℕ) → bits k ≤ 1) (space : Space m T w bits t) where
    -- a sector that an entry holds is taken, and not the system's
    pub held_taken : (l k : ℕ) → 0 < times k (held l (t l)) → (bits k ≡ 1) × (m < k) × (w k ≡ 0)
    held_taken l k pos =
        let a = claim_one k l in
        let b = space k in
        let c = small k in
        elim (system_is m k) [
          | inl s ↦ absurd (omega (arith, s.1))
          | inr s ↦ (omega (arith, s.1), s.0, omega (arith, s.1))
        ]

    -- two entries share no sector
    pub held_apart : (l x k : ℕ) → (l ≡ x → ⊥) → 0 < times k (held l (t l)) → times k (held x (t x)) ≡ 0
    held_apart l x k ne pos =
        let a = claim_two k l x ne in
        let b = space k in
        let c = small k in
        omega arith

    pub held_once : (l k : ℕ) → times k (held l (t l)) ≤ 1
    held_once l k =
        let a = claim_one k l in
        let b = space k in
        let c = small k in
        omega arith

    -- a clear sector has no entry, and neither has one of the system's
    pub clear_none : (x : ℕ) → bits x ≡ 0 → t x ≡ None
    clear_none x clear = none_of (t x) (elim (cases_lt 0 (present (t x))) [ inl pos ↦ absurd (omega (arith, (held_taken x x (held_self x (t x) pos)).0)) | inr le ↦ omega arith ])

    pub system_none : (x : ℕ) → x ≤ m → t x ≡ None
    system_none x le = none_of (t x) (elim (cases_lt 0 (present (t x))) [ inl pos ↦ absurd (omega (arith, (held_taken x x (held_self x (t x) pos)).1)) | inr le ↦ omega arith ])

  module _ (root : ℕ) (tree : Tree root T t) where
    -- what is named is there, and so is the root
    pub named_there : (p l : ℕ) → 0 < times l (names (t p)) → 0 < present (t l)
    named_there p l pos = omega (arith, tree.named l, naming_one l p)

    pub root_there : 0 < present (t root)
    root_there = omega (arith, tree.named root, hit_self root)

    -- the root is named by no slot
    pub root_unnamed : (p l : ℕ) → 0 < times l (names (t p)) → l ≡ root → ⊥
    root_unnamed p l pos e = elim (hit_is l root) [ inl h ↦ omega (arith, h.1, tree.named l, naming_one l p, present_small (t l)) | inr h ↦ h.0 e ]
