-- What a volume on which a table stands is good for: sectors that can be read and written, entries that can be followed.
use Rattle.std.proofs.Common.{◌≡◌, ℕ, ◌*◌, ◌<◌, ◌≤◌, true, false, List, ◌∷◌, length, get_or, Some, None, codes, Option, sym, ap, ◌∙◌, subst, inl, inr, arith}
use Rattle.std.proofs.lemmas.Bool.{cases_Bool, cases_eq}
use Rattle.devices.specs.Meaning.{Meaning, Whole}
use Rattle.layout.specs.Descriptor.{size, segments, extent, content}
use Rattle.layout.specs.Directory.{Slot, empty, entry, slots}
use Rattle.layout.specs.Map.{taken}
use Rattle.descriptors.proofs.Blocks.{Wide, content-length}
use Rattle.rules.specs.Nodes.{times, is_directory}
use Rattle.rules.specs.Rules.{sectors_of, map_of, root_at}
use Rattle.rules.proofs.Members.{get_or-times}
use Rattle.rules.proofs.Times.{hit_is}
use Rattle.rules.proofs.Walks.{system_is}
use Rattle.table.specs.Entries.{file, directory, Entry, Table, read_entry, present, held, named_in, names, up_slot, up_of, dots, Upward}
use Rattle.table.specs.Standing.{Lawful, SlotsLawful, Stands}
use Rattle.table.proofs.Fields.{directory_read, file_read}
use Rattle.table.proofs.Frames.{segments_shown}
use Rattle.table.proofs.Holdings.{below, held_taken, held_once, clear_none, named_there, naming_two, root_unnamed}
use Rattle.table.proofs.Naming.{child_has}
use Rattle.table.proofs.Occupied.{occupied_small, occupied_below, taken_none}
use Rattle.table.proofs.Reading.{slot_at}
use Rattle.table.proofs.SlotBytes.{slots_length, one_slot}
use Rattle.table.proofs.Spaces.{present_small}
use Rattle.table.proofs.Sums.{sum_some}

kinds : {ss : List Slot} {xs : List ℕ} → file xs ≡ directory ss → ⊥
kinds e = cc

file_bytes : {xs ys : List ℕ} → file xs ≡ file ys → xs ≡ ys
file_bytes e = cc

directory_slots : {ss rs : List Slot} → directory ss ≡ directory rs → ss ≡ rs
directory_slots e = cc

some_slot : {a b : Slot} → Some a ≡ Some b → a ≡ b
some_slot e = cc

module _ (d : Meaning) (w : ℕ → ℕ) (t : Table) (s : Stands d w t) where
  -- a sector that an entry holds lies behind the map and in the volume, and is good
  pub held_good : (l k : ℕ) → 0 < times k (held l (t l)) → (map_of d < k) × (k < sectors_of d) × (d.bad k ≡ false)
  held_good l k pos =
      let h = held_taken d w t s l k pos in
      let lt = occupied_below d k (omega (arith, h.0)) in
      (h.1, lt, s.good k lt h.2)

  -- so are the system's sectors
  pub system_good : (k : ℕ) → k ≤ map_of d → (k < sectors_of d) × (d.bad k ≡ false)
  system_good k le = elim (system_is (map_of d) k) [
    | inl h ↦
        let lt = occupied_below d k (omega (arith, h.1, s.space k)) in
        (lt, s.good k lt (omega (arith, h.1, s.space k, occupied_small d k)))
    | inr h ↦ absurd (omega (arith, h.0))
  ]

  -- and the clear ones, which no entry has
  pub clear_good : (k : ℕ) → k < sectors_of d → taken d.sector k ≡ false → (map_of d < k) × (d.bad k ≡ false) × (t k ≡ None)
  clear_good k lt clear =
      let z = taken_none (taken d.sector) (sectors_of d) k clear in
      let behind : map_of d < k = elim (system_is (map_of d) k) [ inl h ↦ absurd (omega (arith, h.1, z, s.space k)) | inr h ↦ h.0 ] in
      (behind, s.good k lt (omega (arith, z, s.space k)), clear_none d w t s k z)

  -- every entry but the root has one parent
  pub parent_there : (l : ℕ) → 0 < present (t l) → (l ≡ root_at d → ⊥) → (p : ℕ) × (0 < times l (names (t p)))
  parent_there l pos ne = elim (hit_is l (root_at d)) [
    | inl h ↦ absurd (ne h.0)
    | inr h ↦ let r = sum_some (λ p. times l (names (t p))) (sectors_of d) (omega (arith, h.1, s.tree.named l)) in (r.0, r.2)
  ]

  pub one_parent : (p q l : ℕ) → 0 < times l (names (t p)) → 0 < times l (names (t q)) → p ≡ q
  one_parent p q l a b = elim (cases_eq p q) [
    | inl e ↦ e
    | inr ne ↦ absurd (omega (arith, naming_two d w t s l p q ne, s.tree.named l, present_small (t l)))
  ]

  module _ (l : ℕ) (e : Entry) (is : t l ≡ Some e) where
    there : 0 < present (t l)
    there = omega (arith, ap present is)

    pub entry_below : l < sectors_of d
    entry_below = below d w t s l there

    -- the sectors of its segments: each once, and none is its descriptor
    pub extent_once : (k : ℕ) → times k (l ∷ extent e.segments) ≤ 1
    extent_once k = omega (arith, ap (λ o. times k (held l o)) is, held_once d w t s l k)

    pub extent_good : (k : ℕ) → 0 < times k (l ∷ extent e.segments) → (map_of d < k) × (k < sectors_of d) × (d.bad k ≡ false)
    extent_good k pos = held_good l k (omega (arith, pos, ap (λ o. times k (held l o)) is))

    lawful : Lawful l (d.sector l) (content d.sector (d.sector l))
    lawful = (s.shown l e is).lawful

    -- its bytes are as many as its size says
    pub content_long : Whole d → length (content d.sector (d.sector l)) ≡ size (d.sector l)
    content_long whole = content-length d.sector (d.sector l) wide lawful.sized.held
      where
        wide : Wide d.sector 256 (extent (segments (d.sector l)))
        wide i lt =
            let k = get_or (extent (segments (d.sector l))) i 0 in
            let pos = get_or-times (extent (segments (d.sector l))) i lt in
            whole k (omega (arith, s.rule_a.fits, (extent_good k (omega (arith, pos, ap (λ ss. times k (extent ss)) (segments_shown d l e (s.shown l e is))))).1))

    body_is : e.node.body ≡ (read_entry (d.sector l) (content d.sector (d.sector l))).node.body
    body_is = ap (λ (x : Entry). x.node.body) (sym (s.shown l e is).reads)

    -- a file is one by its attribute, and has the bytes of its sectors
    pub file_shown : (xs : List ℕ) → e.node.body ≡ file xs → (is_directory (d.sector l) ≡ false) × (xs ≡ content d.sector (d.sector l))
    file_shown xs plain = elim (cases_Bool (is_directory (d.sector l))) [
      | inl dir ↦ absurd (kinds (sym plain ∙ body_is ∙ directory_read (d.sector l) (content d.sector (d.sector l)) dir))
      | inr not ↦ (not, file_bytes (sym plain ∙ body_is ∙ file_read (d.sector l) (content d.sector (d.sector l)) not))
    ]

    -- a directory is one too, and has the slots of those bytes
    pub directory_shown : (ss : List Slot) → e.node.body ≡ directory ss → (is_directory (d.sector l) ≡ true) × (ss ≡ slots (content d.sector (d.sector l)))
    directory_shown ss dir = elim (cases_Bool (is_directory (d.sector l))) [
      | inl set ↦ (set, directory_slots (sym dir ∙ body_is ∙ directory_read (d.sector l) (content d.sector (d.sector l)) set))
      | inr plain ↦ absurd (kinds (sym (file_read (d.sector l) (content d.sector (d.sector l)) plain) ∙ sym body_is ∙ dir))
    ]

    module _ (ss : List Slot) (dir : e.node.body ≡ directory ss) where
      slots_lawful : SlotsLawful l (content d.sector (d.sector l))
      slots_lawful = lawful.slots_lawful (directory_shown ss dir).0

      slots_are : (k : ℕ) → get_or ss k empty ≡ get_or (slots (content d.sector (d.sector l))) k empty
      slots_are k = ap (λ rs. get_or rs k empty) (directory_shown ss dir).1

      -- as many slots as its size says, two at least
      pub directory_long : Whole d → (length ss * 32 ≡ size (d.sector l)) × (2 ≤ length ss)
      directory_long whole =
          let long = ap length (directory_shown ss dir).1 ∙ slots_length (content d.sector (d.sector l)) in
          let bytes = content_long whole in
          let sized = lawful.sized in
          let dir' = (directory_shown ss dir).0 in
          (omega (arith, long, bytes, sized.whole dir'), omega (arith, long, bytes, sized.two dir'))

      -- "." names the directory
      pub here_shown : Whole d → get_or ss 0 empty ≡ entry (codes ".") l
      here_shown whole =
          let long = ap length (directory_shown ss dir).1 ∙ slots_length (content d.sector (d.sector l)) in
          slots_are 0 ∙ slot_at (content d.sector (d.sector l)) 0 (omega (arith, long, (directory_long whole).1)) ∙ slots_lawful.here

      -- ".." names the directory that names it, or the root itself
      pub up_shown : (p : ℕ) → 0 < times l (names (t p)) → get_or ss 1 empty ≡ entry (codes "..") p
      up_shown p pos = subst (λ (o : Option Slot). Upward o p) (ap up_of is ∙ ap up_slot dir) (s.tree.up p l pos)

      pub top_shown : l ≡ root_at d → get_or ss 1 empty ≡ entry (codes "..") l
      top_shown e = some_slot (sym (ap up_of is ∙ ap up_slot dir) ∙ ap (λ i. up_of (t i)) e ∙ s.tree.top) ∙ ap dots (sym e)

      -- what a slot names is there, and no root
      pub child_there : (i : ℕ) (n : List ℕ) (x : ℕ) → 2 ≤ i → get_or ss i empty ≡ entry n x → (0 < times x (names (t l))) × (0 < present (t x)) × (x ≡ root_at d → ⊥)
      child_there i n x two at =
          let named : 0 < times x (names (t l)) = omega (arith, child_has x ss i n two at, ap (λ o. times x (names o)) is, ap (λ b. times x (named_in b)) dir) in
          (named, named_there d w t s l x named, root_unnamed d w t s l x named)

      -- a name is in one slot at most
      pub name_once : (j k : ℕ) (n : List ℕ) (x y : ℕ) → 2 ≤ j → 2 ≤ k → get_or ss j empty ≡ entry n x → get_or ss k empty ≡ entry n y → j ≡ k
      name_once j k n x y low-j low-k at_j at-k = one_slot l (content d.sector (d.sector l)) slots_lawful j k n x y low-j low-k (sym (slots_are j) ∙ at_j) (sym (slots_are k) ∙ at-k)
