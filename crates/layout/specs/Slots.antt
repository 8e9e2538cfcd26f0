-- The 32 bytes of a slot.
use Rattle.std.specs.Prelude.{◌≡◌, ℕ, suc, ◌+◌, ◌-◌, ◌^◌, ◌<◌, List, [], ◌∷◌, ◌++◌, length, drop, ◌≢◌, slice_index, slice_index_or}
use Rattle.std.proofs.Common.{ap, ap₂, ◌∙◌, arith, ne_eqb, length-append, length-drop}
use borrow.Rule.Slice.PartMut.{put_mid, post_of}
use Rattle.std.proofs.lemmas.List.{append-nil, take_at, drop_at, drop_all, get_or_append_left, get_or-append_right}
use Rattle.layout.specs.Bytes.{bytes}
use Rattle.layout.specs.Names.{name_of}
use Rattle.layout.specs.Directory.{entry, slot, stored_slot, slot_bytes}
use Rattle.layout.specs.declared.stored_slot.StoredSlot.{StoredSlot}
use Rattle.layout.specs.Digits.{length-bytes, number_same, number_bytes}

pub length-slot : (n : List ℕ) (l : ℕ) → length n ≡ 28 → length (slot_bytes n l) ≡ 32
length-slot n l h = length-append n (0 ∷ bytes 3 l) ∙ omega (arith, length-bytes 3 l)

-- a slot is settled by its name and LSN
pub slot_is : (a b : List ℕ) (l m : ℕ) → a ≡ b → l ≡ m → ◌≡◌ {A = StoredSlot} (record { name = a; lsn = l }) (record { name = b; lsn = m })
slot_is a b l m e f =
    let make : List ℕ → ℕ → StoredSlot = λ n k. record { name = n; lsn = k } in
    ap₂ make e f

-- what was stored is read back
pub slot_back : (n : List ℕ) (l : ℕ) → length n ≡ 28 → l < 2 ^ 24 → stored_slot (slot_bytes n l) ≡ record { name = n; lsn = l }
unfolding stored_slot
slot_back n l h small =
    slot_is _ n _ l
    (take_at n (0 ∷ bytes 3 l) 28 h)
    (number_same 29 0 3 (slot_bytes n l) (bytes 3 l)
    (λ k lt.
    let next : (29 + k) - 28 ≡ suc k = omega arith in
    get_or-append_right n (0 ∷ bytes 3 l) 28 (29 + k) 0 h (omega arith)
    ∙ ap (λ i. slice_index (0 ∷ bytes 3 l) i) next
    ∙ ap (λ i. slice_index (bytes 3 l) i) (omega arith))
    ∙ number_bytes 3 l (omega arith))

-- a name and then four bytes, written over 32, as the checker shows it
pub parts_are : (xs ys zs n r : List ℕ) → length xs ≡ 32 → ys ≡ n → length n ≡ 28 → zs ≡ r → put_mid 28 4 (ys ++ post_of 0 28 xs) zs ≡ n ++ r
parts_are xs ys zs n r l e m f =
    let none : drop 4 (drop 28 xs) ≡ [] = drop_all 4 (drop 28 xs) (simp length-drop (omega arith)) in
    rw (e, f, take_at n (drop 28 xs) 28 m, drop_at n (drop 28 xs) 28 m, none, append-nil)

-- a stored slot that is used
pub slot_entry : (n : List ℕ) (l : ℕ) (letters : List ℕ) → length n ≡ 28 → l < 2 ^ 24 → (slice_index n 0 ≢ 0) → name_of n ≡ letters → slot (slot_bytes n l) ≡ entry letters l
slot_entry n l letters long small some named =
    let back = slot_back n l long small in
    let first : slice_index_or (slot_bytes n l) 0 0 ≡ slice_index_or n 0 0 = get_or_append_left n (0 ∷ bytes 3 l) 0 0 (omega arith) in
    rw (first, ne_eqb (slice_index n 0) 0 some) (ap₂ entry (ap (λ (s : StoredSlot). name_of s.name) back ∙ named) (ap (λ (s : StoredSlot). s.lsn) back))
