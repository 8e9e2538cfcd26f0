-- What a write of 256 bytes into a list leaves.
use Rattle.std.proofs.Common.{◌≡◌, ℕ, ◌+◌, ◌-◌, ◌*◌, ◌≤◌, ◌⊎◌, List, length, take, drop, Vec, sym, ap, ◌∙◌, subst, ⊎_elim, arith, length-drop, rules}
use borrow.Rule.Slice.PartMut.{put_mid}
use Rattle.std.proofs.lemmas.Slice.{take-put_mid_below, drop-put_mid, between-put_mid}
use Rattle.std.proofs.lemmas.List.{drop-take, places, with_items_is, length-take-le}
use Rattle.std.specs.Vec.{with_items}
use Rattle.devices.specs.Meaning.{bytes_at}

-- the 256 bytes ys were written at a: what was xs is zs
pub record SectorPut (xs ys zs : List ℕ) (a : ℕ) : Type 0 where
  pub long : length zs ≡ length xs
  pub here : bytes_at zs a ≡ ys
  pub other : (b : ℕ) → (b + 256 ≤ a) ⊎ (a + 256 ≤ b) → bytes_at zs b ≡ bytes_at xs b
  pub front : (b : ℕ) → b ≤ a → take b zs ≡ take b xs
  pub back : (b : ℕ) → a + 256 ≤ b → drop b zs ≡ drop b xs

module _ (xs ys : List ℕ) (a n : ℕ) (fits : a + 256 ≤ length xs) (size : n ≡ 256) (len : length ys ≡ 256) where
  pub put_length : length (put_mid a n xs ys) ≡ length xs
  put_length = search (rules, places)

  pub put_here : bytes_at (put_mid a n xs ys) a ≡ ys
  put_here =
      let e : (a + 256) - a ≡ 256 = omega arith in
      let q : length ys ≡ (a + 256) - a = omega arith in
      let h : a ≤ length xs = omega arith in
      rw e at (between-put_mid a n xs ys (a + 256) h q)

  pub put_front : (b : ℕ) → b ≤ a → take b (put_mid a n xs ys) ≡ take b xs
  put_front b h = let f : a ≤ length xs = omega arith in take-put_mid_below a n xs ys b h f

  pub put_below : (b : ℕ) → b + 256 ≤ a → bytes_at (put_mid a n xs ys) b ≡ bytes_at xs b
  put_below b h =
      sym (drop-take b 256 (put_mid a n xs ys)) ∙ ap (drop b) (put_front (b + 256) h) ∙ drop-take b 256 xs

  pub put_back : (b : ℕ) → a + 256 ≤ b → drop b (put_mid a n xs ys) ≡ drop b xs
  put_back b h =
      let f : a ≤ length xs = omega arith in
      let g : a + n ≤ b = omega arith in
      let q : length ys ≡ n = omega arith in
      drop-put_mid a n xs ys b g f q

  pub put_above : (b : ℕ) → a + 256 ≤ b → bytes_at (put_mid a n xs ys) b ≡ bytes_at xs b
  put_above b h = ap (take 256) (put_back b h)

  pub list_put : SectorPut xs ys (put_mid a n xs ys) a
  list_put =
      record {
        long = put_length;
        here = put_here;
        other = λ b w. ⊎_elim (put_below b) (put_above b) w;
        front = put_front;
        back = put_back;
      }

-- the same of a Vec, as the checker shows it after a write through `as_mut_slice`
pub vec_put : {Z : Type 0} (v : Vec ℕ Z) (s ys : List ℕ) (a n : ℕ) → s ≡ v.items → a + 256 ≤ v.len → n ≡ 256 → length ys ≡ 256 → SectorPut v.items ys (with_items v (put_mid a n s ys)).items a
vec_put v s ys a n same fits size len =
    let room : a + 256 ≤ length s = rw same (omega (arith, v.ok.0)) in
    let put = list_put s ys a n room size len in
    let is : (with_items v (put_mid a n s ys)).items ≡ put_mid a n s ys = with_items_is v (put_mid a n s ys) (put.long ∙ ap length same ∙ sym v.ok.0) in
    subst (λ xs. SectorPut xs ys (with_items v (put_mid a n s ys)).items a) same (subst (λ zs. SectorPut s ys zs a) (sym is) put)

-- and each part of it by itself
module _ {Z : Type 0} (v : Vec ℕ Z) (s ys : List ℕ) (a n : ℕ) (same : s ≡ v.items) (fits : a + 256 ≤ v.len) (size : n ≡ 256) (len : length ys ≡ 256) where
  pub vec_items : (with_items v (put_mid a n s ys)).items ≡ put_mid a n s ys
  vec_items = with_items_is v (put_mid a n s ys) (put_length s ys a n (rw same (omega (arith, v.ok.0))) size len ∙ ap length same ∙ sym v.ok.0)

  pub vec_here : bytes_at (with_items v (put_mid a n s ys)).items a ≡ ys
  vec_here = (vec_put v s ys a n same fits size len).here

  pub vec_other : (b : ℕ) → (b + 256 ≤ a) ⊎ (a + 256 ≤ b) → bytes_at (with_items v (put_mid a n s ys)).items b ≡ bytes_at v.items b
  vec_other = (vec_put v s ys a n same fits size len).other

  pub vec_length : length (with_items v (put_mid a n s ys)).items ≡ length v.items
  vec_length = (vec_put v s ys a n same fits size len).long

  pub vec_front : (b : ℕ) → b ≤ a → take b (with_items v (put_mid a n s ys)).items ≡ take b v.items
  vec_front = (vec_put v s ys a n same fits size len).front

  pub vec_back : (b : ℕ) → a + 256 ≤ b → drop b (with_items v (put_mid a n s ys)).items ≡ drop b v.items
  vec_back = (vec_put v s ys a n same fits size len).back

-- rows of 256 do not meet, from 0 and from b
pub apart : (k l : ℕ) → (k ≡ l → ⊥) → (k * 256 + 256 ≤ l * 256) ⊎ (l * 256 + 256 ≤ k * 256)
apart k l h = grind arith

pub apart_from : (b k l : ℕ) → (k ≡ l → ⊥) → (b + k * 256 + 256 ≤ b + l * 256) ⊎ (b + l * 256 + 256 ≤ b + k * 256)
apart_from b k l h = grind arith

-- a row that fits has 256 bytes
pub row_whole : (xs : List ℕ) (a : ℕ) → a + 256 ≤ length xs → length (bytes_at xs a) ≡ 256
row_whole xs a h = length-take-le 256 (drop a xs) (simp length-drop (omega arith))
