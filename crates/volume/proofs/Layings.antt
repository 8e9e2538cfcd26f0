-- The sectors of a new volume, laid one after another.
use Rattle.std.proofs.Common.{◌≡◌, ℕ, ◌+◌, ◌*◌, ◌<◌, ◌≤◌, Bool, true, false, ◌||◌, leb, List, [], ◌∷◌, map, refl, ◌∙◌, ap₂, inl, inr, arith}
use Rattle.std.specs.List.{range_with_len}
use Rattle.std.proofs.lemmas.Bool.{cases_eq, leb-false}
use Rattle.devices.specs.Meaning.{Meaning, Kept}
use Rattle.layout.proofs.Bits.{packed_same}
use Rattle.layout.specs.Map.{map_sector}
use Rattle.volume.specs.NewVolume.{slots_of, taken_first}
use Rattle.volume.specs.Formatting.{MapLaid}
use Rattle.volume.proofs.Keeps.{kept_then, kept_of}

-- a map sector is settled by the bits
map_same : (f g : ℕ → ℕ) → ((k : ℕ) → f k ≡ g k) → (xs : List ℕ) → map f xs ≡ map g xs
map_same f g h [] = refl
map_same f g h (x ∷ xs) = ap₂ ◌∷◌ (h x) (map_same f g h xs)

pub map_sector_same : (f g : ℕ → Bool) → ((k : ℕ) → f k ≡ g k) → (j : ℕ) → map_sector f j ≡ map_sector g j
map_sector_same f g h j = map_same _ _ (λ i. packed_same f g h (j * 2048 + i * 8) 8) (range_with_len 0 256)

or_same : (a b x y : Bool) → (b ≡ false → x ≡ y) → (a || (b || x)) ≡ (a || (b || y))
or_same true b x y h = refl
or_same false true x y h = refl
or_same false false x y h = h refl

-- what the map has as taken is the same while the bad sectors stay
pub taken_kept : (P : ℕ → Type 0) (m m' : Meaning) (T : ℕ) → Kept P m m' → T ≤ m.count → (k : ℕ) → taken_first m' T k ≡ taken_first m T k
taken_kept P m m' T x fits k = or_same (leb k (slots_of T)) (leb T k) (m'.bad k) (m.bad k) (λ e. x.1 k (omega (arith, leb-false T k e)))

-- one map sector more
pub map_more : (m m₁ m₂ : Meaning) (T n : ℕ) (s : List ℕ) → T ≤ m.count → 1 + n < m.count → MapLaid m m₁ T n → Kept (λ k. k ≡ 1 + n → ⊥) m₁ m₂ → m₂.sector (1 + n) ≡ s → s ≡ map_sector (taken_first m₁ T) n → MapLaid m m₂ T (n + 1)
map_more m m₁ m₂ T n s fits low laid kept here is =
    record {
      kept = kept_of _ _ m m₂ (λ k out. (λ a b. out a (omega arith), λ e. out (omega arith) (omega arith))) (kept_then _ _ m m₁ m₂ laid.kept kept);
      map = λ j lt. elim (cases_eq j n) [
        | inl e ↦ rw e (here ∙ is ∙ map_sector_same _ _ (taken_kept _ m m₁ T laid.kept fits) n)
        | inr ne ↦ kept.2 (1 + j) (omega (arith, laid.kept.0)) (λ e. ne (omega arith)) ∙ laid.map j (omega arith)
      ];
    }
