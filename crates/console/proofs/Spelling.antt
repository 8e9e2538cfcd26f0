-- The letters of a stored name, one after the other.
use Rattle.std.proofs.Common.{◌≡◌, ℕ, ◌+◌, ◌-◌, ◌<◌, ◌≤◌, true, false, ltb, List, [], ◌∷◌, ◌++◌, length, get_or, drop, sym, refl, ap, ◌∙◌, arith}
use Rattle.std.proofs.lemmas.List.{append-nil, append_assoc, at_drop_more, at_drop_all}
use Rattle.std.proofs.lemmas.Bool.Decides.{nat_tests}
use Rattle.layout.specs.Names.{name_of}

module _ (ls xs : List ℕ) (i : ℕ) (so_far : ls ++ name_of (drop i xs) ≡ name_of xs) where
  pub letter_last : i < length xs → 128 ≤ get_or xs i 0 → ls ++ ((get_or xs i 0 - 128) ∷ []) ≡ name_of xs
  letter_last lt high =
      let test : ltb (get_or xs i 0) 128 ≡ false = grind (arith, nat_tests) in
      let step : name_of (drop i xs) ≡ (get_or xs i 0 - 128) ∷ [] = at_drop_more name_of xs i 0 lt ∙ rw test refl in
      ap (λ l. ls ++ l) (sym step) ∙ so_far

  pub letter_more : i < length xs → get_or xs i 0 < 128 → (ls ++ (get_or xs i 0 ∷ [])) ++ name_of (drop (i + 1) xs) ≡ name_of xs
  letter_more lt low =
      let test : ltb (get_or xs i 0) 128 ≡ true = grind (arith, nat_tests) in
      let step : name_of (drop i xs) ≡ get_or xs i 0 ∷ name_of (drop (i + 1) xs) = at_drop_more name_of xs i 0 lt ∙ rw test refl in
      append_assoc ls (get_or xs i 0 ∷ []) (name_of (drop (i + 1) xs)) ∙ ap (λ l. ls ++ l) (sym step) ∙ so_far

  pub letters_end : length xs ≤ i → ls ≡ name_of xs
  letters_end le = sym (append-nil ls) ∙ ap (λ l. ls ++ l) (sym (at_drop_all name_of xs i le)) ∙ so_far
