-- Segment lists: places of the table in memory, and the segments that it lists.
use Rattle.std.proofs.Common.{◌≡◌, ℕ, ◌+◌, ◌-◌, ◌<◌, ◌≤◌, List, [], ◌∷◌, ◌++◌, length, get_or, take, set, sym, refl, ap, ◌∙◌, arith}
use Rattle.std.proofs.lemmas.List.{take_more, take_more_set, length-take-le, get_or-take}
use Rattle.layout.specs.declared.segment.Segment.{Segment}
use Rattle.descriptors.specs.Lists.{nowhere, lengthened, last_of}

-- the last of a list that was pushed to, lengthened
pub lengthened_push : (ss : List Segment) (s : Segment) (n : ℕ) → lengthened (ss ++ s ∷ []) n ≡ ss ++ record { start = s.start; len = s.len + n } ∷ []
lengthened_push [] s n = refl
lengthened_push (a ∷ []) s n = refl
lengthened_push (a ∷ b ∷ ss) s n = ap (λ (xs : List Segment). a ∷ xs) (lengthened_push (b ∷ ss) s n)

module _ (items : List Segment) (count : ℕ) (fits : count ≤ length items) where
  pub listed_length : length (take count items) ≡ count
  listed_length = length-take-le count items fits

  -- the last of those that are listed
  pub last_is : 0 < count → last_of (take count items) ≡ get_or items (count - 1) nowhere
  last_is some = ap (λ (i : ℕ). get_or (take count items) (i - 1) nowhere) listed_length ∙ get_or-take count items (count - 1) nowhere (omega arith)

  -- a longer last one is put in its place
  pub put_longer : (n : ℕ) → 0 < count → take count (set items (count - 1) (record { start = (get_or items (count - 1) nowhere).start; len = (get_or items (count - 1) nowhere).len + n })) ≡ lengthened (take count items) n
  put_longer n some =
      let at : count - 1 + 1 ≡ count = omega arith in
      let less : count - 1 < length items = omega arith in
      let s = get_or items (count - 1) nowhere in
      let s' : Segment = record { start = s.start; len = s.len + n } in
      ap (λ (i : ℕ). take i (set items (count - 1) s')) (sym at) ∙ take_more_set items (count - 1) s' less
      ∙ sym (ap (λ (i : ℕ). lengthened (take i items) n) (sym at) ∙ ap (λ (xs : List Segment). lengthened xs n) (take_more items (count - 1) nowhere less) ∙ lengthened_push (take (count - 1) items) s n)
