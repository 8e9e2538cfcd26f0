-- A segment list in the bytes of a descriptor: written entry by entry, and read back.
use Rattle.std.proofs.Common.{◌≡◌, ℕ, zero, suc, ◌+◌, ◌-◌, ◌*◌, ◌^◌, ◌<◌, ◌≤◌, List, [], ◌∷◌, length, get_or, take, replicate, sym, refl, ap, ◌∙◌, ap₂, inl, inr, arith, rules, length-append, eq-eqb, ne_eqb, ◌++◌}
use Rattle.std.specs.List.{flat_map}
use Rattle.std.proofs.ByRecursion.{All-get_or}
use Rattle.std.proofs.lemmas.List.{flat_map_more, take_more, length-take-le, length-replicate, get_or_append_left, get_or-append_right, get_or-replicate, get_or_past, get_or-drop, append_assoc, length_push}
use Rattle.std.proofs.lemmas.List.Concat.{get_or-flat_map}
use Rattle.std.proofs.lemmas.Bool.{cases_lt}
use Rattle.layout.specs.Bytes.{number, bytes, over}
use Rattle.layout.specs.Descriptor.{segment_of, segment_bytes, segment, used, segments}
use Rattle.layout.specs.declared.segment.Segment.{Segment}
use Rattle.layout.specs.Overs.{over_in, over_over}
use Rattle.layout.proofs.Segments.{length-segment, segment_same}
use Rattle.descriptors.specs.Lists.{nowhere}
use Rattle.descriptors.specs.Padded.{IsPadded, length_listed}
use Rattle.descriptors.specs.Shown.{SameEntries, TidyEntries}
use Rattle.descriptors.specs.Stored.{Storable, AllStorable, entries_of, stored}
use Rattle.descriptors.proofs.Extents.{rest, rest_more}

pub length_joined : (ss : List Segment) → length (flat_map segment_bytes ss) ≡ length ss * 5
length_joined [] = refl
length_joined (s ∷ ss) = length-append (segment_bytes s) (flat_map segment_bytes ss) ∙ omega (arith, length-segment s, length_joined ss)

-- the byte i of the entry k
pub byte_joined : (ss : List Segment) (k i : ℕ) → k < length ss → i < 5 → get_or (flat_map segment_bytes ss) (k * 5 + i) 0 ≡ get_or (segment_bytes (get_or ss k nowhere)) i 0
byte_joined ss k i lt five =
    let before : length (flat_map segment_bytes (take k ss)) ≡ k * 5 = length_joined (take k ss) ∙ omega (arith, length-take-le k ss (omega arith)) in
    ap (λ n. get_or (flat_map segment_bytes ss) (n + i) 0) (sym before)
    ∙ get_or-flat_map segment_bytes ss k i nowhere 0 lt (omega (arith, length-segment (get_or ss k nowhere)))

-- an entry is read back
pub segment_back : (s : Segment) → s.start < 2 ^ 24 → s.len < 2 ^ 16 → segment_of (segment_bytes s) ≡ s
unfolding segment_of number bytes
segment_back s low short = search rules

-- the used entries, where the entries from k on are a list's segments and then unused ones
pub used_are : (ss : List Segment) (n k : ℕ) (s : List ℕ) → AllStorable ss → length ss ≤ n → ((j : ℕ) → j < n → segment s (k + j) ≡ get_or ss j nowhere) → used s k n ≡ ss
unfolding used
used_are [] zero k s all le h = refl
used_are [] (suc n) k s all le h =
    let first : segment s k ≡ nowhere = ap (segment s) (omega arith) ∙ h 0 (omega arith) in
    rw (eq-eqb (segment s k).len 0 (ap (λ (g : Segment). g.len) first)) refl
used_are (x ∷ ss) zero k s all le h = absurd (omega arith)
used_are (x ∷ ss) (suc n) k s all le h =
    let first : segment s k ≡ x = ap (segment s) (omega arith) ∙ h 0 (omega arith) in
    let rest : used s (k + 1) n ≡ ss = used_are ss n (k + 1) s all.1 (omega arith) (λ j lt. ap (segment s) (omega arith) ∙ h (suc j) (omega arith)) in
    rw (ne_eqb (segment s k).len 0 (λ z. omega (arith, all.0.some, ap (λ (g : Segment). g.len) first))) (ap₂ ◌∷◌ first rest)

-- the 48 entries
module _ (ss : List Segment) (few : length ss ≤ 48) where
  pub entries_length : length (entries_of ss) ≡ 48
  entries_length = length-append ss (replicate (48 - length ss) nowhere) ∙ omega (arith, length-replicate (48 - length ss) nowhere)

  pub entries_at : (k : ℕ) → k < 48 → get_or (entries_of ss) k nowhere ≡ get_or ss k nowhere
  entries_at k lt = elim (cases_lt k (length ss)) [
    | inl inside ↦ get_or_append_left ss (replicate (48 - length ss) nowhere) nowhere k inside
    | inr past ↦
        get_or-append_right ss (replicate (48 - length ss) nowhere) (length ss) k nowhere refl past
        ∙ get_or-replicate (48 - length ss) (k - length ss) nowhere nowhere (omega arith)
        ∙ sym (get_or_past ss k nowhere past)
  ]

  pub stored_length : length (stored ss) ≡ 240
  stored_length = length_joined (entries_of ss) ∙ omega (arith, entries_length)

  -- an entry fits its bytes
  module _ (all : AllStorable ss) where
    pub fits_at : (k : ℕ) → ((get_or ss k nowhere).start < 2 ^ 24) × ((get_or ss k nowhere).len < 2 ^ 16)
    fits_at k = elim (cases_lt k (length ss)) [
      | inl inside ↦ let s = All-get_or Storable ss k nowhere inside all in (s.low, s.short)
      | inr past ↦ let e = get_or_past ss k nowhere past in (omega (arith, ap (λ (s : Segment). s.start) e), omega (arith, ap (λ (s : Segment). s.len) e))
    ]

    -- a descriptor with the list laid over its entries
    module _ (xs : List ℕ) (wide : length xs ≡ 256) where
      fits : 16 + length (stored ss) ≤ length xs
      fits = omega (arith, stored_length)

      pub entry_is : (k : ℕ) → k < 48 → segment (over 16 (stored ss) xs) k ≡ get_or ss k nowhere
      entry_is k lt =
          let s = get_or ss k nowhere in
          segment_same _ (segment_bytes s) (λ i five.
          let at : 16 + k * 5 + i ≡ 16 + (k * 5 + i) = omega arith in
          get_or-drop (16 + k * 5) (over 16 (stored ss) xs) i 0
          ∙ ap (λ j. get_or (over 16 (stored ss) xs) j 0) at
          ∙ over_in 16 (stored ss) xs fits (k * 5 + i) (omega (arith, stored_length))
          ∙ byte_joined (entries_of ss) k i (omega (arith, entries_length)) five
          ∙ ap (λ (g : Segment). get_or (segment_bytes g) i 0) (entries_at k lt))
          ∙ segment_back s (fits_at k).0 (fits_at k).1

      pub segments_are : segments (over 16 (stored ss) xs) ≡ ss
      segments_are = used_are ss 48 0 _ all few (λ j lt. ap (segment (over 16 (stored ss) xs)) (omega arith) ∙ entry_is j lt)

      pub stored_tidy : TidyEntries (over 16 (stored ss) xs)
      stored_tidy j k le lt none =
          let gone : length ss ≤ j = elim (cases_lt j (length ss)) [
            | inl inside ↦ absurd (omega (arith, (All-get_or Storable ss j nowhere inside all).some, ap (λ (g : Segment). g.len) (entry_is j (omega arith))))
            | inr past ↦ past
          ] in
          entry_is k lt ∙ get_or_past ss k nowhere (omega arith)

-- one entry more is written
pub entry_more : (es : List Segment) (k : ℕ) (xs ys : List ℕ) → length es ≡ 48 → k < 48 → length xs ≡ 256 → ys ≡ over 16 (flat_map segment_bytes (take k es)) xs
    → over (16 + k * 5) (segment_bytes (get_or es k nowhere)) ys ≡ over 16 (flat_map segment_bytes (take (k + 1) es)) xs
entry_more es k xs ys long lt wide so_far =
    let front = take k es in
    let g = get_or es k nowhere in
    let joined : length (flat_map segment_bytes front) ≡ k * 5 = length_joined front ∙ omega (arith, length-take-le k es (omega (arith, long))) in
    ap (over (16 + k * 5) (segment_bytes g)) so_far
    ∙ over_over 16 (16 + k * 5) (flat_map segment_bytes front) (segment_bytes g) xs (omega (arith, joined)) (omega arith)
    ∙ ap (λ bs. over 16 bs xs) (flat_map_more segment_bytes [] front g ∙ ap (flat_map segment_bytes) (sym (take_more es k nowhere (omega (arith, long)))))

-- a list of entries stays tidy while they stay
pub tidy_same : (s s' : List ℕ) → SameEntries s s' → TidyEntries s → TidyEntries s'
tidy_same s s' same tidy j k le lt none = same k lt ∙ tidy j k le lt (sym (ap (λ (g : Segment). g.len) (same j (omega arith))) ∙ none)

-- one used entry more is read
pub read_more : (s : List ℕ) (k : ℕ) (g : Segment) (ss ss' : List Segment) → k < 48 → g ≡ segment s k → (g.len ≡ 0 → ⊥) → ss' ≡ ss ++ g ∷ [] → ss ++ rest s k ≡ segments s → ss' ++ rest s (k + 1) ≡ segments s
read_more s k g ss ss' low is some pushed so_far =
    let more : rest s k ≡ g ∷ rest s (k + 1) = rest_more s k low (λ z. some (ap (λ (x : Segment). x.len) is ∙ z)) ∙ ap (λ (x : Segment). x ∷ rest s (k + 1)) (sym is) in
    ap (λ (xs : List Segment). xs ++ rest s (k + 1)) pushed ∙ append_assoc ss (g ∷ []) (rest s (k + 1)) ∙ ap (λ (xs : List Segment). ss ++ xs) (sym more) ∙ so_far

-- a list in memory has at most 48 segments
pub listed_few : (items : List Segment) (count : ℕ) → IsPadded items count → length (take count items) ≤ 48
listed_few items count h = omega (arith, length_listed items count h, h.few)

-- a list with one segment more
pub pushed_length : (ss ss' : List Segment) (g : Segment) → ss' ≡ ss ++ g ∷ [] → length ss' ≡ length ss + 1
pushed_length ss ss' g pushed = ap length pushed ∙ length_push ss g
