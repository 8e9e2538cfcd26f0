-- A segment list that grows at its end, and its sectors.
use Rattle.std.proofs.Common.{◌≡◌, ℕ, zero, suc, ◌+◌, ◌-◌, ◌<◌, List, [], ◌∷◌, ◌++◌, length, get_or, sym, ap, ◌∙◌, ap₂, arith, refl}
use Rattle.std.proofs.lemmas.List.{append-nil, append_assoc}
use Rattle.layout.specs.Descriptor.{upto, extent}
use Rattle.layout.specs.declared.segment.Segment.{Segment}
use Rattle.descriptors.specs.Lists.{nowhere, last_of, lengthened}
use Rattle.descriptors.specs.Stored.{AllStorable}

-- one run and the next
pub upto_add : (s a b : ℕ) → upto s (a + b) ≡ upto s a ++ upto (s + a) b
unfolding upto
upto_add s zero b = ap₂ upto (omega arith) (omega arith)
upto_add s (suc a) b =
    let one : suc a + b ≡ suc (a + b) = omega arith in
    let next : s + 1 + a ≡ s + suc a = omega arith in
    rw one (ap (λ l. s ∷ l) (upto_add (s + 1) a b ∙ ap (λ k. upto (s + 1) a ++ upto k b) next))

pub extent-append : (ss ts : List Segment) → extent (ss ++ ts) ≡ extent ss ++ extent ts
extent-append [] ts = refl
extent-append (s ∷ ss) ts = ap (λ l. upto s.start s.len ++ l) (extent-append ss ts) ∙ sym (append_assoc (upto s.start s.len) (extent ss) (extent ts))

-- a segment more
pub extent_push : (ss : List Segment) (s : Segment) → extent (ss ++ s ∷ []) ≡ extent ss ++ upto s.start s.len
extent_push ss s = extent-append ss (s ∷ []) ∙ ap (λ l. extent ss ++ l) (append-nil (upto s.start s.len))

-- the last of a list is that of its rest
last_behind : (s t : Segment) (ss : List Segment) → last_of (s ∷ t ∷ ss) ≡ last_of (t ∷ ss)
last_behind s t ss = let at : length (s ∷ t ∷ ss) - 1 ≡ suc (length (t ∷ ss) - 1) = omega arith in ap (λ k. get_or (s ∷ t ∷ ss) k nowhere) at

-- a longer last segment
pub extent-lengthened : (ss : List Segment) (n : ℕ) → 0 < length ss → extent (lengthened ss n) ≡ extent ss ++ upto ((last_of ss).start + (last_of ss).len) n
extent-lengthened [] n some = absurd (omega arith)
extent-lengthened (s ∷ []) n some =
    append-nil (upto s.start (s.len + n)) ∙ upto_add s.start s.len n ∙ ap (λ l. l ++ upto (s.start + s.len) n) (sym (append-nil (upto s.start s.len)))
extent-lengthened (s ∷ t ∷ ss) n some =
    let last = last_behind s t ss in
    ap (λ l. upto s.start s.len ++ l) (extent-lengthened (t ∷ ss) n (omega arith) ∙ ap (λ (u : Segment). extent (t ∷ ss) ++ upto (u.start + u.len) n) (sym last))
    ∙ sym (append_assoc (upto s.start s.len) (extent (t ∷ ss)) (upto ((last_of (s ∷ t ∷ ss)).start + (last_of (s ∷ t ∷ ss)).len) n))

pub lengthened_storable : (ss : List Segment) (n : ℕ) → (last_of ss).len + n < 65536 → AllStorable ss → AllStorable (lengthened ss n)
lengthened_storable [] n fits all = tt
lengthened_storable (s ∷ []) n fits all = (record { some = omega (arith, all.0.some); short = omega arith; low = all.0.low }, tt)
lengthened_storable (s ∷ t ∷ ss) n fits all = (all.0, lengthened_storable (t ∷ ss) n (omega (arith, ap (λ (u : Segment). u.len) (last_behind s t ss))) all.1)
