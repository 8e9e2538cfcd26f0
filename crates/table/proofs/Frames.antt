-- What a descriptor shows stays while the sectors that it holds do.
use Rattle.std.proofs.Common.{◌≡◌, ℕ, ◌<◌, List, [], ◌∷◌, ◌++◌, take, Some, sym, refl, ap, ◌∙◌, subst, ap₂, arith}
use Rattle.std.specs.List.{flat_map}
use Rattle.devices.specs.Meaning.{Meaning}
use Rattle.layout.specs.Descriptor.{size, segments, extent, content}
use Rattle.rules.specs.Nodes.{times}
use Rattle.rules.proofs.Times.{hit_self}
use Rattle.table.specs.Entries.{Entry, held}
use Rattle.table.specs.Standing.{Means, Shows}
use Rattle.table.proofs.Fields.{segments_read}

-- a row of lists is the same where each of them is
pub joined_same : (f g : ℕ → List ℕ) (ls : List ℕ) → ((k : ℕ) → 0 < times k ls → g k ≡ f k) → flat_map g ls ≡ flat_map f ls
joined_same f g [] h = refl
joined_same f g (l ∷ ls) h = ap₂ (λ (x y : List ℕ). x ++ y) (h l (omega (arith, hit_self l))) (joined_same f g ls (λ k pos. h k (omega arith)))

-- the segments of an entry are those of its descriptor
pub segments_shown : (d : Meaning) (l : ℕ) (e : Entry) → Shows d l e → segments (d.sector l) ≡ e.segments
segments_shown d l e s = sym (segments_read (d.sector l) (content d.sector (d.sector l))) ∙ ap (λ (x : Entry). x.segments) s.reads

pub frame : (d d' : Meaning) (l : ℕ) (e : Entry) → ((k : ℕ) → 0 < times k (held l (Some e)) → d'.sector k ≡ d.sector k) → Shows d l e → Shows d' l e
frame d d' l e h s =
    let here : d'.sector l ≡ d.sector l = h l (omega (arith, hit_self l)) in
    let ls : List ℕ = extent (segments (d.sector l)) in
    let row : flat_map d'.sector ls ≡ flat_map d.sector ls = joined_same d.sector d'.sector ls (λ k pos. h k (omega (arith, pos, ap (λ ss. times k (extent ss)) (segments_shown d l e s)))) in
    let bytes : content d'.sector (d'.sector l) ≡ content d.sector (d.sector l) = ap (content d'.sector) here ∙ ap (take (size (d.sector l))) row in
    subst (λ (x : List ℕ). Means l x (content d'.sector (d'.sector l)) e) (sym here) (subst (λ (xs : List ℕ). Means l (d.sector l) xs e) (sym bytes) s)
