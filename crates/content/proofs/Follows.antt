-- What becomes of a file's bytes when its sectors, its size or its segments change.
use Rattle.std.proofs.Common.{◌≡◌, ℕ, ◌+◌, ◌-◌, ◌*◌, ◌/◌, ◌<◌, ◌≤◌, max, false, List, ◌++◌, length, get_or, take, drop, sym, refl, ap, ◌∙◌, subst, ap₂, arith, length-append}
use Rattle.std.proofs.lemmas.List.{take-append-drop, take-append-le, take_all, take-take, length-take-le, get_or-take, get_or_append_left, length-take}
use Rattle.std.proofs.lemmas.Slice.{between_is}
use Rattle.std.proofs.lemmas.Bool.{both_ways}
use Rattle.std.proofs.lemmas.Grind.{flat_map-append}
use Rattle.devices.specs.Meaning.{Meaning, Whole, Kept, Fails}
use Rattle.devices.specs.declared.device.Cause.{Cause}
use Rattle.devices.specs.declared.device.Cause.TheVariants.{Length, Range, Bad}
use Rattle.layout.specs.Bytes.{over}
use Rattle.layout.specs.Descriptor.{size, content}
use Rattle.descriptors.proofs.Blocks as blocks
use Rattle.descriptors.proofs.Blocks.{length-row}
use Rattle.descriptors.proofs.Cutting.{take_through}
use Rattle.content.specs.Laws.{ContentLength, ContentWritten, ContentGrown, ContentShrunk, ContentCut, ContentKept, ContentBeside, NeverRefused}
use Rattle.content.specs.Rows.{sectors, row, Within, Outside, Beside}
use Rattle.content.proofs.WriteSteps.{same_row}
use Rattle.std.specs.List.{flat_map}

-- the bytes of one list of sectors and then another
pub row_append : (f : ℕ → List ℕ) (xs ys : List ℕ) → flat_map f (xs ++ ys) ≡ flat_map f xs ++ flat_map f ys
row_append f xs ys = flat_map-append f xs ys

-- sectors on the device, each of 256 bytes
pub row_length : (m : Meaning) (e : List ℕ) → Whole m → Within m e → length (row m e) ≡ length e * 256
row_length m e whole within = length-row m.sector 256 e (λ i lt. whole (get_or e i 0) (within i lt))

-- bytes that lie in the first of two lists of sectors
pub row_front : (m : Meaning) (e more : List ℕ) (n : ℕ) → n ≤ length (row m e) → take n (row m (e ++ more)) ≡ take n (row m e)
row_front m e more n le = ap (take n) (row_append m.sector e more) ∙ take-append-le n (row m e) (row m more) le

-- the first n sectors
pub row_first : (m : Meaning) (e : List ℕ) (n k : ℕ) → Whole m → Within m e → k ≤ 256 * n → k ≤ 256 * length e → take k (row m (take n e)) ≡ take k (row m e)
row_first m e n k whole within few all =
    let front = take n e in
    let some : Within m front = λ i lt. let low : i < n = omega (arith, length-take n e) in let part : i < length e = omega (arith, length-take n e) in rw (get_or-take n e i 0 low) (within i part) in
    sym (row_front m front (drop n e) k (omega (arith, row_length m front whole some, length-take n e))) ∙ ap (λ l. take k (row m l)) (take-append-drop n e)

-- a row with bytes laid over it, cut where they end or behind
pub over_content : (size p : ℕ) (bs xs : List ℕ) → p ≤ size → size ≤ length xs → take (max size (p + length bs)) (over p bs xs) ≡ over p bs (take size xs)
unfolding over
over_content size p bs xs lo hi =
    let t = max size (p + length bs) in
    let n : length (take p xs) ≡ p = length-take-le p xs (omega arith) in
    let e2 : t - length (take p xs) - length bs ≡ size - (p + length bs) = omega (arith, n) in
    take_through t (take p xs) (bs ++ drop (p + length bs) xs)
    ∙ ap₂ ◌++◌ (take_all t (take p xs) (omega (arith, n)) ∙ sym (take-take p size xs lo))
    (take_through (t - length (take p xs)) bs (drop (p + length bs) xs)
    ∙ ap₂ ◌++◌ (take_all (t - length (take p xs)) bs (omega (arith, n)))
    (ap (λ k. take k (drop (p + length bs) xs)) e2 ∙ between_is xs (p + length bs) size))

pub content-length : ContentLength
content-length m s h = blocks.content-length m.sector s (λ i lt. h.whole (get_or (sectors s) i 0) (h.within i lt)) h.held

-- the front of a list of sectors lies where the list does
pub within_front : (m : Meaning) (e more : List ℕ) → Within m (e ++ more) → Within m e
within_front m e more within i lt = rw (get_or_append_left e more 0 i lt) at (within i (omega (arith, length-append e more)))

pub content_written : ContentWritten
content_written m m' s s' more p bs grown sized w whole within distinct lo held =
    let e = sectors s in
    let e' = sectors s' in
    let all : Within m (e ++ more) = subst (Within m) grown within in
    let long : length (row m e) ≡ length e * 256 = row_length m e whole (within_front m e more all) in
    let longer : length (row m e') ≡ length e' * 256 = row_length m e' whole within in
    ap₂ take sized (w.is whole within distinct)
    ∙ over_content (size s) p bs (row m e') lo (omega (arith, longer, ap length grown, length-append e more))
    ∙ ap (over p bs) (ap (λ l. take (size s) (row m l)) grown ∙ row_front m e more (size s) (omega (arith, long)))

pub content-grown : ContentGrown
content-grown m s s' more h grown same =
    ap₂ (λ n l. take n (row m l)) same grown ∙ row_front m (sectors s) more (size s) (omega (arith, row_length m (sectors s) h.whole h.within, h.held))

pub content_shrunk : ContentShrunk
content_shrunk m s s' n h cut same few =
    ap₂ (λ k l. take k (row m l)) same cut ∙ row_first m (sectors s) n (size s) h.whole h.within few h.held

pub content_cut : ContentCut
content_cut m s s' same less = ap (λ l. take (size s') (row m l)) same ∙ sym (take-take (size s') (size s) (row m (sectors s)) less)

pub content-kept : ContentKept
content-kept m m' s same = ap (take (size s)) (same_row m.sector m'.sector (sectors s) same)

-- the same by what a change of the device keeps
pub row_kept : (P : ℕ → Type 0) (m m' : Meaning) (e : List ℕ) → Kept P m m' → Within m e → ((i : ℕ) → i < length e → P (get_or e i 0)) → row m' e ≡ row m e
row_kept P m m' e k within all = same_row m.sector m'.sector e (λ j lt. k.2 (get_or e j 0) (within j lt) (all j lt))

pub content_stays : (P : ℕ → Type 0) (m m' : Meaning) (s : List ℕ) → Kept P m m' → Within m (sectors s) → ((i : ℕ) → i < length (sectors s) → P (get_or (sectors s) i 0)) → content m'.sector s ≡ content m.sector s
content_stays P m m' s k within all = ap (take (size s)) (row_kept P m m' (sectors s) k within all)

-- a sector outside has none of the bytes
pub outside_beside : (e : List ℕ) (p n k : ℕ) → p + n ≤ 256 * length e → Outside e k → Beside e p n k
outside_beside e p n k fits out j lo hi = out (j / 256) (omega arith)

pub content_beside : ContentBeside
content_beside m m' e p bs s w fits within out =
    content_stays (Beside e p (length bs)) m m' s w.kept within (λ i lt. outside_beside e p (length bs) (get_or (sectors s) i 0) fits (out i lt))

served : (m : Meaning) (l : ℕ) (c : Cause) → l < m.count → m.bad l ≡ false → Fails m l 256 c → ⊥
served m l Length lt good fails = fails refl
served m l Range lt good fails = omega (arith, fails.1)
served m l Bad lt good fails = both_ways (m.bad l) good fails.2

pub never_refused : NeverRefused
never_refused m e j f within good refused = served m (get_or e (j / 256) 0) f.cause (within (j / 256) refused.0) (good (j / 256) refused.0) refused.1.1
