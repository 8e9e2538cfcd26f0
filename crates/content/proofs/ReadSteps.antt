-- Bytes read from the sectors of a file into a buffer.
use Rattle.std.proofs.Common.{◌≡◌, ℕ, zero, suc, ◌+◌, ◌-◌, ◌*◌, ◌/◌, ◌≤◌, List, ◌++◌, length, take, drop, Ok, Err, Result, sym, refl, ap, ◌∙◌, ap₂, arith, length-drop, length-take, take-add, ◌%◌, ◌<◌, get_or}
use borrow.Rule.Slice.PartMut.{put_mid}
use Rattle.std.specs.List.{flat_map}
use Rattle.std.proofs.lemmas.List.{append_assoc, take-append-drop, take_all, take_at, take-take, drop_at, drop-drop, drop-take, length-take-le}
use Rattle.layout.specs.Descriptor.{size, segments, extent, content}
use Rattle.descriptors.proofs.Blocks.{Wide, block, length-row}
use Rattle.devices.specs.Meaning.{Meaning, ReadDone}
use Rattle.devices.specs.declared.device.DeviceFault.{DeviceFault}
use Rattle.content.specs.Parts.{IsPart}
use Rattle.content.specs.Reading.{PartRead}
use Rattle.content.specs.Rows.{row}
use Rattle.content.specs.declared.file_parts.FilePart.{FilePart}
use Rattle.content.proofs.PartSteps.{part_sector}

-- a sector that is read whole, straight into the buffer
pub whole_read : (m : Meaning) (l o : ℕ) (b b' : List ℕ) (r : Result Unit DeviceFault) → length b ≡ 256 → o ≡ 0 → length b' ≡ length b → ReadDone m l b b' r → PartRead m l o b b' r
whole_read m l o b b' (Ok u) long none same (a, is) = (
  (refl, a.1, a.2),
  is ∙ sym (ap₂ (λ n k. take n (drop k (m.sector l))) long none ∙ take_all 256 (m.sector l) (omega (arith, ap length is))),
)
whole_read m l o b b' (Err f) long none same (a, is) = (rw long at a, is)

-- a part of a row that is cut behind it
pub cut_part : (size p k : ℕ) (xs : List ℕ) → k ≤ size - p → take k (drop p (take size xs)) ≡ take k (drop p xs)
cut_part size p zero xs h = refl
cut_part size p (suc k) xs h =
    let s : size ≡ p + (size - p) = omega arith in
    ap (λ n. take (suc k) (drop p (take n xs))) s ∙ ap (take (suc k)) (drop-take p (size - p) xs) ∙ take-take (suc k) (size - p) (drop p xs) h

-- one part more is read: b₀ is the buffer at the start, b what it holds with d bytes read
pub read_more : (xs b₀ b part : List ℕ) (p d e : ℕ) → d ≤ e → b ≡ take d (drop p xs) ++ drop d b₀ → p + d ≤ length xs → part ≡ take (e - d) (drop (p + d) xs) → put_mid d (e - d) b part ≡ take e (drop p xs) ++ drop e b₀
read_more xs b₀ b part p d e le is room got =
    let n : length (take d (drop p xs)) ≡ d = length-take-le d (drop p xs) (simp length-drop (omega arith)) in
    let front : take d b ≡ take d (drop p xs) = ap (take d) is ∙ take_at (take d (drop p xs)) (drop d b₀) d n in
    let s : d + (e - d) ≡ e = omega arith in
    let back : drop (e - d) (drop d b) ≡ drop e b₀ =
    ap (λ l. drop (e - d) (drop d l)) is ∙ ap (drop (e - d)) (drop_at (take d (drop p xs)) (drop d b₀) d n) ∙ drop-drop (e - d) d b₀ ∙ ap (λ k. drop k b₀) s in
    let mid : part ≡ take (e - d) (drop d (drop p xs)) = got ∙ ap (take (e - d)) (sym (drop-drop d p xs)) in
    let whole : take d (drop p xs) ++ take (e - d) (drop d (drop p xs)) ≡ take e (drop p xs) = sym (take-add d (e - d) (drop p xs)) ∙ ap (λ k. take k (drop p xs)) s in
    ap₂ ◌++◌ front (ap₂ ◌++◌ mid back) ∙ sym (append_assoc (take d (drop p xs)) (take (e - d) (drop d (drop p xs))) (drop e b₀)) ∙ ap (λ l. l ++ drop e b₀) whole

-- the same where the part came from the sector in which the byte p + d lies
pub read_turn : (f : ℕ → List ℕ) (e b₀ b part : List ℕ) (p d end lsn n : ℕ) → Wide f 256 e → (p + d) / 256 < length e → lsn ≡ get_or e ((p + d) / 256) 0 → d ≤ end → end ≤ d + (256 - (p + d) % 256) → b ≡ take d (drop p (flat_map f e)) ++ drop d b₀ → n ≡ end - d → part ≡ take n (drop ((p + d) % 256) (f lsn)) → put_mid d (end - d) b part ≡ take end (drop p (flat_map f e)) ++ drop end b₀
read_turn f e b₀ b part p d end lsn n wide h is le fits was ne got =
    let cut : (p + d) / 256 * 256 + (p + d) % 256 ≡ p + d = omega arith in
    read_more (flat_map f e) b₀ b part p d end le was (omega (arith, length-row f 256 e wide))
    (got ∙ ap₂ (λ k l. take k (drop ((p + d) % 256) (f l))) ne is
    ∙ sym (block f 256 e ((p + d) / 256) ((p + d) % 256) (end - d) wide h (omega arith))
    ∙ ap (λ k. take (end - d) (drop k (flat_map f e))) cut)

-- the same of a part as the parts of a file's bytes have it
pub read_part_turn : (m : Meaning) (e b₀ b got : List ℕ) (p n k k' : ℕ) (part : FilePart) → IsPart e p n k part → k' ≡ part.bytes.end → n ≤ length b → Wide m.sector 256 e → b ≡ take k (drop p (row m e)) ++ drop k b₀ → got ≡ take (length (take (part.bytes.end - part.bytes.start) (drop part.bytes.start b))) (drop part.from (m.sector part.lsn)) → put_mid part.bytes.start (part.bytes.end - part.bytes.start) b got ≡ take k' (drop p (row m e)) ++ drop k' b₀
read_part_turn m e b₀ b got p n k k' part is next fits wide was have =
    let at = part_sector e p n k part is in
    let wanted : ℕ = length (take (part.bytes.end - part.bytes.start) (drop part.bytes.start b)) in
    let long : wanted ≡ part.bytes.end - k = omega (arith, is.start, is.end, length-take (part.bytes.end - part.bytes.start) (drop part.bytes.start b), length-drop part.bytes.start b) in
    rw (is.start, next)
    (read_turn m.sector e b₀ b got p k part.bytes.end part.lsn wanted wide at.0 at.1 (omega (arith, is.end)) (omega (arith, is.from, is.end)) was long
    (have ∙ ap (λ o. take wanted (drop o (m.sector part.lsn))) is.from))

-- a part that is put back as it was
pub put_same : (d k : ℕ) (b part : List ℕ) → part ≡ take k (drop d b) → put_mid d k b part ≡ b
put_same d k b part is = ap (λ l. take d b ++ (l ++ drop k (drop d b))) is ∙ ap (λ l. take d b ++ l) (take-append-drop k (drop d b)) ∙ take-append-drop d b

-- n bytes of a row are n bytes of the file, where its size is no less
pub got_content : (sector : ℕ → List ℕ) (s b b' : List ℕ) (p n : ℕ) → n ≤ size s - p → b' ≡ take n (drop p (flat_map sector (extent (segments s)))) ++ drop n b → b' ≡ take n (drop p (content sector s)) ++ drop n b
got_content sector s b b' p n le is = is ∙ ap (λ l. l ++ drop n b) (sym (cut_part (size s) p n (flat_map sector (extent (segments s))) le))
