-- What a tray's header tells, and what a write leaves of it.
use Rattle.std.proofs.Common.{◌≡◌, ℕ, ◌+◌, ◌-◌, ◌*◌, ◌<◌, ◌≤◌, List, length, get_or, take, sym, ap, ◌∙◌, ⊎_elim, zero-mul, arith}
use Rattle.std.proofs.lemmas.List.{get_or-take}
use Rattle.std.proofs.lemmas.Bool.{cases_eq}
use Rattle.devices.specs.declared.geometry.Geometry.{Geometry}
use Rattle.devices.specs.declared.tray.Tray.{Tray}
use Rattle.devices.specs.declared.inspection.TrayQuestion.{TrayQuestion}
use Rattle.devices.specs.declared.inspection.TrayQuestion.TheVariants.{Header, Tracks, Sides, Sectors, Interleave, Spare, Length, State}
use Rattle.devices.specs.Geometry.{lsn_place}
use Rattle.devices.specs.Tray.{Sound, Denied, ShapeOf, SpareRight, LengthRight, sectors_of, total_of, row_of, tray_meaning, meaning_under, meaning_of}
use Rattle.devices.proofs.Interleave.{place_below}

pub total_is : (xs : List ℕ) (g : Geometry) → ShapeOf xs g → sectors_of g ≡ total_of xs
total_is xs g h = rw (h.0, h.1, h.2)

pub meaning_is : (xs : List ℕ) (g : Geometry) → ShapeOf xs g → meaning_under g xs ≡ meaning_of xs
meaning_is xs g h =
    ap (λ n. tray_meaning xs n g.sectors_per_track g.interleave) (total_is xs g h)
    ∙ ap (λ s. tray_meaning xs (total_of xs) s g.interleave) h.2
    ∙ ap (λ k. tray_meaning xs (total_of xs) (row_of xs) k) h.3

-- where there is a sector there is a track
pub some_track : (g : Geometry) → 0 < sectors_of g → 0 < g.tracks
some_track g p =
    ⊎_elim
    (λ (e : g.tracks ≡ 0). let z : sectors_of g ≡ 0 = rw (e, zero-mul, zero-mul) in absurd (omega arith))
    (λ ne. omega arith)
    (cases_eq g.tracks 0)

-- a tray whose header tells of a geometry is sound, where what no geometry says is right
pub sound_under : (xs : List ℕ) (g : Geometry) → 0 < g.tracks → ShapeOf xs g → SpareRight xs → LengthRight xs → ((k : ℕ) → k < sectors_of g → get_or xs (8 + k) 0 ≤ 1) → Sound xs
sound_under xs g p shape spare long states = (
  (
    omega arith,
    omega (arith, shape.0),
    (omega (arith, shape.1, g.faces.0), omega (arith, shape.1, g.faces.1)),
    (omega (arith, shape.2, g.wide.0), omega (arith, shape.2, g.wide.1)),
    (omega (arith, shape.3, g.stride.0), omega (arith, shape.3, shape.2, g.stride.1), rw (← shape.3, ← shape.2) g.stride.2),
    spare,
  ),
  long,
  λ k lt. states k (omega (arith, total_is xs g shape)),
)

-- what an inspection refuses is not sound
pub refused_unsound : (xs : List ℕ) (q : TrayQuestion) (at : ℕ) → Denied xs q at → Sound xs → ⊥
refused_unsound xs Header at h s = omega arith
refused_unsound xs Tracks at h s = omega arith
refused_unsound xs Sides at h s = h.2 s.0.2
refused_unsound xs Sectors at h s = h.3 s.0.3
refused_unsound xs Interleave at h s = h.4 s.0.4
refused_unsound xs Spare at h s =
    ⊎_elim
    (λ (e : at ≡ 5). let z : 0 < get_or xs 5 0 = rw e at h.7 in omega (arith, s.0.5.0))
    (λ five.
    ⊎_elim
    (λ (e : at ≡ 6). let z : 0 < get_or xs 6 0 = rw e at h.7 in omega (arith, s.0.5.1))
    (λ six. let e : at ≡ 7 = omega arith in let z : 0 < get_or xs 7 0 = rw e at h.7 in omega (arith, s.0.5.2))
    (cases_eq at 6))
    (cases_eq at 5)
refused_unsound xs Length at h s = h.1 s.1
refused_unsound xs State at h s =
    let e : 8 + (at - 8) ≡ at = omega arith in
    let lt : at - 8 < total_of xs = omega arith in
    omega (arith, rw e at (s.2 (at - 8) lt))

-- how long a tray with a sector is
pub long_under : (t : Tray) → 0 < sectors_of t.geometry → length t.bytes.items ≡ 8 + 257 * sectors_of t.geometry
long_under t p =
    let q = some_track t.geometry p in
    omega (arith, t.size q, total_is t.bytes.items t.geometry (t.shape q))

-- each sector lies within the bytes
pub sector_fits : (xs : List ℕ) (g : Geometry) (l : ℕ) → length xs ≡ 8 + 257 * sectors_of g → l < sectors_of g → 8 + sectors_of g + lsn_place g.sectors_per_track g.interleave l * 256 + 256 ≤ length xs
sector_fits xs g l e lt =
    let below : lsn_place g.sectors_per_track g.interleave l < sectors_of g = place_below g.sectors_per_track g.interleave g.wide.0 (g.tracks * g.sides) l lt in
    omega arith

-- what is told before the sectors stays where the bytes before them stay
module _ (xs ys : List ℕ) (n : ℕ) (front : take (8 + n) ys ≡ take (8 + n) xs) where
  pub front_at : (i : ℕ) → i < 8 + n → get_or ys i 0 ≡ get_or xs i 0
  front_at i h = sym (get_or-take (8 + n) ys i 0 h) ∙ ap (λ l. get_or l i 0) front ∙ get_or-take (8 + n) xs i 0 h

  pub shape_stays : (g : Geometry) → ShapeOf xs g → ShapeOf ys g
  shape_stays g h =
      let a = front_at 0 (omega arith) in
      let b = front_at 1 (omega arith) in
      (omega (arith, a, b, h.0), h.1 ∙ sym (front_at 2 (omega arith)), h.2 ∙ sym (front_at 3 (omega arith)), h.3 ∙ sym (front_at 4 (omega arith)))

  pub spare_stays : SpareRight xs → SpareRight ys
  spare_stays h = (front_at 5 (omega arith) ∙ h.0, front_at 6 (omega arith) ∙ h.1, front_at 7 (omega arith) ∙ h.2)

  pub length_stays : (g : Geometry) → ShapeOf xs g → length ys ≡ length xs → LengthRight xs → LengthRight ys
  length_stays g h e long = omega (arith, total_is xs g h, total_is ys g (shape_stays g h))
