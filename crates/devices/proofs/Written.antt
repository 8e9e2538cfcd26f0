-- What a write of a sector leaves of a tray: everything but that sector.
use Rattle.std.proofs.Common.{◌≡◌, ℕ, ◌+◌, ◌-◌, ◌*◌, ◌<◌, ◌≢◌, eqb, List, length, get_or, take, refl, ap, ◌∙◌, arith, ◌≤◌, sym}
use Rattle.devices.specs.declared.tray.Tray.{Tray}
use Rattle.devices.specs.Geometry.{lsn_place}
use Rattle.devices.specs.Meaning.{Kept, bytes_at}
use Rattle.devices.specs.Tray.{sectors_of, meaning_under, head, ShapeOf, SpareRight, LengthRight}
use Rattle.devices.proofs.Interleave.{place_injective, place_below}
use Rattle.devices.proofs.Putting.{SectorPut, apart_from}
use Rattle.devices.proofs.Trays.{long_under, front_at, shape_stays, spare_stays, length_stays}

-- the place of an LSN in a tray, and where its sector begins
abbrev place_in : Tray → ℕ → ℕ
place_in t l = lsn_place t.geometry.sectors_per_track t.geometry.interleave l

abbrev begins : Tray → ℕ → ℕ
begins t l = 8 + sectors_of t.geometry + place_in t l * 256

-- the 256 bytes ys are written where the sector l begins, and the bytes are zs then
module _ (t : Tray) (ys zs : List ℕ) (l at : ℕ) (lt : l < sectors_of t.geometry) (is : at ≡ begins t l) (put : SectorPut t.bytes.items ys zs at) where
  front : take (8 + sectors_of t.geometry) zs ≡ take (8 + sectors_of t.geometry) t.bytes.items
  front = put.front (8 + sectors_of t.geometry) (omega arith)

  pub long : length zs ≡ length t.bytes.items
  long = put.long

  -- the facts that a tray carries
  pub shape_kept : 0 < t.geometry.tracks → ShapeOf zs t.geometry
  shape_kept p = shape_stays t.bytes.items zs (sectors_of t.geometry) front t.geometry (t.shape p)

  pub spare_kept : 0 < t.geometry.tracks → SpareRight zs
  spare_kept p = spare_stays t.bytes.items zs (sectors_of t.geometry) front (t.spare p)

  pub length_kept : 0 < t.geometry.tracks → LengthRight zs
  length_kept p = length_stays t.bytes.items zs (sectors_of t.geometry) front t.geometry (t.shape p) put.long (t.size p)

  pub states_kept : (k : ℕ) → k < sectors_of t.geometry → get_or zs (8 + k) 0 ≤ 1
  states_kept k h = omega (arith, front_at t.bytes.items zs (sectors_of t.geometry) front (8 + k) (omega arith), t.states k h)

  -- what the tray means
  pub bad_kept : (k : ℕ) → k < sectors_of t.geometry → eqb (get_or zs (8 + place_in t k) 0) 1 ≡ eqb (get_or t.bytes.items (8 + place_in t k) 0) 1
  bad_kept k h =
      let g = t.geometry in
      let below : place_in t k < sectors_of g = place_below g.sectors_per_track g.interleave g.wide.0 (g.tracks * g.sides) k h in
      ap (λ x. eqb x 1) (front_at t.bytes.items zs (sectors_of g) front (8 + place_in t k) (omega arith))

  pub others_kept : (k : ℕ) → k ≢ l → bytes_at zs (begins t k) ≡ bytes_at t.bytes.items (begins t k)
  others_kept k ne =
      let g = t.geometry in
      put.other (begins t k)
      (rw is
      (apart_from (8 + sectors_of g) (place_in t k) (place_in t l)
      (λ e. ne (place_injective g.sectors_per_track g.interleave g.wide.0 g.stride.0 g.stride.2 k l e))))

  pub sector_put : bytes_at zs (begins t l) ≡ ys
  sector_put = ap (bytes_at zs) (sym is) ∙ put.here

  pub sectors_kept : Kept (λ k. k ≢ l) (meaning_under t.geometry t.bytes.items) (meaning_under t.geometry zs)
  sectors_kept = (refl, bad_kept, λ k h ne. others_kept k ne)

  pub head_kept : head zs (sectors_of t.geometry) ≡ head t.bytes.items (sectors_of t.geometry)
  head_kept =
      ap (λ m. take (m - 256 * sectors_of t.geometry) zs) put.long
      ∙ put.front (length t.bytes.items - 256 * sectors_of t.geometry) (omega (arith, long_under t (omega arith)))
