use Rattle.std.proofs.Common.{◌≡◌, ℕ, zero, suc, ◌+◌, ◌*◌, ◌<◌, ◌≤◌, List, get_or, subst, ◌∙◌, inl, inr, arith, rules}
use Rattle.std.specs.Array.{IsFromFnResultFrom}
use Rattle.std.proofs.lemmas.Bool.{cases_eq}
use Rattle.std.proofs.lemmas.List.FromFn.{fill_by_all}
use denote.Param.Members.{Mut, Called}
use Rattle.layout.specs.Map.{packed}
use Rattle.volume.specs.NewVolume.{taken_first}
use Rattle.volume.proofs.new_map.new_map_sector.Goals as goal

-- what the calls of a closure gave, where each gives what P says and changes no capture
each_given : {F : Type 0} (g : Mut F (ℕ × Unit {0}) ℕ) (P : ℕ → ℕ) (f : F) → ((i r : ℕ) (f' : F) → Called g f (i, tt) r f' → (r ≡ P i) × (f' ≡ f)) → (ys : List ℕ) (i n : ℕ) → IsFromFnResultFrom g f ys i n → (k : ℕ) → i ≤ k → k < i + n → get_or ys k 0 ≡ P k
each_given g P f says ys i zero made k low high = absurd (omega arith)
each_given g P f says ys i (suc n) (q, y, here, call, rest) k low high =
    let said = says i y q call in
    elim (cases_eq k i) [
      | inl e ↦ rw e (here.1 0 ∙ said.0)
      | inr ne ↦ each_given g P f says ys (i + 1) n (subst (λ p. IsFromFnResultFrom g p ys (i + 1) n) said.1 rest) k (omega arith) (omega arith)
    ]

pub returns : goal.returns
returns g c =
    let f : ℕ → ℕ = λ k. packed (taken_first (g.D.Device.meaning c.args.device.now) c.args.plan.total) (c.args.index * 2048 + k * 8) 8 in
    let made = c.from_fn.ensures.items in
    fill_by_all f c.from_fn.result 256 0 made.long (λ k h. each_given _ f _ (λ i r f' call. search rules) c.from_fn.result 0 256 made.each k (omega arith) (omega arith))
