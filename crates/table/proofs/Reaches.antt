-- What is reached stays reached while slots stay.
use Rattle.std.proofs.Common.{◌≡◌, ℕ, ◌<◌, List, ap, arith}
use Rattle.rules.specs.Nodes.{times, ReachedBy, at_start, by_name}

-- every slot stays
pub reach_more : (root : ℕ) (f g : ℕ → List ℕ) → ((p l : ℕ) → 0 < times l (f p) → 0 < times l (g p)) → (l : ℕ) → ReachedBy f root l → ReachedBy g root l
reach_more root f g h _ at_start = at_start
reach_more root f g h _ (by_name p l r pos) = by_name p l (reach_more root f g h p r) (h p l pos)

-- every slot stays but the one of x, which names nothing itself
pub reach_less : (root x : ℕ) (f g : ℕ → List ℕ) → ((p l : ℕ) → (l ≡ x → ⊥) → 0 < times l (f p) → 0 < times l (g p)) → ((l : ℕ) → times l (f x) ≡ 0) → (l : ℕ) → ReachedBy f root l → (l ≡ x → ⊥) → ReachedBy g root l
reach_less root x f g h leaf _ at_start ne = at_start
reach_less root x f g h leaf _ (by_name p l r pos) ne =
    by_name p l (reach_less root x f g h leaf p r (λ q. omega (arith, leaf l, pos, ap (λ i. times l (f i)) q))) (h p l ne pos)
