use Rattle.std.proofs.Common.{ℕ, ◌<◌, Bool, true, false, cond, zero, suc, arith, subst, sym}
use Rattle.std.specs.Str.{IsAscii}
use Rattle.std.proofs.lemmas.Str.{IsUtf8-from_ascii}
use Rattle.layout.specs.Map.{bit_at}
use Rattle.layout.specs.Attributes.{shown}
use Rattle.layout.proofs.attribute.AttributeDisplay.fmt.Goals as goal

-- a letter, or "-"
one : (b : Bool) (n : ℕ) → n < 128 → cond {A = ℕ} b n 45 < 128
one true n small = small
one false n small = omega arith

shown_ascii : (a : ℕ) → IsAscii (shown a)
shown_ascii a zero = one (bit_at a 0) 100 (omega arith)
shown_ascii a (suc zero) = one (bit_at a 1) 115 (omega arith)
shown_ascii a (suc (suc zero)) = one (bit_at a 2) 101 (omega arith)
shown_ascii a (suc (suc (suc zero))) = one (bit_at a 3) 119 (omega arith)
shown_ascii a (suc (suc (suc (suc zero)))) = one (bit_at a 4) 114 (omega arith)
shown_ascii a (suc (suc (suc (suc (suc zero))))) = one (bit_at a 5) 101 (omega arith)
shown_ascii a (suc (suc (suc (suc (suc (suc zero)))))) = one (bit_at a 6) 119 (omega arith)
shown_ascii a (suc (suc (suc (suc (suc (suc (suc zero))))))) = one (bit_at a 7) 114 (omega arith)
shown_ascii a (suc (suc (suc (suc (suc (suc (suc (suc k)))))))) = omega arith

pub unreachable-requires : goal.unreachable-requires
unreachable-requires g c =
    c.in_default.ensures.cases.0 (IsUtf8-from_ascii _ (subst IsAscii (sym c.attribute_letters-letters.ensures) (shown_ascii c.args.self.now.0)))
