-- A finding and a pass exclude each other.
use Rattle.std.proofs.Common.{ℕ, inl, inr}
use Rattle.std.proofs.lemmas.Bool.{both_ways}
use Rattle.devices.specs.Meaning.{Meaning}
use Rattle.rules.specs.Rules.{Sound, Broken}
use Rattle.rules.specs.declared.rule.Rule.{Rule}
use Rattle.rules.specs.declared.rule.Rule.TheVariants as rule

pub broken_unsound : (d : Meaning) (r : Rule) (at : ℕ) → Broken d r at → Sound d → ⊥
broken_unsound d rule.A at b s = b.1 s.rule_a
broken_unsound d rule.B at (inl b) s = b.1 s.root_inside
broken_unsound d rule.B at (inr b) s = b.1 (s.rule_b at b.0)
broken_unsound d rule.C at b s = b.1 (s.rule_c at b.0)
broken_unsound d rule.D at b s = b.1 (s.rule_d at b.0)
broken_unsound d rule.E at b s = b.2 (s.rule_e at b.0 b.1)
broken_unsound d rule.F at (inl b) s = both_ways _ b.1 (rw b.0 s.root_directory)
broken_unsound d rule.F at (inr b) s = b.1 (s.rule_f at b.0)
broken_unsound d rule.G at b s = s.rule_g at b
broken_unsound d rule.H at b s = both_ways _ b.1 (s.rule_h at b.0)
