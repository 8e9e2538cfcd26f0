-- The letters of the rules.
use Rattle.std.specs.Prelude.{ℕ}
use Rattle.rules.specs.declared.rule.Rule.{Rule}
use Rattle.rules.specs.declared.rule.Rule.TheVariants as rule

abbrev pub letter : Rule → ℕ
letter rule.A = 65
letter rule.B = 66
letter rule.C = 67
letter rule.D = 68
letter rule.E = 69
letter rule.F = 70
letter rule.G = 71
letter rule.H = 72
