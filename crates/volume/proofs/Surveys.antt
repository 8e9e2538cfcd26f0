-- A survey that ends at the root's descriptor.
use Rattle.std.proofs.Common.{◌≡◌, ℕ, true, List, length, Ok, Err, Result, sym, refl, ap, ◌∙◌, subst, inl, inr, arith}
use Rattle.devices.specs.Meaning.{Meaning, Fails}
use Rattle.devices.specs.declared.device.Cause.{Cause}
use Rattle.devices.specs.declared.device.Cause.TheVariants.{Length, Range, Bad}
use Rattle.rules.specs.Nodes.{at_root}
use Rattle.rules.specs.Rules.{root_at, RuleA, Inside, Wanted, Sound}
use Rattle.rules.proofs.Times.{hit_self}
use Rattle.rules.proofs.Findings.{broken_unsound}
use Rattle.volume.specs.Surveying.{Allocation, RootAnswer, SurveyAnswer, Passes}
use Rattle.volume.specs.declared.fault.VolumeFault.{VolumeFault}
use Rattle.volume.specs.declared.fault.VolumeRefusal.TheVariants as refusal
use Rattle.volume.specs.declared.volume_record.Volume.{Volume}
use Rattle.volume.specs.declared.fault.VolumeFault.TheVariants.{Device, Refused, Broken}

-- the root's descriptor must be good
root_wanted : (d : Meaning) → Inside d (root_at d) → Wanted d (root_at d)
root_wanted d ins = (ins.1, inl (inr (record { by = root_at d; there = at_root; has = omega (arith, hit_self (root_at d)) })))

pub root_refused : (d : Meaning) (a room : ℕ) (marks marks' : List ℕ) → Allocation a → RuleA d → (f : VolumeFault) → RootAnswer d (Err f) → SurveyAnswer d a room marks marks' (Err f)
root_refused d a room marks marks' lawful rule_a (Device r) (ins, at, cause, bad) =
    let l = r.fault.lsn in
    let spoilt : d.bad l ≡ true = ap d.bad at ∙ bad in
    (lawful, (refl, subst (λ (x : Cause). Fails d l 256 x) (sym cause) (refl, omega (arith, at, ins.1, rule_a.fits), spoilt)), inr (rule_a, spoilt, subst (Wanted d) (sym at) (root_wanted d ins)))
root_refused d a room marks marks' lawful rule_a (Refused r at) none = elim none [ ]
root_refused d a room marks marks' lawful rule_a (Broken r at) broken = (lawful, broken)

-- a sound volume's sectors can be read
readable : (d : Meaning) (l : ℕ) (c : Cause) → Sound d → Wanted d l → Fails d l 256 c → ⊥
readable d l Length s w f = f refl
readable d l Range s w f = omega (arith, f.1, w.0, s.rule_a.fits)
readable d l Bad s w f = cc (f.2, s.good l w)

first_wanted : (d : Meaning) → Sound d → Wanted d 0
first_wanted d s = (omega (arith, s.rule_a.least), inl (inl (omega arith)))

pub exact : (d : Meaning) (a room : ℕ) (marks marks' : List ℕ) (r : Result Volume VolumeFault) → SurveyAnswer d a room marks marks' r → Passes d a (length marks) room r
exact d a room marks marks' (Ok v) p = tt
exact d a room marks marks' (Err (Device r)) (_, refuses, inl zero) = λ s lawful long wide. readable d r.fault.lsn r.fault.cause s (subst (Wanted d) (sym zero) (first_wanted d s)) refuses.1
exact d a room marks marks' (Err (Device r)) (_, refuses, inr bad) = λ s lawful long wide. readable d r.fault.lsn r.fault.cause s bad.2 refuses.1
exact d a room marks marks' (Err (Refused refusal.WorkLists at)) (_, (_, _, inl lt)) = λ s lawful long wide. omega (arith, lt, long)
exact d a room marks marks' (Err (Refused refusal.WorkLists at)) (_, (_, _, inr lt)) = λ s lawful long wide. omega (arith, lt, wide)
exact d a room marks marks' (Err (Refused refusal.Arguments at)) (_, not) = λ s lawful long wide. not lawful
exact d a room marks marks' (Err (Refused refusal.Broken at)) (_, none) = λ s lawful long wide. elim none [ ]
exact d a room marks marks' (Err (Broken r at)) (_, broken) = λ s lawful long wide. broken_unsound d r at broken s
