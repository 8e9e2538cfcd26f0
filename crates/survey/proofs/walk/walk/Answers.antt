use Rattle.std.proofs.Common.{◌≡◌, ℕ, ◌+◌, ◌<◌, ◌≤◌, List, length, get_or, set, replicate, Ok, Err, Result, sym, refl, ap, ◌∙◌, subst, ap₂, arith, rules, length-set, get_or-set_same}
use Rattle.std.proofs.lemmas.Result.{err_from_is_err_and}
use Rattle.devices.specs.Meaning.{Meaning}
use Rattle.rules.specs.Rules.{sectors_of, root_at, Inside}
use Rattle.rules.specs.Walking.{system, hit}
use Rattle.survey.specs.Names.{nobody}
use Rattle.survey.specs.Walks.{WalkAnswer}
use Rattle.survey.specs.declared.finding.Finding.{Finding}
use Rattle.survey.specs.declared.waiting.Waiting.{Waiting}
use Rattle.survey.proofs.Goings.{Going, going_starts, going_ends, going_done, turn_ready, popped_on, popped_finds}
use Rattle.survey.proofs.Lists.{kept_on}
use Rattle.survey.proofs.walk.walk.Goals as goal

pub loop-turn-init : goal.loop-turn-init
loop-turn-init g c =
    let subject = c.args.subject.now in
    let d = g.D.Device.meaning subject.device.now in
    let m = c.push.new.self.marks.now in
    let ws = c.push.new.self.waiting.now in
    let ws₀ = c.new-lists.result.waiting.now in
    let w : Waiting = record { lsn = c.args.root; parent = c.args.root; name = replicate 28 0 } in
    let is : ws ≡ set ws₀ 0 w = c.push.ensures.waiting ∙ ap (λ i. set ws₀ i w) c.new-lists.ensures.empty in
    let some : 0 < length ws₀ = omega (arith, c.requires.room, c.requires.identified.total, c.requires.inside.1, ap length c.new-lists.ensures.waiting) in
    let here : get_or ws 0 nobody ≡ w = ap (λ (x : List Waiting). get_or x 0 nobody) is ∙ get_or-set_same ws₀ 0 w nobody some in
    record {
      kept = record { same_marks = refl; same_waiting = refl; marks_long = refl; waiting_long = refl };
      going =
          subst (λ (n : ℕ). Going d m m ws 0 n) (sym (c.push.ensures.count ∙ ap (λ i. i + 1) c.new-lists.ensures.empty))
          (going_starts d m m ws c.requires.inside
          (λ k lt. ap (λ (x : List ℕ). get_or x k 0) (c.push.ensures.marks ∙ c.new-lists.ensures.marks) ∙ c.prepare.ensures.set_up k (omega (arith, c.requires.identified.total)) ∙ ap₂ (λ (a b : ℕ). system a k + hit b k) c.requires.identified.map c.requires.identified.top)
          (λ k le. refl)
          (omega (arith, ap length is, length-set ws₀ 0 w, some))
          (ap (λ (x : Waiting). x.lsn) here ∙ c.requires.identified.top)
          (ap (λ (x : Waiting). x.parent) here ∙ c.requires.identified.top));
    }

pub visit-requires : goal.visit-requires
visit-requires g c =
    let subject = c.args.subject.now in
    let kept = c.loop-turn.invariant.kept in
    let taken = c.in-Some.ensures in
    turn_ready (g.D.Device.meaning subject.device.now) c.push.new.self.marks.now c.loop-turn.lists c.pop.new.self c.loop-turn.turn subject.bounds.low subject.bounds.high c.requires.identified.map c.requires.identified.total c.loop-turn.invariant.going c.in-Some.next taken.marks taken.waiting taken.taken
    (omega (arith, c.requires.room, kept.waiting_long, c.push.ensures.kept.waiting_long, ap length c.new-lists.ensures.waiting))
    (omega (arith, c.requires.marked, kept.marks_long, c.push.ensures.kept.marks_long, ap length c.new-lists.ensures.marks))

found : (d : Meaning) (mₑ mₓ : List ℕ) (r : Result Unit Finding) (f : Finding) → r ≡ Err f → ((m : List ℕ) → WalkAnswer d mₑ m (Err f)) → WalkAnswer d mₑ mₓ r
found d mₑ mₓ r f e w = subst (λ (x : Result Unit Finding). WalkAnswer d mₑ mₓ x) (sym e) (w mₓ)

pub returns-in_err-visit : goal.returns-in_err-visit
returns-in_err-visit g c =
    let subject = c.args.subject.now in
    let taken = c.in-Some.ensures in
    let p = err_from_is_err_and c.from_residual.result c.from_residual.ensures.1 in
    found (g.D.Device.meaning subject.device.now) c.args.marks.now _ c.from_residual.result c.in_err-visit.field-0.0 (p.1 ∙ ap Err p.2) (λ m. popped_finds (g.D.Device.meaning subject.device.now) c.push.new.self.marks.now c.loop-turn.lists c.pop.new.self c.loop-turn.turn subject.bounds.low subject.bounds.high c.requires.identified.map c.requires.identified.total c.loop-turn.invariant.going c.in-Some.next taken.marks taken.waiting taken.taken
    subject.there c.args.marks.now c.visit.new.lists.marks.now m c.visit.new.lists.waiting.now c.in_err-visit.field-0.0 c.in_err-visit.ensures.visited)

pub loop-turn-preserved : goal.loop-turn-preserved
loop-turn-preserved g c =
    let subject = c.args.subject.now in
    let taken = c.in-Some.ensures in
    record {
      kept = kept_on _ c.loop-turn.lists _ c.loop-turn.invariant.kept (kept_on _ c.pop.new.self _ c.pop.ensures.kept c.visit.ensures.kept);
      going = popped_on (g.D.Device.meaning subject.device.now) c.push.new.self.marks.now c.loop-turn.lists c.pop.new.self c.loop-turn.turn subject.bounds.low subject.bounds.high c.requires.identified.map c.requires.identified.total c.loop-turn.invariant.going c.in-Some.next taken.marks taken.waiting taken.taken
          c.visit.new.lists.count c.visit.new.lists.marks.now c.visit.new.lists.waiting.now c.in_ok-visit.ensures.visited;
    }

-- the end of a walk, from the marks that the caller had
ended : (d : Meaning) (mₑ m₀ m mₓ : List ℕ) (ws : List Waiting) (turn count : ℕ) → Inside d (root_at d) → ((k : ℕ) → sectors_of d ≤ k → get_or m₀ k 0 ≡ get_or mₑ k 0) → count ≡ 0 → Going d m₀ m ws turn count → mₓ ≡ m → WalkAnswer d mₑ mₓ (Ok tt)
ended d mₑ m₀ m mₓ ws turn count in-volume later none s same =
    let e = going_ends d m₀ m ws turn in-volume (subst (λ (n : ℕ). Going d m₀ m ws turn n) none s) in
    subst (λ (x : List ℕ). WalkAnswer d mₑ x (Ok tt)) (sym same) (e.0, λ k le. e.1 k le ∙ later k le)

pub returns-in_default : goal.returns-in_default
returns-in_default g c =
    let subject = c.args.subject.now in
    ended (g.D.Device.meaning subject.device.now) c.args.marks.now c.push.new.self.marks.now c.loop-turn.lists.marks.now _ c.loop-turn.lists.waiting.now c.loop-turn.turn c.loop-turn.lists.count c.requires.inside
    (λ k le. ap (λ (x : List ℕ). get_or x k 0) (c.push.ensures.marks ∙ c.new-lists.ensures.marks) ∙ c.prepare.ensures.later k (omega (arith, c.requires.identified.total))) c.in_default.ensures.taken c.loop-turn.invariant.going (search rules)

pub returns : goal.returns
returns g c =
    let subject = c.args.subject.now in
    let d = g.D.Device.meaning subject.device.now in
    let m₀ = c.push.new.self.marks.now in
    let lists = c.loop-turn.lists in
    ended d c.args.marks.now m₀ lists.marks.now _ lists.waiting.now c.loop-turn.turn lists.count c.requires.inside
    (λ k le. ap (λ (x : List ℕ). get_or x k 0) (c.push.ensures.marks ∙ c.new-lists.ensures.marks) ∙ c.prepare.ensures.later k (omega (arith, c.requires.identified.total)))
    (going_done d m₀ lists.marks.now lists.waiting.now c.loop-turn.turn lists.count (omega (arith, c.requires.identified.total)) c.loop-turn.invariant.going)
    c.loop-turn.invariant.going (search rules)
