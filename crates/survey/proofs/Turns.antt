-- One turn of a scan: a slot that was read, and what was taken of it.
use Rattle.std.proofs.Common.{◌≡◌, ℕ, ◌+◌, ◌/◌, ◌<◌, ◌≤◌, true, List, length, get_or, Ok, Err, sym, subst, inl, inr, arith}
use Rattle.devices.specs.Meaning.{Meaning}
use Rattle.rules.specs.Nodes.{times, is_directory}
use Rattle.rules.specs.Rules.{slot_bytes_at, slot_count}
use Rattle.rules.specs.declared.rule.Rule.{Rule}
use Rattle.rules.specs.declared.rule.Rule.TheVariants as rule
use Rattle.survey.specs.Lists.{Kept, Ready}
use Rattle.survey.specs.Scanning.{lsns, Scanned, ScanBreaks, ScanAnswer}
use Rattle.survey.specs.Slots.{SlotRead}
use Rattle.survey.specs.Taking.{Breaks, SlotTaken}
use Rattle.survey.specs.declared.finding.Finding.{Finding}
use Rattle.survey.specs.declared.finding.Finding.TheVariants.{Broken, Unread}
use Rattle.survey.specs.declared.waiting.Waiting.{Waiting}
use Rattle.survey.specs.declared.work_lists.WorkLists.{WorkLists}
use Rattle.survey.proofs.SlotReads.{Directory, unread, directory_is, directory_count, directory_two, directory_slot}
use Rattle.survey.proofs.Scans.{Scan, scan_passes, scan_takes, scan_room, breaks_b, breaks_e, breaks_g, scan_ends}

module _ (d : Meaning) (l low high base n : ℕ) (m₀ : List ℕ) (ws₀ : List Waiting) (dir : is_directory (d.sector l) ≡ true) (total : slot_count d l ≡ n)
    (k count : ℕ) (m : List ℕ) (ws : List Waiting) (two : 2 ≤ k) (lt : k < n) (s : Scan d l low high base m₀ ws₀ k count m ws) where
  breaks : (r : Rule) (at : ℕ) → Breaks (slot_bytes_at d l k) l low high base count m ws r at → ScanBreaks d l low high m₀ r at
  breaks rule.A at b = b
  breaks rule.B at b = (b.0, breaks_b d l low high base n m₀ ws₀ dir total k count m ws two lt s b.1 b.2)
  breaks rule.C at b = b
  breaks rule.D at b = b
  breaks rule.E at b = (b.0, breaks_e d l low high base n m₀ ws₀ dir total k count m ws two lt s b.1 b.2)
  breaks rule.F at b = b
  breaks rule.G at b = (b.2, b.3, breaks_g d l low high base n m₀ ws₀ dir total k count m ws two lt s at b.0 b.1 b.4)
  breaks rule.H at b = b

  finds : (m' : List ℕ) (ws' : List Waiting) (f : Finding) → SlotTaken (slot_bytes_at d l k) l low high base count m m' ws ws' (Err f) → ScanAnswer d l low high base m₀ m' ws₀ ws' (Err f)
  finds m' ws' (Broken r at) b = breaks r at b
  finds m' ws' (Unread w f) b = absurd b

  steps : (m' : List ℕ) (ws' : List Waiting) (c : ℕ) → ((c : ℕ) → times c (lsns base ws₀) ≤ get_or m₀ c 0) → ((c : ℕ) → 0 < times c (lsns base ws₀) → c < high) → high ≤ length ws → high ≤ length m
      → SlotTaken (slot_bytes_at d l k) l low high base count m m' ws ws' (Ok c) → Scan d l low high base m₀ ws₀ (k + 1) c m' ws'
  steps m' ws' c listed low_ones fits long (inl p) = subst (λ (i : ℕ). Scan d l low high base m₀ ws₀ (k + 1) i m' ws') (sym p.0) (scan_passes d l low high base m₀ ws₀ k count m ws two s m' ws' p.1)
  steps m' ws' c listed low_ones fits long (inr t) =
      subst (λ (i : ℕ). Scan d l low high base m₀ ws₀ (k + 1) i m' ws') (sym t.0)
      (scan_takes d l low high base m₀ ws₀ k count m ws two s m' ws' (scan_room d l low high base m₀ ws₀ k count m ws two s listed low_ones fits _ t.1.below t.1.unmarked) long t.1)

module _ (d : Meaning) (s : List ℕ) (l low high n : ℕ) (dir : Directory d s l low high n) (k : ℕ) (start now : WorkLists) (scan : Scan d l low high start.count start.marks.now start.waiting.now k now.count now.marks.now now.waiting.now) where
  pub turn_unread : (m : List ℕ) (ws : List Waiting) (f : Finding) → SlotRead d s k (Err f) → ScanAnswer d l low high start.count start.marks.now m start.waiting.now ws (Err f)
  turn_unread m ws (Broken r at) e = absurd e
  turn_unread m ws (Unread w f) e = unread d s l k w f dir.is e

  pub turn_ends : k ≡ n / 32 → Scanned d l low high start.count now.count start.marks.now now.marks.now start.waiting.now now.waiting.now
  turn_ends all =
      scan_ends d l low high start.count (n / 32) now.count start.marks.now now.marks.now start.waiting.now now.waiting.now (directory_is d s l low high n dir) (directory_count d s l low high n dir) (directory_two d s l low high n dir)
      (subst (λ (i : ℕ). Scan d l low high start.count start.marks.now start.waiting.now i now.count now.marks.now now.waiting.now) all scan)

  -- the slot xs was read, and after it the lists are new
  module _ (two : 2 ≤ k) (lt : k < n / 32) (xs : List ℕ) (read : SlotRead d s k (Ok xs)) (new : WorkLists) where
    is : xs ≡ slot_bytes_at d l k
    is = directory_slot d s l low high n dir k xs lt read

    pub turn_breaks : (f : Finding) → SlotTaken xs l low high start.count now.count now.marks.now new.marks.now now.waiting.now new.waiting.now (Err f) → ScanAnswer d l low high start.count start.marks.now new.marks.now start.waiting.now new.waiting.now (Err f)
    turn_breaks f taken =
        finds d l low high start.count (n / 32) start.marks.now start.waiting.now (directory_is d s l low high n dir) (directory_count d s l low high n dir) k now.count now.marks.now now.waiting.now two lt scan new.marks.now new.waiting.now f
        (subst (λ (ys : List ℕ). SlotTaken ys l low high start.count now.count now.marks.now new.marks.now now.waiting.now new.waiting.now (Err f)) is taken)

    pub turn_steps : Ready high start → Kept start now → SlotTaken xs l low high start.count now.count now.marks.now new.marks.now now.waiting.now new.waiting.now (Ok new.count) → Scan d l low high start.count start.marks.now start.waiting.now (k + 1) new.count new.marks.now new.waiting.now
    turn_steps ready kept taken =
        steps d l low high start.count (n / 32) start.marks.now start.waiting.now (directory_is d s l low high n dir) (directory_count d s l low high n dir) k now.count now.marks.now now.waiting.now two lt scan new.marks.now new.waiting.now new.count
        ready.listed ready.inside (omega (arith, ready.room, kept.waiting_long)) (omega (arith, ready.marked, kept.marks_long))
        (subst (λ (ys : List ℕ). SlotTaken ys l low high start.count now.count now.marks.now new.marks.now now.waiting.now new.waiting.now (Ok new.count)) is taken)
