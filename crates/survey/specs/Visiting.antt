-- A visit of one descriptor: what it asks, and what is marked and waits after it.
use Rattle.std.specs.Prelude.{◌≡◌, ℕ, ◌+◌, ◌<◌, ◌≤◌, true, ◌⊎◌, List, [], ◌∷◌, ◌++◌, length, take, Ok, Err, codes, Result, slice_index, slice_index_or}
use Rattle.devices.specs.Meaning.{Meaning, Refuses}
use Rattle.layout.specs.Descriptor.{segments, extent}
use Rattle.layout.specs.Directory.{entry, slot}
use Rattle.rules.specs.Nodes.{times, is_directory, children, holds}
use Rattle.rules.specs.Rules.{SegmentsWithin, Tidy, SizeRight, Linked, RuleC, RuleD, RuleF, slot_bytes_at, SlotsRight}
use Rattle.rules.specs.declared.rule.Rule.{Rule}
use Rattle.rules.specs.declared.rule.Rule.TheVariants as rule
use Rattle.survey.specs.Names.{nobody}
use Rattle.survey.specs.Scanning.{lsns}
use Rattle.survey.specs.declared.finding.Finding.{Finding}
use Rattle.survey.specs.declared.finding.Finding.TheVariants.{Broken, Unread}
use Rattle.survey.specs.declared.waiting.Waiting.{Waiting}

-- what the descriptor l points to lies behind low and below high
pub record Points (d : Meaning) (l low high : ℕ) : Type 0 where
  pub segments_inside : SegmentsWithin (d.sector l) low high
  pub children_inside : (c : ℕ) → 0 < times c (children d.sector l) → (low < c) × (c < high)

-- the descriptor l, whose parent is p, was visited
pub record Visit (d : Meaning) (l p low high base n : ℕ) (marks marks' : List ℕ) (ws ws' : List Waiting) : Type 0 where
  pub points : Points d l low high
  pub rule_c : RuleC d l
  pub rule_d : RuleD d l
  pub rule_f : RuleF d l
  pub slots_right : is_directory (d.sector l) ≡ true → SlotsRight d l p
  pub lsns_are : lsns n ws' ≡ lsns base ws ++ children d.sector l
  pub old : take base ws' ≡ take base ws
  pub enough : base ≤ n
  pub most : n ≤ length ws'
  pub parents : (i : ℕ) → base ≤ i → i < n → (slice_index_or ws' i nobody).parent ≡ l
  pub marked : (c : ℕ) → slice_index marks' c ≡ slice_index marks c + times c (extent (segments (d.sector l))) + times c (children d.sector l)
  pub small : (c : ℕ) → c < high → slice_index marks' c ≤ 1

-- what a visit finds broken
abbrev pub VisitBreaks : Meaning → ℕ → ℕ → ℕ → ℕ → List ℕ → Rule → ℕ → Type 0
VisitBreaks d l p low high marks rule.A at = ⊥
VisitBreaks d l p low high marks rule.B at = (at ≡ l) × (Points d l low high → ⊥)
VisitBreaks d l p low high marks rule.C at = (at ≡ l) × (RuleC d l → ⊥)
VisitBreaks d l p low high marks rule.D at = (at ≡ l) × (RuleD d l → ⊥)
VisitBreaks d l p low high marks rule.E at = (at ≡ l) × (is_directory (d.sector l) ≡ true) × (SlotsRight d l p → ⊥)
VisitBreaks d l p low high marks rule.F at = (at ≡ l) × (RuleF d l → ⊥)
VisitBreaks d l p low high marks rule.G at = (low < at) × (at < high) × (2 ≤ slice_index marks at + times at (extent (segments (d.sector l))) + times at (children d.sector l))
VisitBreaks d l p low high marks rule.H at = ⊥

abbrev pub VisitAnswer : Meaning → ℕ → ℕ → ℕ → ℕ → ℕ → List ℕ → List ℕ → List Waiting → List Waiting → Result ℕ Finding → Type 0
VisitAnswer d l p low high base marks marks' ws ws' (Ok n) = Visit d l p low high base n marks marks' ws ws'
VisitAnswer d l p low high base marks marks' ws ws' (Err (Broken r at)) = VisitBreaks d l p low high marks r at
VisitAnswer d l p low high base marks marks' ws ws' (Err (Unread w f)) = (0 < times f.lsn (holds d.sector l)) × Refuses d f.lsn 256 f × ((f.lsn ≡ l) ⊎ (f.lsn < high))

-- what is asked of a descriptor by its own bytes
abbrev pub DescriptorAnswer : List ℕ → ℕ → ℕ → Result Unit Rule → Type 0
DescriptorAnswer s low high (Ok u) = Linked s × Tidy s × SegmentsWithin s low high × SizeRight s
DescriptorAnswer s low high (Err rule.A) = ⊥
DescriptorAnswer s low high (Err rule.B) = SegmentsWithin s low high → ⊥
DescriptorAnswer s low high (Err rule.C) = Tidy s → ⊥
DescriptorAnswer s low high (Err rule.D) = SizeRight s → ⊥
DescriptorAnswer s low high (Err rule.E) = ⊥
DescriptorAnswer s low high (Err rule.F) = Linked s → ⊥
DescriptorAnswer s low high (Err rule.G) = ⊥
DescriptorAnswer s low high (Err rule.H) = ⊥

-- a name as it is stored: bit 7 is set on its last byte, and on no other, and none of them is zero
abbrev pub MarkedName : List ℕ → Type 0
MarkedName [] = ⊥
MarkedName (x ∷ []) = 128 ≤ x
MarkedName (x ∷ y ∷ ys) = (0 < x) × (x < 128) × MarkedName (y ∷ ys)

-- the slot k of the directory l has a name, and names the descriptor n
abbrev pub DotAnswer : Meaning → ℕ → ℕ → List ℕ → ℕ → Result Unit Finding → Type 0
DotAnswer d l k name n (Ok u) = slot (slot_bytes_at d l k) ≡ entry name n
DotAnswer d l k name n (Err (Broken r at)) = (r ≡ rule.E) × (at ≡ l) × (slot (slot_bytes_at d l k) ≡ entry name n → ⊥)
DotAnswer d l k name n (Err (Unread w f)) = (0 < times f.lsn (extent (segments (d.sector l)))) × Refuses d f.lsn 256 f

-- slots 0 and 1 of the directory l, whose parent is p
pub record Dotted (d : Meaning) (l p : ℕ) : Type 0 where
  pub here : slot (slot_bytes_at d l 0) ≡ entry (codes ".") l
  pub up : slot (slot_bytes_at d l 1) ≡ entry (codes "..") p

abbrev pub DotsAnswer : Meaning → ℕ → ℕ → Result Unit Finding → Type 0
DotsAnswer d l p (Ok u) = Dotted d l p
DotsAnswer d l p (Err (Broken r at)) = (r ≡ rule.E) × (at ≡ l) × (Dotted d l p → ⊥)
DotsAnswer d l p (Err (Unread w f)) = (0 < times f.lsn (extent (segments (d.sector l)))) × Refuses d f.lsn 256 f
