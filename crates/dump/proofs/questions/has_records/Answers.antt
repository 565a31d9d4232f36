-- `has_records` meets its contract: a loop that asks whether all pass. The table's entry of a kind admits just the operands that pass with it, and the
-- running place is that of the record whose turn it is.
use mathlib.Core.Path.{◌≡◌, ap₂, sym, ◌∙◌}
use mathlib.Core.Bool.{Bool, ◌&&◌}
use mathlib.Core.List.{List}
use Prim.Native.Nat.{ℕ, ◌<◌}
use native.Mathlib.Omega.{arith}
use borrow.Author.Tests.{not-true, not-false}
use Rattle.model.specs.Searches.{all, up_to}
use Rattle.dump.specs.Layout.{record_count, kind_at, operand_at}
use Rattle.dump.specs.Questions.{kind_allowed, operand_fits, has_kinds, has_operands}
use Rattle.dump.specs.Operands.{record_fits}
use Rattle.dump.proofs.Operands.{no_kind}
use Rattle.dump.proofs.Asking.{passes, fails, all_pass, both}
use Rattle.dump.proofs.Running.{running_place_lem, running_next}
use Rattle.dump.proofs.questions.has_records.Invariants.{asked}
use Rattle.dump.proofs.questions.has_records.Goals as goal
use Rattle.dump.proofs.questions.has_records.Goals.{After-admits, After-entry_at-e, After-record_count-n, At-loop-i}

-- of all of them, that is both questions
both-asked : (threads sections : ℕ) (calls_only : Bool) (bytes : List ℕ) → all (asked threads sections calls_only bytes) (up_to (record_count bytes)) ≡ has_kinds calls_only bytes && has_operands threads sections bytes
both-asked threads sections calls_only bytes =
    both (λ i. kind_allowed calls_only (kind_at bytes i)) (λ i. operand_fits threads sections (kind_at bytes i) (operand_at bytes i)) (up_to (record_count bytes))

-- what is asked of the record that is read
abbrev asked_of : goal.At-loop-i → ℕ → Bool
asked_of l = let a = l.args in asked a.threads a.sections a.list a.bytes.now

-- how many records there are
abbrev count : goal.At-loop-i → ℕ
count l = record_count l.args.bytes.now

all_asked : (l : goal.At-loop-i) → (let a = l.args in all (asked_of l) (up_to (count l)) ≡ has_kinds a.list a.bytes.now && has_operands a.threads a.sections a.bytes.now)
all_asked l = let a = l.args in both-asked a.threads a.sections a.list a.bytes.now

-- the answer of a turn is that of the definition
answered : (c : goal.After-admits) → (c.admits.result ≡ (let a = c.args in asked a.threads a.sections a.list a.bytes.now) c.loop-i.i)
answered c =
    let a = c.args in
    let r = c.entry_at-e.result in
    c.admits.ensures ∙ c.bounds_table-table.ensures r.kind (omega arith) r.operand (omega arith)
    ∙ ap₂ (record_fits a.threads a.sections a.list) c.entry_at-e.ensures.0 c.entry_at-e.ensures.1

-- record i is there
within : (e : goal.After-entry_at-e) → (e.loop-i.i < (record_count e.args.bytes.now))
within e = omega (arith, e.loop-i-test.true, e.record_count-n.ensures)

pub returns-then-k-ge32 : goal.returns-then-k-ge32
returns-then-k-ge32 c =
    let a = c.args in
    let r = c.entry_at-e.result in
    fails (asked_of (goal.at.returns-then-k-ge32 c).At-loop-i) (count (goal.at.returns-then-k-ge32 c).At-loop-i) c.loop-i.i c.loop-i.invariant.0 (within (goal.at.returns-then-k-ge32 c).After-entry_at-e)
    (sym (ap₂ (record_fits a.threads a.sections a.list) c.entry_at-e.ensures.0 c.entry_at-e.ensures.1) ∙ no_kind a.threads a.sections a.list r.kind r.operand (omega arith))
    ∙ all_asked (goal.at.returns-then-k-ge32 c).At-loop-i

pub returns-then-not-admits : goal.returns-then-not-admits
returns-then-not-admits c =
    fails (asked_of (goal.at.returns-then-not-admits c).At-loop-i) (count (goal.at.returns-then-not-admits c).At-loop-i) c.loop-i.i c.loop-i.invariant.0 (within (goal.at.returns-then-not-admits c).After-entry_at-e) (sym (answered (goal.at.returns-then-not-admits c).After-admits) ∙ not-true c.admits.result c.if-not-admits.true-raw)
    ∙ all_asked (goal.at.returns-then-not-admits c).At-loop-i

pub overflow_add-running : goal.overflow_add-running
overflow_add-running c =
    record { fits = omega (arith, c.loop-i.invariant.1, running_place_lem (count (goal.at.overflow_add-running c).At-loop-i) c.loop-i.i, within (goal.at.overflow_add-running c).After-entry_at-e, c.requires.count) }

pub loop-i-preserved : goal.loop-i-preserved
loop-i-preserved c = (
  passes (asked_of (goal.at.loop-i-preserved c).At-loop-i) (count (goal.at.loop-i-preserved c).At-loop-i) c.loop-i.i c.loop-i.invariant.0 (within (goal.at.loop-i-preserved c).After-entry_at-e) (sym (answered (goal.at.loop-i-preserved c).After-admits) ∙ not-false c.admits.result c.if-not-admits.false-raw),
  running_next (count (goal.at.loop-i-preserved c).At-loop-i) c.loop-i.i c.loop-i.invariant.1,
)

pub returns : goal.returns
returns c =
    all_pass (asked_of (goal.at.returns c).At-loop-i) (count (goal.at.returns c).At-loop-i) c.loop-i.i c.loop-i.invariant.0 (omega (arith, c.loop-i-test.false, c.record_count-n.ensures)) ∙ all_asked (goal.at.returns c).At-loop-i
