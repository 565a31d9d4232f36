-- `live` meets its contract: a refused step and one after a breach leave the state as it came, a Tick at which nothing happens moves the tick number alone, and
-- any other is judged by its record.
use mathlib.Core.Path.{◌≡◌, refl, ap, sym, ◌∙◌}
use mathlib.Core.Option.{none}
use Rattle.std.specs.Prelude.{is_ok}
use Rattle.machine.specs.Rules.{answer_number}
use Rattle.live.specs.Watching.{refusal}
use Rattle.machine.proofs.Laws.{lent_delays}
use Rattle.live.specs.Clauses.{Asked, seen, refused_by}
use Rattle.live.proofs.Alone.{still_advances}
use Rattle.live.proofs.Lending.{passed, asked, tells_refused, tells_stored, tells_broken, tells_clean}
use Rattle.live.proofs.live.live.Goals as goal
use Rattle.live.proofs.live.live.Goals.{After-is_still, After-judged-o, After-struct_known-1, In_default, Else-watch-ne0, Joined-else-kind-eq7, Then-is_still, Then-kind-eq7}

accepted : (c : goal.In_default) → (let a = c.args in refusal (seen a.watch) a.kind a.operand ≡ none)
accepted c = sym (ap refused_by (sym c.in_default.is) ∙ c.ask.ensures)

pub returns-in-Err : goal.returns-in-Err
returns-in-Err c =
    let a = c.args in
    tells_refused a.watch a.kind a.operand c.in-Err.ensures

pub returns-then-watch-ne0 : goal.returns-then-watch-ne0
returns-then-watch-ne0 c =
    let a = c.args in
    tells_stored a.watch a.kind a.operand (accepted (goal.at.returns-then-watch-ne0 c).In_default) c.if-watch-ne0.true

-- a record that is judged
admitted : (c : goal.Else-watch-ne0) → (let a = c.args in Asked a.watch.state a.kind a.operand)
admitted c =
    let a = c.args in
    asked (passed a.watch a.kind a.operand (sym (ap refused_by (sym c.in_default.is) ∙ c.ask.ensures)))

pub is_still-requires : goal.is_still-requires
is_still-requires c =
    let q = admitted (goal.at.is_still-requires c).Else-watch-ne0 in
    (q.room c.if-kind-eq7.true, lent_delays c.args.watch.state q.formed')

pub ticked-requires : goal.ticked-requires
ticked-requires c = (admitted (goal.at.ticked-requires c).Else-watch-ne0).room c.if-kind-eq7.true

-- a Tick at which nothing happens
pub returns-then-is_still : goal.returns-then-is_still
returns-then-is_still c =
    let a = c.args in
    let still' = still_advances (admitted (goal.at.returns-then-is_still c).Else-watch-ne0) c.if-kind-eq7.true (sym c.is_still.ensures ∙ c.if-is_still.true) refl in
    rw c.ticked.ensures (tells_clean a.watch a.kind a.operand (accepted (goal.at.returns-then-is_still c).In_default) c.if-watch-ne0.false still' refl refl)

pub judged-o-requires : goal.judged-o-requires
judged-o-requires c = admitted (goal.at.judged-o-requires c).Else-watch-ne0

pub returns-in-Err-rule : goal.returns-in-Err-rule
returns-in-Err-rule c =
    let a = c.args in
    rw c.breached.ensures (tells_broken a.watch a.kind a.operand (accepted (goal.at.returns-in-Err-rule c).In_default) c.if-watch-ne0.false c.judged-o.ensures (ap is_ok c.in-Err-rule.is) (c.number.ensures ∙ ap answer_number (sym c.in-Err-rule.is)))

pub returns : goal.returns
returns c =
    let a = c.args in
    rw c.moved.ensures (tells_clean a.watch a.kind a.operand (accepted (goal.at.returns c).In_default) c.if-watch-ne0.false c.judged-o.ensures (ap is_ok c.in_default-rule.is) refl)
