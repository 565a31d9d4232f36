-- `period` meets its contract: the timer is armed or too late, and Late is due.
use mathlib.Core.Path.{◌≡◌, ap, sym, subst, ◌∙◌}
use mathlib.Core.Bool.{cond}
use mathlib.Core.List.{List, [], ◌∷◌}
use Prim.Native.Nat.{min}
use Rattle.std.specs.Prelude.{is_ok}
use Rattle.model.specs.Records as records
use Rattle.model.specs.Timers.{late_due}
use Rattle.clock.specs.View as timing
use Rattle.due.specs.declared.made.Made.{Made}
use Rattle.due.specs.Lists.{Tells}
use Rattle.machine.proofs.Asking.{period_rule}
use Rattle.machine.proofs.Facts.{facts}
use Rattle.machine.proofs.Outcomes.{caller_asked}
use Rattle.machine.proofs.reporting.Reporting.period.Goals as goal
use Rattle.machine.proofs.reporting.Reporting.period.Goals.{After-armed, Joined-is_ok, else-is_ok, then-is_ok}

pub run_rule-rule-requires : goal.run_rule-rule-requires
run_rule-rule-requires c = tt

pub none-made-requires : goal.none-made-requires
none-made-requires c = tt

-- the arming has come to its start, and the tick number is one that there is
pub lost-requires : goal.lost-requires
lost-requires c =
    let a = caller_asked c.requires in
    let f = facts a.formed in
    (record { known = f.arming; stage' = a.ordered }, f.tick)

pub late-made-requires : goal.late-made-requires
late-made-requires c = tt

pub armed-requires : goal.armed-requires
armed-requires c =
    let a = caller_asked c.requires in
    let f = facts a.formed in
    (record { known = f.arming; stage' = a.ordered }, f.tick)

-- what is told on one way is told
same : {made way : Made} {due due' : List records.Report} → made ≡ way → due ≡ due' → Tells way due → Tells made due'
same {way = way} {due' = due'} e d t = subst (λ x. Tells x due') (sym e) (subst (λ l. Tells way l) d t)

-- Late is due where no rule is broken
late_told : (j : goal.Joined-is_ok) → (let m = j.args.self.machine in Tells j.if-is_ok.made (cond (is_ok j.run_rule-rule.result) (late_due (records.Period j.args.ticks) m.tick.0 (timing.view m.timers)) []))
late_told j =
    let m = j.args.self.machine in
    let late = late_due (records.Period j.args.ticks) m.tick.0 (timing.view m.timers) in
    elim j.if-is_ok.branch [ then-is_ok w ↦ same w.made-is (ap (λ k. records.Late (min k 65535) ∷ []) w.lost.ensures ∙ sym (ap (λ b. cond b late []) (sym j.is_ok.ensures.value ∙ w.if-is_ok.true))) w.late-made.ensures | else-is_ok w ↦ same w.made-is (sym (ap (λ b. cond b late []) (sym j.is_ok.ensures.value ∙ w.if-is_ok.false))) j.none-made.ensures ]

pub timed-requires : goal.timed-requires
timed-requires c = (late_told (goal.at.timed-requires c).Joined-is_ok).few

pub returns : goal.returns
returns c =
    let r = c.run_rule-rule in
    c.timed.ensures (records.Period c.args.ticks) (record { sets = c.requires; rule' = r.ensures ∙ period_rule (caller_asked c.requires) c.args.ticks; timers' = rw c.is_ok-2.ensures.value at c.armed.ensures; made' = late_told (goal.at.returns c).Joined-is_ok })
