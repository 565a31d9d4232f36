-- `walk` meets its contract. The loop's invariant: no rule is broken yet, from the state and record reached the run goes on to where it ends, and the
-- running place is that record's.
-- Each way through the loop is one of the machine's answers.
use mathlib.Core.Path.{◌≡◌}
use Prim.Native.Nat.{◌≤◌}
use Rattle.machine.specs.View.{shown}
use Rattle.dump.specs.Layout.{record_count, running_place}
use Rattle.walk.proofs.Walking.{Walking}
use Rattle.walk.proofs.walk.walk.Given as goal

abbrev pub invariant-loop-i : goal.invariant-loop-i
invariant-loop-i l =
    (l.c.rule ≡ 0) × Walking l.initial.c.machine.plan (shown l.initial.c) l.bytes l.from l.to l.c l.i × (l.running ≡ running_place (record_count l.bytes) l.i) × (l.to ≤ l.from → l.i ≡ l.from)
