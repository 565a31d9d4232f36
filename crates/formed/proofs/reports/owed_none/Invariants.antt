-- `owed_none` meets its contract: those counted so far, and those left that are armed and owed none, are all.
use mathlib.Core.Path.{◌≡◌, ◌∙◌}
use mathlib.Core.Bool.{Bool, true, false, cond}
use mathlib.Core.List.{◌∷◌}
use Prim.Native.Nat.{ℕ, ◌+◌, ◌≤◌, ◌<◌}
use native.Mathlib.Omega.{arith}
use lib.ListN.{drop}
use Rattle.model.specs.Searches.{up_to}
use Rattle.model.specs.Records.{timer_count}
use Rattle.model.specs.Formed.{times, owed_none}
use Rattle.model.proofs.Loops.{left, turn}
use Rattle.clock.specs.declared.timers.Timers.{Timers}
use Rattle.clock.specs.View.{view}
use Rattle.due.specs.declared.reports.Reports.{Reports}
use Rattle.due.specs.Lists.{owed}
use Rattle.formed.proofs.reports.owed_none.Given as goal

module _ (ts : Timers) (rs : Reports) (given : ℕ) where
  abbrev pub passes : ℕ → Bool
  passes i = owed_none (view ts) (drop given (owed rs)) i

  -- how many from i on pass
  abbrev pub from : ℕ → ℕ
  from i = times passes (left i timer_count)

  pub next : (i : ℕ) → i < timer_count → {b : Bool} → passes i ≡ b → from i ≡ cond b (from (i + 1) + 1) (from (i + 1))
  next i h {b} e = turn (times passes) timer_count i h ∙ go b e
    where
      go : (b : Bool) → passes i ≡ b → times passes (i ∷ left (i + 1) timer_count) ≡ cond b (from (i + 1) + 1) (from (i + 1))
      go true q = rw q (omega arith)
      go false q = rw q

abbrev pub invariant-loop-i : goal.invariant-loop-i
invariant-loop-i l = (l.count ≤ l.i) × (l.count + from l.timers l.reports l.given l.i ≡ times (passes l.timers l.reports l.given) (up_to timer_count))
