-- `Reports::expired` meets its contract: after i turns the timers below i whose tick number this is and that are owed none are listed.
use mathlib.Core.Path.{◌≡◌}
use mathlib.Core.Bool.{Bool, not, ◌&&◌}
use mathlib.Core.List.{List}
use Prim.Native.Nat.{ℕ, ◌≤◌}
use lib.ListN.{drop}
use Rattle.model.specs.Searches.{filter, up_to}
use Rattle.model.specs.Timers.{slot, expires_at, owes_expire}
use Rattle.lists.specs.Lists.{queued}
use Rattle.clock.specs.declared.timers.Timers.{Timers}
use Rattle.clock.specs.View.{view}
use Rattle.due.specs.declared.reports.Reports.{Reports}
use Rattle.due.specs.Lists.{owed}
use Rattle.due.proofs.reports.Reports.expired.Given as goal

module _ (rs : Reports) (given : ℕ) (timers : Timers) (number : ℕ) where
  abbrev pub ends : ℕ → Bool
  ends i = expires_at number (slot (view timers) i) && not (owes_expire (drop given (owed rs)) i)

  -- those below i that expire
  abbrev pub Below : List ℕ → (i : ℕ) → Type 0
  Below out i = out ≡ filter ends (up_to i)

abbrev pub invariant-loop-i : goal.invariant-loop-i
invariant-loop-i l = (l.out.count ≤ l.i) × Below l.fn.self l.given l.timers l.number.0 (queued l.out) l.i
