-- A Tick on a state in which nothing is due, and at whose next tick number nothing happens, moves the tick number alone.
use mathlib.Core.Path.{◌≡◌, refl, ap, sym, ◌∙◌}
use mathlib.Core.Logic.{inl}
use mathlib.Core.Bool.{Bool, true, ◌&&◌}
use Prim.Native.Nat.{ℕ, ◌+◌, ◌≤◌, ◌<◌}
use native.Mathlib.Omega.{arith}
use lib.Dec.{T, leb, ltb, leb→le, ltb→lt}
use Rattle.model.specs.Records.{Tick, call}
use Rattle.model.specs.State as state
use Rattle.model.specs.Timers.{is_complete}
use Rattle.model.specs.Runs.{moved, step}
use Rattle.model.specs.Formed.{last_tick, formed}
use Rattle.model.proofs.Tests.{is_true, from_true, and_left, and_right}
use Rattle.lists.specs.Lists.{queued}
use Rattle.clock.specs.View as timing
use Rattle.clock.specs.Clauses.{soonest as soonest_expiry}
use Rattle.machine.specs.declared.Machine.{Machine}
use Rattle.machine.specs.declared.state.State.{State}
use Rattle.machine.specs.declared.reporting.Reporting.{Reporting}
use Rattle.machine.specs.View.{plan_of, view, report_at, shown}
use Rattle.machine.specs.Kept.{kept}
use Rattle.machine.specs.Clauses.{soonest, next_event_of, opened, later, still}
use Rattle.machine.specs.Calls.{Calls}
use Rattle.machine.proofs.Facts.{facts}
use Rattle.machine.proofs.Owing.{unowed}
use Rattle.machine.proofs.Opening.{opened_shown}
use Rattle.machine.proofs.Quieted.{next_quiet}
use Rattle.machine.proofs.Outcomes.{passed_answers}
use Rattle.machine.proofs.Judged.{answers_moved}

module _ (s : State) (f : T (formed (plan_of s.machine) (view s))) (k : T (kept s.machine)) (room : s.machine.tick.0 < last_tick) (e : still s ≡ true) where
  -- the state opened, with what happens next
  abbrev quieted : Reporting
  quieted =
      let c = opened s in
      record { machine = c.machine; reports = c.reports; count = c.count; due = c.due; given = c.given; chosen = c.chosen; quiet = record { 0 = next_event_of s.machine }; rule = c.rule }

  -- what was asked, one by one
  abbrev m : Machine
  m = s.machine

  abbrev undue : Bool
  undue = leb s.due.count s.given

  abbrev complete : Bool
  complete = is_complete (timing.view m.timers).arming

  abbrev expiry : ℕ
  expiry = soonest_expiry (timing.view m.timers).slots

  abbrev wake : ℕ
  wake = soonest m.wakes (queued m.delays)

  abbrev later_expiry : Bool
  later_expiry = ltb (m.tick.0 + 1) expiry

  abbrev later_wake : Bool
  later_wake = ltb (m.tick.0 + 1) wake

  first_three : T (undue && complete && later_expiry)
  first_three = and_left (undue && complete && later_expiry) later_wake (from_true (still s) e)

  first_two : T (undue && complete)
  first_two = and_left (undue && complete) later_expiry first_three

  nothing_due_lem : s.due.count ≤ s.given
  nothing_due_lem = leb→le s.due.count s.given (and_left undue complete first_two)

  below : m.tick.0 + 1 < next_event_of m
  below =
      rw (is_true complete (and_right undue complete first_two))
      (omega (arith, ltb→lt (m.tick.0 + 1) expiry (and_right (undue && complete) later_expiry first_three), ltb→lt (m.tick.0 + 1) wake (and_right (undue && complete && later_expiry) later_wake (from_true (still s) e))))

  -- before it no arming is in progress
  ticks : Calls quieted Tick
  ticks =
      let formed' : T (formed (plan_of s.machine) (shown quieted)) = rw (opened_shown s) f in
      let q = next_quiet s.machine (facts (unowed s.machine (report_at quieted) s.due.count s.given formed')).sleeps in
      record {
        asks = record { formed' = formed'; stands = record { keeps = k; apart' = record { apart = inl refl }; quiet' = q }; allowed' = tt; tick' = λ z. room };
        undue = nothing_due_lem;
        ordered = q.rests (omega (arith, below));
      }

  pub still_moves : step (plan_of s.machine) (view s) (call Tick) ≡ moved (view (later s))
  still_moves = ap (λ (st : state.State). step (plan_of s.machine) st (call Tick)) (sym (opened_shown s)) ∙ answers_moved (passed_answers ticks refl below) refl ∙ ap moved (opened_shown (later s))
