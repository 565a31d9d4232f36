-- `tick` meets its contract: behind the reports still due but a Switch the timers whose tick number this is and that are owed none are reported, and
-- behind them the sleepers that wake, in the order of their Delays.
use mathlib.Core.Path.{◌≡◌, refl, ap, ap₂, sym, subst, ◌∙◌}
use mathlib.Core.List.{List, map, ◌++◌}
use Prim.Native.Nat.{ℕ, suc, ◌+◌, ◌≤◌}
use native.Mathlib.Omega.{arith}
use lib.ListN.{length, drop}
use Rattle.model.specs.Searches.{filter}
use Rattle.model.specs.State.{all_ready, without_switch}
use Rattle.model.specs.Records as records
use Rattle.model.specs.Records.{Ready, Expire}
use Rattle.model.specs.Timers.{expired, move_on}
use Rattle.model.specs.Calls.{tick, sleepers, still_asleep}
use Rattle.model.specs.Formed.{claims}
use Rattle.model.proofs.Laws.{expired_without}
use Rattle.lists.specs.Lists.{queued}
use Rattle.machine.specs.declared.Machine.{Machine}
use Rattle.due.specs.declared.reports.Reports.{Reports}
use Rattle.due.specs.Lists.{owed}
use Rattle.machine.specs.declared.reporting.Reporting.{Reporting}
use Rattle.machine.specs.View.{conditions_of, idle, shown}
use Rattle.machine.specs.Clauses.{wakes_at, owing}
use Rattle.machine.specs.Calls.{Quiet, Called}
use mathlib.Core.Bool.{true≢false}
use Rattle.std.specs.Prelude.{Ok}
use Rattle.machine.proofs.Admitted.{MakesOf}
use Rattle.machine.proofs.Asking.{tick_rule}
use Rattle.machine.proofs.Facts.{Facts, facts}
use Rattle.machine.proofs.Meets.{alike}
use Rattle.machine.proofs.Room.{sleepers_room}
use Rattle.machine.proofs.Woken.{placed_ready, woken_are, asleep_are, asleep_fit, woken_fit, tick_room}
use Rattle.machine.proofs.Quieted.{tick_sleeps, next_quiet}
use Rattle.machine.proofs.Outcomes.{tick_asked, claims_room, tick_settles, tick_answers}
use Rattle.machine.proofs.Owing.{array_due, array_room}
use Rattle.machine.proofs.Sized.{reporting_size}
use Rattle.machine.proofs.reporting.Reporting.tick.Goals as goal
use Rattle.machine.proofs.reporting.Reporting.tick.Goals.{After-array, After-chosen-who, After-moved_on-later, After-next_event-arg-1, After-next_event-quiet, After-telling, After-wake-w}

pub next-number-requires : goal.next-number-requires
next-number-requires c = omega (arith, (tick_asked c.requires).room)

pub wake-w-requires : goal.wake-w-requires
wake-w-requires c = sleepers_room (facts (tick_asked c.requires).formed)

abbrev number : goal.After-wake-w → ℕ
number c = c.next-number.result.0

known : (c : goal.After-wake-w) → Facts c.args.self.machine
known c = facts (tick_asked c.requires).formed

next-number : (c : goal.After-wake-w) → number c ≡ suc c.args.self.machine.tick.0
next-number c = omega (arith, c.next-number.ensures)

abbrev owed_before : goal.After-wake-w → List records.Report
owed_before c = (shown c.args.self).due

claimed : (c : goal.After-wake-w) → (let s = c.args.self in claims (shown s) ≤ s.machine.plan.threads + 9)
claimed c = claims_room c.requires.asks

pub array-requires : goal.array-requires
array-requires c = tt

module _ (c : goal.After-array) where
  abbrev here : Reporting
  here = c.args.self

  abbrev in_array : List records.Report
  in_array = drop here.given (owed c.array.result)

  same_kept : without_switch in_array ≡ without_switch (owed_before c.before)
  same_kept = ap (λ (rs : Reports). without_switch (drop here.given (owed rs))) c.array.ensures ∙ array_due here c.requires.asks.stands.apart'

  same_ended : (n : ℕ) → expired n in_array (idle here.machine).timers ≡ expired n (owed_before c.before) (idle here.machine).timers
  same_ended n =
      let ts = (idle here.machine).timers in
      sym (expired_without n in_array ts) ∙ ap (λ l. expired n l ts) same_kept ∙ expired_without n (owed_before c.before) ts

pub ticked-rs-requires : goal.ticked-rs-requires
ticked-rs-requires c =
    let x = c.args.self in
    let same = ap (λ (rs : Reports). rs.count) c.array.ensures in
    let e = c.wake-w.ensures in
    record {
      later = omega (arith, next-number (goal.at.ticked-rs-requires c).After-wake-w);
      in_array = λ h. omega (arith, same, array_room x c.requires.asks.formed' c.requires.asks.stands.apart' (reporting_size x c.well_formed.0) (omega (arith, h, same)));
      few = woken_fit (known (goal.at.ticked-rs-requires c).After-wake-w) (number (goal.at.ticked-rs-requires c).After-wake-w) e;
      room = omega (arith, ap length (same_kept (goal.at.ticked-rs-requires c).After-array), ap length (same_ended (goal.at.ticked-rs-requires c).After-array (number (goal.at.ticked-rs-requires c).After-wake-w)), tick_room (known (goal.at.ticked-rs-requires c).After-wake-w) (number (goal.at.ticked-rs-requires c).After-wake-w) e (owed_before (goal.at.ticked-rs-requires c).After-wake-w) (claimed (goal.at.ticked-rs-requires c).After-wake-w) (next-number (goal.at.ticked-rs-requires c).After-wake-w));
    }

pub moved_on-later-requires : goal.moved_on-later-requires
moved_on-later-requires c = (omega (arith, next-number (goal.at.moved_on-later-requires c).After-wake-w), omega (arith, next-number (goal.at.moved_on-later-requires c).After-wake-w, (tick_asked c.requires).room))

pub next_event-quiet-requires : goal.next_event-quiet-requires
next_event-quiet-requires c = asleep_fit (known (goal.at.next_event-quiet-requires c).After-wake-w) (number (goal.at.next_event-quiet-requires c).After-wake-w) c.wake-w.ensures

abbrev ticked : goal.After-moved_on-later → Machine
ticked c =
    let m = c.args.self.machine in
    let r = c.wake-w.result in
    record { plan = m.plan; tick = c.next-number.result; slots = r.slots; wakes = m.wakes; queue = r.queue; holds = m.holds; waits = m.waits; delays = r.delays; reported = m.reported; timers = c.moved_on-later.result }

-- what stays, behind it the Expires, behind them the Readys
due : (c : goal.After-moved_on-later)
    → (let n = number c.before.before.before.before in let old = owed_before c.before.before.before.before in let m = c.args.self.machine in
    owed c.ticked-rs.result ≡ without_switch old ++ (map Expire (expired n old (idle m).timers) ++ map Ready (sleepers n (idle m))))
due c =
    let n = number c.before.before.before.before in
    c.ticked-rs.ensures
    ∙ ap₂ (λ a b. a ++ (map Expire b ++ map Ready (queued c.wake-w.result.woken))) (same_kept c.before.before.before) (same_ended c.before.before.before n)
    ∙ ap (λ l. without_switch (owed_before c.before.before.before.before) ++ (map Expire (expired n (owed_before c.before.before.before.before) (idle c.args.self.machine).timers) ++ map Ready l)) (c.wake-w.ensures.woken' ∙ woken_are ((let it : Facts c.args.self.machine = facts (tick_asked c.requires).formed in it)) n)

made : (c : goal.After-moved_on-later) → (let s = c.args.self in MakesOf (shown s) (ticked c) c.ticked-rs.result (Ok tt) s.machine records.Tick)
unfolding tick
made c =
    let s = c.args.self in
    let m = s.machine in
    let n = number c.before.before.before.before in
    let z = (let it : number c.before.before.before.before ≡ suc c.args.self.machine.tick.0 = omega (arith, c.next-number.ensures) in it) in
    let e = c.wake-w.ensures in
    let up = woken_are ((let it : Facts c.args.self.machine = facts (tick_asked c.requires).formed in it)) n in
    let conditions = ap (λ s. conditions_of m.plan.threads s m.wakes) e.slots' ∙ placed_ready m.plan.threads m.wakes (filter (wakes_at m.wakes n) (queued m.delays)) m.slots ∙ ap (λ l. all_ready l (idle m).conditions) up in
    let seen =
    alike z
    (conditions ∙ ap (λ k. all_ready (sleepers k (idle m)) (idle m).conditions) z)
    (e.queue' ∙ ap (λ l. queued m.queue ++ l) up ∙ ap (λ k. queued m.queue ++ sleepers k (idle m)) z)
    refl refl
    (e.delays' ∙ asleep_are ((let it : Facts c.args.self.machine = facts (tick_asked c.requires).formed in it)) n ∙ ap (λ k. still_asleep k (idle m)) z)
    refl
    (due c ∙ ap (λ k. without_switch (shown s).due ++ (map Expire (expired k (shown s).due (idle m).timers) ++ map Ready (sleepers k (idle m)))) z)
    (c.moved_on-later.ensures ∙ ap (λ k. move_on k (idle m).timers) z) in
    record { plan' = refl; rule' = tick_rule (tick_asked c.requires) (shown s).due; made = λ _. seen; stays = λ d. absurd (true≢false d); keeps = c.requires.asks.stands.keeps }

pub chosen-who-requires : goal.chosen-who-requires
chosen-who-requires c = (tick_settles c.requires (made (goal.at.chosen-who-requires c).After-moved_on-later)).chooses

pub telling-requires : goal.telling-requires
telling-requires c = tt

pub owing-requires : goal.owing-requires
owing-requires c =
    omega (arith, ap (λ (rs : Reports). rs.count) c.telling.ensures, (tick_settles c.requires (made (goal.at.owing-requires c).After-moved_on-later)).room)

-- what happens next was asked of the machine as it is now
pub returns : goal.returns
returns c =
    let m = ticked (goal.at.returns c).After-moved_on-later in
    let is = c.owing.ensures ∙ ap (λ (rs : Reports). owing m rs (Ok tt) c.chosen-who.result c.next_event-quiet.result) c.telling.ensures in
    subst (λ (x : Reporting). Called x c.args.self records.Tick) (sym is)
    (record { answers = tick_answers c.requires (made (goal.at.returns c).After-moved_on-later) c.chosen-who.ensures (subst (Quiet m) (sym c.next_event-quiet.ensures) (next_quiet m (tick_sleeps (known (goal.at.returns c).After-wake-w) (made (goal.at.returns c).After-moved_on-later)))); quiet' = c.next_event-quiet.ensures })
