-- What a call answers: it is made and followed by its Switch, or breaks a rule; or it is a Tick at which nothing happens.
use mathlib.Core.Path.{◌≡◌, refl, ap, sym, subst, ◌∙◌}
use mathlib.Core.Logic.{◌⊎◌, inl, inr, ◌≢◌}
use mathlib.Core.Bool.{true, false, cond, not, ◌&&◌}
use mathlib.Core.List.{[], ◌∷◌, ◌++◌}
use Prim.Native.Nat.{ℕ, ◌+◌, ◌≤◌, ◌<◌}
use native.Mathlib.Omega.{arith}
use borrow.Author.Tests.{eq-eqb, ne_eqb}
use lib.Dec.{eqb, leb, leb→le, ltb→lt}
use Rattle.std.specs.Prelude.{Result, Ok, is_ok}
use Rattle.model.specs.Plan as plan
use Rattle.model.specs.Plan.{threads}
use Rattle.model.specs.Records as records
use Rattle.model.specs.Records.{Call, call, Switch}
use Rattle.model.specs.State as state
use Rattle.model.specs.Priorities.{greatest_hold, current, chosen}
use Rattle.model.specs.Calls.{tick, delay, relinquish, end, take, give, perform, switch}
use Rattle.model.specs.Rules.{call_place}
use Rattle.model.specs.Runs.{effect}
use Rattle.model.specs.Formed.{claims}
use Rattle.model.proofs.Tests.{equal?, and_right}
use Rattle.model.proofs.Laws.{well_formed}
use Rattle.plan.specs.View as plans
use Rattle.plan.proofs.Laws.{threads_view}
use Rattle.lists.specs.Lists.{numbered}
use Rattle.lists.proofs.Laws.{numbered-thread_of}
use Rattle.machine.specs.declared.rules.Rule.{Rule}
use Rattle.machine.specs.declared.Machine.{Machine}
use Rattle.clock.specs.declared.time.Tick.{Tick}
use Rattle.due.specs.declared.reports.Reports.{Reports}
use Rattle.machine.specs.declared.reporting.Reporting.{Reporting}
use Rattle.due.specs.Lists.{report_room, thread_of, listed, owed}
use Rattle.machine.specs.View.{plan_of, viewed, idle, report_at, shown}
use Rattle.machine.specs.Clauses.{owing, passed}
use Rattle.machine.specs.Calls.{Apart, Quiet, Stands, Asks, Calls, Ticks, Answers}
use Rattle.machine.proofs.Answered.{yes_or_no, zero_of, some_of}
use Rattle.machine.proofs.Admitted.{CreateAsked, Asked, SectionAsked, TickAsked, asked, MakesOf, Makes, by}
use Rattle.machine.proofs.Facts.{Formed, facts}
use Rattle.due.proofs.Laws.{none_due, switch_to_lem}
use Rattle.machine.proofs.Views.{sized}
use Rattle.machine.proofs.Quieted.{forgets, call_quiet, quiet_tick}
use Rattle.machine.proofs.Switched.{chosen_due, switch_none, Settles, one_byte, switched, unswitched}
use Rattle.machine.proofs.After.{After, before, created, ticked, delayed, relinquished, ended, taken, given, timed, settles}
use Rattle.machine.proofs.Owing.{in_array, switch_behind, unowed}
use Rattle.machine.proofs.Asking.{tick_rule, creates, delays, ends, relinquishes, takes, gives}
use Rattle.machine.proofs.Judged.{breaks, moves}

-- a tick number changes nothing that the chosen thread depends on
chosen_ticked : (p : plan.Plan) (n : ℕ) (st : state.State) → chosen p (state.set_tick_number n st) ≡ chosen p st
unfolding chosen current greatest_hold
chosen_ticked p n st = refl

-- what is due of a machine that owes: the reports of the array, and behind them the Switch if there is one
module _ (m : Machine) (rs : Reports) (rule : Result Unit Rule) (who : ℕ) (quiet : Tick) where
  abbrev owes : Reporting
  owes = owing m rs rule who quiet

  module _ (e : is_ok rule && not (eqb who m.reported) ≡ false) where
    none_shown : shown owes ≡ viewed m (owed rs)
    none_shown = ap (λ b. viewed m (listed (report_at owes) (cond b (rs.count + 1) rs.count))) e ∙ ap (viewed m) (in_array owes)

    none_apart : Apart owes
    none_apart = record { apart = inl (ap (λ b. cond b (rs.count + 1) rs.count) e) }

  module _ (e : is_ok rule && not (eqb who m.reported) ≡ true) where
    last_shown : who < 256 → shown owes ≡ viewed m (owed rs ++ (Switch (thread_of who) ∷ []))
    last_shown w =
        ap (λ b. viewed m (listed (report_at owes) (cond b (rs.count + 1) rs.count))) e
        ∙ ap (viewed m) (switch_behind owes ∙ ap (λ r. owed rs ++ (r ∷ [])) (switch_to_lem who w))

    last_apart : rs.count < report_room → Apart owes
    last_apart h = record { apart = inr (ap (λ b. cond b (rs.count + 1) rs.count) e, h) }

-- what each call asks of the machine, with nothing due
module _ {c : Reporting} where
  pub comes_idle : {k : Call} → Calls c k → shown c ≡ idle c.machine
  comes_idle a = ap (viewed c.machine) (none_due (report_at c) c.due c.given a.undue)

  formed_idle : {r : records.Record} → Asks c r → Formed c.machine
  formed_idle a = unowed c.machine (report_at c) c.due c.given a.formed'

  pub create_asked : {t : ℕ} → Calls c (records.Create t) → CreateAsked c.machine t
  create_asked {t} a = record { formed = formed_idle a.asks; ordered = a.ordered; known = omega (arith, ltb→lt t (threads (plan_of c.machine)) a.asks.allowed', threads_view c.machine.plan) }

  -- with nothing due the chosen thread is the one reported
  reported_chosen : {k : Call} → Calls c k → thread_of c.machine.reported ≡ chosen (plan_of c.machine) (idle c.machine)
  reported_chosen a =
      let m = c.machine in
      let st = shown c in
      (well_formed (plan_of m) st (sized m) a.asks.formed').shown' (none_due (report_at c) c.due c.given a.undue) ∙ chosen_due (plan_of m) m st.due

  pub caller_asked : {k : Call} → Calls c k → Asked c.machine c.machine.reported (call_place k)
  caller_asked a = record { formed = formed_idle a.asks; ordered = a.ordered; caller' = sym (numbered-thread_of c.machine.reported) ∙ ap numbered (reported_chosen a) }

  pub take_asked : {n : ℕ} → Calls c (records.Take n) → SectionAsked c.machine c.machine.reported n
  take_asked {n} a = record { asked = caller_asked a; known = ltb→lt n c.machine.plan.sections a.asks.allowed' }

  pub give_asked : {n : ℕ} → Calls c (records.Give n) → SectionAsked c.machine c.machine.reported n
  give_asked {n} a = record { asked = caller_asked a; known = ltb→lt n c.machine.plan.sections a.asks.allowed' }

  -- a Delay's wait has two bytes
  pub short_wait : {n : ℕ} → Calls c (records.Delay n) → n ≤ 65535
  short_wait {n} a = leb→le n 65535 (and_right (leb 1 n) (leb n 65535) a.asks.allowed')

  pub tick_asked : Ticks c → TickAsked c.machine
  tick_asked a = record { formed = formed_idle a.asks; ordered = a.ordered; room = a.asks.tick' refl }

  -- what has a claim on the room for reports finds it
  pub claims_room : {r : records.Record} → Asks c r → claims (shown c) ≤ c.machine.plan.threads + 9
  claims_room a = omega (arith, (well_formed (plan_of c.machine) (shown c) (sized c.machine) a.formed').room, threads_view c.machine.plan)

  -- a call that breaks no rule leaves enough to go on from
  leaves : (k : Call) → Calls c k → asked c.machine k ≡ 0 → After c.machine.plan.threads (perform (plan_of c.machine) k (idle c.machine))
  leaves (records.Create t) a z = created (creates (create_asked a) z)
  leaves (records.Delay n) a z = let w = delays (caller_asked a) n z in subst (After c.machine.plan.threads) (sym (by w (λ x. delay x n))) (delayed w n)
  leaves records.Relinquish a z = let w = relinquishes (caller_asked a) z in subst (After c.machine.plan.threads) (sym (by w (relinquish (plan_of c.machine)))) (relinquished w)
  leaves records.End a z = let w = ends (caller_asked a) z in subst (After c.machine.plan.threads) (sym (by w end)) (ended w)
  leaves (records.Take n) a z = let w = takes (take_asked a) z in subst (After c.machine.plan.threads) (sym (by w.runs (λ x. take (plan_of c.machine) x n))) (taken w)
  leaves (records.Give n) a z = let w = gives (give_asked a) z in subst (After c.machine.plan.threads) (sym (by w.runs (λ x. give (plan_of c.machine) x n))) (given w)
  leaves records.Tick a z =
      subst (λ (st : state.State). After c.machine.plan.threads (tick st)) (comes_idle a) (ticked (tick_asked (record { asks = a.asks; ordered = a.ordered })) (shown c).due (claims_room a.asks))
  leaves (records.Timing k) a z = timed (formed_idle a.asks) k

-- what a call leaves before its Switch: a machine and its reports
module _ {c : Reporting} {k : Call} (a : Asks c (call k)) {left : Machine} {rs : Reports} {rule : Result Unit Rule} (made : MakesOf (shown c) left rs rule c.machine k)
    (enough : After c.machine.plan.threads (viewed left (owed rs))) where
  -- it is enough to find the chosen thread
  pub left_settles : Settles left rs
  left_settles = settles (facts (formed_idle a)) (record { plan' = made.plan'; seen = refl; keeps = made.keeps }) enough

  module _ {who : ℕ} {quiet : Tick} (is : who ≡ numbered (chosen (plan_of left) (idle left))) (still : Quiet left quiet.0) where
    abbrev after : Reporting
    after = owing left rs rule who quiet

    stands : Apart after → Stands after
    stands p = record { keeps = made.keeps; apart' = p; quiet' = still }

    -- it moves the machine, where it stands for what the model's call and its Switch make
    moved_by : is_ok rule ≡ true → shown after ≡ switch (plan_of left) (viewed left (owed rs)) → Apart after → Answers after c (call k)
    moved_by z v p =
        moves c after made.plan' (sym made.rule' ∙ zero_of rule z) (zero_of rule z)
        (v
        ∙ ap (λ (q : plan.Plan). switch q (viewed left (owed rs))) (ap plans.view made.plan')
        ∙ ap (switch (plan_of c.machine)) (made.made z))
        (stands p)

    -- the call with its Switch, with none, or barred
    pub left_answers : Answers after c (call k)
    left_answers = go (yes_or_no (is_ok rule)) (equal? who left.reported)
      where
        go : (is_ok rule ≡ true) ⊎ (is_ok rule ≡ false) → (who ≡ left.reported) ⊎ (who ≢ left.reported) → Answers after c (call k)
        go (inl z) (inl q) =
            let e : is_ok rule && not (eqb who left.reported) ≡ false = rw (z, eq-eqb who left.reported q) in
            moved_by z (none_shown left rs rule who quiet e ∙ unswitched left_settles who is q) (none_apart left rs rule who quiet e)
        go (inl z) (inr d) =
            let e : is_ok rule && not (eqb who left.reported) ≡ true = rw (z, ne_eqb who left.reported d) in
            moved_by z (last_shown left rs rule who quiet e (one_byte left_settles who is) ∙ switched left_settles who is d) (last_apart left rs rule who quiet e left_settles.room)
        go (inr d) q =
            let e : is_ok rule && not (eqb who left.reported) ≡ false = rw d in
            breaks c after made.plan' (none_shown left rs rule who quiet e ∙ made.stays d) made.rule' (some_of rule d) (stands (none_apart left rs rule who quiet e))

-- a call with nothing due
module _ {c : Reporting} {k : Call} (a : Calls c k) {left : Machine} {rs : Reports} {rule : Result Unit Rule} (made : Makes left rs rule c.machine k) where
  as_shown : MakesOf (shown c) left rs rule c.machine k
  as_shown = subst (λ (st : state.State). MakesOf st left rs rule c.machine k) (sym (comes_idle a)) made

  enough : After c.machine.plan.threads (viewed left (owed rs))
  enough = go (yes_or_no (is_ok rule))
    where
      go : (is_ok rule ≡ true) ⊎ (is_ok rule ≡ false) → After c.machine.plan.threads (viewed left (owed rs))
      go (inl z) = subst (After c.machine.plan.threads) (sym (made.made z)) (leaves k a (sym made.rule' ∙ zero_of rule z))
      go (inr d) = subst (After c.machine.plan.threads) (sym (made.stays d)) (before (facts (formed_idle a.asks)))

  pub call_settles : Settles left rs
  call_settles = left_settles a.asks as_shown enough

  pub call_answers : {who : ℕ} {quiet : Tick} → who ≡ numbered (chosen (plan_of left) (idle left)) → Quiet left quiet.0 → Answers (owing left rs rule who quiet) c (call k)
  call_answers is still = left_answers a.asks as_shown enough is still

  -- a call that does not forget it keeps the tick number before which nothing happens
  pub quiet_answers : forgets k ≡ false → {who : ℕ} → who ≡ numbered (chosen (plan_of left) (idle left)) → Answers (owing left rs rule who c.quiet) c (call k)
  quiet_answers d is = call_answers is (call_quiet made d a.asks.stands.quiet')

-- a Tick, whatever is due
module _ {c : Reporting} (a : Ticks c) {left : Machine} {rs : Reports} (made : MakesOf (shown c) left rs (Ok tt) c.machine records.Tick) where
  ticks_on : After c.machine.plan.threads (viewed left (owed rs))
  ticks_on = subst (After c.machine.plan.threads) (sym (made.made refl)) (ticked (tick_asked a) (shown c).due (claims_room a.asks))

  pub tick_settles : Settles left rs
  tick_settles = left_settles a.asks made ticks_on

  pub tick_answers : {who : ℕ} {quiet : Tick} → who ≡ numbered (chosen (plan_of left) (idle left)) → Quiet left quiet.0 → Answers (owing left rs (Ok tt) who quiet) c (call records.Tick)
  tick_answers is still = left_answers a.asks made ticks_on is still

-- a Tick at which nothing happens
module _ {c : Reporting} (a : Calls c records.Tick) (z : c.rule ≡ 0) (below : c.machine.tick.0 + 1 < c.quiet.0) where
  abbrev m : Machine
  m = c.machine

  abbrev later_tick : state.State
  later_tick = state.set_tick_number (m.tick.0 + 1) (idle m)

  passed_shown : shown (passed c) ≡ later_tick
  passed_shown = ap (viewed (passed c).machine) (none_due (report_at c) c.due c.given a.undue)

  unswitched_tick : switch (plan_of m) (tick (idle m)) ≡ later_tick
  unswitched_tick =
      ap (switch (plan_of m)) (quiet_tick m c.quiet.0 a.asks.stands.quiet' below)
      ∙ switch_none (plan_of m) later_tick (reported_chosen a ∙ sym (chosen_ticked (plan_of m) (m.tick.0 + 1) (idle m)))

  pub passed_answers : Answers (passed c) c (call records.Tick)
  passed_answers =
      moves c (passed c) refl (sym (tick_rule (tick_asked (record { asks = a.asks; ordered = a.ordered })) (shown c).due)) z
      (passed_shown ∙ sym unswitched_tick ∙ ap (λ (st : state.State). effect (plan_of m) (call records.Tick) st) (sym (comes_idle a)))
      (record {
        keeps = a.asks.stands.keeps;
        apart' = record { apart = a.asks.stands.apart'.apart };
        quiet' = a.asks.stands.quiet';
      })
