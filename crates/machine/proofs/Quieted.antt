-- A Tick before the tick number at which the next thing happens changes the tick number alone, and most calls keep such a number.
use mathlib.Core.Path.{◌≡◌, refl, ap, sym, subst, ◌∙◌}
use mathlib.Core.Logic.{◌⊎◌, inl, inr}
use mathlib.Core.Bool.{Bool, true, false, cond, not, ◌&&◌, true≢false}
use mathlib.Core.Option.{Option, none, some}
use mathlib.Core.List.Memᴰ.{head as here}
use mathlib.Core.List.Memᴰ.{tail as there}
use mathlib.Core.List.{List, [], ◌∷◌, ◌++◌, map, append-nil, Memᴰ as Mem}
use Prim.Native.Nat.{ℕ, zero, suc, ◌+◌, min, ◌≤◌, ◌<◌}
use native.Mathlib.Omega.{arith}
use borrow.Author.Tests.{ne_eqb}
use lib.Dec.{T, ltb, eqb→eq, ltb→lt, nltb→le}
use lib.ListN.{length, get_or, set}
use Rattle.std.specs.Prelude.{Result, Ok, is_ok}
use Rattle.model.specs.Searches.{◌▷◌, filter, up_to}
use Rattle.model.specs.Plan.{Plan}
use Rattle.model.specs.Priorities.{chosen}
use Rattle.model.specs.Timers as model
use Rattle.model.specs.Timers.{Timer, Timers, no_arming, after_arm, after_start, is_complete, slot, expires_at, expired, moved_on, move_on}
use Rattle.model.specs.State.{Condition, dormant, ready, asleep, waiting, State, condition, set_tick_number, set_timers, set_delays, arrive, owe}
use Rattle.model.specs.Records as records
use Rattle.model.specs.Records.{timer_count, Call, Create, Delay, Relinquish, End, Take, Give, Timing, Ready, Expire}
use Rattle.model.specs.Calls.{create, sleeps_until, sleepers, still_asleep, tick, rivalled, relinquish, end, above_all, held_by_others, take, heir, hand_over, give, by_caller, perform}
use Rattle.model.specs.Rules.{stage}
use Rattle.model.proofs.Tests.{split, and_left}
use Rattle.model.proofs.Searches.{filtered}
use Rattle.model.proofs.Laws.{tag, Sleeps, sleeper, wake_up}
use Rattle.model.proofs.Loops.{length-listed, unlisted}
use Rattle.lists.specs.Words.{nibble}
use Rattle.lists.specs.Lists.{queued}
use Rattle.clock.specs.declared.time.Tick.{Tick}
use Rattle.clock.specs.View as timing
use Rattle.clock.specs.View.{number_at}
use Rattle.clock.specs.Clauses.{soonest as soonest_expiry}
use Rattle.clock.proofs.Laws.{soonest_least as soonest-expiry}
use Rattle.machine.specs.declared.rules.Rule.{Rule}
use Rattle.machine.specs.declared.Machine.{Machine}
use Rattle.due.specs.declared.reports.Reports.{Reports}
use Rattle.machine.specs.View.{condition_in, plan_of, viewed, idle}
use Rattle.machine.specs.Clauses.{soonest, next_event_of}
use Rattle.machine.specs.Calls.{Quiet}
use Rattle.machine.proofs.Answered.{yes_or_no}
use Rattle.machine.proofs.Admitted.{MakesOf, Makes}
use Rattle.machine.proofs.Conditions.{sleeps_at}
use Rattle.machine.proofs.Facts.{Facts}
use Rattle.machine.proofs.Views.{condition_at}
use Rattle.machine.proofs.Meets.{alike}

-- before tick number 0 nothing happens
pub unknown_quiet : (m : Machine) → Quiet m 0
unknown_quiet m = record { sleepers' = λ t n h e. omega arith; timers' = λ i t e. omega arith; rests = λ h. absurd (omega arith) }

-- the soonest is at most the tick number that any of them waits for
soonest_least : (wakes : List Tick) (delays : List ℕ) {t : ℕ} → Mem t delays → soonest wakes delays ≤ number_at wakes t
soonest_least wakes [] {t = t} x' = elim x' [ ]
soonest_least wakes (u ∷ l) {t} (here e) = rw e (omega arith)
soonest_least wakes (u ∷ l) (there i) = omega (arith, soonest_least wakes l i)

pub next_quiet : (m : Machine) → Sleeps (idle m).conditions (idle m).delays → Quiet m (next_event_of m)
next_quiet m z = go (idle m).timers.arming refl
  where
    first : ℕ
    first = soonest m.wakes (queued m.delays)

    next : ℕ
    next = soonest_expiry (timing.view m.timers).slots

    outside : (idle m).timers.arming ≡ no_arming → Quiet m (min first next)
    outside e =
        record {
          sleepers' = λ t n h q.
              omega (arith, soonest_least m.wakes (queued m.delays) (z.in_delays t n (condition_at m.plan.threads m.slots m.wakes t h ∙ q)), sleeps_at (nibble m.slots.states t) (nibble m.slots.wants t) (number_at m.wakes t) n q);
          timers' = λ i t q. omega (arith, soonest-expiry (timing.view m.timers).slots i t q);
          rests = λ h. ap stage e;
        }

    go : (a : model.Arming) → (idle m).timers.arming ≡ a → Quiet m (cond (is_complete (idle m).timers.arming) (min first next) 0)
    go no_arming e = rw e (outside e)
    go (after_arm i) e = rw e (unknown_quiet m)
    go (after_start i s) e = rw e (unknown_quiet m)

-- after a Tick the order of Delays still names each sleeper just once
pub tick_sleeps : {m left : Machine} {rs : Reports} {due : List records.Report} → Facts m → MakesOf (viewed m due) left rs (Ok tt) m records.Tick → Sleeps (idle left).conditions (idle left).delays
unfolding tick
tick_sleeps {m} {due = due} f makes = subst (λ (st : State). Sleeps st.conditions st.delays) (sym (makes.made refl)) (wake_up (suc m.tick.0) (viewed m due) f.sleeps)

-- after these calls it is asked anew, or no longer known
abbrev pub forgets : Call → Bool
forgets (Create t) = false
forgets (Delay n) = true
forgets Relinquish = false
forgets End = false
forgets (Take s) = false
forgets (Give s) = false
forgets records.Tick = true
forgets (Timing k) = true

-- the same, of the state alone: who sleeps until when, and timers that are as they were

abbrev SleepFrom : List Condition → (until : ℕ) → Type 0
SleepFrom cs until = (t n : ℕ) → get_or cs t dormant ≡ asleep n → until ≤ n

record Still (until : ℕ) (ts : Timers) (st : State) : Type 0 where
  sleep : SleepFrom st.conditions until
  kept : st.timers ≡ ts

module _ (until : ℕ) (ts : Timers) where
  -- another condition of one thread, which is no sleep that ends before
  set_quiet : (cs : List Condition) (t : ℕ) (c : Condition) → ((n : ℕ) → c ≡ asleep n → until ≤ n) → SleepFrom cs until → SleepFrom (set cs t c) until
  set_quiet [] t c h q u n e = q u n e
  set_quiet (d ∷ cs) zero c h q zero n e = h n e
  set_quiet (d ∷ cs) zero c h q (suc u) n e = q (suc u) n e
  set_quiet (d ∷ cs) (suc t) c h q zero n e = q zero n e
  set_quiet (d ∷ cs) (suc t) c h q (suc u) n e = set_quiet cs t c h (λ v k f. q (suc v) k f) u n e

  ready_quiet : (cs : List Condition) (t : ℕ) → SleepFrom cs until → SleepFrom (set cs t ready) until
  ready_quiet cs t q = set_quiet cs t ready (λ n e. absurd (omega (arith, ap tag e))) q

  either_still : (b : Bool) (st st' : State) → Still until ts st → Still until ts st' → Still until ts (cond b st st')
  either_still true st st' q r = q
  either_still false st st' q r = r

  caller_still : (o : Option ℕ) (act : ℕ → State → State) (st : State) → Still until ts st → ((x : ℕ) → Still until ts (act x st)) → Still until ts (by_caller o act st)
  caller_still none act st q r = q
  caller_still (some x) act st q r = r x

  hand_still : (p : Plan) (o : Option ℕ) (st : State) → Still until ts st → Still until ts (hand_over p o st)
  hand_still p none st q = q
  hand_still p (some w) st q =
      either_still (above_all p w st.holds) _ _ (record { sleep = ready_quiet st.conditions w q.sleep; kept = q.kept }) (record { sleep = q.sleep; kept = q.kept })

  -- only a Delay puts a thread to sleep
  stays_still : (p : Plan) (st : State) (k : Call) → forgets k ≡ false → Still until ts st → Still until ts (perform p k st)
  unfolding create relinquish end take give
  stays_still p st (Create t) d q = record { sleep = ready_quiet st.conditions t q.sleep; kept = q.kept }
  stays_still p st (Delay n) d q = absurd (true≢false d)
  stays_still p st Relinquish d q = caller_still (chosen p st) (relinquish p) st q (λ x. either_still (rivalled p x st) _ _ (record { sleep = q.sleep; kept = q.kept }) q)
  stays_still p st End d q = caller_still (chosen p st) end st q (λ x. record { sleep = set_quiet st.conditions x dormant (λ n e. absurd (omega (arith, ap tag e))) q.sleep; kept = q.kept })
  stays_still p st (Take s) d q =
      caller_still (chosen p st) (λ x. take p x s) st q
      (λ x. either_still (above_all p x (held_by_others x st.holds)) _ _ (record { sleep = q.sleep; kept = q.kept })
      (record { sleep = set_quiet st.conditions x (waiting s) (λ n e. absurd (omega (arith, ap tag e))) q.sleep; kept = q.kept }))
  stays_still p st (Give s) d q = caller_still (chosen p st) (λ x. give p x s) st q (λ x. hand_still p (heir p st) _ (record { sleep = q.sleep; kept = q.kept }))
  stays_still p st records.Tick d q = absurd (true≢false d)
  stays_still p st (Timing k) d q = absurd (true≢false d)

-- a machine, said of its state, and back
module _ {until : ℕ} where
  still_by : (m : Machine) → Quiet m until → Still until (idle m).timers (idle m)
  still_by m q = record { sleep = λ t n e. go t n e (split (ltb t m.plan.threads)); kept = refl }
    where
      go : (t n : ℕ) → condition (idle m) t ≡ asleep n → T (ltb t m.plan.threads) ⊎ T (not (ltb t m.plan.threads)) → until ≤ n
      go t n e (inl b) = let h = ltb→lt t m.plan.threads b in q.sleepers' t n h (sym (condition_at m.plan.threads m.slots m.wakes t h) ∙ e)
      go t n e (inr b) = absurd (omega (arith, ap tag (sym (unlisted (condition_in m.slots m.wakes) m.plan.threads t dormant (nltb→le t m.plan.threads b)) ∙ e)))

  quiet_by : (m left : Machine) {st : State} → (idle left).conditions ≡ st.conditions → (idle left).timers ≡ st.timers → Quiet m until → Still until (idle m).timers st → Quiet left until
  quiet_by m left e f q s =
      let same : (idle left).timers ≡ (idle m).timers = f ∙ s.kept in
      record {
        sleepers' = λ t n h k. s.sleep t n (ap (λ (l : List Condition). get_or l t dormant) (sym e) ∙ condition_at left.plan.threads left.slots left.wakes t h ∙ k);
        timers' = λ i t k. q.timers' i t (sym (ap (λ (ts : Timers). slot ts i) same) ∙ k);
        rests = λ h. ap (λ (ts : Timers). stage ts.arming) same ∙ q.rests h;
      }

-- so a call that does not forget it keeps the tick number before which nothing happens
pub call_quiet : {m left : Machine} {rs : Reports} {rule : Result Unit Rule} {until : ℕ} {k : Call} → Makes left rs rule m k → forgets k ≡ false → Quiet m until → Quiet left until
call_quiet {m} {left} {rs} {rule} {until} {k} makes d q = go (yes_or_no (is_ok rule))
  where
    go : (is_ok rule ≡ true) ⊎ (is_ok rule ≡ false) → Quiet left until
    go (inl z) = quiet_by m left (ap (λ (st : State). st.conditions) (makes.made z)) (ap (λ (st : State). st.timers) (makes.made z)) q (stays_still until (idle m).timers (plan_of m) (idle m) k d (still_by m q))
    go (inr z) = quiet_by m left (ap (λ (st : State). st.conditions) (makes.stays z)) (ap (λ (st : State). st.timers) (makes.stays z)) q (still_by m q)

-- where no sleeper passes a test, all stay
module _ (f : ℕ → Bool) where
  all_stay : (l : List ℕ) → filter f l ≡ [] → filter (λ t. not (f t)) l ≡ l
  all_stay [] e = refl
  all_stay (t ∷ l) e = go (f t) (all_stay l) e
    where
      go : (b : Bool) → (filter f l ≡ [] → filter (λ u. not (f u)) l ≡ l) → cond b (t ∷ filter f l) (filter f l) ≡ [] → cond (not b) (t ∷ filter (λ u. not (f u)) l) (filter (λ u. not (f u)) l) ≡ t ∷ l
      go true h q = absurd (omega (arith, ap length q))
      go false h q = ap (λ k. t ∷ k) (h q)

no_member : (l : List ℕ) → ((t : ℕ) → Mem t l → ⊥) → l ≡ []
no_member [] f = refl
no_member (t ∷ l) f = absurd (f t (here refl))

-- timers of which none expires at a tick number
module _ (n : ℕ) where
  late_than : {until : ℕ} → n < until → (o : Option Timer) → ((t : Timer) → o ≡ some t → until ≤ t.expiry) → T (expires_at n o) → ⊥
  late_than h none q t = t
  late_than h (some u) q t = omega (arith, h, q u refl, eqb→eq u.expiry n t)

  unmoved : {until : ℕ} → n < until → (os : List (Option Timer)) → ((i : ℕ) (t : Timer) → get_or os i none ≡ some t → until ≤ t.expiry) → map (moved_on n) os ≡ os
  unmoved h [] q = refl
  unmoved h (none ∷ os) q = ap (λ l. none ∷ l) (unmoved h os (λ i. q (suc i)))
  unmoved h (some t ∷ os) q =
      rw (ne_eqb t.expiry n (λ e. omega (arith, h, q zero t refl, e))) (ap (λ l. some t ∷ l) (unmoved h os (λ i. q (suc i))))

module _ (m : Machine) (until : ℕ) (q : Quiet m until) (h : m.tick.0 + 1 < until) where
  abbrev n : ℕ
  n = suc m.tick.0

  nobody_wakes : sleepers n (idle m) ≡ []
  nobody_wakes = no_member (sleepers n (idle m)) none_of
    where
      none_of : (t : ℕ) → Mem t (sleepers n (idle m)) → ⊥
      none_of t i =
          let r = sleeper n (idle m) t i in
          let l : t < m.plan.threads = omega (arith, r.0, length-listed (condition_in m.slots m.wakes) m.plan.threads) in
          omega (arith, h, q.sleepers' t n l (sym (condition_at m.plan.threads m.slots m.wakes t l) ∙ r.1))

  none_expires : expired n [] (idle m).timers ≡ []
  none_expires =
      no_member (expired n [] (idle m).timers)
      (λ i k.
      let r = filtered (λ j. expires_at n (slot (idle m).timers j) && true) (up_to timer_count) k in
      late_than n (omega (arith, h)) (slot (idle m).timers i) (q.timers' i) (and_left (expires_at n (slot (idle m).timers i)) true r.1))

  as_they_were : move_on n (idle m).timers ≡ (idle m).timers
  as_they_were = ap (λ l. record { slots = l; arming = (idle m).timers.arming }) (unmoved n (omega (arith, h)) (idle m).timers.slots q.timers')

  pub quiet_tick : tick (idle m) ≡ set_tick_number (m.tick.0 + 1) (idle m)
  unfolding tick
  quiet_tick =
      let e : n ≡ m.tick.0 + 1 = omega arith in
      ap (λ l. idle m ▷ set_tick_number n ▷ set_timers (move_on n (idle m).timers) ▷ set_delays (still_asleep n (idle m)) ▷ arrive l ▷ owe (map Expire (expired n [] (idle m).timers) ++ map Ready l)) nobody_wakes
      ∙ ap (λ l. idle m ▷ set_tick_number n ▷ set_timers (move_on n (idle m).timers) ▷ set_delays (still_asleep n (idle m)) ▷ arrive [] ▷ owe (map Expire l ++ [])) none_expires
      ∙ alike e refl (append-nil (idle m).queue) refl refl (all_stay (λ t. sleeps_until n (condition (idle m) t)) (queued m.delays) nobody_wakes) refl refl as_they_were
