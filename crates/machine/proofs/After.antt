-- What a call leaves of a well-formed machine before its Switch: enough to find the chosen thread and to ask about the Switch, though a section may be held twice.
use mathlib.Core.Path.{◌≡◌, refl, ap, sym, subst, ◌∙◌}
use mathlib.Core.Logic.{◌⊎◌, inl, inr}
use mathlib.Core.Bool.{Bool, true, false, cond, not}
use mathlib.Core.List.Memᴰ.{append_cases}
use mathlib.Core.List.Memᴰ.{eq_of_singleton as single}
use mathlib.Core.List.{List, [], ◌∷◌, ◌++◌, Memᴰ as Mem}
use mathlib.Core.Option.{Option, none, some}
use Prim.Native.Nat.{ℕ, suc, ◌+◌, ◌≤◌, ◌<◌}
use native.Mathlib.Omega.{arith}
use lib.Dec.{T}
use lib.ListN.{length, length-append}
use Rattle.model.specs.Searches.{◌▷◌, filter, without}
use Rattle.model.specs.Plan.{base, valid_plan}
use Rattle.model.specs.Records.{TimerCall, Arm, Start, Period, Cancel, Report, Ready, Won, Lost, Yield}
use Rattle.model.specs.Timers.{Timers, late_due}
use Rattle.model.specs.State.{Condition, dormant, asleep, waiting, State, condition, latest_switch, last_reported, becomes, leave_queue, join_queue, arrive, join_waits, leave_waits, is_hold, begin_hold, end_hold, owe}
use Rattle.model.specs.Calls.{create, sleeps_until, sleepers, tick, delay, rivalled, relinquish, end, above_all, held_by_others, take, wanted, heir, hand_over, give, timing}
use Rattle.model.proofs.Searches.{greatest_is, stayed, distinct_without}
use Rattle.model.proofs.Loops.{filter-few}
use Rattle.model.specs.Formed.{claims}
use Rattle.model.proofs.Laws.{sleeper, tick_claims, tick_reported}
use Rattle.plan.specs.View as plans
use Rattle.plan.specs.declared.Plan.{Plan}
use Rattle.plan.proofs.Laws.{threads_view}
use Rattle.machine.specs.declared.Machine.{Machine}
use Rattle.due.specs.declared.reports.Reports.{Reports}
use Rattle.lists.specs.Lists.{queued, held}
use Rattle.due.specs.Lists.{report_room}
use Rattle.due.proofs.Laws.{length-owed}
use Rattle.machine.specs.View.{plan_of, viewed, idle}
use Rattle.machine.specs.Clauses.{Chooses}
use Rattle.machine.proofs.Admitted.{TickAsked, Creates, Runs, Takes, Gives, Meets}
use Rattle.machine.proofs.Switched.{Settles}
use Rattle.machine.proofs.Facts.{Formed, Facts, facts}
use Rattle.lists.proofs.Laws.{length-queued, length-held}
use Rattle.machine.proofs.Room.{waiting_known, threads_fit, waiting_room, sleepers_room, create_room, caller_known, without_room, waits_room, take-room, give_room}
use Rattle.machine.proofs.Chosen.{listed}

-- the lists fit their words and name threads, there is room for a Switch behind the reports due, and none of them is a Switch: the thread last reported is still
-- the one reported
pub record After (threads : ℕ) (st : State) : Type 0 where
  pub queue' : length st.queue ≤ 16
  pub holds' : length st.holds ≤ 16
  pub waits' : length st.waits ≤ 16
  pub known : (t : ℕ) → Mem t st.queue → t < threads
  pub waiting' : (t : ℕ) → Mem t st.waits → t < threads
  pub few : length st.due < report_room
  pub last : last_reported st ≡ st.reported

-- the lists fit before the call, with nothing due
pub before : {m : Machine} → Facts m → After m.plan.threads (idle m)
before {m} f =
    let l = listed f in
    record {
      queue' = omega (arith, length-queued m.queue, l.counts.queue');
      holds' = omega (arith, length-held m.holds, l.counts.holds');
      waits' = omega (arith, length-queued m.waits, l.counts.waits');
      known = l.known;
      waiting' = l.waiting';
      few = omega arith;
      last = refl;
    }

-- a list with one more at its end

one_longer : (l : List ℕ) (t : ℕ) → length l < 16 → length (l ++ t ∷ []) ≤ 16
one_longer l t h = omega (arith, length-append l (t ∷ []))

known_more : (n : ℕ) (l more : List ℕ) → ((t : ℕ) → Mem t l → t < n) → ((t : ℕ) → Mem t more → t < n) → (t : ℕ) → Mem t (l ++ more) → t < n
known_more n l more old new t i = go (append_cases l i)
  where
    go : Mem t l ⊎ Mem t more → t < n
    go (inl j) = old t j
    go (inr j) = new t j

known_one : (n u : ℕ) → u < n → (t : ℕ) → Mem t (u ∷ []) → t < n
known_one n u h t i = omega (arith, single i)

-- what a test leaves, by both its answers
either : (b : Bool) {n : ℕ} {yes other : State} → (T b → After n yes) → (T (not b) → After n other) → After n (cond b yes other)
either true y n = y tt
either false y n = n tt

pub created : {m : Machine} {t : ℕ} → Creates m t → After m.plan.threads (create t (idle m))
unfolding create
created {m} {t} c =
    let f = facts c.formed in
    record {
      queue' = one_longer (queued m.queue) t (omega (arith, length-queued m.queue, create_room c));
      holds' = (before f).holds';
      waits' = (before f).waits';
      known = known_more m.plan.threads (queued m.queue) (t ∷ []) (before f).known (known_one m.plan.threads t c.known);
      waiting' = (before f).waiting';
      few = omega arith;
      last = refl;
    }

-- what has a claim on the room for reports finds it
pub ticked : {m : Machine} → TickAsked m → (due : List Report) → claims (viewed m due) ≤ m.plan.threads + 9 → After m.plan.threads (tick (viewed m due))
unfolding tick
ticked {m} c due room =
    let f = facts c.formed in
    let woken = sleepers (suc m.tick.0) (idle m) in
    let fewer = filter-few (λ t. sleeps_until (suc m.tick.0) (condition (idle m) t)) (queued m.delays) in
    record {
      queue' = omega (arith, length-append (queued m.queue) woken, fewer, length-queued m.queue, length-queued m.delays, sleepers_room f);
      holds' = (before f).holds';
      waits' = (before f).waits';
      known = known_more m.plan.threads (queued m.queue) woken (before f).known (λ t i. omega (arith, (sleeper (suc m.tick.0) (idle m) t i).0, f.agree.sized, threads_view m.plan));
      waiting' = (before f).waiting';
      few = omega (arith, tick_claims (viewed m due), room, f.fits.threads);
      last = tick_reported (viewed m due);
    }

module _ {m : Machine} {x : ℕ} (r : Runs m x) where
  known_without : (t : ℕ) → Mem t (without x (queued m.queue)) → t < m.plan.threads
  known_without t i = (before (facts r.formed)).known t (stayed x (queued m.queue) i).0

  queue_without : length (without x (queued m.queue)) ≤ 16
  queue_without = omega (arith, without_room r)

  -- the caller leaves the queue, and no report is due
  leaves : (c : Condition) → After m.plan.threads (idle m ▷ leave_queue x ▷ becomes c x)
  leaves c =
      let f = facts r.formed in
      record { queue' = queue_without; holds' = (before f).holds'; waits' = (before f).waits'; known = known_without; waiting' = (before f).waiting'; few = omega arith; last = refl }

  pub delayed : (n : ℕ) → After m.plan.threads (delay x n (idle m))
  unfolding delay
  delayed n =
      let l = leaves (asleep (m.tick.0 + n + 1)) in
      record { queue' = l.queue'; holds' = l.holds'; waits' = l.waits'; known = l.known; waiting' = l.waiting'; few = l.few; last = l.last }

  pub ended : After m.plan.threads (end x (idle m))
  unfolding end
  ended = leaves dormant

  pub relinquished : After m.plan.threads (relinquish (plan_of m) x (idle m))
  unfolding relinquish
  relinquished = either (rivalled (plan_of m) x (idle m)) (λ b. yields) (λ b. before (facts r.formed))
    where
      yields : After m.plan.threads (idle m ▷ leave_queue x ▷ join_queue x ▷ owe (Yield x ∷ []))
      yields =
          let f = facts r.formed in
          record {
            queue' = one_longer (without x (queued m.queue)) x (without_room r);
            holds' = (before f).holds';
            waits' = (before f).waits';
            known = known_more m.plan.threads (without x (queued m.queue)) (x ∷ []) known_without (known_one m.plan.threads x (caller_known r));
            waiting' = (before f).waiting';
            few = omega arith;
            last = refl;
          }

-- at most a Late is due
few_late : (k : TimerCall) (n : ℕ) (ts : Timers) → length (late_due k n ts) ≤ 1
few_late (Arm i) n ts = omega arith
few_late (Start s) n ts = omega arith
few_late (Period s) n ts = omega arith
few_late (Cancel i) n ts = omega arith

late_last : (k : TimerCall) (n : ℕ) (ts : Timers) (w : Option ℕ) → latest_switch w (late_due k n ts) ≡ w
late_last (Arm i) n ts w = refl
late_last (Start s) n ts w = refl
late_last (Period s) n ts w = refl
late_last (Cancel i) n ts w = refl

pub timed : {m : Machine} → Formed m → (k : TimerCall) → After m.plan.threads (timing k (idle m))
unfolding timing
timed {m} v k =
    let f = before (facts v) in
    record {
      queue' = f.queue';
      holds' = f.holds';
      waits' = f.waits';
      known = f.known;
      waiting' = f.waiting';
      few = omega (arith, few_late k m.tick.0 (idle m).timers);
      last = late_last k m.tick.0 (idle m).timers (idle m).reported;
    }

pub taken : {m : Machine} {x s : ℕ} → Takes m x s → After m.plan.threads (take (plan_of m) x s (idle m))
unfolding take
taken {m} {x} {s} t = either (above_all (plan_of m) x (held_by_others x (held m.holds))) wins (λ b. loses)
  where
    f : Facts m
    f = facts t.runs.formed

    wins : T (above_all (plan_of m) x (held_by_others x (held m.holds))) → After m.plan.threads (idle m ▷ begin_hold s x ▷ owe (Won x ∷ []))
    wins b = record {
      queue' = (before f).queue';
      holds' = omega (arith, length-held m.holds, take-room t b);
      waits' = (before f).waits';
      known = (before f).known;
      waiting' = (before f).waiting';
      few = omega arith;
      last = refl;
    }

    loses : After m.plan.threads (idle m ▷ leave_queue x ▷ becomes (waiting s) x ▷ join_waits x ▷ owe (Lost x ∷ []))
    loses = record {
      queue' = queue_without t.runs;
      holds' = (before f).holds';
      waits' = one_longer (queued m.waits) x (omega (arith, length-queued m.waits, waits_room t.runs));
      known = known_without t.runs;
      waiting' = known_more m.plan.threads (queued m.waits) (x ∷ []) (before f).waiting' (known_one m.plan.threads x (caller_known t.runs));
      few = omega arith;
      last = refl;
    }

pub given : {m : Machine} {x s : ℕ} → Gives m x s → After m.plan.threads (give (plan_of m) x s (idle m))
unfolding give
given {m} {x} {s} g = handed (heir (plan_of m) (idle m)) (λ w e. (greatest_is (base (plan_of m)) (queued m.waits) w e).0)
  where
    f : Facts m
    f = facts g.runs.formed

    -- the hold has ended, and the heir does not inherit
    frees : After m.plan.threads (idle m ▷ end_hold s x)
    frees = record { queue' = (before f).queue'; holds' = omega (arith, give_room g); waits' = (before f).waits'; known = (before f).known; waiting' = (before f).waiting'; few = omega arith; last = refl }

    refuses : (w : ℕ) → After m.plan.threads (idle m ▷ end_hold s x ▷ owe (Lost w ∷ []))
    refuses w = record { queue' = frees.queue'; holds' = frees.holds'; waits' = frees.waits'; known = frees.known; waiting' = frees.waiting'; few = omega arith; last = refl }

    passes : (w : ℕ) → Mem w (queued m.waits) → After m.plan.threads (idle m ▷ end_hold s x ▷ leave_waits w ▷ begin_hold (wanted (condition (idle m) w)) w ▷ arrive (w ∷ []) ▷ owe (Won w ∷ Ready w ∷ []))
    passes w i = record {
      queue' = one_longer (queued m.queue) w (omega (arith, length-queued m.queue, waiting_room f w i));
      holds' = omega (arith, give_room g);
      waits' = threads_fit f (without w (queued m.waits)) (distinct_without w (queued m.waits) f.agree.waits_once) (λ t j. waiting_known f t (stayed w (queued m.waits) j).0);
      known = known_more m.plan.threads (queued m.queue) (w ∷ []) (before f).known (known_one m.plan.threads w (waiting_known f w i));
      waiting' = λ t j. waiting_known f t (stayed w (queued m.waits) j).0;
      few = omega arith;
      last = refl;
    }

    handed : (o : Option ℕ) → ((w : ℕ) → o ≡ some w → Mem w (queued m.waits)) → After m.plan.threads (hand_over (plan_of m) o (idle m ▷ end_hold s x))
    handed none waits = frees
    handed (some w) waits = either (above_all (plan_of m) w (filter (λ h. not (is_hold s x h)) (held m.holds))) (λ b. passes w (waits w refl)) (λ b. refuses w)

-- What a call leaves, where its machine and reports stand for such a state.
module _ {m left : Machine} {rs : Reports} {st : State} (f : Facts m) (k : Meets left rs m st) (a : After m.plan.threads st) where
  plan_kept : plan_of left ≡ plan_of m
  plan_kept = ap plans.view k.plan'

  -- it has what finding the chosen thread asks
  chooses : Chooses left
  chooses =
      let same : left.plan.threads ≡ m.plan.threads = ap (λ (p : Plan). p.threads) k.plan' in
      record {
        valid = subst (λ p. T (valid_plan p)) (sym plan_kept) f.valid;
        listed =
            record {
              threads' = omega (arith, same, f.fits.threads);
              counts =
                  record {
                    queue' = omega (arith, length-queued left.queue, ap (λ (z : State). length z.queue) k.seen, a.queue');
                    holds' = omega (arith, length-held left.holds, ap (λ (z : State). length z.holds) k.seen, a.holds');
                    waits' = omega (arith, length-queued left.waits, ap (λ (z : State). length z.waits) k.seen, a.waits');
                  };
              known = λ t i. omega (arith, same, a.known t (subst (λ (l : List ℕ). Mem t l) (ap (λ (z : State). z.queue) k.seen) i));
              waiting' = λ t i. omega (arith, same, a.waiting' t (subst (λ (l : List ℕ). Mem t l) (ap (λ (z : State). z.waits) k.seen) i));
            };
        keeps = k.keeps;
      }

  -- and what the Switch asks
  pub settles : Settles left rs
  settles =
      record {
        chooses = chooses;
        room = omega (arith, length-owed rs, ap (λ (z : State). length z.due) k.seen, a.few);
        last = ap last_reported k.seen ∙ a.last ∙ sym (ap (λ (z : State). z.reported) k.seen);
      }
