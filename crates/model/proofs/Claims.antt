-- At most T + 9 reports are due: the claims, and one for the Switch, never pass T + 9. A call other than Tick comes with nothing due, and each
-- report that it owes is paid by a thread that is not asleep; a Tick turns sleepers into Readys and armed timers into Expires; a report given
-- has its claim no longer.
use mathlib.Core.Path.{◌≡◌, refl, ap, sym, subst, ◌∙◌}
use mathlib.Core.Logic.{◌⊎◌, inl, inr, ◌≢◌}
use mathlib.Core.Bool.{Bool, true, false, cond, ◌||◌}
use mathlib.Core.List.Memᴰ.{append_cases}
use mathlib.Core.List.Memᴰ.{cases_cons}
use mathlib.Core.List.Memᴰ.{eq_of_singleton as single}
use mathlib.Core.List.Memᴰ.{of_map}
use mathlib.Core.List.Memᴰ.{tail as there}
use mathlib.Core.List.{List, [], ◌∷◌, ◌++◌, map, append-nil, Memᴰ as Mem}
use mathlib.Core.Option.{Option, none, some}
use Prim.Native.Nat.{ℕ, suc, ◌+◌, ◌≤◌, ◌<◌, min}
use native.Mathlib.Omega.{arith}
use native.Mathlib.Nat.{min-le_right}
use lib.Dec.{T, ltb, le→leb, ltb→lt, lt→ltb}
use lib.ListN.{length, length-append}
use Rattle.model.specs.Searches.{◌▷◌, all, is_empty, up_to, same}
use Rattle.model.specs.Plan.{Plan, threads}
use Rattle.model.specs.Records.{timer_count, TimerCall, Arm, Start, Period, Cancel, Call, Create, Delay, Relinquish, End, Take, Give, Timing, Report, Ready, Switch, Won, Lost, Yield, Expire, Late, Record, report, is_tick, is_thread, allowed_call, allowed_report, allowed}
use Rattle.model.specs.Timers.{start_given, lost, late_due, expired}
use Rattle.model.specs.State.{State, condition, last_reported, switched_to, set_reported, set_due, without_switch, owe}
use Rattle.model.specs.Priorities.{chosen}
use Rattle.model.specs.Calls.{sleepers, tick}
use Rattle.model.specs.Formed.{switch_last, owed_none, claims}
use Rattle.model.proofs.Tests.{and_right, and_both}
use Rattle.model.proofs.Searches.{filtered, up_to_at, all_in}
use Rattle.model.proofs.Loops.{filter-few}
use Rattle.model.proofs.Invariant.{tag, SoundState, Invariant}
use Rattle.model.proofs.Performed.{Caller, Performed, created, delayed, kept, yielded, ended, won, lost as lost', freed, passed, refused, ticked, timed, switch_due, Moved, by_call, by_report, nothing_due_lem, moves}
use Rattle.model.proofs.Kept.{caller_queued, performed_sound}
use Rattle.model.proofs.Sleeping.{sleeper}
use Rattle.model.proofs.Reached.{Reached, begin, next, reached_invariant}
use Rattle.model.proofs.Owed.{no_switch, last_behind, one_switch, claims_behind, claims_given, ending, tick_claims}
use Rattle.model.proofs.Bounds.{queued_below, waiting_below, awake_and_asleep}

-- what is due after a record

record DueFits (p : Plan) (st : State) : Type 0 where
  known : (d : Report) → Mem d st.due → T (allowed p (report d))
  last : T (switch_last st.due)
  room : claims st ≤ threads p + 9

-- what is due before the Switch
record BeforeSwitch (p : Plan) (st : State) : Type 0 where
  known : (d : Report) → Mem d st.due → T (allowed p (report d))
  quiet : T (all no_switch st.due)
  room : claims st ≤ threads p + 9

switch_fits : (p : Plan) (st : State) → SoundState p st → BeforeSwitch p st → DueFits p (st ▷ owe (switch_due p st))
switch_fits p st c b = go (same (last_reported st) (chosen p st))
  where
    known : (o : Option ℕ) → chosen p st ≡ o → T (is_thread p o)
    known none e = tt
    known (some x) e = lt→ltb x (threads p) (queued_below p c.agree x (caller_queued p st c e))

    with : (ds : List Report) → ((d : Report) → Mem d ds → T (allowed p (report d))) → T (switch_last ds) → without_switch ds ≡ [] → DueFits p (st ▷ owe ds)
    with ds k l w = record { known = λ d m. pick d (append_cases st.due m); last = last_behind st.due ds b.quiet l; room = omega (arith, claims_behind st ds w, b.room) }
      where
        pick : (d : Report) → Mem d st.due ⊎ Mem d ds → T (allowed p (report d))
        pick d (inl m) = b.known d m
        pick d (inr m) = k d m

    go : (b : Bool) → DueFits p (st ▷ owe (cond b [] (Switch (chosen p st) ∷ [])))
    go true = with [] (λ d m. elim m [ ]) tt refl
    go false = with (Switch (chosen p st) ∷ []) (λ d m. rw (single m) (known (chosen p st) refl)) tt refl

-- a call other than Tick comes with nothing due, and each report that it owes is paid by a thread that is not asleep
record Makes (p : Plan) (st mid : State) : Type 0 where
  new : List Report
  joined : mid.due ≡ st.due ++ new
  known : (d : Report) → Mem d new → T (allowed p (report d))
  quiet : T (all no_switch new)
  paid : length new + length mid.delays ≤ threads p

makes_fits : (p : Plan) (st mid : State) → st.due ≡ [] → Makes p st mid → BeforeSwitch p mid
makes_fits p st mid q m =
    record {
      known = λ d n. m.known d (subst (Mem d) e n);
      quiet = subst (λ (l : List Report). T (all no_switch l)) (sym e) m.quiet;
      room = omega (arith, filter-few no_switch mid.due, ap length e, m.paid, filter-few (owed_none mid.timers mid.due) (up_to timer_count));
    }
  where
    e : mid.due ≡ m.new
    e = m.joined ∙ ap (λ (l : List Report). l ++ m.new) q

module _ (p : Plan) (st : State) (v : Invariant p st) where
  -- a thread of the plan that is not asleep
  abbrev Pays : ℕ → Type 0
  Pays t = (t < threads p) × (tag (condition st t) ≢ 2)

  caller_pays : {x : ℕ} → Caller p st x → Pays x
  caller_pays {x} e = let m = caller_queued p st v.sound e in (queued_below p v.sound.agree x m, λ i. omega (arith, ap tag (v.sound.agree.queued x m)))

  waiter_pays : {w : ℕ} → Mem w st.waits → Pays w
  waiter_pays {w} m = (waiting_below p v.sound.agree w m, λ i. omega (arith, ap tag (v.sound.agree.waiting' w m).1))

  none_pays : length st.delays ≤ threads p
  none_pays = omega (arith, awake_and_asleep p st v [] tt (λ t m. elim m [ ]))

  one_pays : (t : ℕ) → Pays t → suc (length st.delays) ≤ threads p
  one_pays t f = omega (arith, awake_and_asleep p st v (t ∷ []) (λ b m. elim m [ ], tt) (λ u m. rw (single m) f))

  two_pay : (x w : ℕ) → Caller p st x → Mem w st.waits → 2 + length st.delays ≤ threads p
  two_pay x w e m = omega (arith, awake_and_asleep p st v (x ∷ w ∷ []) (λ b n q. other (q ∙ single n), (λ b n. elim n [ ], tt)) (λ u n. pick u (cases_cons n)))
    where
      other : x ≢ w
      other q = omega (arith, ap tag (sym (v.sound.agree.queued x (caller_queued p st v.sound e)) ∙ ap (condition st) q ∙ (v.sound.agree.waiting' w m).1))

      pick : (u : ℕ) → (u ≡ x) ⊎ Mem u (w ∷ []) → Pays u
      pick u (inl q) = rw q (caller_pays e)
      pick u (inr n) = rw (single n) (waiter_pays m)

  -- no report
  makes_none : {mid : State} → mid.due ≡ st.due → length mid.delays ≤ threads p → Makes p st mid
  makes_none e h = record { new = []; joined = e ∙ sym (append-nil st.due); known = λ d m. elim m [ ]; quiet = tt; paid = omega arith }

  -- one report, paid by t
  makes_one : {mid : State} (d : Report) (t : ℕ) → mid.due ≡ st.due ++ d ∷ [] → mid.delays ≡ st.delays → T (allowed_report p d) → T (no_switch d) → Pays t → Makes p st mid
  makes_one d t e f a n h = record { new = d ∷ []; joined = e; known = λ r m. rw (single m) a; quiet = and_both (no_switch d) true n tt; paid = omega (arith, one_pays t h, ap length f) }

  -- the reports of the heir, paid by heir and caller
  makes_two : {mid : State} (x w : ℕ) → mid.due ≡ st.due ++ Won w ∷ Ready w ∷ [] → mid.delays ≡ st.delays → Caller p st x → Mem w st.waits → Makes p st mid
  makes_two x w e f c m = record { new = Won w ∷ Ready w ∷ []; joined = e; known = λ d n. known d (cases_cons n); quiet = tt; paid = omega (arith, two_pay x w c m, ap length f) }
    where
      known : (d : Report) → (d ≡ Won w) ⊎ Mem d (Ready w ∷ []) → T (allowed p (report d))
      known d (inl q) = rw q (lt→ltb w (threads p) (waiting_below p v.sound.agree w m))
      known d (inr n) = rw (single n) (lt→ltb w (threads p) (waiting_below p v.sound.agree w m))

  caller_allowed : {x : ℕ} → Caller p st x → T (ltb x (threads p))
  caller_allowed {x} e = lt→ltb x (threads p) (queued_below p v.sound.agree x (caller_queued p st v.sound e))

  makes_timing : (k : TimerCall) (x : ℕ) → Caller p st x → {mid : State} → mid.due ≡ st.due ++ late_due k st.tick_number st.timers → mid.delays ≡ st.delays → Makes p st mid
  makes_timing (Arm i) x c e f = makes_none (e ∙ append-nil st.due) (omega (arith, none_pays, ap length f))
  makes_timing (Start s) x c e f = makes_none (e ∙ append-nil st.due) (omega (arith, none_pays, ap length f))
  makes_timing (Period n) x c e f = let j = lost st.tick_number (start_given st.timers.arming) n in makes_one (Late (min j 65535)) x e f (le→leb (min j 65535) 65535 (min-le_right j 65535)) tt (caller_pays c)
  makes_timing (Cancel i) x c e f = makes_none (e ∙ append-nil st.due) (omega (arith, none_pays, ap length f))

  tick_fits : DueFits p st → BeforeSwitch p (tick st)
  unfolding tick
  tick_fits f =
      record {
        known = λ d m. known d (cases d m);
        quiet = all_in no_switch due' (λ d m. quiet d (cases d m));
        room = omega (arith, f.room, filter-few no_switch due', tick_claims st);
      }
    where
      n : ℕ
      n = suc st.tick_number

      woken : List ℕ
      woken = sleepers n st

      out : List ℕ
      out = expired n st.due st.timers

      new : List Report
      new = map Expire out ++ map Ready woken

      due' : List Report
      due' = without_switch st.due ++ new

      -- an old report, an Expire or a Ready
      From : Report → Type 0
      From d = (Mem d st.due × T (no_switch d)) ⊎ (((i : ℕ) × (i < timer_count) × (Expire i ≡ d)) ⊎ ((t : ℕ) × (t < threads p) × (Ready t ≡ d)))

      cases : (d : Report) → Mem d due' → From d
      cases d m = go (append_cases (without_switch st.due) m)
        where
          second : Mem d (map Expire out) ⊎ Mem d (map Ready woken) → From d
          second (inl k) = let r = of_map Expire out k in inr (inl (r.0, up_to_at timer_count (filtered (ending st) (up_to timer_count) r.1).0, r.2))
          second (inr k) = let r = of_map Ready woken k in inr (inr (r.0, omega (arith, v.sound.agree.sized, (sleeper n st r.0 r.1).0), r.2))

          go : Mem d (without_switch st.due) ⊎ Mem d new → From d
          go (inl k) = inl (filtered no_switch st.due k)
          go (inr k) = second (append_cases (map Expire out) k)

      known : (d : Report) → From d → T (allowed p (report d))
      known d (inl k) = f.known d k.0
      known d (inr (inl k)) = rw (← k.2) (lt→ltb k.0 timer_count k.1)
      known d (inr (inr k)) = rw (← k.2) (lt→ltb k.0 (threads p) k.1)

      quiet : (d : Report) → From d → T (no_switch d)
      quiet d (inl k) = k.1
      quiet d (inr (inl k)) = rw (← k.2) tt
      quiet d (inr (inr k)) = rw (← k.2) tt

  call_fits_lem : {k : Call} {mid : State} → T (allowed_call p k) → T (is_tick k) ⊎ (st.due ≡ []) → Performed p st k mid → DueFits p st → BeforeSwitch p mid
  call_fits_lem {mid = mid} a q (created {t = t} d) f = makes_fits p st mid (nothing_due_lem (Create t) tt q) (makes_one (Ready t) t refl refl a tt (ltb→lt t (threads p) a, λ i. omega (arith, ap tag d)))
  call_fits_lem {mid = mid} a q (delayed {n = n} x e h) f = makes_fits p st mid (nothing_due_lem (Delay n) tt q) (makes_none refl (omega (arith, one_pays x (caller_pays e), length-append st.delays (x ∷ []))))
  call_fits_lem {mid = mid} a q (kept x e) f = makes_fits p st mid (nothing_due_lem Relinquish tt q) (makes_none refl none_pays)
  call_fits_lem {mid = mid} a q (yielded x e) f = makes_fits p st mid (nothing_due_lem Relinquish tt q) (makes_one (Yield x) x refl refl (caller_allowed e) tt (caller_pays e))
  call_fits_lem {mid = mid} a q (ended x e h) f = makes_fits p st mid (nothing_due_lem End tt q) (makes_none refl none_pays)
  call_fits_lem {mid = mid} a q (won {s = s} x e need clear fresh) f = makes_fits p st mid (nothing_due_lem (Take s) tt q) (makes_one (Won x) x refl refl (caller_allowed e) tt (caller_pays e))
  call_fits_lem {mid = mid} a q (lost' {s = s} x e need bar free) f = makes_fits p st mid (nothing_due_lem (Take s) tt q) (makes_one (Lost x) x refl refl (caller_allowed e) tt (caller_pays e))
  call_fits_lem {mid = mid} a q (freed {s = s} x e l n) f = makes_fits p st mid (nothing_due_lem (Give s) tt q) (makes_none refl none_pays)
  call_fits_lem {mid = mid} a q (passed {s = s} x w z e l g i clear) f = makes_fits p st mid (nothing_due_lem (Give s) tt q) (makes_two x w refl refl e g.0)
  call_fits_lem {mid = mid} a q (refused {s = s} x w e l g b) f =
      makes_fits p st mid (nothing_due_lem (Give s) tt q) (makes_one (Lost w) w refl refl (lt→ltb w (threads p) (waiting_below p v.sound.agree w g.0)) tt (waiter_pays g.0))
  call_fits_lem a q ticked f = tick_fits f
  call_fits_lem {mid = mid} a q (timed {k = k} x e) f = makes_fits p st mid (nothing_due_lem (Timing k) tt q) (makes_timing k x e refl refl)

given_fits : (p : Plan) (st : State) (d : Report) (ds : List Report) → st.due ≡ d ∷ ds → DueFits p st → DueFits p (st ▷ set_reported (switched_to st.reported d) ▷ set_due ds)
given_fits p st d ds q f = record { known = λ r m. f.known r (rw q (there m)); last = and_right (no_switch d || is_empty ds) (switch_last ds) (rw q at f.last); room = omega (arith, claims_given st d ds q, f.room) }

module _ (p : Plan) where
  fits_after : (st : State) → Invariant p st → {r : Record} {st' : State} → T (allowed p r) → Moved p st r st' → DueFits p st → DueFits p st'
  fits_after st v a (by_call mid q m) f = switch_fits p mid (performed_sound p st v a m) (call_fits_lem p st v a q m f)
  fits_after st v a (by_report {r = r} ds q) f = given_fits p st r ds q f

  due_fit : (st : State) → Reached p st → DueFits p st
  due_fit st begin = record { known = λ d m. elim m [ ]; last = tt; room = omega arith }
  due_fit st (next {st = before} r b a e) = let v = reached_invariant p before b in fits_after before v a (moves p before v.sound r st e) (due_fit before b)

-- At most T + 9 reports are ever due.
pub due_fits : (p : Plan) (st : State) → Reached p st → length st.due ≤ threads p + 9
due_fits p st r = let f = due_fit p st r in omega (arith, f.room, one_switch st.due f.last)

-- Every report due has an operand that question 8 allows.
pub due_named : (p : Plan) (st : State) → Reached p st → (d : Report) → Mem d st.due → T (allowed p (report d))
due_named p st r d m = (due_fit p st r).known d m

-- A Switch due is last.
pub switch_is_last : (p : Plan) (st : State) → Reached p st → T (switch_last st.due)
switch_is_last p st r = (due_fit p st r).last

-- Reports due but a Switch, sleepers, armed timers owed no Expire, and one together are at most T + 9.
pub claims_fit : (p : Plan) (st : State) → Reached p st → claims st ≤ threads p + 9
claims_fit p st r = (due_fit p st r).room
