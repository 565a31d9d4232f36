-- The timers of every state that a run reaches: where they expire, how many expiries are lost, and that nothing is due inside an arming.
use mathlib.Core.Path.{◌≡◌, refl, ap, sym, ◌∙◌}
use mathlib.Core.Logic.{◌⊎◌, inl, inr, ◌≢◌}
use mathlib.Core.Bool.{cond, not, ◌||◌}
use mathlib.Core.List.{List, [], ◌++◌, append-nil}
use mathlib.Core.Option.{Option, none, some}
use Prim.Native.Nat.{ℕ, zero, suc, ◌+◌, ◌*◌, ◌-◌, ◌/◌, ◌≤◌, ◌<◌}
use native.Mathlib.Omega.{arith}
use native.Mathlib.Nat.{suc-mul, mul-le-mul_right, div-mul-le_self, div-lt_iff_lt-mul}
use lib.Dec.{T, leb, ltb, eqb, leb→le, ltb→lt, lt→ltb, nltb→le, eqb→eq, not_T}
use lib.ListN.{length, get_or, replicate, set, length-set, length-map, get_or-map}
use lib.Seq.{get_or-set_same, get_or-set_other}
use Rattle.model.specs.Searches.{◌▷◌, same}
use Rattle.model.specs.Plan.{Plan}
use Rattle.model.specs.Records.{timer_count, TimerCall, Arm, Start, Period, Cancel, Timing, Report, Record, call, allowed_timer, allowed}
use Rattle.model.specs.Timers.{Timer, Timers, slot, timer, timer_given, start_given, lost, armed_at, set_timer, late_due, moved_on, move_on}
use Rattle.model.specs.State.{State, latest_switch, last_reported, set_timers, owe}
use Rattle.model.specs.Priorities.{greatest_hold, current, chosen}
use Rattle.model.specs.Calls.{tick}
use Rattle.model.specs.Rules.{stage, in_order}
use Rattle.model.proofs.Tests.{split, is_true, is_false, ne_test, test_ne, and_right, equal?, same_refl}
use Rattle.model.proofs.Invariant.{Invariant}
use Rattle.model.proofs.Performed.{created, delayed, kept, yielded, ended, won, lost as lost', freed, passed, refused, ticked, timed, switch_due, Moved, by_call, by_report, nothing_due_lem, answered, moves}
use Rattle.model.proofs.Reached.{Reached, begin, next, reached_invariant}

-- the count lost

-- j is the least for which start + j × period is above k
pub record IsLeast (k start period j : ℕ) : Type 0 where
  pub above : k < start + j * period
  pub least : (i : ℕ) → i < j → start + i * period ≤ k

-- A start above k loses none.
pub lost_none : (k s n : ℕ) → k < s → lost k s n ≡ 0
unfolding lost
lost_none k s n h = rw (is_true (ltb k s) (lt→ltb k s h))

-- An alarm at or below k has lost one.
pub lost_alarm : (k s : ℕ) → s ≤ k → lost k s 0 ≡ 1
unfolding lost
lost_alarm k s h = rw (is_false (ltb k s) (not_T (ltb k s) (λ t. omega (arith, ltb→lt k s t))))

-- The count lost by a periodic timer is the least such j.
pub lost_least : (k s n : ℕ) → 0 < n → IsLeast k s n (lost k s n)
unfolding lost
lost_least k s n h = go (split (ltb k s))
  where
    late : s ≤ k → IsLeast k s n (suc ((k - s) / n))
    late l =
        record {
          above = omega (arith, (div-lt_iff_lt-mul {k = n} {x = k - s} {y = suc ((k - s) / n)} h).0 (omega arith));
          least = λ i u. let z : i ≤ (k - s) / n = omega arith in omega (arith, mul-le-mul_right n z, div-mul-le_self (k - s) n);
        }

    go : T (ltb k s) ⊎ T (not (ltb k s)) → IsLeast k s n (lost k s n)
    go (inl t) = rw (is_true (ltb k s) t) (record { above = omega (arith, ltb→lt k s t); least = λ i u. absurd (omega arith) })
    go (inr t) = rw (is_false (ltb k s) t) (rw (is_false (eqb n 0) (ne_test n 0 (λ e. omega arith))) (late (nltb→le k s t)))

-- where timers expire

-- an armed timer expires after tick number k, 65535 ticks ahead at most
pub record Ahead (k : ℕ) (t : Timer) : Type 0 where
  pub later : k < t.expiry
  pub soon : t.expiry ≤ k + 65535
  pub short : t.period ≤ 65535

abbrev pub AheadIfArmed : ℕ → Option Timer → Type 0
AheadIfArmed k none = Unit {0}
AheadIfArmed k (some t) = Ahead k t

pub record TimersFit (k : ℕ) (ts : Timers) : Type 0 where
  pub sized : length ts.slots ≡ timer_count
  pub ahead : (i : ℕ) → AheadIfArmed k (slot ts i)
  pub given : timer_given ts.arming < timer_count
  pub start : start_given ts.arming ≤ 65535

-- a timer that is armed, as its start is above k or it is periodic
pub armed_soon : (k s n : ℕ) → s ≤ 65535 → n ≤ 65535 → (k < s) ⊎ (0 < n) → Ahead k (timer (s + lost k s n * n) n)
armed_soon k s n h l (inl i) = rw (lost_none k s n i) (record { later = omega arith; soon = omega arith; short = l })
armed_soon k s n h l (inr i) = let r = lost_least k s n i in record { later = r.above; soon = soon (lost k s n) r; short = l }
  where
    -- the least j for which it is above k puts it at most a period ahead
    soon : (j : ℕ) → IsLeast k s n j → s + j * n ≤ k + 65535
    soon zero r = omega arith
    soon (suc j) r = omega (arith, r.least j (omega arith), suc-mul j n)

-- a timer just armed
armed_ahead : (k s n : ℕ) → s ≤ 65535 → n ≤ 65535 → AheadIfArmed k (armed_at k s n)
unfolding armed_at
armed_ahead k s n h l = go (split (ltb k s)) (split (ltb 0 n))
  where
    go : T (ltb k s) ⊎ T (not (ltb k s)) → T (ltb 0 n) ⊎ T (not (ltb 0 n)) → AheadIfArmed k (cond (ltb k s || ltb 0 n) (some (timer (s + lost k s n * n) n)) none)
    go (inl a) b = rw (is_true (ltb k s) a) (armed_soon k s n h l (inl (ltb→lt k s a)))
    go (inr a) (inl b) = rw (is_false (ltb k s) a, is_true (ltb 0 n) b) (armed_soon k s n h l (inr (ltb→lt 0 n b)))
    go (inr a) (inr b) = rw (is_false (ltb k s) a, is_false (ltb 0 n) b) tt

-- a timer after a Tick
moved_on_ahead : (k : ℕ) (o : Option Timer) → AheadIfArmed k o → AheadIfArmed (suc k) (moved_on (suc k) o)
moved_on_ahead k none a = tt
moved_on_ahead k (some t) a = go (split (eqb t.expiry (suc k))) (split (eqb t.period 0))
  where
    go : T (eqb t.expiry (suc k)) ⊎ T (not (eqb t.expiry (suc k))) → T (eqb t.period 0) ⊎ T (not (eqb t.period 0)) → AheadIfArmed (suc k) (moved_on (suc k) (some t))
    go (inl e) (inl z) = rw (is_true (eqb t.expiry (suc k)) e, is_true (eqb t.period 0) z) tt
    go (inl e) (inr z) =
        rw (is_true (eqb t.expiry (suc k)) e, is_false (eqb t.period 0) z)
        (record { later = omega (arith, eqb→eq t.expiry (suc k) e, test_ne t.period 0 z); soon = omega (arith, eqb→eq t.expiry (suc k) e, a.short); short = a.short })
    go (inr e) z = rw (is_false (eqb t.expiry (suc k)) e) (record { later = omega (arith, test_ne t.expiry (suc k) e, a.later); soon = omega (arith, a.soon); short = a.short })

module _ (k : ℕ) (ts : Timers) (f : TimersFit k ts) where
  -- one timer is set
  slot-set : (i : ℕ) → i < timer_count → (o : Option Timer) → AheadIfArmed k o → (j : ℕ) → AheadIfArmed k (get_or (set ts.slots i o) j none)
  slot-set i h o a j = go (equal? j i)
    where
      go : (j ≡ i) ⊎ (j ≢ i) → AheadIfArmed k (get_or (set ts.slots i o) j none)
      go (inl e) = rw (e, get_or-set_same ts.slots i o none (omega (arith, f.sized))) a
      go (inr d) = rw (get_or-set_other ts.slots i j o none d) (f.ahead j)

  set_fit : (c : TimerCall) → T (allowed_timer c) → TimersFit k (set_timer c k ts)
  set_fit (Arm i) t = record { sized = f.sized; ahead = f.ahead; given = ltb→lt i timer_count t; start = omega arith }
  set_fit (Start s) t = record { sized = f.sized; ahead = f.ahead; given = f.given; start = leb→le s 65535 (and_right (leb 1 s) (leb s 65535) t) }
  set_fit (Period n) t =
      record {
        sized = length-set ts.slots (timer_given ts.arming) (armed_at k (start_given ts.arming) n) ∙ f.sized;
        ahead = slot-set (timer_given ts.arming) f.given (armed_at k (start_given ts.arming) n) (armed_ahead k (start_given ts.arming) n f.start (leb→le n 65535 t));
        given = omega arith;
        start = omega arith;
      }
  set_fit (Cancel i) t = record { sized = length-set ts.slots i none ∙ f.sized; ahead = slot-set i (ltb→lt i timer_count t) none tt; given = f.given; start = f.start }

  move_fit : TimersFit (suc k) (move_on (suc k) ts)
  move_fit =
      record {
        sized = length-map ts.slots (moved_on (suc k)) ∙ f.sized;
        ahead = λ i. rw (get_or-map (moved_on (suc k)) ts.slots i none) (moved_on_ahead k (slot ts i) (f.ahead i));
        given = f.given;
        start = f.start;
      }

module _ (p : Plan) where
  fit_after : (st : State) {r : Record} {st' : State} → T (allowed p r) → Moved p st r st' → TimersFit st.tick_number st.timers → TimersFit st'.tick_number st'.timers
  unfolding tick
  fit_after st a (by_call mid q (created d)) f = f
  fit_after st a (by_call mid q (delayed x e h)) f = f
  fit_after st a (by_call mid q (kept x e)) f = f
  fit_after st a (by_call mid q (yielded x e)) f = f
  fit_after st a (by_call mid q (ended x e h)) f = f
  fit_after st a (by_call mid q (won x e need clear fresh)) f = f
  fit_after st a (by_call mid q (lost' x e need bar free)) f = f
  fit_after st a (by_call mid q (freed x e l n)) f = f
  fit_after st a (by_call mid q (passed x w z e l g i clear)) f = f
  fit_after st a (by_call mid q (refused x w e l g b)) f = f
  fit_after st a (by_call mid q ticked) f = move_fit st.tick_number st.timers f
  fit_after st a (by_call mid q (timed {k = k} x e)) f = set_fit st.tick_number st.timers f k a
  fit_after st a (by_report ds q) f = f

  -- Armed timers expire later, 65535 ticks ahead at most, and timers are 0 to 7.
  pub timers_fit : (st : State) → Reached p st → TimersFit st.tick_number st.timers
  timers_fit st begin = record { sized = refl; ahead = λ i. rw (none_armed timer_count i) tt; given = omega arith; start = omega arith }
    where
      none_armed : (n i : ℕ) → get_or {A = Option Timer} (replicate n none) i none ≡ none
      none_armed zero i = refl
      none_armed (suc n) zero = refl
      none_armed (suc n) (suc i) = none_armed n i
  timers_fit st (next {st = before} r b a e) = fit_after before a (moves p before (reached_invariant p before b).sound r st e) (timers_fit before b)

-- inside an arming nothing is due

abbrev pub Settled : State → Type 0
Settled st = (st.due ≡ []) ⊎ (stage st.timers.arming ≡ 0)

module _ (p : Plan) where
  -- no Switch where the chosen thread is the one last reported
  pub no_switch_lem : (st : State) → last_reported st ≡ chosen p st → switch_due p st ≡ []
  no_switch_lem st e = rw (e, is_true (same (chosen p st) (chosen p st)) (same_refl (chosen p st)))

  -- nothing becomes due where nothing was and the chosen thread stays
  quiet : (st : State) → Invariant p st → st.due ≡ [] → (mid : State) → mid.due ≡ [] → mid.reported ≡ st.reported → chosen p mid ≡ chosen p st → mid.due ++ switch_due p mid ≡ []
  quiet st v q mid d r c = ap (λ (l : List Report). l ++ switch_due p mid) d ∙ no_switch_lem mid (ap (latest_switch mid.reported) d ∙ r ∙ ap (latest_switch st.reported) (sym q) ∙ v.shown ∙ sym c)

  -- Arm and Start owe nothing, Period ends the arming, and Cancel comes outside one
  settled_timing : (st : State) → Invariant p st → (k : TimerCall) → st.due ≡ [] → T (in_order st.timers.arming (call (Timing k))) → (mid : State) → mid ≡ (st ▷ set_timers (set_timer k st.tick_number st.timers) ▷ owe (late_due k st.tick_number st.timers))
      → Settled (mid ▷ owe (switch_due p mid))
  unfolding chosen current greatest_hold
  settled_timing st v (Arm i) q t mid e = inl (quiet st v q mid (ap (λ (s : State). s.due) e ∙ append-nil st.due ∙ q) (ap (λ (s : State). s.reported) e) (ap (chosen p) e))
  settled_timing st v (Start s) q t mid e = inl (quiet st v q mid (ap (λ (s : State). s.due) e ∙ append-nil st.due ∙ q) (ap (λ (s : State). s.reported) e) (ap (chosen p) e))
  settled_timing st v (Period n) q t mid e = inr (ap (λ (s : State). stage s.timers.arming) e)
  settled_timing st v (Cancel i) q t mid e = inr (ap (λ (s : State). stage s.timers.arming) e ∙ eqb→eq (stage st.timers.arming) 0 t)

  settled_after : (st : State) → Invariant p st → {r : Record} {st' : State} → T (in_order st.timers.arming r) → Moved p st r st' → Settled st'
  unfolding tick
  settled_after st v t (by_call mid q (created d)) = inr (eqb→eq (stage st.timers.arming) 0 t)
  settled_after st v t (by_call mid q (delayed x e h)) = inr (eqb→eq (stage st.timers.arming) 0 t)
  settled_after st v t (by_call mid q (kept x e)) = inr (eqb→eq (stage st.timers.arming) 0 t)
  settled_after st v t (by_call mid q (yielded x e)) = inr (eqb→eq (stage st.timers.arming) 0 t)
  settled_after st v t (by_call mid q (ended x e h)) = inr (eqb→eq (stage st.timers.arming) 0 t)
  settled_after st v t (by_call mid q (won x e need clear fresh)) = inr (eqb→eq (stage st.timers.arming) 0 t)
  settled_after st v t (by_call mid q (lost' x e need bar free)) = inr (eqb→eq (stage st.timers.arming) 0 t)
  settled_after st v t (by_call mid q (freed x e l n)) = inr (eqb→eq (stage st.timers.arming) 0 t)
  settled_after st v t (by_call mid q (passed x w z e l g i clear)) = inr (eqb→eq (stage st.timers.arming) 0 t)
  settled_after st v t (by_call mid q (refused x w e l g b)) = inr (eqb→eq (stage st.timers.arming) 0 t)
  settled_after st v t (by_call mid q ticked) = inr (eqb→eq (stage st.timers.arming) 0 t)
  settled_after st v t (by_call mid q (timed {k = k} x e)) = settled_timing st v k (nothing_due_lem (Timing k) tt q) t mid refl
  settled_after st v t (by_report ds q) = inr (eqb→eq (stage st.timers.arming) 0 t)

  -- Inside an arming nothing is due.
  pub settled : (st : State) → Reached p st → Settled st
  settled st begin = inl refl
  settled st (next {st = before} r b a e) =
      let v = reached_invariant p before b in
      settled_after before v (answered p before r st e).0.0 (moves p before v.sound r st e)
