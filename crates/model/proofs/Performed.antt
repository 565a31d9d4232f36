-- What a record that moves the machine did, case by case, with the facts that the questions asked of it leave.
use mathlib.Core.Path.{◌≡◌, refl, ap, sym, subst, ◌∙◌}
use mathlib.Core.Logic.{◌⊎◌, inl, inr, ◌≢◌}
use mathlib.Core.Bool.{Bool, true, false, cond, not}
use mathlib.Core.List.{List, [], ◌∷◌, tail, append-nil, Memᴰ as Mem}
use mathlib.Core.Option.{Option, none, some, some-ne-none}
use Prim.Native.Nat.{ℕ, ◌+◌, ◌<◌}
use native.Mathlib.Omega.{arith}
use lib.Dec.{T, ltb, eqb, ltb→lt, nltb→le, eqb→eq, T_not}
use Rattle.model.specs.Searches.{◌▷◌, filter, is_empty, same}
use Rattle.model.specs.Plan.{Plan, base, may_take}
use Rattle.model.specs.Records.{Call, Create, Delay, Relinquish, End, Take, Give, Tick, Timing, TimerCall, Report, Ready, Switch, Won, Lost, Yield, Expire, Late, Record, call, report, report_kind, operand, is_tick}
use Rattle.model.specs.Timers.{set_timer, late_due}
use Rattle.model.specs.State.{Condition, dormant, ready, asleep, waiting, Hold, State, condition, last_reported, switched_to, set_reported, set_due, becomes, leave_queue, join_queue, arrive, join_waits, leave_waits, is_hold, begin_hold, end_hold, owe, join_delays, set_timers}
use Rattle.model.specs.Priorities.{held_ceiling, chosen}
use Rattle.model.specs.Calls.{create, tick, delay, rivalled, relinquish, end, above_all, held_by_others, take, wanted, heir, hand_over, give, timing, switch, perform}
use Rattle.model.specs.Rules.{Question, first_no, is_somebody, ask_caller, is_dormant, holds_none, holds_not, last_taken, ask_first, questions, broken}
use Rattle.model.specs.Runs.{effect, Outcome, moved, broke, outcome, step}
use Rattle.model.proofs.Tests.{split, is_true, is_false, and_both, eq_test, ne_test, test_ne, equal?, same_eq}
use Rattle.model.proofs.Searches.{all_at, all_fails, any_fails, filtered, in_filter, greatest_is, greatest_none, IsGreatest}
use Rattle.model.proofs.Invariant.{SoundState, wanting}
use Rattle.model.proofs.Nesting.{holder_never_loses}
use Rattle.model.proofs.Soundness.{Bar}

-- x made the call
abbrev pub Caller : Plan → State → ℕ → Type 0
Caller p st x = chosen p st ≡ some x

-- x holds no section
abbrev pub HoldsNone : List Hold → ℕ → Type 0
HoldsNone hs x = (h : Hold) → Mem h hs → h.thread ≢ x

-- the holds once x has given s
abbrev pub given : (caller section : ℕ) → List Hold → List Hold
given x s hs = filter (λ h. not (is_hold s x h)) hs

-- what a call did, before the Switch
pub data Performed (p : Plan) (st : State) : Call → State → Type 0 where
  created : {t : ℕ} → condition st t ≡ dormant → Performed p st (Create t) (st ▷ arrive (t ∷ []) ▷ owe (Ready t ∷ []))
  delayed : {n : ℕ} (x : ℕ) → Caller p st x → HoldsNone st.holds x → Performed p st (Delay n) (st ▷ leave_queue x ▷ becomes (asleep (st.tick_number + n + 1)) x ▷ join_delays x)
  kept : (x : ℕ) → Caller p st x → Performed p st Relinquish st
  yielded : (x : ℕ) → Caller p st x → Performed p st Relinquish (st ▷ leave_queue x ▷ join_queue x ▷ owe (Yield x ∷ []))
  ended : (x : ℕ) → Caller p st x → HoldsNone st.holds x → Performed p st End (st ▷ leave_queue x ▷ becomes dormant x)
  won : {s : ℕ} (x : ℕ) → Caller p st x → T (may_take p x s) → ((h : Hold) → Mem h st.holds → (h.thread ≡ x) ⊎ (held_ceiling p h < base p x)) → ((h : Hold) → Mem h st.holds → h.thread ≡ x → h.section ≢ s)
      → Performed p st (Take s) (st ▷ begin_hold s x ▷ owe (Won x ∷ []))
  lost : {s : ℕ} (x : ℕ) → Caller p st x → T (may_take p x s) → Bar p st.holds x → HoldsNone st.holds x
      → Performed p st (Take s) (st ▷ leave_queue x ▷ becomes (waiting s) x ▷ join_waits x ▷ owe (Lost x ∷ []))
  freed : {s : ℕ} (x : ℕ) → Caller p st x → last_taken st.holds x ≡ some s → ((w : ℕ) → Mem w st.waits → ⊥) → Performed p st (Give s) (st ▷ end_hold s x)
  passed : {s : ℕ} (x w z : ℕ) → Caller p st x → last_taken st.holds x ≡ some s → IsGreatest (base p) st.waits w → condition st w ≡ waiting z → ((h : Hold) → Mem h (given x s st.holds) → held_ceiling p h < base p w)
      → Performed p st (Give s) (st ▷ end_hold s x ▷ leave_waits w ▷ begin_hold z w ▷ arrive (w ∷ []) ▷ owe (Won w ∷ Ready w ∷ []))
  refused : {s : ℕ} (x w : ℕ) → Caller p st x → last_taken st.holds x ≡ some s → IsGreatest (base p) st.waits w → Bar p (given x s st.holds) w → Performed p st (Give s) (st ▷ end_hold s x ▷ owe (Lost w ∷ []))
  ticked : Performed p st Tick (tick st)
  timed : {k : TimerCall} (x : ℕ) → Caller p st x → Performed p st (Timing k) (st ▷ set_timers (set_timer k st.tick_number st.timers) ▷ owe (late_due k st.tick_number st.timers))

-- the Switch that is due after a call, if any
abbrev pub switch_due : Plan → State → List Report
switch_due p st = cond (same (last_reported st) (chosen p st)) [] (Switch (chosen p st) ∷ [])

pub switch_owes : (p : Plan) (st : State) → st ▷ owe (switch_due p st) ≡ switch p st
unfolding switch
switch_owes p st = go (same (last_reported st) (chosen p st))
  where
    go : (b : Bool) → st ▷ owe (cond b [] (Switch (chosen p st) ∷ [])) ≡ cond b st (st ▷ owe (Switch (chosen p st) ∷ []))
    go true = ap (λ (ds : List Report). set_due ds st) (append-nil st.due)
    go false = refl

-- what a record did. Nothing is due before a call other than Tick.
pub data Moved (p : Plan) (st : State) : Record → State → Type 0 where
  by_call : {k : Call} (mid : State) → T (is_tick k) ⊎ (st.due ≡ []) → Performed p st k mid → Moved p st (call k) (mid ▷ owe (switch_due p mid))
  by_report : {r : Report} (ds : List Report) → st.due ≡ r ∷ ds → Moved p st (report r) (st ▷ set_reported (switched_to st.reported r) ▷ set_due ds)

-- a call other than Tick came with nothing due
pub nothing_due_lem : (k : Call) {l : List Report} → T (not (is_tick k)) → T (is_tick k) ⊎ (l ≡ []) → l ≡ []
nothing_due_lem k n (inl t) = absurd (T_not (is_tick k) n t)
nothing_due_lem k n (inr e) = e

-- the questions, as facts

abbrev pub AllYes : List Question → Type 0
AllYes [] = Unit {0}
AllYes (q ∷ qs) = T q.answer × AllYes qs

pub all_yes : (qs : List Question) → first_no qs ≡ none → AllYes qs
all_yes [] e = tt
all_yes (q ∷ qs) e = go q.answer e (λ i. all_yes qs i)
  where
    go : (b : Bool) → cond b (first_no qs) (some q.number) ≡ none → (first_no qs ≡ none → AllYes qs) → T b × AllYes qs
    go true i k = (tt, k i)
    go false i k = absurd (some-ne-none q.number i)

pub somebody : (o : Option ℕ) → T (is_somebody o) → (x : ℕ) × (o ≡ some x)
somebody none t = absurd t
somebody (some x) t = (x, refl)

pub dormant_is : (k : Condition) → T (is_dormant k) → k ≡ dormant
dormant_is dormant t = refl
dormant_is ready t = absurd t
dormant_is (asleep n) t = absurd t
dormant_is (waiting s) t = absurd t

empty_is : (l : List Report) → T (is_empty l) → l ≡ []
empty_is [] t = refl
empty_is (d ∷ ds) t = absurd t

holds_none_lem : (hs : List Hold) (x : ℕ) → T (holds_none hs x) → HoldsNone hs x
holds_none_lem hs x t h m = test_ne h.thread x (any_fails (λ (h : Hold). eqb h.thread x) hs t m)

holds_not_lem : (hs : List Hold) (s x : ℕ) → T (holds_not hs s x) → (h : Hold) → Mem h hs → h.thread ≡ x → h.section ≢ s
holds_not_lem hs s x t h m e q =
    T_not (is_hold s x h) (any_fails (is_hold s x) hs t m) (and_both (eqb h.section s) (eqb h.thread x) (eq_test h.section s q) (eq_test h.thread x e))

-- a report is told by its kind and its operand
abbrev number_of : Option ℕ → ℕ
number_of none = 0
number_of (some t) = t

abbrev rebuilt : ℕ → Option ℕ → Report
rebuilt k w = cond (eqb k 17) (Switch w) (cond (eqb k 16) (Ready (number_of w)) (cond (eqb k 18) (Won (number_of w)) (cond (eqb k 19) (Lost (number_of w)) (cond (eqb k 20) (Yield (number_of w)) (cond (eqb k 21) (Expire (number_of w)) (Late (number_of w)))))))

rebuilds : (r : Report) → rebuilt (report_kind r) (operand r) ≡ r
rebuilds (Ready t) = refl
rebuilds (Switch w) = refl
rebuilds (Won t) = refl
rebuilds (Lost t) = refl
rebuilds (Yield t) = refl
rebuilds (Expire i) = refl
rebuilds (Late n) = refl

same_report : (d r : Report) → T (eqb (report_kind d) (report_kind r)) → T (same (operand d) (operand r)) → d ≡ r
same_report d r k w = sym (rebuilds d) ∙ rw (eqb→eq (report_kind d) (report_kind r) k, same_eq (operand d) (operand r) w) (rebuilds r)

abbrev state_of : State → Outcome → State
state_of st (moved st') = st'
state_of st (broke n) = st

pub state_eq : (a b : State) → moved a ≡ moved b → a ≡ b
state_eq a b e = ap (state_of a) e

abbrev is_move : Outcome → ℕ
is_move (moved st) = 1
is_move (broke n) = 0

pub not_broke : (n : ℕ) (st : State) → broke n ≡ moved st → ⊥
not_broke n st e = omega (arith, ap is_move e)

first_due : (due : List Report) (r : Report) → T (ask_first due (λ d. eqb (report_kind d) (report_kind r))) → T (ask_first due (λ d. same (operand d) (operand r))) → due ≡ r ∷ tail due
first_due [] r k w = absurd k
first_due (d ∷ ds) r k w = ap {B = List Report} (λ x. x ∷ ds) (same_report d r k w)

module _ (p : Plan) (st : State) where
  -- a record that moves the machine has the answer Yes to all that is asked of it, and moves it to its effect
  pub answered : (r : Record) (st' : State) → step p st r ≡ moved st' → AllYes (questions p st r) × (effect p r st ≡ st')
  unfolding step broken
  answered r st' e = go (broken p st r) refl e
    where
      go : (o : Option ℕ) → broken p st r ≡ o → outcome o (effect p r st) ≡ moved st' → AllYes (questions p st r) × (effect p r st ≡ st')
      go none q i = (all_yes (questions p st r) q, state_eq (effect p r st) st' i)
      go (some n) q i = absurd (not_broke n st' i)

  -- a call other than Tick comes with nothing due
  pub idle : (k : Call) → AllYes (questions p st (call k)) → T (is_tick k) ⊎ (st.due ≡ [])
  idle (Create t) a = inr (empty_is st.due a.1.0)
  idle (Delay n) a = inr (empty_is st.due a.1.0)
  idle Relinquish a = inr (empty_is st.due a.1.0)
  idle End a = inr (empty_is st.due a.1.0)
  idle (Take s) a = inr (empty_is st.due a.1.0)
  idle (Give s) a = inr (empty_is st.due a.1.0)
  idle Tick a = inl tt
  idle (Timing k) a = inr (empty_is st.due a.1.0)

  -- a report is the first due
  pub reports_first : (r : Report) → AllYes (questions p st (report r)) → st.due ≡ r ∷ tail st.due
  reports_first r a = first_due st.due r a.1.1.0 a.1.1.1.0

module _ (p : Plan) (st : State) (c : SoundState p st) where
  above_others : (x : ℕ) → T (above_all p x (held_by_others x st.holds)) → (h : Hold) → Mem h st.holds → (h.thread ≡ x) ⊎ (held_ceiling p h < base p x)
  above_others x t h m = go (equal? h.thread x)
    where
      go : (h.thread ≡ x) ⊎ (h.thread ≢ x) → (h.thread ≡ x) ⊎ (held_ceiling p h < base p x)
      go (inl e) = inl e
      go (inr d) =
          inr (ltb→lt (held_ceiling p h) (base p x) (all_at (λ (h : Hold). ltb (held_ceiling p h) (base p x)) (held_by_others x st.holds) t (in_filter (λ (h : Hold). not (eqb h.thread x)) st.holds m (ne_test h.thread x d))))

  not_above : (t : ℕ) (hs : List Hold) → T (not (above_all p t hs)) → Bar p hs t
  not_above t hs n = let b = all_fails (λ (h : Hold). ltb (held_ceiling p h) (base p t)) hs n in (b.0, b.1, nltb→le (held_ceiling p b.0) (base p t) b.2)

  relinquished : (x : ℕ) → Caller p st x → Performed p st Relinquish (relinquish p x st)
  unfolding relinquish
  relinquished x e = go (rivalled p x st)
    where
      go : (b : Bool) → Performed p st Relinquish (cond b (st ▷ leave_queue x ▷ join_queue x ▷ owe (Yield x ∷ [])) st)
      go true = yielded x e
      go false = kept x e

  taken : (x s : ℕ) → Caller p st x → T (may_take p x s) → T (holds_not st.holds s x) → Performed p st (Take s) (take p x s st)
  unfolding take
  taken x s e need fresh = go (split (above_all p x (held_by_others x st.holds)))
    where
      go : T (above_all p x (held_by_others x st.holds)) ⊎ T (not (above_all p x (held_by_others x st.holds))) → Performed p st (Take s) (take p x s st)
      go (inl t) = rw (is_true (above_all p x (held_by_others x st.holds)) t) (won x e need (above_others x t) (holds_not_lem st.holds s x fresh))
      go (inr t) =
          let b = not_above x (held_by_others x st.holds) t in
          rw (is_false (above_all p x (held_by_others x st.holds)) t)
          (lost x e need (b.0, (filtered (λ (h : Hold). not (eqb h.thread x)) st.holds b.1).0, b.2) (λ h m i. T_not (above_all p x (held_by_others x st.holds)) t (holder_never_loses p st c x e h m i)))

  gave : (x s : ℕ) → Caller p st x → last_taken st.holds x ≡ some s → Performed p st (Give s) (give p x s st)
  unfolding give
  gave x s e last = go (heir p st) refl
    where
      go : (o : Option ℕ) → heir p st ≡ o → Performed p st (Give s) (hand_over p o (end_hold s x st))
      go none q = freed x e last (λ w m. greatest_none (base p) st.waits q m)
      go (some w) q = cases (split (above_all p w (given x s st.holds)))
        where
          g : IsGreatest (base p) st.waits w
          g = greatest_is (base p) st.waits w q

          wants : condition st w ≡ waiting (wanted (condition st w))
          wants = let r = wanting c w g.0 in r.1 ∙ ap (λ k. waiting (wanted k)) (sym r.1)

          cases : T (above_all p w (given x s st.holds)) ⊎ T (not (above_all p w (given x s st.holds))) → Performed p st (Give s) (hand_over p (some w) (end_hold s x st))
          cases (inl t) =
              rw (is_true (above_all p w (given x s st.holds)) t)
              (passed x w (wanted (condition st w)) e last g wants (λ h m. ltb→lt (held_ceiling p h) (base p w) (all_at (λ (h : Hold). ltb (held_ceiling p h) (base p w)) (given x s st.holds) t m)))
          cases (inr t) = rw (is_false (above_all p w (given x s st.holds)) t) (refused x w e last g (not_above w (given x s st.holds) t))

  -- a caller's answers, once there is a caller
  asked : (x : ℕ) (f : ℕ → Bool) → Caller p st x → T (ask_caller (chosen p st) f) → T (f x)
  asked x f e t = subst (λ (o : Option ℕ). T (ask_caller o f)) e t

  pub performed : (k : Call) → AllYes (questions p st (call k)) → Performed p st k (perform p k st)
  unfolding create delay end timing
  performed (Create t) a = created (dormant_is (condition st t) a.1.1.0)
  performed (Delay n) a =
      let x = somebody (chosen p st) a.1.1.0 in
      rw x.1 (delayed x.0 x.1 (holds_none_lem st.holds x.0 (asked x.0 (holds_none st.holds) x.1 a.1.1.1.0)))
  performed Relinquish a = let x = somebody (chosen p st) a.1.1.0 in rw x.1 (relinquished x.0 x.1)
  performed End a =
      let x = somebody (chosen p st) a.1.1.0 in
      rw x.1 (ended x.0 x.1 (holds_none_lem st.holds x.0 (asked x.0 (holds_none st.holds) x.1 a.1.1.1.0)))
  performed (Take s) a =
      let x = somebody (chosen p st) a.1.1.0 in
      rw x.1 (taken x.0 s x.1 (asked x.0 (λ y. may_take p y s) x.1 a.1.1.1.0) (asked x.0 (holds_not st.holds s) x.1 a.1.1.1.1.0))
  performed (Give s) a =
      let x = somebody (chosen p st) a.1.1.0 in
      rw x.1 (gave x.0 s x.1 (same_eq (last_taken st.holds x.0) (some s) (asked x.0 (λ y. same (last_taken st.holds y) (some s)) x.1 a.1.1.1.0)))
  performed Tick a = ticked
  performed (Timing k) a = let x = somebody (chosen p st) a.1.1.0 in timed x.0 x.1

  pub moves : (r : Record) (st' : State) → step p st r ≡ moved st' → Moved p st r st'
  moves r st' e = let q = answered p st r st' e in subst (λ (s : State). Moved p st r s) q.1 (of r q.0)
    where
      of : (r : Record) → AllYes (questions p st r) → Moved p st r (effect p r st)
      of (call k) a = subst (λ (s : State). Moved p st (call k) s) (switch_owes p (perform p k st)) (by_call (perform p k st) (idle p st k a) (performed k a))
      of (report r) a = by_report (tail st.due) (reports_first p st r a)
