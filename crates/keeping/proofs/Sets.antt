-- Each record sets the pair to the walk's result: one hold more in front compares one ceiling; where a hold ends, what is left is walked over.
use mathlib.Core.Path.{◌≡◌, refl, ap, sym, ◌∙◌}
use mathlib.Core.Bool.{Bool, true, false, cond}
use mathlib.Core.List.{[], ◌∷◌}
use mathlib.Core.Option.{Option, none, some}
use Prim.Native.Nat.{ℕ}
use Rattle.model.specs.Searches.{◌▷◌, same}
use Rattle.model.specs.Plan.{Plan, ceiling}
use Rattle.model.specs.Records.{Call, Create, Delay, Relinquish, End, Take, Give, Tick, Timing, Switch, Won, Lost, Ready, Yield, Record, call, report}
use Rattle.model.specs.State.{waiting, hold, State, condition, last_reported, becomes, leave_queue, join_queue, arrive, join_waits, leave_waits, begin_hold, end_hold, owe}
use Rattle.model.specs.Priorities.{held_ceiling, chosen}
use Rattle.model.specs.Calls.{create, tick, delay, rivalled, relinquish, end, above_all, held_by_others, take, wanted, heir, hand_over, give, timing, switch, by_caller, perform}
use Rattle.model.specs.Rules.{broken}
use Rattle.model.specs.Runs.{Outcome, moved, broke, outcome, effect, step}
use Rattle.keeping.specs.Top.{Top, walk, gained, taken, handed, gave, set_for, set_by}
use Rattle.keeping.proofs.Walks.{gained_walk}

switch_holds : (p : Plan) (st : State) → (switch p st).holds ≡ st.holds
unfolding switch
switch_holds p st = go (same (last_reported st) (chosen p st))
  where
    go : (b : Bool) → (cond b st (st ▷ owe (Switch (chosen p st) ∷ []))).holds ≡ st.holds
    go true = refl
    go false = refl

handed_walk : (p : Plan) (st : State) (o : Option ℕ) → handed p o st (walk p st.holds) ≡ walk p (hand_over p o st).holds
handed_walk p st none = refl
handed_walk p st (some w) = go (above_all p w st.holds)
  where
    go : (b : Bool) → cond b (gained (ceiling p (wanted (condition st w))) w (walk p st.holds)) (walk p st.holds)
        ≡ walk p (cond b (st ▷ leave_waits w ▷ begin_hold (wanted (condition st w)) w ▷ arrive (w ∷ []) ▷ owe (Won w ∷ Ready w ∷ [])) (st ▷ owe (Lost w ∷ []))).holds
    go true = gained_walk (held_ceiling p) (hold (wanted (condition st w)) w) st.holds
    go false = refl

module _ (p : Plan) (st : State) where
  relinquish_holds : (x : ℕ) → (relinquish p x st).holds ≡ st.holds
  unfolding relinquish
  relinquish_holds x = go (rivalled p x st)
    where
      go : (b : Bool) → (cond b (st ▷ leave_queue x ▷ join_queue x ▷ owe (Yield x ∷ [])) st).holds ≡ st.holds
      go true = refl
      go false = refl

  take_walk : (x s : ℕ) → taken p x s st (walk p st.holds) ≡ walk p (take p x s st).holds
  unfolding take
  take_walk x s = go (above_all p x (held_by_others x st.holds))
    where
      go : (b : Bool) → cond b (gained (ceiling p s) x (walk p st.holds)) (walk p st.holds)
          ≡ walk p (cond b (st ▷ begin_hold s x ▷ owe (Won x ∷ [])) (st ▷ leave_queue x ▷ becomes (waiting s) x ▷ join_waits x ▷ owe (Lost x ∷ []))).holds
      go true = gained_walk (held_ceiling p) (hold s x) st.holds
      go false = refl

  -- with nobody running nothing moves
  caller_walk : (o : Option ℕ) (act : ℕ → State → State) (set : ℕ → Top → Top) → ((x : ℕ) → set x (walk p st.holds) ≡ walk p (act x st).holds) → set_for o set (walk p st.holds) ≡ walk p (by_caller o act st).holds
  caller_walk none act set e = refl
  caller_walk (some x) act set e = e x

  caller_holds : (o : Option ℕ) (act : ℕ → State → State) → ((x : ℕ) → (act x st).holds ≡ st.holds) → walk p st.holds ≡ walk p (by_caller o act st).holds
  caller_holds none act e = refl
  caller_holds (some x) act e = ap (walk p) (sym (e x))

  perform_walk : (k : Call) → set_by p (call k) st (walk p st.holds) ≡ walk p (perform p k st).holds
  unfolding create tick delay end give timing
  perform_walk (Create t) = refl
  perform_walk (Delay n) = caller_holds (chosen p st) (λ x. delay x n) (λ x. refl)
  perform_walk Relinquish = caller_holds (chosen p st) (relinquish p) relinquish_holds
  perform_walk End = caller_holds (chosen p st) end (λ x. refl)
  perform_walk (Take s) = caller_walk (chosen p st) (λ x. take p x s) (λ x. taken p x s st) (λ x. take_walk x s)
  perform_walk (Give s) = caller_walk (chosen p st) (λ x. give p x s) (λ x. gave p x s st) (λ x. handed_walk p (end_hold s x st) (heir p st))
  perform_walk Tick = refl
  perform_walk (Timing k) = refl

  -- in every state, one that came from outside too
  pub set_walk : (r : Record) → set_by p r st (walk p st.holds) ≡ walk p (effect p r st).holds
  set_walk (call k) = perform_walk k ∙ ap (walk p) (sym (switch_holds p (perform p k st)))
  set_walk (report r) = refl

  -- so does each that moves the machine

  abbrev state_of : Outcome → (else : State) → State
  state_of (moved st') d = st'
  state_of (broke n) d = d

  moved_by : (r : Record) (st' : State) → step p st r ≡ moved st' → effect p r st ≡ st'
  unfolding step
  moved_by r st' e = go (broken p st r) ∙ ap (λ o. state_of o (effect p r st)) e
    where
      go : (o : Option ℕ) → effect p r st ≡ state_of (outcome o (effect p r st)) (effect p r st)
      go none = refl
      go (some n) = refl

  pub set-moved : (r : Record) (st' : State) → step p st r ≡ moved st' → set_by p r st (walk p st.holds) ≡ walk p st'.holds
  set-moved r st' e = set_walk r ∙ ap (λ (x : State). walk p x.holds) (moved_by r st' e)
