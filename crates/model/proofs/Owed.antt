-- What has a claim on the room for reports, in any state: every report due but a Switch, every sleeper and every armed timer owed no Expire.
use mathlib.Core.Path.{◌≡◌, refl, ap, sym, subst, ◌∙◌}
use mathlib.Core.Logic.{◌⊎◌, inl, inr}
use mathlib.Core.Bool.{Bool, true, false, cond, not, ◌&&◌, ◌||◌}
use mathlib.Core.List.Memᴰ.{append_left}
use mathlib.Core.List.Memᴰ.{append_right}
use mathlib.Core.List.Memᴰ.{cases_cons}
use mathlib.Core.List.Memᴰ.{map as in_map}
use mathlib.Core.List.{List, [], ◌∷◌, ◌++◌, map, append-nil, Memᴰ as Mem}
use mathlib.Core.Option.{Option, none, some}
use Prim.Native.Nat.{ℕ, suc, ◌+◌, ◌≤◌}
use native.Mathlib.Omega.{arith}
use lib.Dec.{T, eqb→eq, eqb_refl, T_not, not_T}
use lib.ListN.{length, get_or, length-append, length-map, get_or-map}
use Rattle.model.specs.Searches.{◌▷◌, all, is_empty, up_to, same}
use Rattle.model.specs.Plan.{Plan}
use Rattle.model.specs.Records.{call, Tick, timer_count, Report, Ready, Switch, Won, Lost, Yield, Expire, Late, operand, operand_number, is_switch, is_expire}
use Rattle.model.specs.Timers.{Timer, Timers, slot, is_armed, expires_at, owes_expire, expired, moved_on}
use Rattle.model.specs.State.{State, condition, latest_switch, last_reported, set_due, without_switch, owe}
use Rattle.model.specs.Priorities.{chosen}
use Rattle.model.specs.Calls.{sleeps_until, sleepers, tick, switch}
use Rattle.model.specs.Runs.{effect}
use Rattle.model.specs.Formed.{times, switch_last, owed_none, claims}
use Rattle.model.proofs.Tests.{split, is_true, is_false, and_left, and_right, and_both, or_left}
use Rattle.model.proofs.Searches.{any_at, any_finds, in_filter, filter-append, filter_agree, up_to_distinct}
use Rattle.model.proofs.Counting.{times_split, times_both, times_more, times_but_one}

-- an Expire of a timer is owed exactly if it is among the reports due

is_expire_lem : (i : ℕ) (d : Report) → T (is_expire i d) → d ≡ Expire i
is_expire_lem i (Ready t) e = absurd e
is_expire_lem i (Switch w) e = absurd e
is_expire_lem i (Won t) e = absurd e
is_expire_lem i (Lost t) e = absurd e
is_expire_lem i (Yield t) e = absurd e
is_expire_lem i (Expire j) e = ap Expire (eqb→eq j i e)
is_expire_lem i (Late n) e = absurd e

owes_is : (due : List Report) (i : ℕ) → T (owes_expire due i) → Mem (Expire i) due
owes_is due i t = let r = any_finds (is_expire i) due t in subst (λ (d : Report). Mem d due) (is_expire_lem i r.0 r.2) r.1

owes_in : (due : List Report) (i : ℕ) → Mem (Expire i) due → T (owes_expire due i)
owes_in due i m = any_at (is_expire i) due m (eqb_refl i)

-- an armed timer that is owed none of more reports is owed none of fewer
owed_fewer : (o o' : Option Timer) (due due' : List Report) (i : ℕ) → (T (is_armed o) → T (is_armed o')) → (Mem (Expire i) due' → Mem (Expire i) due) → T (is_armed o && not (owes_expire due i)) → T (is_armed o' && not (owes_expire due' i))
owed_fewer o o' due due' i f g t =
    and_both (is_armed o') (not (owes_expire due' i)) (f (and_left (is_armed o) (not (owes_expire due i)) t))
    (not_T (owes_expire due' i) (λ u. T_not (owes_expire due i) (and_right (is_armed o) (not (owes_expire due i)) t) (owes_in due i (g (owes_is due' i u)))))

-- the Switch

abbrev pub no_switch : Report → Bool
no_switch d = not (is_switch d)

pub last_behind : (l m : List Report) → T (all no_switch l) → T (switch_last m) → T (switch_last (l ++ m))
last_behind [] m t u = u
last_behind (d ∷ l) m t u =
    and_both (no_switch d || is_empty (l ++ m)) (switch_last (l ++ m)) (or_left (no_switch d) (is_empty (l ++ m)) (and_left (no_switch d) (all no_switch l) t)) (last_behind l m (and_right (no_switch d) (all no_switch l) t) u)

-- a Switch that is due last is the only one
pub one_switch : (due : List Report) → T (switch_last due) → length due ≤ suc (length (without_switch due))
one_switch [] t = omega arith
one_switch (d ∷ due) t = go (split (no_switch d)) (and_left (no_switch d || is_empty due) (switch_last due) t) (one_switch due (and_right (no_switch d || is_empty due) (switch_last due) t))
  where
    none_behind : (l : List Report) → T (is_empty l) → length l ≡ 0
    none_behind [] e = refl
    none_behind (x ∷ l) e = absurd e

    go : T (no_switch d) ⊎ T (not (no_switch d)) → T (no_switch d || is_empty due) → length due ≤ suc (length (without_switch due)) → suc (length due) ≤ suc (length (without_switch (d ∷ due)))
    go (inl n) u h = rw (is_true (no_switch d) n) (omega arith)
    go (inr n) u h = omega (arith, none_behind due (rw (is_false (no_switch d) n) at u))

-- what a record does to the claims

-- more reports due, none of them with a claim
pub claims_behind : (st : State) (ds : List Report) → without_switch ds ≡ [] → claims (st ▷ owe ds) ≤ claims st
claims_behind st ds e =
    omega (
      arith,
      ap length (filter-append no_switch st.due ds ∙ ap (λ (l : List Report). without_switch st.due ++ l) e ∙ append-nil (without_switch st.due)),
      times_more (owed_none st.timers (st.due ++ ds)) (owed_none st.timers st.due) (up_to timer_count) (λ i m t. owed_fewer (slot st.timers i) (slot st.timers i) (st.due ++ ds) st.due i (λ a. a) (λ n. append_left ds n) t),
    )

-- a report given has its claim no longer; an armed timer may have it again
pub claims_given : (st : State) (d : Report) (ds : List Report) → st.due ≡ d ∷ ds → claims (st ▷ set_due ds) ≤ claims st
claims_given st d ds q = go (split (no_switch d))
  where
    owed : ℕ → Bool
    owed i = is_armed (slot st.timers i) && not (owes_expire ds i)

    owed_before : ℕ → Bool
    owed_before i = is_armed (slot st.timers i) && not (owes_expire (d ∷ ds) i)

    before : claims st ≡ length (without_switch (d ∷ ds)) + length st.delays + times owed_before (up_to timer_count) + 1
    before = ap (λ (l : List Report). length (without_switch l) + length st.delays + times (λ i. is_armed (slot st.timers i) && not (owes_expire l i)) (up_to timer_count) + 1) q

    first : (b : Bool) → no_switch d ≡ b → length (without_switch (d ∷ ds)) ≡ length (cond b (d ∷ without_switch ds) (without_switch ds))
    first b e = ap (λ (x : Bool). length (cond x (d ∷ without_switch ds) (without_switch ds))) e

    -- only the timer of an Expire given is owed one less
    same_else : (i : ℕ) → (d ≡ Expire i → ⊥) → T (owed i) → T (owed_before i)
    same_else i n t = owed_fewer (slot st.timers i) (slot st.timers i) ds (d ∷ ds) i (λ a. a) (λ m. other (cases_cons m)) t
      where
        other : (Expire i ≡ d) ⊎ Mem (Expire i) ds → Mem (Expire i) ds
        other (inl e) = absurd (n (sym e))
        other (inr m) = m

    go : T (no_switch d) ⊎ T (not (no_switch d)) → length (without_switch ds) + length st.delays + times owed (up_to timer_count) + 1 ≤ claims st
    go (inl n) =
        omega (
          arith,
          before,
          first true (is_true (no_switch d) n),
          times_but_one owed owed_before (operand_number (operand d)) (up_to timer_count) (up_to_distinct timer_count) (λ i a t. same_else i (λ e. a (sym (ap (λ (r : Report). operand_number (operand r)) e))) t),
        )
    go (inr n) = omega (arith, before, first false (is_false (no_switch d) n), times_more owed owed_before (up_to timer_count) (λ i m t. same_else i (λ e. T_not (no_switch d) n (rw e tt)) t))

-- a Tick turns sleepers into Readys and armed timers into Expires: what was claimed is now due or still claimed

armed_before : (n : ℕ) (o : Option Timer) → T (is_armed (moved_on n o)) → T (is_armed o)
armed_before n none t = t
armed_before n (some u) t = tt

expires_armed : (n : ℕ) (o : Option Timer) → T (expires_at n o) → T (is_armed o)
expires_armed n none t = t
expires_armed n (some u) t = tt

module _ (st : State) where
  -- the timers that a Tick would have expire, with an Expire for each
  abbrev pub ending : ℕ → Bool
  ending i = expires_at (suc st.tick_number) (slot st.timers i) && not (owes_expire st.due i)

  timer_claims : times ending (up_to timer_count) + times (owed_none (tick st).timers (tick st).due) (up_to timer_count) ≤ times (owed_none st.timers st.due) (up_to timer_count)
  unfolding tick
  timer_claims = times_both ending (owed_none (tick st).timers (tick st).due) (owed_none st.timers st.due) (up_to timer_count) now later apart
    where
      n : ℕ
      n = suc st.tick_number

      woken : List ℕ
      woken = sleepers n st

      out : List ℕ
      out = expired n st.due st.timers

      due' : List Report
      due' = without_switch st.due ++ (map Expire out ++ map Ready woken)

      now : (i : ℕ) → Mem i (up_to timer_count) → T (ending i) → T (owed_none st.timers st.due i)
      now i m t = and_both (is_armed (slot st.timers i)) (not (owes_expire st.due i)) (expires_armed n (slot st.timers i) (and_left (expires_at n (slot st.timers i)) (not (owes_expire st.due i)) t)) (and_right (expires_at n (slot st.timers i)) (not (owes_expire st.due i)) t)

      moved_on_lem : (i : ℕ) → T (is_armed (get_or (map (moved_on n) st.timers.slots) i none)) → T (is_armed (slot st.timers i))
      moved_on_lem i t = armed_before n (slot st.timers i) (rw (get_or-map (moved_on n) st.timers.slots i none) at t)

      later : (i : ℕ) → Mem i (up_to timer_count) → T (owed_none (tick st).timers (tick st).due i) → T (owed_none st.timers st.due i)
      later i m t = owed_fewer (get_or (map (moved_on n) st.timers.slots) i none) (slot st.timers i) due' st.due i (moved_on_lem i) (λ k. append_left (map Expire out ++ map Ready woken) (in_filter no_switch st.due k tt)) t

      -- one that expires is owed its Expire
      apart : (i : ℕ) → Mem i (up_to timer_count) → T (ending i) → T (owed_none (tick st).timers (tick st).due i) → ⊥
      apart i m t u =
          T_not (owes_expire due' i) (and_right (is_armed (get_or (map (moved_on n) st.timers.slots) i none)) (not (owes_expire due' i)) u)
          (owes_in due' i (append_right (without_switch st.due) (append_left (map Ready woken) (in_map Expire (in_filter ending (up_to timer_count) m t)))))

  -- Whatever the state, the reports due after a Tick, a Switch not counted, and what is then still claimed are no more than what was claimed before it.
  pub tick_claims : suc (length (tick st).due + length (tick st).delays + times (owed_none (tick st).timers (tick st).due) (up_to timer_count)) ≤ claims st
  unfolding tick
  tick_claims =
      omega (arith, length-append (without_switch st.due) (map Expire out ++ map Ready woken), length-append (map Expire out) (map Ready woken), length-map out Expire, length-map woken Ready, times_split (λ t. sleeps_until n (condition st t)) st.delays, timer_claims)
    where
      n : ℕ
      n = suc st.tick_number

      woken : List ℕ
      woken = sleepers n st

      out : List ℕ
      out = expired n st.due st.timers

-- A Tick leaves no more reports due than were claimed before it, the Switch counted: in a lent state at most T + 9.
pub tick_due_fits : (p : Plan) (st : State) → length (effect p (call Tick) st).due ≤ claims st
unfolding switch
tick_due_fits p st = go (same (last_reported (tick st)) (chosen p (tick st)))
  where
    go : (b : Bool) → length (cond b (tick st) (tick st ▷ owe (Switch (chosen p (tick st)) ∷ []))).due ≤ claims st
    go true = omega (arith, tick_claims st)
    go false = omega (arith, tick_claims st, length-append (tick st).due (Switch (chosen p (tick st)) ∷ []))

-- A Switch dropped owes no Expire, so that the same timers expire with one.
owes_without : (due : List Report) (i : ℕ) → owes_expire (without_switch due) i ≡ owes_expire due i
owes_without [] i = refl
owes_without (Ready t ∷ due) i = owes_without due i
owes_without (Switch w ∷ due) i = owes_without due i
owes_without (Won t ∷ due) i = owes_without due i
owes_without (Lost t ∷ due) i = owes_without due i
owes_without (Yield t ∷ due) i = owes_without due i
owes_without (Expire j ∷ due) i = ap (λ b. is_expire i (Expire j) || b) (owes_without due i)
owes_without (Late m ∷ due) i = owes_without due i

pub expired_without : (n : ℕ) (due : List Report) (ts : Timers) → expired n (without_switch due) ts ≡ expired n due ts
expired_without n due ts = filter_agree _ _ (up_to timer_count) (λ i m. ap (λ b. expires_at n (slot ts i) && not b) (owes_without due i))

-- After a Tick, before its Switch, the thread last reported is that of the latest Switch given: one that was due is dropped, and a Tick adds none.
pub tick_reported : (st : State) → last_reported (tick st) ≡ st.reported
unfolding tick
tick_reported st = dropped st.due
  where
    n : ℕ
    n = suc st.tick_number

    readies : (ts : List ℕ) → latest_switch st.reported (map Ready ts) ≡ st.reported
    readies [] = refl
    readies (t ∷ ts) = readies ts

    adds : (is : List ℕ) → latest_switch st.reported (map Expire is ++ map Ready (sleepers n st)) ≡ st.reported
    adds [] = readies (sleepers n st)
    adds (i ∷ is) = adds is

    dropped : (due : List Report) → latest_switch st.reported (without_switch due ++ (map Expire (expired n st.due st.timers) ++ map Ready (sleepers n st))) ≡ st.reported
    dropped [] = adds (expired n st.due st.timers)
    dropped (Ready t ∷ due) = dropped due
    dropped (Switch w ∷ due) = dropped due
    dropped (Won t ∷ due) = dropped due
    dropped (Lost t ∷ due) = dropped due
    dropped (Yield t ∷ due) = dropped due
    dropped (Expire i ∷ due) = dropped due
    dropped (Late m ∷ due) = dropped due

-- A Switch that is due last is the only one: what a Tick drops is the last report due or nothing.
pub switch_dropped : (due : List Report) → T (switch_last due) → (due ≡ without_switch due) ⊎ ((w : Option ℕ) × (due ≡ without_switch due ++ Switch w ∷ []))
switch_dropped [] t = inl refl
switch_dropped (d ∷ due) t = go (split (no_switch d)) (switch_dropped due (and_right (no_switch d || is_empty due) (switch_last due) t))
  where
    keep : T (no_switch d) → without_switch (d ∷ due) ≡ d ∷ without_switch due
    keep n = ap (λ (b : Bool). cond b (d ∷ without_switch due) (without_switch due)) (is_true (no_switch d) n)

    go : T (no_switch d) ⊎ T (not (no_switch d)) → (due ≡ without_switch due) ⊎ ((w : Option ℕ) × (due ≡ without_switch due ++ Switch w ∷ [])) → (d ∷ due ≡ without_switch (d ∷ due)) ⊎ ((w : Option ℕ) × (d ∷ due ≡ without_switch (d ∷ due) ++ Switch w ∷ []))
    go (inl n) (inl e) = inl (ap {B = List Report} (λ l. d ∷ l) e ∙ sym (keep n))
    go (inl n) (inr e) = inr (e.0, ap {B = List Report} (λ l. d ∷ l) e.1 ∙ ap (λ (l : List Report). l ++ Switch e.0 ∷ []) (sym (keep n)))
    go (inr n) e = inr (only d due n (rw (is_false (no_switch d) n) at (and_left (no_switch d || is_empty due) (switch_last due) t)))
      where
        only : (d : Report) (l : List Report) → T (not (no_switch d)) → T (is_empty l) → (w : Option ℕ) × (d ∷ l ≡ without_switch (d ∷ l) ++ Switch w ∷ [])
        only d (x ∷ l) n e = absurd e
        only (Ready t) [] n e = absurd n
        only (Switch w) [] n e = (w, refl)
        only (Won t) [] n e = absurd n
        only (Lost t) [] n e = absurd n
        only (Yield t) [] n e = absurd n
        only (Expire i) [] n e = absurd n
        only (Late m) [] n e = absurd n
