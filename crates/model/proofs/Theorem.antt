-- The theorem: every clean list of records carries the promise of demand 3, and so do the records before a breach.
use mathlib.Core.Path.{◌≡◌, refl, ap, sym, ◌∙◌}
use mathlib.Core.Logic.{◌⊎◌, inl, inr}
use mathlib.Core.List.{List, [], Memᴰ as Mem}
use mathlib.Core.Option.{some}
use Prim.Native.Nat.{ℕ, suc, ◌≤◌, ◌<◌}
use native.Mathlib.Omega.{arith}
use lib.Dec.{T}
use lib.ListN.{length, take}
use Rattle.model.specs.Searches.{all}
use Rattle.model.specs.Plan.{Plan, base, valid_plan}
use Rattle.model.specs.Records.{Take, Give, Record, call, allowed}
use Rattle.model.specs.State.{waiting, Hold, hold, condition}
use Rattle.model.specs.Priorities.{held_ceiling, chosen}
use Rattle.model.specs.Runs.{breach, judge, Clean}
use Rattle.model.specs.Words.{runner, CallOf, Holds, Waits, Blocks, after}
use Rattle.model.specs.Promise.{LowerInWait, LowerInActive, Promise}
use Rattle.model.proofs.Searches.{all_at}
use Rattle.model.proofs.Invariant.{tag, Invariant}
use Rattle.model.proofs.Nesting.{BlocksNow, chosen_some}
use Rattle.model.proofs.Performed.{moves}
use Rattle.model.proofs.Reached.{reached_invariant}
use Rattle.model.proofs.Prefixes.{clean_steps, clean_before_breach, clean_reached}
use Rattle.model.proofs.Numbered.{below, listed}
use Rattle.model.proofs.Trace.{Trace, invariant, runner_chosen}
use Rattle.model.proofs.ToRecords.{waited_from, to_waits}
use Rattle.model.proofs.ToMachine.{waits_at, holds_at}
use Rattle.model.proofs.Blocking.{waiting?, blocks?, one_blocks, to_blocks, call_within, call_moment, lower_blocks}
use Rattle.model.proofs.Activity.{no_call_after, giver_not_waiting}

-- the run of a clean list
trace : (p : Plan) (rs : List Record) → Clean p rs → Trace p rs
trace p rs c =
    record {
      at = after p rs;
      begins = refl;
      moves = λ i r q. moves p (after p rs i) (reached_invariant p (after p rs i) (clean_reached p rs c i (omega (arith, below rs i r q)))).sound r (after p rs (suc i)) (clean_steps p rs (length rs) c.due c.verdict i r q);
      fits = λ i r q. all_at (allowed p) rs c.operands (listed rs i r q);
    }

module _ (p : Plan) (rs : List Record) (tr : Trace p rs) where
  -- the waiting thread is not ready in the machine, and every holder is
  no_waiter_holds_lem : (k : ℕ) → k ≤ length rs → (tr.at k).due ≡ [] → (w i s : ℕ) → Waits rs w i k → Holds rs w s k → ⊥
  no_waiter_holds_lem k n d w i s a b = omega (arith, ap tag (sym (waits_at p rs tr w i k a n d) ∙ v.sound.agree.queued w (v.sound.holder_queued (hold s w) (holds_at p rs tr w s k b n))))
    where
      v : Invariant p (tr.at k)
      v = invariant p rs tr k n

  -- what bars the waiting thread is held by a ready one, so somebody is chosen
  someone_runs_lem : (k : ℕ) → k ≤ length rs → (tr.at k).due ≡ [] → (w i : ℕ) → Waits rs w i k → (x : ℕ) × (runner rs k ≡ some x)
  someone_runs_lem k n d w i a = (x.0, runner_chosen p rs tr k n d ∙ x.1)
    where
      v : Invariant p (tr.at k)
      v = invariant p rs tr k n

      b : (h : Hold) × Mem h (tr.at k).holds × (base p w ≤ held_ceiling p h)
      b = v.sound.barred w (v.sound.agree.in_waits w a.loses.section (waits_at p rs tr w i k a n d))

      x : (x : ℕ) × (chosen p (tr.at k) ≡ some x)
      x = chosen_some p (tr.at k) b.0.thread (v.sound.holder_queued b.0 b.1)

  one_lower_thread_lem : (w i x c x' c' : ℕ) → LowerInWait p rs w i x c → LowerInWait p rs w i x' c' → (x ≡ x') × Blocks rs p x w (suc i)
  one_lower_thread_lem w i x c x' c' a b = (one_blocks p (tr.at (suc i)) (invariant p rs tr (suc i) i<) x x' w first (lower_blocks p rs tr w i x' c' b) a.lower b.lower, to_blocks p rs tr (suc i) x w i< (call_moment p rs tr (suc i) x c a.in_wait.after a.calls) first)
    where
      i< : i < length rs
      i< = below rs i (call (Take a.in_wait.loses.section)) a.in_wait.loses.taken.made

      first : BlocksNow p (tr.at (suc i)) x w
      first = lower_blocks p rs tr w i x c a

  -- otherwise the lower thread has given way at once
  stood_in_its_way_lem : (h i l c : ℕ) → LowerInActive p rs h i l c → ((j : ℕ) × Waits rs l j (suc i)) ⊎ Blocks rs p l h (suc i)
  stood_in_its_way_lem h i l c a = go (waiting? (condition (tr.at (suc i)) l)) (blocks? p (tr.at (suc i)) l h)
    where
      n : c < length rs
      n = call_within p rs tr l c a.calls

      go : ((s : ℕ) × (condition (tr.at (suc i)) l ≡ waiting s)) ⊎ ((s : ℕ) → condition (tr.at (suc i)) l ≡ waiting s → ⊥) → BlocksNow p (tr.at (suc i)) l h ⊎ (BlocksNow p (tr.at (suc i)) l h → ⊥) → ((j : ℕ) × Waits rs l j (suc i)) ⊎ Blocks rs p l h (suc i)
      go (inl x) y = let f = waited_from p rs tr (suc i) (omega (arith, n, a.active.before)) l x.0 x.1 in inl (f.from, to_waits p rs tr (suc i) x.0 l (call_moment p rs tr (suc i) l c a.active.before a.calls) f)
      go (inr x) (inl y) = inr (to_blocks p rs tr (suc i) l h (omega (arith, n, a.active.before)) (call_moment p rs tr (suc i) l c a.active.before a.calls) y)
      go (inr x) (inr y) = absurd (no_call_after p rs tr h i c (omega (arith, n)) a.active l a.lower a.calls (suc i) (omega arith) a.active.before (record { not_waiting = x; not_blocking = y }))

  -- otherwise it has given way with that Give
  blocks_until_given_lem : (h i l c : ℕ) → LowerInActive p rs h i l c → (g s : ℕ) → i < g → g < c → CallOf rs l g (Give s) → Blocks rs p l h (suc g)
  blocks_until_given_lem h i l c a g s o u b = go (blocks? p (tr.at (suc g)) l h)
    where
      n : c < length rs
      n = call_within p rs tr l c a.calls

      go : BlocksNow p (tr.at (suc g)) l h ⊎ (BlocksNow p (tr.at (suc g)) l h → ⊥) → Blocks rs p l h (suc g)
      go (inl y) = to_blocks p rs tr (suc g) l h (omega (arith, n)) (call_moment p rs tr (suc g) l c u a.calls) y
      go (inr y) = absurd (no_call_after p rs tr h i c (omega (arith, n)) a.active l a.lower a.calls (suc g) (omega arith) u (record { not_waiting = giver_not_waiting p rs tr l g s b; not_blocking = y }))

-- Demand 3.
pub promise : (p : Plan) (rs : List Record) → Clean p rs → Promise p rs
unfolding trace
promise p rs c =
    record {
      no_waiter_holds = no_waiter_holds_lem p rs (trace p rs c);
      someone_runs = someone_runs_lem p rs (trace p rs c);
      one_lower_thread = one_lower_thread_lem p rs (trace p rs c);
      stood_in_its_way = stood_in_its_way_lem p rs (trace p rs c);
      blocks_until_given = blocks_until_given_lem p rs (trace p rs c);
    }

-- In a dump with a breach, demand 3 is promised for the records before it, as a dump of their own.
pub promise_before_breach : (p : Plan) (rs : List Record) (b n : ℕ) → T (valid_plan p) → T (all (allowed p) rs) → judge p rs ≡ breach b n → Promise p (take b rs)
promise_before_breach p rs b n v a e = promise p (take b rs) (clean_before_breach p rs b n v a e)
