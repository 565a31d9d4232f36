-- The sleepers at a tick number. The loop over them: what is done so far, and what is left to do, is what a Tick does. Of a well-formed machine those
-- that wake and those that sleep on are the model's.
use mathlib.Core.Path.{◌≡◌, refl, ap, sym, ◌∙◌}
use mathlib.Core.Bool.{Bool, true, false, not}
use mathlib.Core.List.{List, [], ◌∷◌, ◌++◌, map, append-nil, Memᴰ as Mem}
use Prim.Native.Nat.{ℕ, suc, ◌+◌, ◌≤◌}
use native.Mathlib.Omega.{arith}
use lib.Dec.{eqb}
use lib.ListN.{length, length-append, length-map}
use lib.Seq.{append_snoc}
use Rattle.model.specs.Searches.{filter}
use Rattle.model.specs.State.{condition, all_ready, without_switch}
use Rattle.model.specs.Records as records
use Rattle.model.specs.Records.{Ready, Expire}
use Rattle.model.specs.Timers.{expired}
use Rattle.model.specs.Calls.{sleeps_until, sleepers, still_asleep, tick}
use Rattle.model.specs.Formed.{claims}
use Rattle.model.proofs.Searches.{filter_agree}
use Rattle.model.proofs.Loops.{filter-few}
use Rattle.model.proofs.Laws.{tick_claims}
use Rattle.lists.specs.declared.queue.Queue.{Queue}
use Rattle.lists.specs.Words.{nibble}
use Rattle.lists.specs.Lists.{queued}
use Rattle.lists.proofs.Laws.{length-queued}
use Rattle.clock.specs.declared.time.Tick.{Tick}
use Rattle.clock.specs.View.{number_at}
use Rattle.machine.specs.declared.Machine.{Machine}
use Rattle.machine.specs.declared.slots.Slots.{Slots}
use Rattle.machine.specs.declared.sleepers.Woken.{Woken}
use Rattle.due.specs.Lists.{report_room}
use Rattle.machine.specs.View.{conditions_of, viewed, idle}
use Rattle.machine.specs.Clauses.{placed, all_placed, wakes_at, Wakes}
use Rattle.machine.proofs.Facts.{Facts}
use Rattle.machine.proofs.Conditions.{sleeps_at}
use Rattle.machine.proofs.Views.{condition_at, placed_seen}
use Rattle.machine.proofs.Room.{delayed_known, delays_fit_lem}

module _ (wakes : List Tick) (n : ℕ) where
  -- those that wake, and those that sleep on

  abbrev up : ℕ → Bool
  up t = wakes_at wakes n t

  abbrev on : ℕ → Bool
  on t = not (wakes_at wakes n t)

  -- of all sleepers these are left
  pub record Waking (all left : List ℕ) (slots₀ : Slots) (queue₀ : Queue) (slots : Slots) (queue delays woken : Queue) : Type 0 where
    pub slots' : all_placed (filter up left) slots ≡ all_placed (filter up all) slots₀
    pub queue' : queued queue ++ filter up left ≡ queued queue₀ ++ filter up all
    pub delays' : queued delays ++ filter on left ≡ filter on all
    pub woken' : queued woken ++ filter up left ≡ filter up all

  pub waking_begin : (all : List ℕ) {slots : Slots} {queue delays woken : Queue} → queued delays ≡ [] → queued woken ≡ [] → Waking all all slots queue slots queue delays woken
  waking_begin all e w = record { slots' = refl; queue' = refl; delays' = ap (λ l. l ++ filter on all) e; woken' = ap (λ l. l ++ filter up all) w }

  pub waking_done : {d : Queue} {left : List ℕ} {slots₀ : Slots} {queue₀ : Queue} (r : Woken) → left ≡ [] → Waking (queued d) left slots₀ queue₀ r.slots r.queue r.delays r.woken → Wakes r d wakes n slots₀ queue₀
  waking_done r e w =
      record {
        slots' = ap (λ l. all_placed (filter up l) r.slots) (sym e) ∙ w.slots';
        queue' = sym (append-nil (queued r.queue)) ∙ ap (λ l. queued r.queue ++ filter up l) (sym e) ∙ w.queue';
        delays' = sym (append-nil (queued r.delays)) ∙ ap (λ l. queued r.delays ++ filter on l) (sym e) ∙ w.delays';
        woken' = sym (append-nil (queued r.woken)) ∙ ap (λ l. queued r.woken ++ filter up l) (sym e) ∙ w.woken';
      }

  -- the next one wakes, or sleeps on
  module _ {all left : List ℕ} {t : ℕ} {slots₀ : Slots} {queue₀ : Queue} {slots : Slots} {queue delays woken : Queue} (w : Waking all (t ∷ left) slots₀ queue₀ slots queue delays woken) where
    pub wakes_up : {slots' : Slots} {queue' woken' : Queue}
        → wakes_at wakes n t ≡ true
        → slots' ≡ placed slots t 1
        → queued queue' ≡ queued queue ++ (t ∷ [])
        → queued woken' ≡ queued woken ++ (t ∷ [])
        → Waking all left slots₀ queue₀ slots' queue' delays woken'
    wakes_up e s q k =
        record {
          slots' = ap (all_placed (filter up left)) s ∙ (rw e at w.slots');
          queue' = ap (λ l. l ++ filter up left) q ∙ append_snoc (queued queue) t (filter up left) ∙ (rw e at w.queue');
          delays' = rw e at w.delays';
          woken' = ap (λ l. l ++ filter up left) k ∙ append_snoc (queued woken) t (filter up left) ∙ (rw e at w.woken');
        }

    pub sleeps_on : {delays' : Queue} → wakes_at wakes n t ≡ false → queued delays' ≡ queued delays ++ (t ∷ []) → Waking all left slots₀ queue₀ slots queue delays' woken
    sleeps_on e d =
        record {
          slots' = rw e at w.slots';
          queue' = rw e at w.queue';
          delays' = ap (λ l. l ++ filter on left) d ∙ append_snoc (queued delays) t (filter on left) ∙ (rw e at w.delays');
          woken' = rw e at w.woken';
        }

-- threads that are placed so are ready
pub placed_ready : (threads : ℕ) (wakes : List Tick) (ts : List ℕ) (slots : Slots) → conditions_of threads (all_placed ts slots) wakes ≡ all_ready ts (conditions_of threads slots wakes)
placed_ready threads wakes [] slots = refl
placed_ready threads wakes (t ∷ ts) slots = placed_ready threads wakes ts (placed slots t 1) ∙ ap (all_ready ts) (placed_seen threads slots wakes t 1 (omega arith))

module _ {m : Machine} (f : Facts m) (n : ℕ) where
  -- a sleeper's tick number is the one that is read
  as_read : (t : ℕ) → Mem t (queued m.delays) → wakes_at m.wakes n t ≡ sleeps_until n (condition (idle m) t)
  as_read t i =
      let r = f.sleeps.sleeping t i in
      let at = condition_at m.plan.threads m.slots m.wakes t (delayed_known f t i) in
      let z : number_at m.wakes t ≡ r.0 = sleeps_at (nibble m.slots.states t) (nibble m.slots.wants t) (number_at m.wakes t) r.0 (sym at ∙ r.1) in
      ap (λ k. eqb k n) z ∙ sym (ap (sleeps_until n) r.1)

  pub woken_are : filter (wakes_at m.wakes n) (queued m.delays) ≡ sleepers n (idle m)
  woken_are = filter_agree _ _ (queued m.delays) as_read

  pub asleep_are : filter (λ t. not (wakes_at m.wakes n t)) (queued m.delays) ≡ still_asleep n (idle m)
  asleep_are = filter_agree _ _ (queued m.delays) (λ t i. ap not (as_read t i))

  -- some of the sleepers fit, as all do
  some_fit : (p : ℕ → Bool) (q : Queue) → queued q ≡ filter p (queued m.delays) → q.count ≤ 16
  some_fit p q e = omega (arith, length-queued q, ap length e, filter-few p (queued m.delays), length-queued m.delays, delays_fit_lem f)

  module _ {r : Woken} (w : Wakes r m.delays m.wakes n m.slots m.queue) where
    pub asleep_fit : r.delays.count ≤ 16
    asleep_fit = some_fit (λ t. not (wakes_at m.wakes n t)) r.delays w.delays'

    -- the woken fit, and what a Tick adds has room behind the reports still due but a Switch, where those with a claim on it find it

    pub woken_fit : r.woken.count ≤ 16
    woken_fit = some_fit (wakes_at m.wakes n) r.woken w.woken'

    pub tick_room : (due : List records.Report) → claims (viewed m due) ≤ m.plan.threads + 9 → n ≡ suc m.tick.0 → length (without_switch due) + length (expired n due (idle m).timers) + r.woken.count ≤ report_room
    unfolding tick
    tick_room due room e =
        let k = suc m.tick.0 in
        let outs = expired k due (idle m).timers in
        let ups = sleepers k (idle m) in
        omega (
          arith,
          tick_claims (viewed m due),
          room,
          f.fits.threads,
          length-append (without_switch due) (map Expire outs ++ map Ready ups),
          length-append (map Expire outs) (map Ready ups),
          length-map outs Expire,
          length-map ups Ready,
          ap (λ j. length (expired j due (idle m).timers)) e,
          sym (length-queued r.woken) ∙ ap length (w.woken' ∙ woken_are ∙ ap (λ j. sleepers j (idle m)) e),
        )
