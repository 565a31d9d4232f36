-- Who is chosen, who is rivalled, who inherits: what is read off the lists, the owner kept, the table of bases and the ceilings made once is the model's.
use mathlib.Core.Path.{◌≡◌, refl, ap, ap₂, sym, fun_ext, ◌∙◌}
use mathlib.Core.Logic.{◌⊎◌, inl, inr}
use mathlib.Core.Bool.{cond, not, ◌&&◌}
use mathlib.Core.List.{List, map}
use mathlib.Core.Option.{Option, none, some}
use Prim.Native.Nat.{ℕ, max, ◌≤◌, ◌<◌}
use native.Mathlib.Omega.{arith}
use lib.Dec.{T, eqb, ltb, ltb→lt, nltb→le}
use lib.ListN.{get_or}
use Rattle.model.specs.Searches.{all, any, first_greatest, up_to, same}
use Rattle.model.specs.Plan.{ceiling, valid_plan}
use Rattle.model.specs.Records.{Report}
use Rattle.model.specs.State.{Hold}
use Rattle.model.specs.Priorities.{held_ceiling, owner, current, chosen}
use Rattle.model.specs.Calls.{above_all, rivalled}
use Rattle.model.proofs.Tests.{split}
use Rattle.model.proofs.Searches.{greatest_is, any_agree, first_greatest_agree, greatest_agree}
use Rattle.model.proofs.Laws.{ceiling_attained, queue_fits_lem, waits_fit_lem, sections_fit, may_take-below}
use Rattle.plan.specs.declared.Plan.{Plan}
use Rattle.plan.specs.View.{base_in, view}
use Rattle.model.proofs.Loops.{unlisted}
use Rattle.plan.proofs.Laws.{threads_view, valid_fits, ceilings_at, base_at_lem, base_positive}
use Rattle.machine.specs.declared.Machine.{Machine}
use Rattle.lists.specs.declared.queue.Queue.{Queue}
use Rattle.lists.specs.declared.holds.Holds.{Holds}
use Rattle.lists.specs.Words.{entry_of}
use Rattle.keeping.specs.Top.{Top}
use Rattle.keeping.proofs.Laws.{fits_walk, walk_owner}
use Rattle.lists.specs.Lists.{thread_of, queued, held, top_of, ceiling_in, Positive}
use Rattle.lists.specs.Choice.{priority_in, chosen_in, rivalled_in, inherits_in}
use Rattle.machine.specs.View.{plan_of, viewed}
use Rattle.machine.specs.Kept.{kept}
use Rattle.machine.specs.Clauses.{Listed, Ceilings}
use Rattle.machine.proofs.Facts.{Facts}
use Rattle.lists.proofs.Laws.{length-queued, length-held}
use Rattle.machine.proofs.Room.{queued_known, waiting_known}

-- the lists of a well-formed machine fit their words, and name threads
pub listed : {m : Machine} → Facts m → Listed m.plan.threads m.queue m.holds m.waits
listed {m} f =
    record {
      threads' = f.fits.threads;
      counts =
          record {
            queue' = omega (arith, length-queued m.queue, queue_fits_lem (plan_of m) f.agree, threads_view m.plan, f.fits.threads);
            holds' = omega (arith, length-held m.holds, sections_fit m.plan.sections (held m.holds) f.held_once (λ h i. (f.held h i).0), f.fits.sections);
            waits' = omega (arith, length-queued m.waits, waits_fit_lem (plan_of m) f.agree, threads_view m.plan, f.fits.threads);
          };
      known = queued_known f;
      waiting' = waiting_known f;
    }

-- model's base of the machine's plan, from the parts that it is read from
abbrev base_of : Machine → (thread : ℕ) → ℕ
base_of m = base_in m.plan.threads m.plan.bases

module _ (m : Machine) (v : T (valid_plan (plan_of m))) {ceilings : List ℕ} (c : Ceilings m ceilings) where
  -- a section past the sixteenth is none of the plan's, so no thread needs it and its ceiling is 0
  past : (s : ℕ) → 16 ≤ s → ceiling (plan_of m) s ≡ 0
  past s h = elim (ceiling_attained (plan_of m) s) [ inl e ↦ e | inr k ↦ absurd (omega (arith, may_take-below (plan_of m) v k.0 s k.2, (valid_fits m.plan v).sections)) ]

  pub ceiling_in_lem : (s : ℕ) → get_or ceilings s 0 ≡ ceiling (plan_of m) s
  ceiling_in_lem s = ap (λ (l : List ℕ). get_or l s 0) c ∙ go (split (ltb s 16))
    where
      go : T (ltb s 16) ⊎ T (not (ltb s 16)) → get_or (map (ceiling (plan_of m)) (up_to 16)) s 0 ≡ ceiling (plan_of m) s
      go (inl t) = ceilings_at (plan_of m) s (ltb→lt s 16 t)
      go (inr t) = let h = nltb→le s 16 t in unlisted (ceiling (plan_of m)) 16 s 0 h ∙ sym (past s h)

  -- so the ceilings of holds are the model's
  pub ceilings_are : ceiling_in ceilings ≡ held_ceiling (plan_of m)
  ceilings_are = fun_ext (λ h. ceiling_in_lem h.section)

  -- whether a thread's base is above every ceiling of these holds
  pub above_is : (t : ℕ) (hs : List Hold) → all (λ h. ltb (ceiling_in ceilings h) (base_of m t)) hs ≡ above_all (plan_of m) t hs
  above_is t hs = ap (λ g. all (λ h. ltb (g h) (base_of m t)) hs) ceilings_are

-- with the owner kept every thread has its current priority
module _ (m : Machine) (k : T (kept m)) (due : List Report) where
  owner_kept : thread_of m.holds.top.owner ≡ owner (plan_of m) (viewed m due)
  owner_kept = ap (λ (t : Top). t.owner) (fits_walk (plan_of m) (held m.holds) (top_of m.holds.top) k) ∙ walk_owner (plan_of m) (viewed m due)

  priority_is : (t : ℕ) → priority_in (base_of m) (thread_of m.holds.top.owner) (queued m.waits) t ≡ current (plan_of m) (viewed m due) t
  unfolding current
  priority_is t = ap (λ (o : Option ℕ). priority_in (base_of m) o (queued m.waits) t) owner_kept

  pub chosen_by : chosen_in (base_of m) (thread_of m.holds.top.owner) (queued m.queue) (queued m.waits) ≡ chosen (plan_of m) (viewed m due)
  unfolding chosen
  chosen_by = ap (λ g. first_greatest g (queued m.queue)) (fun_ext priority_is)

  pub rivalled_is : (x : ℕ) → rivalled_in (base_of m) (thread_of m.holds.top.owner) (queued m.queue) (queued m.waits) x ≡ rivalled (plan_of m) x (viewed m due)
  rivalled_is x = ap (λ g. any (λ t. not (eqb t x) && eqb (g t) (g x)) (queued m.queue)) (fun_ext priority_is)

-- the table of bases gives every listed thread the base that it has in the plan
module _ (bases : List ℕ) {threads : ℕ} {queue : Queue} {holds : Holds} {waits : Queue} (l : Listed threads queue holds waits) where
  table_at : (t : ℕ) → t < threads → entry_of bases t ≡ base_in threads bases t
  table_at t h = sym (base_at_lem threads bases t h)

  module _ (owner : Option ℕ) where
    priority_same : (t : ℕ) → t < threads → priority_in (entry_of bases) owner (queued waits) t ≡ priority_in (base_in threads bases) owner (queued waits) t
    priority_same t h =
        ap₂ (λ (b u : ℕ). cond (same owner (some t)) (max b u) b) (table_at t h)
        (greatest_agree (entry_of bases) (base_in threads bases) (queued waits) (λ w i. table_at w (l.waiting' w i)))

    pub chosen_same : chosen_in (entry_of bases) owner (queued queue) (queued waits) ≡ chosen_in (base_in threads bases) owner (queued queue) (queued waits)
    chosen_same =
        first_greatest_agree (priority_in (entry_of bases) owner (queued waits)) (priority_in (base_in threads bases) owner (queued waits)) (queued queue)
        (λ t i. priority_same t (l.known t i))

    pub rivalled_same : (x : ℕ) → x < threads → rivalled_in (entry_of bases) owner (queued queue) (queued waits) x ≡ rivalled_in (base_in threads bases) owner (queued queue) (queued waits) x
    rivalled_same x h = any_agree _ _ (queued queue) (λ t i. ap₂ (λ (a b : ℕ). not (eqb t x) && eqb a b) (priority_same t (l.known t i)) (priority_same x h))

  pub heir_same : first_greatest (entry_of bases) (queued waits) ≡ first_greatest (base_in threads bases) (queued waits)
  heir_same = first_greatest_agree (entry_of bases) (base_in threads bases) (queued waits) (λ w i. table_at w (l.waiting' w i))

  pub inherits_same : (ceilings : List ℕ) (hs : List Hold) → inherits_in (entry_of bases) ceilings hs (first_greatest (entry_of bases) (queued waits)) ≡ inherits_in (base_in threads bases) ceilings hs (first_greatest (base_in threads bases) (queued waits))
  inherits_same ceilings hs = ap (inherits_in (entry_of bases) ceilings hs) heir_same ∙ go (first_greatest (base_in threads bases) (queued waits)) refl
    where
      go : (o : Option ℕ) → first_greatest (base_in threads bases) (queued waits) ≡ o → inherits_in (entry_of bases) ceilings hs o ≡ inherits_in (base_in threads bases) ceilings hs o
      go none e = refl
      go (some w) e = ap (λ (b : ℕ). all (λ h. ltb (ceiling_in ceilings h) b) hs) (table_at w (l.waiting' w (greatest_is (base_in threads bases) (queued waits) w e).0))

-- and this base is above 0

pub queue_positive : (p : Plan) {queue : Queue} {holds : Holds} {waits : Queue} → T (valid_plan (view p)) → Listed p.threads queue holds waits → Positive p.bases (queued queue)
queue_positive p v l = record { at = λ t i. base_positive p v t (l.known t i) }

pub waits_positive : (p : Plan) {queue : Queue} {holds : Holds} {waits : Queue} → T (valid_plan (view p)) → Listed p.threads queue holds waits → Positive p.bases (queued waits)
waits_positive p v l = record { at = λ t i. base_positive p v t (l.waiting' t i) }
