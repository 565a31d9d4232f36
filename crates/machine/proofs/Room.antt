-- No list grows past its room: each thread stands once in the queue, in the waits or in the order of Delays, and each section is held once.
use mathlib.Core.Path.{◌≡◌, refl, ap, sym, ◌∙◌}
use mathlib.Core.Logic.{◌⊎◌, inl, inr, ◌≢◌}
use mathlib.Core.Bool.{Bool, not}
use mathlib.Core.List.Memᴰ.{append_cases}
use mathlib.Core.List.Memᴰ.{cases_cons}
use mathlib.Core.List.Memᴰ.{cast}
use mathlib.Core.List.Memᴰ.{head as here}
use mathlib.Core.List.Memᴰ.{tail as there}
use mathlib.Core.List.{List, [], ◌∷◌, ◌++◌, Memᴰ as Mem}
use Prim.Native.Nat.{ℕ, ◌+◌, ◌≤◌, ◌<◌}
use native.Mathlib.Omega.{arith}
use lib.Dec.{T, eqb, ltb, ltb→lt, eqb→eq, T_not}
use lib.ListN.{length, length-append}
use Rattle.model.specs.Searches.{filter, without}
use Rattle.model.specs.Plan.{base, ceiling}
use Rattle.model.specs.State.{ready, Hold, hold, is_hold, condition}
use Rattle.model.specs.Priorities.{held_ceiling}
use Rattle.model.specs.Calls.{above_all, held_by_others}
use Rattle.model.specs.Formed.{times}
use Rattle.model.proofs.Tests.{split, is_true, is_false, and_left, and_both, eq_test, ne_test, equal?}
use Rattle.model.proofs.Searches.{all_at, any_fails, filtered, in_filter, Pairwise, pairwise_filter, pairwise_append, pairwise_at, Distinct, stayed, distinct_without, pigeonhole}
use Rattle.model.proofs.Laws.{ceiling_ge, tag, OtherSection, chosen_is, delayed_below, queued_below, waiting_below, sections_fit, last_held}
use Rattle.plan.proofs.Laws.{threads_view}
use Rattle.machine.specs.declared.Machine.{Machine}
use Rattle.lists.specs.Lists.{queued, held}
use Rattle.machine.specs.View.{plan_of, idle}
use Rattle.machine.proofs.Admitted.{Creates, Runs, Takes, Gives}
use Rattle.machine.proofs.Facts.{Facts, facts}
use Rattle.lists.proofs.Laws.{length-queued, length-held}

module _ {m : Machine} (f : Facts m) where
  pub queued_known : (t : ℕ) → Mem t (queued m.queue) → t < m.plan.threads
  queued_known t i = omega (arith, threads_view m.plan, queued_below (plan_of m) f.agree t i)

  pub waiting_known : (t : ℕ) → Mem t (queued m.waits) → t < m.plan.threads
  waiting_known t i = omega (arith, threads_view m.plan, waiting_below (plan_of m) f.agree t i)

  pub delayed_known : (t : ℕ) → Mem t (queued m.delays) → t < m.plan.threads
  delayed_known t i = omega (arith, threads_view m.plan, f.agree.sized, delayed_below f.sleeps t i)

  -- a list of threads without repeats fits, and so it does with one more that is not in it
  pub threads_fit : (l : List ℕ) → Distinct l → ((t : ℕ) → Mem t l → t < m.plan.threads) → length l ≤ 16
  threads_fit l once known = omega (arith, f.fits.threads, pigeonhole m.plan.threads l once known)

  one_more : (t : ℕ) (l : List ℕ) → Distinct l → ((u : ℕ) → Mem u l → u < m.plan.threads) → t < m.plan.threads → (Mem t l → ⊥) → length l < 16
  one_more t l once known h new = threads_fit (t ∷ l) (λ u i e. new (cast e i), once) (λ u i. below u (cases_cons i))
    where
      below : (u : ℕ) → (u ≡ t) ⊎ Mem u l → u < m.plan.threads
      below u (inl e) = omega arith
      below u (inr i) = known u i

  -- a thread that is not ready is not in the queue, which therefore has room for it
  pub queue_room : (t : ℕ) → t < m.plan.threads → (condition (idle m) t ≡ ready → ⊥) → m.queue.count < 16
  queue_room t h rests = omega (arith, length-queued m.queue, one_more t (queued m.queue) f.agree.queue_once queued_known h (λ i. rests (f.agree.queued t i)))

  -- a waiting thread

  pub waiting_fits : (w : ℕ) → Mem w (queued m.waits) → w < 16
  waiting_fits w i = omega (arith, waiting_known w i, f.fits.threads)

  pub waiting_room : (w : ℕ) → Mem w (queued m.waits) → m.queue.count < 16
  waiting_room w i = queue_room w (waiting_known w i) (λ e. omega (arith, ap tag (sym e ∙ (f.agree.waiting' w i).1)))

  -- the sleepers are not in the queue, which therefore has room for all of them
  pub sleepers_room : m.queue.count + m.delays.count ≤ 16
  sleepers_room =
      omega (arith, length-queued m.queue, length-queued m.delays, length-append queue delays, threads_fit (queue ++ delays) (pairwise_append (λ (a b : ℕ). a ≢ b) queue delays f.agree.queue_once f.sleeps.delays_once apart) (λ t i. known t (append_cases queue i)))
    where
      queue : List ℕ
      queue = queued m.queue

      delays : List ℕ
      delays = queued m.delays

      apart : (a b : ℕ) → Mem a queue → Mem b delays → a ≢ b
      apart a b i j e = omega (arith, ap tag (sym (f.agree.queued a i) ∙ ap (condition (idle m)) e ∙ (f.sleeps.sleeping b j).1))

      known : (t : ℕ) → Mem t queue ⊎ Mem t delays → t < m.plan.threads
      known t (inl i) = queued_known t i
      known t (inr i) = delayed_known t i

  pub delays_fit_lem : m.delays.count ≤ 16
  delays_fit_lem = omega (arith, sleepers_room)

-- Create: the thread is dormant
pub create_room : {m : Machine} {t : ℕ} → Creates m t → m.queue.count < 16
create_room {m} {t} c = queue_room (facts c.formed) t c.known (λ e. omega (arith, ap tag (sym e ∙ c.dormant')))

module _ {m : Machine} {x : ℕ} (r : Runs m x) where
  pub caller_queued : Mem x (queued m.queue)
  caller_queued = (chosen_is (plan_of m) (idle m) x r.chosen').0

  pub caller_known : x < m.plan.threads
  caller_known = queued_known (facts r.formed) x caller_queued

  pub caller_fits : x < 16
  caller_fits = omega (arith, caller_known, (facts r.formed).fits.threads)

  -- the caller leaves a place behind
  pub without_room : length (without x (queued m.queue)) < 16
  without_room = one_more f x (without x queue) (distinct_without x queue f.agree.queue_once) (λ t i. queued_known f t (stayed x queue i).0) caller_known (λ i. (stayed x queue i).1 refl)
    where
      f : Facts m
      f = facts r.formed

      queue : List ℕ
      queue = queued m.queue

  -- the caller is ready, so it does not sleep
  pub delays_room : m.delays.count < 16
  delays_room = omega (arith, length-queued m.delays, one_more f x (queued m.delays) f.sleeps.delays_once (delayed_known f) caller_known runs)
    where
      f : Facts m
      f = facts r.formed

      runs : Mem x (queued m.delays) → ⊥
      runs i = omega (arith, ap tag (sym (f.agree.queued x caller_queued) ∙ (f.sleeps.sleeping x i).1))

  -- and does not wait
  pub waits_room : m.waits.count < 16
  waits_room = omega (arith, length-queued m.waits, one_more f x (queued m.waits) f.agree.waits_once (waiting_known f) caller_known runs)
    where
      f : Facts m
      f = facts r.formed

      runs : Mem x (queued m.waits) → ⊥
      runs i = omega (arith, ap tag (sym (f.agree.queued x caller_queued) ∙ (f.agree.waiting' x i).1))

is_hold_lem : (h : Hold) {s x : ℕ} → h.section ≡ s → h.thread ≡ x → T (is_hold s x h)
is_hold_lem h {s} {x} e q = and_both (eqb h.section s) (eqb h.thread x) (eq_test h.section s e) (eq_test h.thread x q)

-- of a list in which no two pass a test, one does at most
module _ {A : Type 0} (R : A → A → Type 0) (p : A → Bool) (apart : (a b : A) → R a b → T (p a) → T (p b) → ⊥) where
  no_other : {a : A} → T (p a) → (l : List A) → ((b : A) → Mem b l → R a b) → times p l ≡ 0
  no_other h [] d = refl
  no_other {a} h (b ∷ l) d = elim (split (p b)) [ inl i ↦ absurd (apart a b (d b (here refl)) h i) | inr i ↦ rw (is_false (p b) i, no_other h l (λ c m. d c (there m))) ]

  one_passes : (l : List A) → Pairwise R l → times p l ≤ 1
  one_passes [] once = omega arith
  one_passes (a ∷ l) once =
      elim (split (p a)) [
        | inl h ↦ rw (is_true (p a) h) (omega (arith, no_other h l once.0))
        | inr h ↦ rw (is_false (p a) h) (one_passes l once.1)
      ]

-- no section is held twice, so nobody holds one twice
pub held_once_lem : (s x : ℕ) (hs : List Hold) → Pairwise OtherSection hs → times (is_hold s x) hs ≤ 1
held_once_lem s x hs once = one_passes OtherSection (is_hold s x) (λ h k d i j. d (section h i ∙ sym (section k j))) hs once
  where
    section : (h : Hold) → T (is_hold s x h) → h.section ≡ s
    section h i = eqb→eq h.section s (and_left (eqb h.section s) (eqb h.thread x) i)

-- no thread is listed twice in the queue or in the waits
module _ {m : Machine} (f : Facts m) (x : ℕ) where
  listed_once : (l : List ℕ) → Distinct l → ((t : ℕ) → Mem t l → t < m.plan.threads) → (length l ≤ 16) × (times (λ u. eqb u x) l ≤ 1)
  listed_once l once known = (threads_fit f l once known, one_passes (λ (a b : ℕ). a ≢ b) (λ u. eqb u x) (λ a b d i j. d (eqb→eq a x i ∙ sym (eqb→eq b x j))) l once)

  pub queue_once_lem : (m.queue.count ≤ 16) × (times (λ u. eqb u x) (queued m.queue) ≤ 1)
  queue_once_lem = let r = listed_once (queued m.queue) f.agree.queue_once (queued_known f) in (omega (arith, r.0, length-queued m.queue), r.1)

  pub waits_once_lem : (m.waits.count ≤ 16) × (times (λ u. eqb u x) (queued m.waits) ≤ 1)
  waits_once_lem = let r = listed_once (queued m.waits) f.agree.waits_once (waiting_known f) in (omega (arith, r.0, length-queued m.waits), r.1)

-- holds of other sections than s leave room for one of s
hold_room : {m : Machine} (f : Facts m) (s x : ℕ) (hs : List Hold) → s < m.plan.sections → Pairwise OtherSection hs → ((h : Hold) → Mem h hs → Mem h (held m.holds) × (s ≢ h.section)) → length hs < 16
hold_room {m} f s x hs known once others =
    omega (arith, f.fits.sections, sections_fit m.plan.sections (hold s x ∷ hs) (λ h i. (others h i).1, once) (λ h i. below h (cases_cons i)))
  where
    below : (h : Hold) → (h ≡ hold s x) ⊎ Mem h hs → h.section < m.plan.sections
    below h (inl e) = omega (arith, ap (λ (k : Hold). k.section) e)
    below h (inr i) = (f.held h (others h i).0).0

-- Take: a caller that wins takes a section that nobody holds. It does not hold it itself, and the ceiling of a section that it needs is
-- at or above its base, as no ceiling held by others is.
pub take-room : {m : Machine} {x s : ℕ} → Takes m x s → T (above_all (plan_of m) x (held_by_others x (held m.holds))) → m.holds.count < 16
take-room {m} {x} {s} t wins = omega (arith, length-held m.holds, hold_room f s x hs t.known f.held_once (λ h i. (i, λ e. free h i e (equal? h.thread x))))
  where
    f : Facts m
    f = facts t.runs.formed

    hs : List Hold
    hs = held m.holds

    below : (h : Hold) → Mem h hs → h.thread ≢ x → held_ceiling (plan_of m) h < base (plan_of m) x
    below h i d =
        ltb→lt (held_ceiling (plan_of m) h) (base (plan_of m) x)
        (all_at (λ (k : Hold). ltb (held_ceiling (plan_of m) k) (base (plan_of m) x)) (held_by_others x hs) wins (in_filter (λ (k : Hold). not (eqb k.thread x)) hs i (ne_test h.thread x d)))

    free : (h : Hold) → Mem h hs → s ≡ h.section → (h.thread ≡ x) ⊎ (h.thread ≢ x) → ⊥
    free h i e (inl q) = T_not (is_hold s x h) (any_fails (is_hold s x) hs t.lacks i) (is_hold_lem h (sym e) q)
    free h i e (inr d) = omega (arith, below h i d, ceiling_ge (plan_of m) x s t.needs, ap (ceiling (plan_of m)) e)

-- Give: the hold that ends is one of them, and no other is of its section
pub give_room : {m : Machine} {x s : ℕ} → Gives m x s → length (filter (λ h. not (is_hold s x h)) (held m.holds)) < 16
give_room {m} {x} {s} g = hold_room f s x (filter others hs) (f.held (hold s x) mine).0 (pairwise_filter OtherSection others hs f.held_once) (λ h i. left h (filtered others hs i))
  where
    f : Facts m
    f = facts g.runs.formed

    hs : List Hold
    hs = held m.holds

    others : Hold → Bool
    others h = not (is_hold s x h)

    mine : Mem (hold s x) hs
    mine = last_held hs x s g.last

    apart : (h : Hold) → T (others h) → s ≡ h.section → (hold s x ≡ h) ⊎ (OtherSection (hold s x) h ⊎ OtherSection h (hold s x)) → ⊥
    apart h t e (inl q) = T_not (is_hold s x h) t (is_hold_lem h (sym e) (sym (ap (λ (k : Hold). k.thread) q)))
    apart h t e (inr (inl d)) = d e
    apart h t e (inr (inr d)) = d (sym e)

    left : (h : Hold) → Mem h hs × T (others h) → Mem h hs × (s ≢ h.section)
    left h k = (k.0, λ e. apart h k.1 e (pairwise_at OtherSection hs f.held_once (hold s x) h mine k.0))
