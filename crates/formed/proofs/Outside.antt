-- Answer 12, question by question: what the tests of a state that came from outside say of its numbers, its counts and its threads.
use mathlib.Core.Path.{◌≡◌, refl, ap, sym, subst, ◌∙◌}
use mathlib.Core.Logic.{◌⊎◌, inl, inr, ◌≢◌}
use mathlib.Core.Bool.{Bool, true, false, cond, not, ◌&&◌, ◌||◌}
use mathlib.Core.List.Memᴰ.{head as here}
use mathlib.Core.List.Memᴰ.{tail as there}
use mathlib.Core.List.{List, [], ◌∷◌, Memᴰ as Mem}
use mathlib.Core.Option.{Option, none, some}
use Prim.Native.Nat.{ℕ, ◌<◌}
use native.Mathlib.Omega.{arith}
use borrow.Author.Tests.{eq-eqb, ne_eqb, not-true, not-false}
use lib.Dec.{T, eqb, leb, ltb, leb→le, le→leb, T_not, not_T}
use Rattle.model.specs.Searches.{all, up_to, same}
use Rattle.model.specs.Plan.{threads, valid_plan}
use Rattle.model.specs.Records.{Report, is_thread}
use Rattle.model.specs.State.{Condition, condition}
use Rattle.model.specs.Formed.{last_tick, condition_in_range, are_threads, hold_in_range, numbers_in_range, timers_in_range, held_once, times, in_queue, in_waits, in_delays, all_stand_once, formed_machine}
use Rattle.model.proofs.Tests.{equal?, split, is_true, is_false, from_true, from_false, and_left, and_right, and_both}
use Rattle.model.proofs.Searches.{up_to_at}
use Rattle.plan.specs.declared.Plan.{Plan}
use Rattle.plan.specs.View.{view}
use Rattle.plan.proofs.Laws.{threads_view, valid_fits}
use Rattle.machine.specs.declared.Machine.{Machine}
use Rattle.lists.specs.Words.{nibble}
use Rattle.lists.specs.Lists.{queued, held}
use Rattle.clock.specs.View as timing
use Rattle.clock.specs.View.{number_at}
use Rattle.due.specs.Lists.{numbered, thread_of}
use Rattle.machine.specs.View.{condition_of, conditions_of, plan_of, viewed, idle}
use Rattle.formed.specs.Clauses.{Counted, Stood, names_by, names_those, standing}
use Rattle.formed.proofs.Ranges.{queued_by, waits_by, delayed_by}
use Rattle.machine.proofs.Laws.{condition_at, counts_within, delays_within}

-- what the code joins: the second test where the first is true

pub second_asked : (a b : Bool) {r : Bool} → a ≡ true → r ≡ b → r ≡ a && b
second_asked a b e q = rw e q

-- what a question that the code asks says of its test, where the answer was No, and where it was Yes

pub was_no : {r a : Bool} → r ≡ a → not r ≡ true → false ≡ a
was_no {r} e n = sym (not-true r n) ∙ e

pub was_yes : {r a : Bool} → r ≡ a → not r ≡ false → a ≡ true
was_yes {r} e n = sym e ∙ not-false r n

-- a number names nobody, or a thread of the plan

names_one : (p : Plan) (who : ℕ) → eqb who 255 || ltb who p.threads ≡ is_thread (view p) (thread_of who)
names_one p who = go (equal? who 255)
  where
    go : (who ≡ 255) ⊎ (who ≢ 255) → eqb who 255 || ltb who p.threads ≡ is_thread (view p) (thread_of who)
    go (inl e) = rw e
    go (inr d) = rw (ne_eqb who 255 d, threads_view p)

-- the numbers in the order in which they are asked: the tick number, the thread reported, the conditions, the queue, the waits, the holds
module _ (m : Machine) where
  abbrev tick' : Bool
  tick' = leb m.tick.0 last_tick

  abbrev reported' : Bool
  reported' = is_thread (plan_of m) (thread_of m.reported)

  abbrev conditions' : Bool
  conditions' = all (condition_in_range m.plan.sections) (conditions_of m.plan.threads m.slots m.wakes)

  abbrev queue' : Bool
  queue' = are_threads m.plan.threads (queued m.queue)

  abbrev waits' : Bool
  waits' = are_threads m.plan.threads (queued m.waits)

  abbrev holds' : Bool
  holds' = all (hold_in_range m.plan.threads m.plan.sections) (held m.holds)

  -- as the code asks them
  abbrev pub numbers_in_turn : Bool
  numbers_in_turn = tick' && (eqb m.reported 255 || ltb m.reported m.plan.threads) && conditions' && queue' && waits' && holds'

  pub numbers_asked : numbers_in_turn ≡ numbers_in_range (plan_of m) (idle m)
  numbers_asked =
      ap (λ r. tick' && r && conditions' && queue' && waits' && holds') (names_one m.plan m.reported)
      ∙ ap (λ n. tick' && reported' && conditions' && are_threads n (queued m.queue) && are_threads n (queued m.waits) && all (hold_in_range n m.plan.sections) (held m.holds))
      (sym (threads_view m.plan))

-- two tests that agree on a list, and two that are asked of it at once

all_agree : {A : Type 0} (f g : A → Bool) (l : List A) → ((a : A) → Mem a l → f a ≡ g a) → all f l ≡ all g l
all_agree f g [] h = refl
all_agree f g (a ∷ l) h = rw (h a (here refl), all_agree f g l (λ b i. h b (there i)))

all_both : {A : Type 0} (f g : A → Bool) (l : List A) → all (λ a. f a && g a) l ≡ all f l && all g l
all_both f g [] = refl
all_both f g (a ∷ l) = ap (λ b. (f a && g a) && b) (all_both f g l) ∙ apart (f a) (g a) (all f l) (all g l)
  where
    apart : (x y u v : Bool) → (x && y) && (u && v) ≡ (x && u) && (y && v)
    apart false y u v = refl
    apart true false false v = refl
    apart true false true v = refl
    apart true true u v = refl

-- an answer that the code gives, where a question that has the answer No is one of the model's, or where the last one decides

pub refused : {x f : Bool} → (T f → T x) → false ≡ x → false ≡ f
refused {x} {f} h e = sym (is_false f (not_T f (λ t. T_not x (from_false x (sym e)) (h t))))

pub decided : {x f r : Bool} → (T x → T f) → (T f → T x) → r ≡ x → r ≡ f
decided {x} {f} there' back e = e ∙ go (split x)
  where
    go : T x ⊎ T (not x) → x ≡ f
    go (inl t) = is_true x t ∙ sym (is_true f (there' t))
    go (inr t) = is_false x t ∙ refused back (sym (is_false x t))

module _ (m : Machine) where
  abbrev pub plan' : Bool
  plan' = valid_plan (plan_of m)

  abbrev queue_fits : Bool
  queue_fits = leb m.queue.count 16

  abbrev waits_fit : Bool
  waits_fit = leb m.waits.count 16

  abbrev delays_fit : Bool
  delays_fit = leb m.delays.count 16

  abbrev holds_fit : Bool
  holds_fit = leb m.holds.count 16

  abbrev pub counts' : Bool
  counts' = queue_fits && waits_fit && delays_fit && holds_fit

  -- what the questions behind the first two ask for
  pub counts_fit : plan' && counts' ≡ true → Counted m
  counts_fit e =
      let both = from_true (plan' && counts') e in
      let t = and_right plan' counts' both in
      let u = and_left (queue_fits && waits_fit && delays_fit) holds_fit t in
      let w = and_left (queue_fits && waits_fit) delays_fit u in
      record {
        fits = valid_fits m.plan (and_left plan' counts' both);
        counts =
            record {
              queue' = leb→le m.queue.count 16 (and_left queue_fits waits_fit w);
              holds' = leb→le m.holds.count 16 (and_right (queue_fits && waits_fit && delays_fit) holds_fit t);
              waits' = leb→le m.waits.count 16 (and_right queue_fits waits_fit w);
            };
        delays' = leb→le m.delays.count 16 (and_right (queue_fits && waits_fit) delays_fit u);
      }

  -- the lists of a well-formed machine fit their words
  counts_pass : T (formed_machine (plan_of m) (idle m)) → T counts'
  counts_pass f =
      let l = counts_within m f in
      and_both (queue_fits && waits_fit && delays_fit) holds_fit
      (and_both (queue_fits && waits_fit) delays_fit (and_both queue_fits waits_fit (le→leb m.queue.count 16 l.queue') (le→leb m.waits.count 16 l.waits')) (le→leb m.delays.count 16 (delays_within m f)))
      (le→leb m.holds.count 16 l.holds')

  abbrev numbers' : Bool
  numbers' = numbers_in_range (plan_of m) (idle m)

  abbrev timers' : Bool
  timers' = timers_in_range (timing.view m.timers)

  abbrev once' : Bool
  once' = held_once m.plan.sections (held m.holds)

  -- where the threads stand, by the numbers of their conditions and by the conditions

  abbrev lists_stand : Bool
  lists_stand = standing m.plan.threads m.slots.states (queued m.queue) (queued m.waits) (queued m.delays)

  abbrev in_list : (Condition → ℕ) → List ℕ → (thread : ℕ) → Bool
  in_list f l t = eqb (times (λ u. eqb u t) l) (f (condition (idle m) t))

  named : (f : Condition → ℕ) (least most : ℕ) → ((s n w : ℕ) → s < 16 → f (condition_of s n w) ≡ cond (leb least s && leb s most) 1 0) → (l : List ℕ)
      → names_those m.plan.threads m.slots.states l least most ≡ all (in_list f l) (up_to (threads (plan_of m)))
  named f least most h l =
      all_agree (λ t. names_by l least most (nibble m.slots.states t) t) (in_list f l) (up_to m.plan.threads)
      (λ t i.
      ap (eqb (times (λ u. eqb u t) l))
      (sym (ap f (condition_at m.plan.threads m.slots m.wakes t (up_to_at m.plan.threads i)) ∙ h (nibble m.slots.states t) (nibble m.slots.wants t) (number_at m.wakes t) (omega arith))))
      ∙ ap (λ n. all (in_list f l) (up_to n)) (sym (threads_view m.plan))

  abbrev all_stand : Bool
  all_stand = all_stand_once (plan_of m) (idle m)

  abbrev each_delayed : Bool
  each_delayed = all (in_list in_delays (queued m.delays)) (up_to (threads (plan_of m)))

  stand : lists_stand ≡ all_stand && each_delayed
  stand =
      rw (named in_queue 1 1 queued_by (queued m.queue), named in_waits 3 15 waits_by (queued m.waits), named in_delays 2 2 delayed_by (queued m.delays))
      (ap (λ b. b && each_delayed) (sym (all_both (in_list in_queue (queued m.queue)) (in_list in_waits (queued m.waits)) (up_to (threads (plan_of m))))))

  abbrev delays_known : Bool
  delays_known = are_threads m.plan.threads (queued m.delays)

  -- the questions in the model's order
  abbrev asked' : Bool
  asked' = plan' && numbers' && timers' && once' && all_stand && (are_threads (threads (plan_of m)) (queued m.delays) && each_delayed)

  questions : asked' ≡ formed_machine (plan_of m) (idle m)
  unfolding formed_machine
  questions = refl

  -- and in the code's
  record Asked : Type 0 where
    valid : T plan'
    stands : T lists_stand
    numbers : T numbers'
    known : T delays_known
    timers : T timers'
    held' : T once'

  same_threads : are_threads (threads (plan_of m)) (queued m.delays) ≡ delays_known
  same_threads = ap (λ n. are_threads n (queued m.delays)) (threads_view m.plan)

  asks : T (formed_machine (plan_of m) (idle m)) → Asked
  asks t =
      let t6 = subst (λ (b : Bool). T b) (sym questions) t in
      let below : Bool = are_threads (threads (plan_of m)) (queued m.delays) in
      let t5 = and_left (plan' && numbers' && timers' && once' && all_stand) (below && each_delayed) t6 in
      let t4 = and_left (plan' && numbers' && timers' && once') all_stand t5 in
      let t3 = and_left (plan' && numbers' && timers') once' t4 in
      let t2 = and_left (plan' && numbers') timers' t3 in
      let d = and_right (plan' && numbers' && timers' && once' && all_stand) (below && each_delayed) t6 in
      record {
        valid = and_left plan' numbers' t2;
        stands = subst (λ (b : Bool). T b) (sym stand) (and_both all_stand each_delayed (and_right (plan' && numbers' && timers' && once') all_stand t5) (and_right below each_delayed d));
        numbers = and_right plan' numbers' t2;
        known = subst (λ (b : Bool). T b) same_threads (and_left below each_delayed d);
        timers = and_right (plan' && numbers') timers' t3;
        held' = and_right (plan' && numbers' && timers') once' t4;
      }

  asked_all : T plan' → T lists_stand → T numbers' → T delays_known → T timers' → T once' → T (formed_machine (plan_of m) (idle m))
  asked_all v s n k t h =
      let both = subst (λ (b : Bool). T b) stand s in
      let below : Bool = are_threads (threads (plan_of m)) (queued m.delays) in
      subst (λ (b : Bool). T b) questions
      (and_both (plan' && numbers' && timers' && once' && all_stand) (below && each_delayed)
      (and_both (plan' && numbers' && timers' && once') all_stand (and_both (plan' && numbers' && timers') once' (and_both (plan' && numbers') timers' (and_both plan' numbers' v n) t) h) (and_left all_stand each_delayed both))
      (and_both below each_delayed (subst (λ (b : Bool). T b) (sym same_threads) k) (and_right all_stand each_delayed both)))

  -- the first three
  abbrev pub lists_in_turn : Bool
  lists_in_turn = plan' && counts' && lists_stand

  pub stood : lists_in_turn ≡ true → Counted m × Stood m
  stood e =
      let both = from_true lists_in_turn e in
      (counts_fit (is_true (plan' && counts') (and_left (plan' && counts') lists_stand both)), is_true lists_stand (and_right (plan' && counts') lists_stand both))

  abbrev pub machine_in_turn : Bool
  machine_in_turn = lists_in_turn && numbers' && delays_known && timers' && once'

  pub machine_asked : machine_in_turn ≡ formed_machine (plan_of m) (idle m)
  machine_asked = decided there' back refl
    where
      there' : T machine_in_turn → T (formed_machine (plan_of m) (idle m))
      there' t6 =
          let t5 = and_left (lists_in_turn && numbers' && delays_known && timers') once' t6 in
          let t4 = and_left (lists_in_turn && numbers' && delays_known) timers' t5 in
          let t3 = and_left (lists_in_turn && numbers') delays_known t4 in
          let t2 = and_left lists_in_turn numbers' t3 in
          asked_all (and_left plan' counts' (and_left (plan' && counts') lists_stand t2)) (and_right (plan' && counts') lists_stand t2) (and_right lists_in_turn numbers' t3)
          (and_right (lists_in_turn && numbers') delays_known t4) (and_right (lists_in_turn && numbers' && delays_known) timers' t5)
          (and_right (lists_in_turn && numbers' && delays_known && timers') once' t6)

      back : T (formed_machine (plan_of m) (idle m)) → T machine_in_turn
      back f =
          let a = asks f in
          and_both (lists_in_turn && numbers' && delays_known && timers') once'
          (and_both (lists_in_turn && numbers' && delays_known) timers'
          (and_both (lists_in_turn && numbers') delays_known
          (and_both lists_in_turn numbers' (and_both (plan' && counts') lists_stand (and_both plan' counts' a.valid (counts_pass f)) a.stands) a.numbers) a.known) a.timers) a.held'

  -- whatever is due, the machine is asked the same
  pub whatever_due : (due : List Report) → formed_machine (plan_of m) (viewed m due) ≡ formed_machine (plan_of m) (idle m)
  unfolding formed_machine
  whatever_due due = refl

-- whether a thread's number is the one reported
pub is_reported : (o : Option ℕ) (n : ℕ) → ((t : ℕ) → o ≡ some t → t < 255) → eqb (numbered o) n ≡ same (thread_of n) o
is_reported o n h = go o h (equal? n 255)
  where
    go : (o : Option ℕ) → ((t : ℕ) → o ≡ some t → t < 255) → (n ≡ 255) ⊎ (n ≢ 255) → eqb (numbered o) n ≡ same (thread_of n) o
    go none k (inl e) = rw e
    go none k (inr d) = rw (ne_eqb n 255 d, ne_eqb 255 n (λ q. d (sym q)))
    go (some t) k (inl e) = rw e (ne_eqb t 255 (λ q. omega (arith, k t refl)))
    go (some t) k (inr d) = rw (ne_eqb n 255 d) (either (equal? t n))
      where
        either : (t ≡ n) ⊎ (t ≢ n) → eqb t n ≡ eqb n t
        either (inl e) = eq-eqb t n e ∙ sym (eq-eqb n t (sym e))
        either (inr q) = ne_eqb t n q ∙ sym (ne_eqb n t (λ e. q (sym e)))
