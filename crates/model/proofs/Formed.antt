-- What the answer 12 leaves: the facts of a well-formed state, from the questions asked of it and back.
use mathlib.Core.Path.{◌≡◌, refl, ap, sym, subst, ◌∙◌}
use mathlib.Core.Bool.{Bool, not, ◌&&◌, ◌||◌}
use mathlib.Core.List.{List, [], ◌∷◌, Memᴰ as Mem}
use mathlib.Core.Option.{Option, none, some, none-ne-some, some-injective}
use Prim.Native.Nat.{ℕ, zero, suc, ◌+◌, ◌≤◌, ◌<◌}
use native.Mathlib.Omega.{arith}
use lib.Dec.{T, eqb, leb, ltb, leb→le, le→leb, ltb→lt, lt→ltb, eqb→eq}
use lib.ListN.{length, get_or}
use Rattle.model.specs.Searches.{all, is_empty, up_to, same}
use Rattle.model.specs.Plan.{Plan, threads, valid_plan}
use Rattle.model.specs.Records.{timer_count, Report, report, is_thread, allowed}
use Rattle.model.specs.Timers.{Timer, Arming, no_arming, after_arm, after_start, slot, timer_given}
use Rattle.model.specs.State.{Condition, dormant, ready, asleep, waiting, Hold, State, condition, without_switch}
use Rattle.model.specs.Priorities.{chosen}
use Rattle.model.specs.Formed.{last_tick, last_wake, last_expiry, condition_in_range, are_threads, hold_in_range, numbers_in_range, arming_in_range, timer_in_range, timers_in_range, times, held_once, in_queue, in_waits, stands_once, all_stand_once, in_delays, delays_named, due_in_range, shown_at_rest, switch_last, owed_none, claims, formed_machine, formed_reports, formed}
use Rattle.model.proofs.Tests.{and_left, and_right, and_both, eq_test, same_eq, same_refl}
use Rattle.model.proofs.Searches.{all_at, all_in, Pairwise, Distinct, in_up_to, pigeonhole}
use Rattle.model.proofs.Loops.{filter-few}
use Rattle.model.proofs.Counting.{counted, found, once_apart, apart_once}
use Rattle.model.proofs.Invariant.{tag, OtherSection, Agree, Sleeps}
use Rattle.model.proofs.Agreement.{inside}
use Rattle.model.proofs.Sleeping.{delayed_below}
use Rattle.model.proofs.Bounds.{queued_below, waiting_below}

-- what is known of the machine, whatever is due
pub record Standing (p : Plan) (st : State) : Type 0 where
  pub valid : T (valid_plan p)
  -- conditions and lists agree, and no thread is listed twice
  pub agree : Agree p st.conditions st.queue st.waits
  -- no section is held twice, and each hold is of a section and a thread of the plan
  pub held_once' : Pairwise OtherSection st.holds
  pub held : (h : Hold) → Mem h st.holds → (h.section < p.sections) × (h.thread < threads p)
  pub wants : (t s : ℕ) → condition st t ≡ waiting s → s < p.sections
  pub sleeps : (t n : ℕ) → condition st t ≡ asleep n → n ≤ last_wake
  pub tick : st.tick_number ≤ last_tick
  pub reported' : (t : ℕ) → st.reported ≡ some t → t < threads p
  -- timers are 0 to 7, and expire by the last tick number at which they can
  pub arms : timer_given st.timers.arming < timer_count
  pub expires : (i : ℕ) (t : Timer) → slot st.timers i ≡ some t → t.expiry ≤ last_expiry
  -- the order of Delays names each sleeper just once and nobody else
  pub delayed : Sleeps st.conditions st.delays

-- and of the whole state
pub record WellFormed (p : Plan) (st : State) : Type 0 where
  pub standing : Standing p st
  pub few : length st.due ≤ threads p + 9
  pub known : (d : Report) → Mem d st.due → T (allowed p (report d))
  -- with nothing due the chosen thread is the last reported
  pub shown' : st.due ≡ [] → st.reported ≡ chosen p st
  -- a Switch due is last, and what has a claim on the room for reports finds it
  pub last : T (switch_last st.due)
  pub room : claims st ≤ threads p + 9

-- where nothing is due there is room: threads sleep once each, and there are eight timers
pub rest_claims : (p : Plan) (st : State) → Standing p st → st.due ≡ [] → claims st ≤ threads p + 9
rest_claims p st w e =
    omega (
      arith,
      ap (λ (l : List Report). length (without_switch l)) e,
      pigeonhole (threads p) st.delays w.delayed.delays_once (λ t m. omega (arith, w.agree.sized, delayed_below w.delayed t m)),
      filter-few (owed_none st.timers st.due) (up_to timer_count),
    )

-- which condition stands once in the queue, and which in the waits

queue_ready : (c : Condition) → 0 < in_queue c → c ≡ ready
queue_ready dormant h = absurd (omega arith)
queue_ready ready h = refl
queue_ready (asleep n) h = absurd (omega arith)
queue_ready (waiting s) h = absurd (omega arith)

waits_waiting : (c : Condition) → 0 < in_waits c → (s : ℕ) × (c ≡ waiting s)
waits_waiting dormant h = absurd (omega arith)
waits_waiting ready h = absurd (omega arith)
waits_waiting (asleep n) h = absurd (omega arith)
waits_waiting (waiting s) h = (s, refl)

most_one : (c : Condition) → (in_queue c ≤ 1) × (in_waits c ≤ 1)
most_one dormant = (omega arith, omega arith)
most_one ready = (omega arith, omega arith)
most_one (asleep n) = (omega arith, omega arith)
most_one (waiting s) = (omega arith, omega arith)

-- a condition that some thread has is one of those listed
condition_passes : (f : Condition → Bool) (cs : List Condition) (t : ℕ) (c : Condition) → T (all f cs) → get_or cs t dormant ≡ c → 0 < tag c → T (f c)
condition_passes f [] t c a e h = absurd (omega (arith, ap tag e))
condition_passes f (k ∷ cs) zero c a e h = subst (λ (x : Condition). T (f x)) e (and_left (f k) (all f cs) a)
condition_passes f (k ∷ cs) (suc t) c a e h = condition_passes f cs t c (and_right (f k) (all f cs) a) e h

module _ (p : Plan) (st : State) (sized : length st.conditions ≡ threads p) where
  module _ (queued : T (are_threads (threads p) st.queue)) (waits : T (are_threads (threads p) st.waits)) (once : T (all_stand_once p st)) where
    stands : (t : ℕ) → t < threads p → (times (λ u. eqb u t) st.queue ≡ in_queue (condition st t)) × (times (λ u. eqb u t) st.waits ≡ in_waits (condition st t))
    stands t h =
        let q = eqb (times (λ u. eqb u t) st.queue) (in_queue (condition st t)) in
        let w = eqb (times (λ u. eqb u t) st.waits) (in_waits (condition st t)) in
        let r = all_at (λ t. stands_once st.queue st.waits (condition st t) t) (up_to (threads p)) once (in_up_to (threads p) t h) in
        (eqb→eq _ _ (and_left q w r), eqb→eq _ _ (and_right q w r))

    below : (l : List ℕ) → T (are_threads (threads p) l) → (t : ℕ) → Mem t l → t < threads p
    below l a t i = ltb→lt t (threads p) (all_at (λ t. ltb t (threads p)) l a i)

    agreed : Agree p st.conditions st.queue st.waits
    agreed =
        record {
          sized = sized;
          queued = λ t i. queue_ready (condition st t) (omega (arith, (stands t (below st.queue queued t i)).0, counted (λ u. eqb u t) st.queue i (eq_test t t refl)));
          in_queue = λ t e. stood st.queue t (omega (arith, (stands t (omega (arith, sized, inside st.conditions t ready e (omega arith)))).0, ap in_queue e));
          waiting' = λ t i. waits_waiting (condition st t) (omega (arith, (stands t (below st.waits waits t i)).1, counted (λ u. eqb u t) st.waits i (eq_test t t refl)));
          in_waits = λ t s e. stood st.waits t (omega (arith, (stands t (omega (arith, sized, inside st.conditions t (waiting s) e (omega arith)))).1, ap in_waits e));
          queue_once = once_apart (λ u. u) st.queue (λ t i. omega (arith, (stands t (below st.queue queued t i)).0, (most_one (condition st t)).0));
          waits_once = once_apart (λ u. u) st.waits (λ t i. omega (arith, (stands t (below st.waits waits t i)).1, (most_one (condition st t)).1));
        }
      where
        stood : (l : List ℕ) (t : ℕ) → 0 < times (λ u. eqb u t) l → Mem t l
        stood l t h = let r = found (λ u. eqb u t) l h in subst (λ (n : ℕ). Mem n l) (eqb→eq r.0 t r.2) r.1

-- conjunctions of four and of six, taken apart and put together
module _ (a b c d : Bool) where
  four : T (a && b && c && d) → T a × T b × T c × T d
  four t =
      let t3 = and_left (a && b && c) d t in
      let t2 = and_left (a && b) c t3 in
      (and_left a b t2, and_right a b t2, and_right (a && b) c t3, and_right (a && b && c) d t)

  both_four : T a → T b → T c → T d → T (a && b && c && d)
  both_four x y z u = and_both (a && b && c) d (and_both (a && b) c (and_both a b x y) z) u

  module _ (e f : Bool) where
    six : T (a && b && c && d && e && f) → T a × T b × T c × T d × T e × T f
    six t =
        let t5 = and_left (a && b && c && d && e) f t in
        let r = four (and_left (a && b && c && d) e t5) in
        (r.0, r.1, r.2, r.3, and_right (a && b && c && d) e t5, and_right (a && b && c && d && e) f t)

    both_six : T a → T b → T c → T d → T e → T f → T (a && b && c && d && e && f)
    both_six x y z u v w = and_both (a && b && c && d && e) f (and_both (a && b && c && d) e (both_four x y z u) v) w

-- a thread reported is one of the plan
is_thread_lem : (p : Plan) (o : Option ℕ) → T (is_thread p o) → (t : ℕ) → o ≡ some t → t < threads p
is_thread_lem p none a t e = absurd (none-ne-some t e)
is_thread_lem p (some u) a t e = omega (arith, ltb→lt u (threads p) a, some-injective u t e)

-- an arming is of one of the timers
arming_in : (a : Arming) → T (arming_in_range a) → timer_given a < timer_count
arming_in no_arming t = omega arith
arming_in (after_arm i) t = ltb→lt i timer_count t
arming_in (after_start i s) t = ltb→lt i timer_count t

timer_in : (os : List (Option Timer)) (i : ℕ) (t : Timer) → T (all timer_in_range os) → get_or os i none ≡ some t → t.expiry ≤ last_expiry
timer_in [] i t a e = absurd (none-ne-some t e)
timer_in (o ∷ os) zero t a e = leb→le t.expiry last_expiry (subst (λ (x : Option Timer). T (timer_in_range x)) e (and_left (timer_in_range o) (all timer_in_range os) a))
timer_in (o ∷ os) (suc i) t a e = timer_in os i t (and_right (timer_in_range o) (all timer_in_range os) a) e

delays_asleep : (c : Condition) → 0 < in_delays c → (n : ℕ) × (c ≡ asleep n)
delays_asleep dormant h = absurd (omega arith)
delays_asleep ready h = absurd (omega arith)
delays_asleep (asleep n) h = (n, refl)
delays_asleep (waiting s) h = absurd (omega arith)

most_one_delay : (c : Condition) → in_delays c ≤ 1
most_one_delay dormant = omega arith
most_one_delay ready = omega arith
most_one_delay (asleep n) = omega arith
most_one_delay (waiting s) = omega arith

-- each sleeper stands just once in the order of Delays
named : (p : Plan) (st : State) → length st.conditions ≡ threads p → T (delays_named p st) → Sleeps st.conditions st.delays
named p st sized t =
    record {
      sleeping = λ u i. delays_asleep (condition st u) (omega (arith, once u (below u i), counted (λ w. eqb w u) st.delays i (eq_test u u refl)));
      in_delays = λ u n e. stood u (omega (arith, once u (omega (arith, sized, inside st.conditions u (asleep n) e (omega arith))), ap in_delays e));
      delays_once = once_apart (λ u. u) st.delays (λ u i. omega (arith, once u (below u i), most_one_delay (condition st u)));
    }
  where
    in_order : ℕ → Bool
    in_order t = eqb (times (λ u. eqb u t) st.delays) (in_delays (condition st t))

    once : (u : ℕ) → u < threads p → times (λ w. eqb w u) st.delays ≡ in_delays (condition st u)
    once u h = eqb→eq _ _ (all_at in_order (up_to (threads p)) (and_right (are_threads (threads p) st.delays) (all in_order (up_to (threads p))) t) (in_up_to (threads p) u h))

    below : (u : ℕ) → Mem u st.delays → u < threads p
    below u i = ltb→lt u (threads p) (all_at (λ u. ltb u (threads p)) st.delays (and_left (are_threads (threads p) st.delays) (all in_order (up_to (threads p))) t) i)

    stood : (u : ℕ) → 0 < times (λ w. eqb w u) st.delays → Mem u st.delays
    stood u h = let r = found (λ w. eqb w u) st.delays h in subst (λ (n : ℕ). Mem n st.delays) (eqb→eq r.0 u r.2) r.1

-- the questions, in the order in which they are asked

pub well_standing : (p : Plan) (st : State) → length st.conditions ≡ threads p → T (formed_machine p st) → Standing p st
unfolding formed_machine
well_standing p st sized t =
    let q = six (valid_plan p) (numbers_in_range p st) (timers_in_range st.timers) (held_once p.sections st.holds) (all_stand_once p st) (delays_named p st) t in
    let n = six (leb st.tick_number last_tick) (is_thread p st.reported) (all (condition_in_range p.sections) st.conditions) (are_threads (threads p) st.queue) (are_threads (threads p) st.waits) (all (hold_in_range (threads p) p.sections) st.holds) q.1 in
    let held' : ((h : Hold) → Mem h st.holds → T (hold_in_range (threads p) p.sections h)) = λ h i. all_at (hold_in_range (threads p) p.sections) st.holds n.5 i in
    let section : ((h : Hold) → Mem h st.holds → h.section < p.sections) = λ h i. ltb→lt h.section p.sections (and_left (ltb h.section p.sections) (ltb h.thread (threads p)) (held' h i)) in
    record {
      valid = q.0;
      agree = agreed p st sized n.3 n.4 q.4;
      held_once' = once_apart (λ (h : Hold). h.section) st.holds (λ h i. leb→le _ 1 (all_at (λ s. leb (times (λ (h : Hold). eqb h.section s) st.holds) 1) (up_to p.sections) q.3 (in_up_to p.sections h.section (section h i))));
      held = λ h i. (section h i, ltb→lt h.thread (threads p) (and_right (ltb h.section p.sections) (ltb h.thread (threads p)) (held' h i)));
      wants = λ u s e. ltb→lt s p.sections (condition_passes (condition_in_range p.sections) st.conditions u (waiting s) n.2 e (omega arith));
      sleeps = λ u m e. leb→le m last_wake (condition_passes (condition_in_range p.sections) st.conditions u (asleep m) n.2 e (omega arith));
      tick = leb→le st.tick_number last_tick n.0;
      reported' = is_thread_lem p st.reported n.1;
      arms = arming_in st.timers.arming (and_left (arming_in_range st.timers.arming) (all timer_in_range st.timers.slots) q.2);
      expires = λ i t e. timer_in st.timers.slots i t (and_right (arming_in_range st.timers.arming) (all timer_in_range st.timers.slots) q.2) e;
      delayed = named p st sized q.5;
    }

pub well_formed : (p : Plan) (st : State) → length st.conditions ≡ threads p → T (formed p st) → WellFormed p st
unfolding formed formed_reports
well_formed p st sized t =
    let q = four (due_in_range p st.due) (shown_at_rest p st) (switch_last st.due) (leb (claims st) (threads p + 9)) (and_right (formed_machine p st) (formed_reports p st) t) in
    let few = leb (length st.due) (threads p + 9) in
    let known = all (λ d. allowed p (report d)) st.due in
    record {
      standing = well_standing p st sized (and_left (formed_machine p st) (formed_reports p st) t);
      few = leb→le (length st.due) (threads p + 9) (and_left few known q.0);
      known = λ d i. all_at (λ d. allowed p (report d)) st.due (and_right few known q.0) i;
      shown' = λ e. same_eq st.reported (chosen p st) (subst (λ (l : List Report). T (not (is_empty l) || same st.reported (chosen p st))) e q.1);
      last = q.2;
      room = leb→le (claims st) (threads p + 9) q.3;
    }

-- and back: a state with these facts has the answer Yes to each

in_range_lem : (sections : ℕ) (c : Condition) → ((s : ℕ) → c ≡ waiting s → s < sections) → ((n : ℕ) → c ≡ asleep n → n ≤ last_wake) → T (condition_in_range sections c)
in_range_lem sections dormant w a = tt
in_range_lem sections ready w a = tt
in_range_lem sections (asleep n) w a = le→leb n last_wake (a n refl)
in_range_lem sections (waiting s) w a = lt→ltb s sections (w s refl)

all_conditions : (f : Condition → Bool) (cs : List Condition) → ((t : ℕ) → T (f (get_or cs t dormant))) → T (all f cs)
all_conditions f [] h = tt
all_conditions f (c ∷ cs) h = and_both (f c) (all f cs) (h zero) (all_conditions f cs (λ t. h (suc t)))

thread_is : (p : Plan) (o : Option ℕ) → ((t : ℕ) → o ≡ some t → t < threads p) → T (is_thread p o)
thread_is p none h = tt
thread_is p (some t) h = lt→ltb t (threads p) (h t refl)

none_listed : (l : List ℕ) (t : ℕ) → (Mem t l → ⊥) → times (λ u. eqb u t) l ≡ 0
none_listed l t h = go (times (λ u. eqb u t) l) (λ k. let r = found (λ u. eqb u t) l k in h (subst (λ (n : ℕ). Mem n l) (eqb→eq r.0 t r.2) r.1))
  where
    go : (n : ℕ) → (0 < n → ⊥) → n ≡ 0
    go zero k = refl
    go (suc n) k = absurd (k (omega arith))

once_listed : (l : List ℕ) (t : ℕ) → Distinct l → Mem t l → times (λ u. eqb u t) l ≡ 1
once_listed l t d i = omega (arith, counted (λ u. eqb u t) l i (eq_test t t refl), apart_once (λ u. u) l d t)

module _ (p : Plan) (st : State) (a : Agree p st.conditions st.queue st.waits) (t : ℕ) where
  queue_times : (c : Condition) → condition st t ≡ c → times (λ u. eqb u t) st.queue ≡ in_queue c
  queue_times dormant e = none_listed st.queue t (λ i. omega (arith, ap tag (sym e ∙ a.queued t i)))
  queue_times ready e = once_listed st.queue t a.queue_once (a.in_queue t e)
  queue_times (asleep n) e = none_listed st.queue t (λ i. omega (arith, ap tag (sym e ∙ a.queued t i)))
  queue_times (waiting s) e = none_listed st.queue t (λ i. omega (arith, ap tag (sym e ∙ a.queued t i)))

  waits_times : (c : Condition) → condition st t ≡ c → times (λ u. eqb u t) st.waits ≡ in_waits c
  waits_times dormant e = none_listed st.waits t (λ i. omega (arith, ap tag (sym e ∙ (a.waiting' t i).1)))
  waits_times ready e = none_listed st.waits t (λ i. omega (arith, ap tag (sym e ∙ (a.waiting' t i).1)))
  waits_times (asleep n) e = none_listed st.waits t (λ i. omega (arith, ap tag (sym e ∙ (a.waiting' t i).1)))
  waits_times (waiting s) e = once_listed st.waits t a.waits_once (a.in_waits t s e)

  stands_once_lem : T (stands_once st.queue st.waits (condition st t) t)
  stands_once_lem =
      let q = times (λ u. eqb u t) st.queue in
      let w = times (λ u. eqb u t) st.waits in
      let c = condition st t in
      and_both (eqb q (in_queue c)) (eqb w (in_waits c)) (eq_test q (in_queue c) (queue_times c refl)) (eq_test w (in_waits c) (waits_times c refl))

numbers : (p : Plan) (st : State) → Standing p st → T (numbers_in_range p st)
numbers p st w =
    both_six (leb st.tick_number last_tick) (is_thread p st.reported) (all (condition_in_range p.sections) st.conditions) (are_threads (threads p) st.queue) (are_threads (threads p) st.waits) (all (hold_in_range (threads p) p.sections) st.holds)
    (le→leb st.tick_number last_tick w.tick)
    (thread_is p st.reported w.reported')
    (all_conditions (condition_in_range p.sections) st.conditions (λ t. in_range_lem p.sections (condition st t) (w.wants t) (w.sleeps t)))
    (all_in (λ t. ltb t (threads p)) st.queue (λ t i. lt→ltb t (threads p) (queued_below p w.agree t i)))
    (all_in (λ t. ltb t (threads p)) st.waits (λ t i. lt→ltb t (threads p) (waiting_below p w.agree t i)))
    (all_in (hold_in_range (threads p) p.sections) st.holds (λ h i. and_both (ltb h.section p.sections) (ltb h.thread (threads p)) (lt→ltb h.section p.sections (w.held h i).0) (lt→ltb h.thread (threads p) (w.held h i).1)))

pub in_arming : (a : Arming) → timer_given a < timer_count → T (arming_in_range a)
in_arming no_arming h = tt
in_arming (after_arm i) h = lt→ltb i timer_count h
in_arming (after_start i s) h = lt→ltb i timer_count h

in_timers : (os : List (Option Timer)) → ((i : ℕ) (t : Timer) → get_or os i none ≡ some t → t.expiry ≤ last_expiry) → T (all timer_in_range os)
in_timers [] h = tt
in_timers (o ∷ os) h = and_both (timer_in_range o) (all timer_in_range os) (first o (h zero)) (in_timers os (λ i. h (suc i)))
  where
    first : (o : Option Timer) → ((t : Timer) → o ≡ some t → t.expiry ≤ last_expiry) → T (timer_in_range o)
    first none k = tt
    first (some t) k = le→leb t.expiry last_expiry (k t refl)

timers : (p : Plan) (st : State) → Standing p st → T (timers_in_range st.timers)
timers p st w = and_both (arming_in_range st.timers.arming) (all timer_in_range st.timers.slots) (in_arming st.timers.arming w.arms) (in_timers st.timers.slots w.expires)

module _ (p : Plan) (st : State) (w : Standing p st) where
  delay_times : (t : ℕ) (c : Condition) → condition st t ≡ c → times (λ u. eqb u t) st.delays ≡ in_delays c
  delay_times t dormant e = none_listed st.delays t (λ i. omega (arith, ap tag (sym e ∙ (w.delayed.sleeping t i).1)))
  delay_times t ready e = none_listed st.delays t (λ i. omega (arith, ap tag (sym e ∙ (w.delayed.sleeping t i).1)))
  delay_times t (asleep n) e = once_listed st.delays t w.delayed.delays_once (w.delayed.in_delays t n e)
  delay_times t (waiting s) e = none_listed st.delays t (λ i. omega (arith, ap tag (sym e ∙ (w.delayed.sleeping t i).1)))

  delays : T (delays_named p st)
  delays =
      and_both (are_threads (threads p) st.delays) (all in_order (up_to (threads p)))
      (all_in (λ t. ltb t (threads p)) st.delays (λ t i. lt→ltb t (threads p) (omega (arith, w.agree.sized, delayed_below w.delayed t i))))
      (all_in in_order (up_to (threads p)) (λ t i. eq_test (times (λ u. eqb u t) st.delays) (in_delays (condition st t)) (delay_times t (condition st t) refl)))
    where
      in_order : ℕ → Bool
      in_order t = eqb (times (λ u. eqb u t) st.delays) (in_delays (condition st t))

pub passes_machine : (p : Plan) (st : State) → Standing p st → T (formed_machine p st)
unfolding formed_machine
passes_machine p st w =
    both_six (valid_plan p) (numbers_in_range p st) (timers_in_range st.timers) (held_once p.sections st.holds) (all_stand_once p st) (delays_named p st)
    w.valid
    (numbers p st w)
    (timers p st w)
    (all_in (λ s. leb (times (λ (h : Hold). eqb h.section s) st.holds) 1) (up_to p.sections) (λ s i. le→leb (times (λ (h : Hold). eqb h.section s) st.holds) 1 (apart_once (λ (h : Hold). h.section) st.holds w.held_once' s)))
    (all_in (λ t. stands_once st.queue st.waits (condition st t) t) (up_to (threads p)) (λ t i. stands_once_lem p st w.agree t))
    (delays p st w)

pub passes_all : (p : Plan) (st : State) → WellFormed p st → T (formed p st)
unfolding formed formed_reports
passes_all p st w =
    and_both (formed_machine p st) (formed_reports p st) (passes_machine p st w.standing)
    (both_four (due_in_range p st.due) (shown_at_rest p st) (switch_last st.due) (leb (claims st) (threads p + 9))
    (and_both (leb (length st.due) (threads p + 9)) (all (λ d. allowed p (report d)) st.due) (le→leb (length st.due) (threads p + 9) w.few) (all_in (λ d. allowed p (report d)) st.due w.known))
    (shows st.due refl)
    w.last
    (le→leb (claims st) (threads p + 9) w.room))
  where
    shows : (l : List Report) → st.due ≡ l → T (not (is_empty l) || same st.reported (chosen p st))
    shows [] e = subst (λ (o : Option ℕ). T (same o (chosen p st))) (sym (w.shown' e)) (same_refl (chosen p st))
    shows (d ∷ l) e = tt
