-- Who sleeps: the order of Delays names each sleeper just once, whatever a call does.
use mathlib.Core.Path.{◌≡◌, refl, ap, sym, subst, ◌∙◌}
use mathlib.Core.Logic.{◌⊎◌, inl, inr, ◌≢◌}
use mathlib.Core.Bool.{not}
use mathlib.Core.List.Memᴰ.{append_cases}
use mathlib.Core.List.Memᴰ.{append_left}
use mathlib.Core.List.Memᴰ.{append_right}
use mathlib.Core.List.Memᴰ.{eq_of_singleton as single}
use mathlib.Core.List.Memᴰ.{head as here}
use mathlib.Core.List.Memᴰ.{tail as there}
use mathlib.Core.List.{List, [], ◌∷◌, ◌++◌, Memᴰ as Mem}
use Prim.Native.Nat.{ℕ, ◌<◌}
use native.Mathlib.Omega.{arith}
use lib.Dec.{T, eqb→eq, eqb_refl, T_not, not_T}
use lib.ListN.{length, get_or, set, length-set}
use Rattle.model.specs.State.{Condition, dormant, ready, asleep, waiting, State, condition, all_ready}
use Rattle.model.specs.Calls.{sleeps_until, sleepers, still_asleep}
use Rattle.model.proofs.Tests.{equal?}
use Rattle.model.proofs.Searches.{filtered, in_filter, pairwise_filter, pairwise_append}
use Rattle.model.proofs.Invariant.{tag, Sleeps}
use Rattle.model.proofs.Agreement.{inside, set_other, set_own, unset}

-- the condition of a thread once these have become ready
pub all_ready_other : (ts : List ℕ) (cs : List Condition) (t : ℕ) → (Mem t ts → ⊥) → get_or (all_ready ts cs) t dormant ≡ get_or cs t dormant
all_ready_other [] cs t f = refl
all_ready_other (u ∷ ts) cs t f = all_ready_other ts (set cs u ready) t (λ m. f (there m)) ∙ set_other cs u t ready (λ e. f (here e))

ready_stays : (ts : List ℕ) (cs : List Condition) (t : ℕ) → get_or cs t dormant ≡ ready → get_or (all_ready ts cs) t dormant ≡ ready
ready_stays [] cs t e = e
ready_stays (u ∷ ts) cs t e = ready_stays ts (set cs u ready) t (go (equal? t u))
  where
    go : (t ≡ u) ⊎ (t ≢ u) → get_or (set cs u ready) t dormant ≡ ready
    go (inl i) = set_own cs u t ready (subst (λ (x : ℕ). x < length cs) i (inside cs t ready e (omega arith))) i
    go (inr d) = set_other cs u t ready d ∙ e

pub all_ready_own : (ts : List ℕ) (cs : List Condition) (t : ℕ) → t < length cs → Mem t ts → get_or (all_ready ts cs) t dormant ≡ ready
all_ready_own [] cs t h x'' = elim x'' [ ]
all_ready_own (u ∷ ts) cs t h (here e) = ready_stays ts (set cs u ready) t (set_own cs u t ready (subst (λ (x : ℕ). x < length cs) e h) e)
all_ready_own (u ∷ ts) cs t h (there m) = all_ready_own ts (set cs u ready) t (omega (arith, length-set cs u ready)) m

-- whoever the order of Delays names is a thread
pub delayed_below : {cs : List Condition} {ds : List ℕ} → Sleeps cs ds → (t : ℕ) → Mem t ds → t < length cs
delayed_below {cs} z t m = let r = z.sleeping t m in inside cs t (asleep r.0) r.1 (omega arith)

-- who sleeps until this tick number

pub sleeps_is : (n : ℕ) (k : Condition) → T (sleeps_until n k) → k ≡ asleep n
sleeps_is n dormant t = absurd t
sleeps_is n ready t = absurd t
sleeps_is n (asleep m) t = ap asleep (eqb→eq m n t)
sleeps_is n (waiting s) t = absurd t

pub sleeper : (n : ℕ) (st : State) (t : ℕ) → Mem t (sleepers n st) → (t < length st.conditions) × (condition st t ≡ asleep n)
sleeper n st t m =
    let e = sleeps_is n (condition st t) (filtered (λ u. sleeps_until n (condition st u)) st.delays m).1 in
    (inside st.conditions t (asleep n) e (omega arith), e)

pub in_sleepers : (n : ℕ) (st : State) → Sleeps st.conditions st.delays → (t : ℕ) → condition st t ≡ asleep n → Mem t (sleepers n st)
in_sleepers n st z t e = in_filter (λ u. sleeps_until n (condition st u)) st.delays (z.in_delays t n e) (subst (λ (k : Condition). T (sleeps_until n k)) (sym e) (eqb_refl n))

-- a thread comes into a condition

module _ {cs : List Condition} {ds : List ℕ} (z : Sleeps cs ds) (t : ℕ) (awake : tag (get_or cs t dormant) ≢ 2) where
  not_delayed : (u : ℕ) → Mem u ds → u ≢ t
  not_delayed u m e = awake (ap (λ (x : ℕ). tag (get_or cs x dormant)) (sym e) ∙ ap tag (z.sleeping u m).1)

  -- one that is not asleep stays so
  pub stays_awake : (k : Condition) → tag k ≢ 2 → Sleeps (set cs t k) ds
  stays_awake k n =
      record {
        sleeping = λ u m. let r = z.sleeping u m in (r.0, set_other cs t u k (not_delayed u m) ∙ r.1);
        in_delays = λ u m e. z.in_delays u m (unset cs t u k (asleep m) e n);
        delays_once = z.delays_once;
      }

  -- it falls asleep
  pub falls_asleep : (n : ℕ) → t < length cs → Sleeps (set cs t (asleep n)) (ds ++ t ∷ [])
  falls_asleep n h =
      record {
        sleeping = λ u m. sleeping u (append_cases ds m);
        in_delays = λ u m e. in_delays u m e (equal? u t);
        delays_once = pairwise_append (λ (a b : ℕ). a ≢ b) ds (t ∷ []) z.delays_once (λ b m. elim m [ ], tt) (λ a b m k e. not_delayed a m (e ∙ single k));
      }
    where
      sleeping : (u : ℕ) → Mem u ds ⊎ Mem u (t ∷ []) → (m : ℕ) × (get_or (set cs t (asleep n)) u dormant ≡ asleep m)
      sleeping u (inl m) = let r = z.sleeping u m in (r.0, set_other cs t u (asleep n) (not_delayed u m) ∙ r.1)
      sleeping u (inr m) = (n, set_own cs t u (asleep n) h (single m))

      in_delays : (u m : ℕ) → get_or (set cs t (asleep n)) u dormant ≡ asleep m → (u ≡ t) ⊎ (u ≢ t) → Mem u (ds ++ t ∷ [])
      in_delays u m e (inl i) = append_right ds (here i)
      in_delays u m e (inr i) = append_left (t ∷ []) (z.in_delays u m (sym (set_other cs t u (asleep n) i) ∙ e))

-- those whose tick number it is wake, and the others sleep on
pub wake_up : (n : ℕ) (st : State) → Sleeps st.conditions st.delays → Sleeps (all_ready (sleepers n st) st.conditions) (still_asleep n st)
wake_up n st z =
    record {
      sleeping = λ t m. sleeping t (filtered (λ u. not (sleeps_until n (condition st u))) st.delays m);
      in_delays = λ t k e. in_delays t k e;
      delays_once = pairwise_filter _ (λ u. not (sleeps_until n (condition st u))) st.delays z.delays_once;
    }
  where
    sleeping : (t : ℕ) → Mem t st.delays × T (not (sleeps_until n (condition st t))) → (k : ℕ) × (get_or (all_ready (sleepers n st) st.conditions) t dormant ≡ asleep k)
    sleeping t f =
        let r = z.sleeping t f.0 in
        let other = all_ready_other (sleepers n st) st.conditions t (λ i. T_not (sleeps_until n (condition st t)) f.1 (filtered (λ u. sleeps_until n (condition st u)) st.delays i).1) in
        (r.0, other ∙ r.1)

    in_delays : (t k : ℕ) → get_or (all_ready (sleepers n st) st.conditions) t dormant ≡ asleep k → Mem t (still_asleep n st)
    in_delays t k e = in_filter (λ u. not (sleeps_until n (condition st u))) st.delays listed (not_T (sleeps_until n (condition st t)) (λ s. out (in_filter (λ u. sleeps_until n (condition st u)) st.delays listed s)))
      where
        out : Mem t (sleepers n st) → ⊥
        out m = omega (arith, ap tag (sym (all_ready_own (sleepers n st) st.conditions t (sleeper n st t m).0 m) ∙ e))

        listed : Mem t st.delays
        listed = z.in_delays t k (sym (all_ready_other (sleepers n st) st.conditions t out) ∙ e)
