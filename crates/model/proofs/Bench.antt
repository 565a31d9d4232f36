-- The bench kernel's list of records is clean with none due and no arming in progress, each call with nothing due before it, and every such
-- list is the bench's list of its own calls.
use mathlib.Core.Path.{◌≡◌, refl, ap, sym, subst, ◌∙◌}
use mathlib.Core.Logic.{◌⊎◌, inl, inr}
use mathlib.Core.Bool.{cond, not}
use mathlib.Core.List.Memᴰ.{head as here}
use mathlib.Core.List.Memᴰ.{tail as there}
use mathlib.Core.List.{List, [], ◌∷◌, ◌++◌, map, tail, cons≢nil, Memᴰ as Mem}
use mathlib.Core.Option.{Option, none, some, none-ne-some, some-injective}
use Prim.Native.Nat.{ℕ, suc, ◌+◌}
use native.Mathlib.Omega.{arith}
use lib.Dec.{T, eqb, eqb_refl}
use lib.ListN.{length, length-append, length-map}
use Rattle.model.specs.Searches.{◌▷◌, all, same}
use Rattle.model.specs.Plan.{Plan, valid_plan}
use Rattle.model.specs.Records.{Call, Report, Record, call, report, report_kind, operand, allowed_call, allowed}
use Rattle.model.specs.Timers.{is_complete}
use Rattle.model.specs.State.{State, start, switched_to, latest_switch, set_reported, set_due}
use Rattle.model.specs.Rules.{stage, broken}
use Rattle.model.specs.Runs.{effect, deliver, Outcome, moved, broke, step, clean, run, judge, Clean}
use Rattle.model.specs.Bench.{deliver_all, behind, bench_from, bench, calls_of, Complete, Rested}
use Rattle.model.proofs.Tests.{split, is_true, is_false, eq_test, same_refl, and_left, and_right, and_both}
use Rattle.model.proofs.Searches.{all_append}
use Rattle.model.proofs.Performed.{answered, reports_first}
use Rattle.model.proofs.Reached.{Reached, begin, next}
use Rattle.model.proofs.Timers.{Settled, settled}
use Rattle.model.proofs.Claims.{due_named}
use Rattle.model.proofs.Prefixes.{run_ended, run_moved, run_clean, ending, ending_after, RestedFrom, rested_from, rested_at}

-- reports are no calls
calls_behind : (ds : List Report) (rs : List Record) → calls_of (map report ds ++ rs) ≡ calls_of rs
calls_behind [] rs = refl
calls_behind (d ∷ ds) rs = calls_behind ds rs

-- what the bench wrote for a list of calls: the first of them with its reports, and the rest
record FirstCall (p : Plan) (st : State) (k : Call) (ks : List Call) (rs : List Record) : Type 0 where
  to : State
  rest : List Record
  moves : step p st (call k) ≡ moved to
  later : bench_from p (deliver_all to) ks ≡ some rest
  joined : call k ∷ map report to.due ++ rest ≡ rs

module _ (p : Plan) where
  -- the first report due breaks no rule
  one_report : (st : State) (d : Report) (ds : List Report) → stage st.timers.arming ≡ 0 → step p (st ▷ set_due (d ∷ ds)) (report d) ≡ moved (st ▷ set_reported (switched_to st.reported d) ▷ set_due ds)
  unfolding step broken
  one_report st d ds z = rw (is_true (eqb (stage st.timers.arming) 0) (eq_test (stage st.timers.arming) 0 z), is_true (eqb (report_kind d) (report_kind d)) (eqb_refl (report_kind d)), is_true (same (operand d) (operand d)) (same_refl (operand d)))

  -- where a report is due no arming is in progress
  settles : (st : State) (d : Report) (ds : List Report) → Settled (st ▷ set_due (d ∷ ds)) → stage st.timers.arming ≡ 0
  settles st d ds (inl e) = absurd (cons≢nil e)
  settles st d ds (inr e) = e

  -- the run over the reports due, in order, leads to the state in which all are given
  reports_run : (ds : List Report) (rs : List Record) (i : ℕ) (st : State) → Settled (st ▷ set_due ds) → run p i (map report ds ++ rs) (st ▷ set_due ds) ≡ run p (i + length ds) rs (deliver_all (st ▷ set_due ds))
  reports_run [] rs i st s = let z : i ≡ i + 0 = omega arith in ap (λ (n : ℕ). run p n rs (deliver_all (st ▷ set_due []))) z
  reports_run (d ∷ ds) rs i st s =
      let z : suc i + length ds ≡ i + suc (length ds) = omega arith in
      run_moved p i (report d) (map report ds ++ rs) (st ▷ set_due (d ∷ ds)) (st ▷ set_reported (switched_to st.reported d) ▷ set_due ds) (one_report st d ds (settles st d ds s))
      ∙ reports_run ds rs (suc i) (st ▷ set_reported (switched_to st.reported d)) (inr (settles st d ds s))
      ∙ ap (λ (n : ℕ). run p n rs (deliver_all (st ▷ set_due (d ∷ ds)))) z

  -- and that state is reached too
  reports_reach : (ds : List Report) (st : State) → Reached p (st ▷ set_due ds) → Reached p (deliver_all (st ▷ set_due ds))
  reports_reach [] st r = r
  reports_reach (d ∷ ds) st r = reports_reach ds (st ▷ set_reported (switched_to st.reported d)) (next (report d) r (due_named p (st ▷ set_due (d ∷ ds)) r d (here refl)) (one_report st d ds (settles st d ds (settled p (st ▷ set_due (d ∷ ds)) r))))

  reports_end : (ds : List Report) (rs : List Record) (st : State) → ending p (map report ds ++ rs) (st ▷ set_due ds) ≡ ending p rs (deliver_all (st ▷ set_due ds))
  reports_end [] rs st = refl
  reports_end (d ∷ ds) rs st = reports_end ds rs (st ▷ set_reported (switched_to st.reported d))

  reports_rested : (ds : List Report) (rs : List Record) (st : State) → RestedFrom p rs (deliver_all (st ▷ set_due ds)) → RestedFrom p (map report ds ++ rs) (st ▷ set_due ds)
  reports_rested [] rs st h = h
  reports_rested (d ∷ ds) rs st h = reports_rested ds rs (st ▷ set_reported (switched_to st.reported d)) h

  reports_allowed : (ds : List Report) → ((d : Report) → Mem d ds → T (allowed p (report d))) → T (all (allowed p) (map report ds))
  reports_allowed [] f = tt
  reports_allowed (d ∷ ds) f = and_both (allowed p (report d)) (all (allowed p) (map report ds)) (f d (here refl)) (reports_allowed ds (λ r m. f r (there m)))

  -- what the bench writes for a call with this outcome, and for the calls after it
  abbrev writes : Call → List Call → Outcome → Option (List Record)
  writes k ks o = elim o as (λ (x : Outcome). Option (List Record)) [ moved st' ↦ behind (call k ∷ map report st'.due) (bench_from p (deliver_all st') ks) | broke n ↦ none ]

  pub bench_ended : (st : State) → bench_from p st [] ≡ cond (is_complete st.timers.arming) (some []) none
  unfolding bench_from
  bench_ended st = refl

  pub bench_moved : (st : State) (k : Call) (ks : List Call) (st' : State) → step p st (call k) ≡ moved st' → bench_from p st (k ∷ ks) ≡ behind (call k ∷ map report st'.due) (bench_from p (deliver_all st') ks)
  unfolding bench_from
  bench_moved st k ks st' e = ap (writes k ks) e

  pub bench_broke : (st : State) (k : Call) (ks : List Call) (n : ℕ) → step p st (call k) ≡ broke n → bench_from p st (k ∷ ks) ≡ none
  unfolding bench_from
  bench_broke st k ks n e = ap (writes k ks) e

  pub bench_begins : (ks : List Call) → bench p ks ≡ bench_from p (start p) ks
  unfolding bench
  bench_begins ks = refl

  -- with every report given the state is reached

  pub settled_reached : (st : State) → Reached p st → Reached p (deliver_all st)
  settled_reached st r = reports_reach st.due st r

  bench_first : (st : State) (k : Call) (ks : List Call) (rs : List Record) → bench_from p st (k ∷ ks) ≡ some rs → FirstCall p st k ks rs
  unfolding bench_from
  bench_first st k ks rs e = first (step p st (call k)) refl e
    where
      second : (st' : State) → step p st (call k) ≡ moved st' → (o : Option (List Record)) → bench_from p (deliver_all st') ks ≡ o → behind (call k ∷ map report st'.due) o ≡ some rs → FirstCall p st k ks rs
      second st' f none g i = absurd (none-ne-some rs i)
      second st' f (some rest) g i = record { to = st'; rest = rest; moves = f; later = g; joined = some-injective (call k ∷ map report st'.due ++ rest) rs i }

      first : (o : Outcome) → step p st (call k) ≡ o → writes k ks o ≡ some rs → FirstCall p st k ks rs
      first (moved st') f i = second st' f (bench_from p (deliver_all st') ks) refl i
      first (broke n) f i = absurd (none-ne-some rs i)

-- what the bench writes from a state, as a run whose first record has number i
record Written (p : Plan) (i : ℕ) (st : State) (ks : List Call) (rs : List Record) : Type 0 where
  operands : T (all (allowed p) rs)
  verdict : run p i rs st ≡ clean (i + length rs) 0
  calls : calls_of rs ≡ ks
  complete : T (is_complete (ending p rs st).timers.arming)
  rested : RestedFrom p rs st

-- a call with its reports, and behind them what is written from there
written_behind : (p : Plan) (i : ℕ) (st st' : State) (k : Call) (ks : List Call) (rest : List Record) → T (allowed_call p k) → st.due ≡ [] → step p st (call k) ≡ moved st' → Reached p st' → Written p (suc i + length st'.due) (deliver_all st') ks rest
    → Written p i st (k ∷ ks) (call k ∷ map report st'.due ++ rest)
written_behind p i st st' k ks rest a q e r w =
    record {
      operands = and_both (allowed_call p k) (all (allowed p) (map report st'.due ++ rest)) a (all_append (allowed p) (map report st'.due) rest (reports_allowed p st'.due (due_named p st' r)) w.operands);
      verdict = run_moved p i (call k) (map report st'.due ++ rest) st st' e ∙ reports_run p st'.due rest (suc i) st' (settled p st' r) ∙ w.verdict ∙ ap (λ (n : ℕ). clean n 0) count;
      calls = ap {B = List Call} (λ l. k ∷ l) (calls_behind st'.due rest ∙ w.calls);
      complete = subst (λ (s : State). T (is_complete s.timers.arming)) (sym (ap (ending p (map report st'.due ++ rest)) (answered p st (call k) st' e).1 ∙ reports_end p st'.due rest st')) w.complete;
      rested = (q, subst (RestedFrom p (map report st'.due ++ rest)) (sym (answered p st (call k) st' e).1) (reports_rested p st'.due rest st' w.rested));
    }
  where
    count : suc i + length st'.due + length rest ≡ i + suc (length (map report st'.due ++ rest))
    count = omega (arith, length-append (map report st'.due) rest, length-map st'.due report)

bench_written : (p : Plan) (ks : List Call) (rs : List Record) (i : ℕ) (st : State) → Reached p st → st.due ≡ [] → T (all (allowed_call p) ks) → bench_from p st ks ≡ some rs → Written p i st ks rs
unfolding bench_from
bench_written p [] rs i st r q a e = go (split (is_complete st.timers.arming))
  where
    z : i ≡ i + 0
    z = omega arith

    go : T (is_complete st.timers.arming) ⊎ T (not (is_complete st.timers.arming)) → Written p i st [] rs
    go (inl t) =
        subst (Written p i st []) (some-injective [] rs (rw (is_true (is_complete st.timers.arming) t) at e))
        (record { operands = tt; verdict = run_ended p i st ∙ ap (λ (l : List Report). clean i (length l)) q ∙ ap (λ (n : ℕ). clean n 0) z; calls = refl; complete = t; rested = tt })
    go (inr t) = absurd (none-ne-some rs (rw (is_false (is_complete st.timers.arming) t) at e))
bench_written p (k ∷ ks) rs i st r q a e =
    let f = bench_first p st k ks rs e in
    let b = and_left (allowed_call p k) (all (allowed_call p) ks) a in
    let reached = next (call k) r b f.moves in
    let w = bench_written p ks f.rest (suc i + length f.to.due) (deliver_all f.to) (reports_reach p f.to.due f.to reached) refl (and_right (allowed_call p k) (all (allowed_call p) ks) a) f.later in
    subst (Written p i st (k ∷ ks)) f.joined (written_behind p i st f.to k ks f.rest b q f.moves reached w)

-- The bench's records are allowed and clean, none is due at their end or before a call, their calls are the list given, and they don't end
-- inside an arming.
pub bench_clean : (p : Plan) (ks : List Call) (rs : List Record) → T (valid_plan p) → T (all (allowed_call p) ks) → bench p ks ≡ some rs → (c : Clean p rs) × (c.due ≡ 0) × (calls_of rs ≡ ks) × Complete p rs × Rested p rs
unfolding bench judge
bench_clean p ks rs v a e =
    let w = bench_written p ks rs 0 (start p) begin refl a e in
    let z : 0 + length rs ≡ length rs = omega arith in
    (record { plan = v; operands = w.operands; due = 0; verdict = w.verdict ∙ ap (λ (n : ℕ). clean n 0) z }, refl, w.calls, subst (λ (s : State). T (is_complete s.timers.arming)) (ending_after p rs) w.complete, rested_at p rs w.rested)

-- the records of a clean run with none due at its end: the reports due, and then what the bench writes once they are given
abbrev IsBench : Plan → State → List Record → Type 0
IsBench p st rs = (rest : List Record) × (rs ≡ map report st.due ++ rest) × (bench_from p (deliver_all st) (calls_of rs) ≡ some rest)

-- with nothing due there is nothing to give
pub given_none : (st : State) → st.due ≡ [] → deliver_all st ≡ st
given_none st q = λ i. st ▷ set_reported (latest_switch st.reported (q i)) ▷ set_due (sym q i)

module _ (p : Plan) (st : State) (rs : List Record) where
  is_bench_call : (k : Call) (st' : State) → st.due ≡ [] → step p st (call k) ≡ moved st' → IsBench p st' rs → IsBench p st (call k ∷ rs)
  is_bench_call k st' q f b =
      (call k ∷ rs, ap (λ (l : List Report). map report l ++ call k ∷ rs) (sym q), bench_moved p (deliver_all st) k (calls_of rs) st' (rw (given_none st q) f) ∙ rw b.2 (ap {B = Option (List Record)} (λ l. some (call k ∷ l)) (sym b.1)))

  is_bench_report : (d : Report) → step p st (report d) ≡ moved (deliver d st) → IsBench p (deliver d st) rs → IsBench p st (report d ∷ rs)
  is_bench_report d f b =
      (b.0, ap {B = List Record} (λ l. report d ∷ l) b.1 ∙ ap (λ (l : List Report). map report l ++ b.0) (sym q), ap (λ (l : List Report). bench_from p (st ▷ set_reported (latest_switch st.reported l) ▷ set_due []) (calls_of rs)) q ∙ b.2)
    where
      q : st.due ≡ d ∷ tail st.due
      q = reports_first p st d (answered p st (report d) (deliver d st) f).0

is_bench : (p : Plan) (rs : List Record) (i : ℕ) (st : State) (n : ℕ) → run p i rs st ≡ clean n 0 → T (is_complete (ending p rs st).timers.arming) → RestedFrom p rs st → IsBench p st rs
unfolding bench_from
is_bench p [] i st n e t h = ([], ap (λ (l : List Report). map report l ++ []) (none_due st.due (cc (run_ended p i st))), rw (is_true (is_complete st.timers.arming) t))
  where
    none_due : (l : List Report) → length l ≡ 0 → [] ≡ l
    none_due [] q = refl
    none_due (d ∷ l) q = absurd (omega arith)
is_bench p (call k ∷ rs) i st n e t h = let c = run_clean p i (call k) rs st n 0 e in is_bench_call p st rs k (effect p (call k) st) h.0 c.0 (is_bench p rs (suc i) (effect p (call k) st) n c.1 t h.1)
is_bench p (report d ∷ rs) i st n e t h = let c = run_clean p i (report d) rs st n 0 e in is_bench_report p st rs d c.0 (is_bench p rs (suc i) (deliver d st) n c.1 t h)

-- Every clean list with none due at its end or before a call, and no arming in progress, is the bench's list of its own calls.
pub clean_is_bench : (p : Plan) (rs : List Record) (n : ℕ) → judge p rs ≡ clean n 0 → Complete p rs → Rested p rs → bench p (calls_of rs) ≡ some rs
unfolding bench judge
clean_is_bench p rs n e t h = let b = is_bench p rs 0 (start p) n e (subst (λ (s : State). T (is_complete s.timers.arming)) (sym (ending_after p rs)) t) (rested_from p rs h) in b.2 ∙ ap {B = Option (List Record)} some (sym b.1)
