-- What a step tells the crates that walk over records: a step counts one Tick at most, a broken rule is 21 to 32.
use mathlib.Core.Path.{◌≡◌, refl, ap, ◌∙◌}
use mathlib.Core.Bool.{Bool, true, false, cond, ◌&&◌}
use mathlib.Core.List.{List, [], ◌∷◌}
use mathlib.Core.Option.{Option, none, some, none-ne-some, some-injective}
use Prim.Native.Nat.{ℕ, suc, ◌≤◌}
use native.Mathlib.Omega.{arith}
use lib.Dec.{T, leb, leb→le}
use Rattle.model.specs.Searches.{all}
use Rattle.model.specs.Plan.{Plan}
use Rattle.model.specs.Records.{Arm, Start, Period, Cancel, Create, Delay, Relinquish, End, Take, Give, Tick, Timing, Record, call, report, is_tick_record}
use Rattle.model.specs.State.{State, start}
use Rattle.model.specs.Rules.{Question, first_no, questions, broken}
use Rattle.model.specs.Runs.{effect, moved, broke, outcome, step, run, judge}
use Rattle.model.specs.Words.{tick_of}
use Rattle.model.proofs.Tests.{and_left, and_right}
use Rattle.model.proofs.Performed.{moves}
use Rattle.model.proofs.Reached.{Reached, reached_invariant}
use Rattle.model.proofs.Dues.{tick_counts}

-- where a run begins
pub judge_run : (p : Plan) (rs : List Record) → judge p rs ≡ run p 0 rs (start p)
unfolding judge
judge_run p rs = refl

-- one record counts one Tick at most
tick_of_lem : (r : Record) → tick_of (some r) ≤ 1
tick_of_lem r = go (is_tick_record r)
  where
    go : (b : Bool) → cond b 1 0 ≤ 1
    go true = omega arith
    go false = omega arith

pub tick_at_most : (p : Plan) (st : State) → Reached p st → (r : Record) (st' : State) → step p st r ≡ moved st' → st'.tick_number ≤ suc st.tick_number
tick_at_most p st b r st' e =
    let v = reached_invariant p st b in
    omega (arith, tick_counts p st v (moves p st v.sound r st' e), tick_of_lem r)

-- the number of the first No is that of a question asked
number_passes : (f : ℕ → Bool) (qs : List Question) → T (all (λ q. f q.number) qs) → (n : ℕ) → first_no qs ≡ some n → T (f n)
number_passes f [] t n e = absurd (none-ne-some n e)
number_passes f (q ∷ qs) t n e = go q.answer (λ i. number_passes f qs (and_right (f q.number) _ t) n i) e
  where
    go : (b : Bool) → (first_no qs ≡ some n → T (f n)) → cond b (first_no qs) (some q.number) ≡ some n → T (f n)
    go true k i = k i
    go false k i = rw (some-injective q.number n i) at (and_left (f q.number) _ t)

module _ (p : Plan) (st : State) where
  abbrev is_number : ℕ → Bool
  is_number n = leb 21 n && leb n 32

  numbered : (r : Record) → T (all (λ q. is_number q.number) (questions p st r))
  numbered (call (Create t)) = tt
  numbered (call (Delay n)) = tt
  numbered (call Relinquish) = tt
  numbered (call End) = tt
  numbered (call (Take s)) = tt
  numbered (call (Give s)) = tt
  numbered (call Tick) = tt
  numbered (call (Timing (Arm i))) = tt
  numbered (call (Timing (Start n))) = tt
  numbered (call (Timing (Period n))) = tt
  numbered (call (Timing (Cancel i))) = tt
  numbered (report r) = tt

  pub broken_rule : (r : Record) (n : ℕ) → step p st r ≡ broke n → (21 ≤ n) × (n ≤ 32)
  unfolding step broken
  broken_rule r n e = let t = go (broken p st r) refl e in (leb→le 21 n (and_left (leb 21 n) (leb n 32) t), leb→le n 32 (and_right (leb 21 n) (leb n 32) t))
    where
      go : (o : Option ℕ) → broken p st r ≡ o → outcome o (effect p r st) ≡ broke n → T (is_number n)
      go none q i = let z : ◌≡◌ {A = ℕ} 0 1 = cc in absurd (omega arith)
      go (some m) q i = let z : m ≡ n = cc in number_passes is_number (questions p st r) (numbered r) n (q ∙ ap {B = Option ℕ} some z)
