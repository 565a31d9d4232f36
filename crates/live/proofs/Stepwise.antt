-- Live steps, from a fresh state, answer at every record of a list what the whole check says of the list up to that record.
use mathlib.Core.Path.{◌≡◌, refl, ap, sym, subst, ◌∙◌}
use mathlib.Core.Bool.{Bool, true, false, not, ◌&&◌}
use mathlib.Core.List.Memᴰ.{head as here}
use mathlib.Core.List.Memᴰ.{tail as there}
use mathlib.Core.List.{List, [], ◌∷◌, ◌++◌, Memᴰ as Mem}
use mathlib.Core.Option.{none}
use Prim.Native.Nat.{ℕ, suc, ◌+◌, ◌≤◌, ◌<◌}
use native.Mathlib.Omega.{arith}
use borrow.Author.Tests.{ne_eqb}
use lib.Dec.{T, eqb, leb, leb→le, le→leb}
use lib.ListN.{length, take, drop, take-append-drop}
use lib.Seq.{take-suc, length-take-le}
use Rattle.model.specs.Searches.{all}
use Rattle.model.specs.Plan.{Plan, threads, valid_plan}
use Rattle.model.specs.Records.{Tick, Record, call, allowed}
use Rattle.model.specs.State.{State, start}
use Rattle.model.specs.Runs.{Outcome, moved, broke, step, run, judge}
use Rattle.model.specs.Formed.{last_tick, formed}
use Rattle.model.proofs.Tests.{is_true, and_left, and_right, and_both, or_right, ne_test}
use Rattle.model.proofs.Searches.{all_at}
use Rattle.model.proofs.Loops.{listed}
use Rattle.model.proofs.Laws.{Reached, begin, next, reached_formed, judge_run, counts_fit, tick_at_most, broken_rule, run_ended, run_moved, run_broke}
use Rattle.keeping.specs.Top.{Top, walk_by, walk, top_fits}
use Rattle.keeping.proofs.Laws.{walk_fits, set-moved}
use Rattle.plan.specs.Bytes.{between, plan_of}
use Rattle.dump.specs.Layout.{record_count, kind_at, operand_at, record_at, decode, kind_of, operand_of}
use Rattle.dump.specs.Questions.{most_records, kind_allowed, operand_fits}
use Rattle.dump.proofs.Laws.{kind_back, operand_back, record_back, operand_fits_lem, fits_kind, decode-length, whole, entry_passes}
use Rattle.monitor.specs.Answers.{first_refusal}
use Rattle.live.specs.Watching as watching
use Rattle.live.specs.Watching.{Watched, fresh, broken, is_rule, refusal, reply_of, stored, reply, after}
use Rattle.live.specs.Stepwise.{walked, steps, said}
use Rattle.monitor.proofs.Laws.{Passed, passed}

-- a broken rule is one that can be stored
rule_stored : (p : Plan) (st : State) (r : Record) (n : ℕ) → step p st r ≡ broke n → T (between 21 32 n)
rule_stored p st r n e = let b = broken_rule p st r n e in and_both (leb 21 n) (leb n 32) (le→leb 21 n b.0) (le→leb n 32 b.1)

-- a test passed by each of a list is passed by each of its first part; and the last of a list is in it

all_left : {A : Type 0} (f : A → Bool) (l m : List A) → T (all f (l ++ m)) → T (all f l)
all_left f [] m t = tt
all_left f (a ∷ l) m t = and_both (f a) (all f l) (and_left (f a) _ t) (all_left f l m (and_right (f a) _ t))

all_take : {A : Type 0} (f : A → Bool) (k : ℕ) (l : List A) → T (all f l) → T (all f (take k l))
all_take f k l t = all_left f (take k l) (drop k l) (rw (take-append-drop k l) t)

last : {A : Type 0} {a : A} (l : List A) → Mem a (l ++ a ∷ [])
last [] = here refl
last (b ∷ l) = there (last l)

module _ (p : Plan) (v : T (valid_plan p)) where
  -- no thread has the number of nobody
  few : threads p ≤ 65535
  few = omega (arith, (counts_fit p v).0)

  -- a watch state with this plan, and what is kept the walk's result
  abbrev with : State → (rule : ℕ) → Watched
  with st m = record { plan = p; state = st; top = walk p st.holds; rule = m }

  -- questions 12, 7, 8 and 13 have the answer Yes on an allowed record, in a well-formed state before the last tick number
  passes : (st : State) (m : ℕ) → T (formed p st) → T (is_rule m) → st.tick_number < last_tick → (r : Record) → T (allowed p r) → refusal (with st m) (kind_of r) (operand_of r) ≡ none
  unfolding refusal
  passes st m f i h r a =
      let fits = operand_fits_lem p r a in
      let early = not_both (eqb (kind_of r) 7) (eqb st.tick_number last_tick) (ne_test st.tick_number last_tick (λ e. omega arith)) in
      rw (
        is_true (formed p st) f,
        is_true (top_fits p st.holds (walk p st.holds)) (walk_fits p st.holds),
        is_true (is_rule m) i,
        is_true (kind_allowed false (kind_of r)) (fits_kind (threads p) p.sections (kind_of r) (operand_of r) fits),
        is_true (operand_fits (threads p) p.sections (kind_of r) (operand_of r)) fits,
        is_true (not (eqb (kind_of r) 7 && eqb st.tick_number last_tick)) early,
      )
    where
      not_both : (a b : Bool) → T (not b) → T (not (a && b))
      not_both true b t = t
      not_both false b t = tt

  module _ (st : State) (f : T (formed p st)) (h : st.tick_number < last_tick) where
    -- a step before any breach: of the record that its kind and operand stand for
    module _ (r : Record) (a : T (allowed p r)) where
      replies : reply (with st 0) (kind_of r) (operand_of r) ≡ reply_of (step p st r)
      unfolding reply
      replies = rw (passes st 0 f tt h r a, record_back p few r a)

      leaves : after (with st 0) (kind_of r) (operand_of r) ≡ stored (with st 0) r (step p st r)
      unfolding after
      leaves = rw (passes st 0 f tt h r a, record_back p few r a)

    -- the steps after a breach answer its rule, and leave the state as it is
    module _ (m : ℕ) (b : T (between 21 32 m)) where
      not_zero : eqb m 0 ≡ false
      not_zero = ne_eqb m 0 (λ e. omega (arith, leb→le 21 m (and_left (leb 21 m) (leb m 32) b)))

      repeats : (r : Record) → T (allowed p r) → reply (with st m) (kind_of r) (operand_of r) ≡ broken m
      unfolding reply
      repeats r a = rw (passes st m f (or_right (eqb m 0) _ b) h r a, not_zero)

      stays : (rs : List Record) → T (all (allowed p) rs) → walked (with st m) rs ≡ with st m
      unfolding after
      stays [] a = refl
      stays (r ∷ rs) a = rw (passes st m f (or_right (eqb m 0) _ b) h r (and_left (allowed p r) _ a), not_zero) (stays rs (and_right (allowed p r) _ a))

  -- the steps over a list from a state that runs reach, which has room for as many ticks as there are records
  stepwise_from : (rs : List Record) (r : Record) (i : ℕ) (st : State) → Reached p st → T (all (allowed p) (rs ++ r ∷ [])) → st.tick_number + length rs < last_tick
      → reply (walked (with st 0) rs) (kind_of r) (operand_of r) ≡ said (run p i (rs ++ r ∷ []) st)
  stepwise_from [] r i st b a h = replies st (reached_formed p v st b (omega arith)) (omega arith) r (and_left (allowed p r) _ a) ∙ go (step p st r) refl
    where
      go : (o : Outcome) → step p st r ≡ o → reply_of o ≡ said (run p i (r ∷ []) st)
      go (moved st') q = ap said (sym (run_moved p i r [] st st' q ∙ run_ended p (suc i) st'))
      go (broke n) q = ap said (sym (run_broke p i r [] st n q))
  stepwise_from (s ∷ rs) r i st b a h =
      ap (λ w. reply (walked w rs) (kind_of r) (operand_of r)) (leaves st f k s first)
      ∙ go (step p st s) refl (λ st' c l. stepwise_from rs r (suc i) st' c rest l)
    where
      k : st.tick_number < last_tick
      k = omega arith

      f : T (formed p st)
      f = reached_formed p v st b (omega arith)

      first : T (allowed p s)
      first = and_left (allowed p s) _ a

      rest : T (all (allowed p) (rs ++ r ∷ []))
      rest = and_right (allowed p s) _ a

      go : (o : Outcome) → step p st s ≡ o
          → ((st' : State) → Reached p st' → st'.tick_number + length rs < last_tick → reply (walked (with st' 0) rs) (kind_of r) (operand_of r) ≡ said (run p (suc i) (rs ++ r ∷ []) st'))
          → reply (walked (stored (with st 0) s o) rs) (kind_of r) (operand_of r) ≡ said (run p i (s ∷ rs ++ r ∷ []) st)
      go (moved st') q ih =
          ap (λ (t : Top). reply (walked (record { plan = p; state = st'; top = t; rule = 0 }) rs) (kind_of r) (operand_of r)) (set-moved p st s st' q)
          ∙ ih st' (next s b first q) (omega (arith, tick_at_most p st b s st' q)) ∙ ap said (sym (run_moved p i s (rs ++ r ∷ []) st st' q))
      go (broke n) q ih =
          ap (λ w. reply w (kind_of r) (operand_of r)) (stays st f k n (rule_stored p st s n q) rs (all_left (allowed p) rs (r ∷ []) rest))
          ∙ repeats st f k n (rule_stored p st s n q) r (all_at (allowed p) (rs ++ r ∷ []) rest (last rs))
          ∙ ap said (sym (run_broke p i s (rs ++ r ∷ []) st n q))

-- For every prefix of a list, the reply at its last record is what the whole check says of the prefix.
pub stepwise : (p : Plan) → T (valid_plan p) → (rs : List Record) (r : Record) → T (all (allowed p) (rs ++ r ∷ [])) → length rs < last_tick
    → reply (walked (fresh p) rs) (kind_of r) (operand_of r) ≡ said (judge p (rs ++ r ∷ []))
unfolding walk_by
stepwise p v rs r a h = stepwise_from p v rs r 0 (start p) begin a (omega arith) ∙ ap said (sym (judge_run p (rs ++ r ∷ [])))

-- The same of bytes that the whole check does not refuse: the reply at record i is what the whole check says of the records up to it.
module _ (plan dump : List ℕ) (e : first_refusal plan dump ≡ none) where
  -- the steps go from the state that is made of the plan's bytes
  pub begin_fresh : watching.begin plan ≡ fresh (plan_of plan)
  unfolding watching.begin
  begin_fresh = rw (passed plan dump e).plan'

  pub stepwise_bytes : (i : ℕ) → i < record_count dump → reply (steps (plan_of plan) (decode dump) i) (kind_at dump i) (operand_at dump i) ≡ said (judge (plan_of plan) (take (suc i) (decode dump)))
  stepwise_bytes i h =
      ap (λ k. reply (steps p rs i) k (operand_at dump i)) (sym kind)
      ∙ ap (λ n. reply (steps p rs i) (kind_of r) n) (sym operand)
      ∙ stepwise p c.valid (take i rs) r (subst (λ l. T (all (allowed p) l)) front (all_take (allowed p) (suc i) rs c.operands)) room
      ∙ ap (λ l. said (judge p l)) (sym front)
    where
      p : Plan
      p = plan_of plan

      rs : List Record
      rs = decode dump

      r : Record
      r = record_at dump i

      c : Passed plan dump
      c = passed plan dump e

      size : (length rs ≡ record_count dump) × (record_count dump ≤ most_records)
      size = (decode-length dump, (whole (threads p) p.sections false dump c.dump').count)

      room : length (take i rs) < last_tick
      room = omega (arith, size, length-take-le i rs (omega (arith, size)))

      fits : T (kind_allowed false (kind_at dump i)) × T (operand_fits (threads p) p.sections (kind_at dump i) (operand_at dump i))
      fits = entry_passes (threads p) p.sections false dump c.dump' i h

      kind : kind_of r ≡ kind_at dump i
      kind = kind_back (kind_at dump i) (operand_at dump i) fits.0

      operand : operand_of r ≡ operand_at dump i
      operand = operand_back (threads p) p.sections (kind_at dump i) (operand_at dump i) fits.1

      front : take (suc i) rs ≡ take i rs ++ r ∷ []
      front = take-suc rs i (call Tick) (omega (arith, size)) ∙ ap (λ x. take i rs ++ x ∷ []) (listed (record_at dump) (record_count dump) i (call Tick) h)
