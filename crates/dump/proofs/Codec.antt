-- One record, and the kind and the operand that stand for it: each way and back.
use mathlib.Core.Path.{◌≡◌, refl, sym, subst}
use mathlib.Core.Logic.{◌⊎◌, inl, inr, ◌≢◌}
use mathlib.Core.Bool.{Bool, true, false, cond, not, ◌||◌}
use mathlib.Core.List.{List, [], ◌∷◌}
use mathlib.Core.Option.{none, some}
use Prim.Native.Nat.{ℕ, zero, suc, ◌+◌, ◌≤◌, ◌<◌}
use native.Mathlib.Omega.{arith}
use borrow.Author.Tests.{ne_eqb}
use lib.Dec.{T, eqb, leb, ltb, eqb→eq, leb→le, ltb→lt}
use Rattle.model.specs.Searches.{count_from}
use Rattle.model.specs.Plan.{Plan, threads}
use Rattle.model.specs.Records.{timer_count, Arm, Start, Period, Cancel, Create, Delay, Relinquish, End, Take, Give, Tick, Timing, Ready, Switch, Won, Lost, Yield, Expire, Late, Record, call, report, nobody, operand_number, operand_thread, allowed, is_thread}
use Rattle.model.proofs.Tests.{split, is_true, is_false, from_true, and_left, and_right, or_left, or_right, equal?}
use Rattle.plan.specs.Bytes.{between}
use Rattle.dump.specs.Layout.{record_of, kind_of, operand_of}
use Rattle.dump.specs.Questions.{is_call, is_report, kind_allowed, call_fits, report_fits, operand_fits}

-- the records of a call list
abbrev pub is_call_record : Record → Bool
is_call_record (call k) = true
is_call_record (report r) = false

-- what is shown of each of the numbers from low to high holds of every number between
module _ (P : ℕ → Type 0) where
  abbrev Each : List ℕ → Type 0
  Each [] = Unit {0}
  Each (a ∷ l) = P a × Each l

  each : (low n k : ℕ) → Each (count_from low n) → low ≤ k → k < low + n → P k
  each low zero k e h g = absurd (omega arith)
  each low (suc n) k e h g = go (equal? k low) (λ d. each (suc low) n k e.1 (omega arith) (omega arith))
    where
      go : (k ≡ low) ⊎ (k ≢ low) → (k ≢ low → P k) → P k
      go (inl q) f = subst P (sym q) e.0
      go (inr d) f = f d

  each_between : (low n k : ℕ) → Each (count_from low (suc n)) → T (between low (low + n) k) → P k
  each_between low n k e t =
      each low (suc n) k e (leb→le low k (and_left (leb low k) _ t)) (omega (arith, leb→le k (low + n) (and_right (leb low k) _ t)))

  -- the kinds of calls, and all kinds
  pub each_call : P 1 → P 2 → P 3 → P 4 → P 5 → P 6 → P 7 → P 8 → P 9 → P 10 → P 11 → (k : ℕ) → T (is_call k) → P k
  each_call a b c d e f g h i j l k t = each_between 1 10 k (a, (b, (c, (d, (e, (f, (g, (h, (i, (j, (l, tt))))))))))) t

  pub each_kind : P 1 → P 2 → P 3 → P 4 → P 5 → P 6 → P 7 → P 8 → P 9 → P 10 → P 11 → P 16 → P 17 → P 18 → P 19 → P 20 → P 21 → P 22 → (k : ℕ) → T (kind_allowed false k) → P k
  each_kind a b c d e f g h i j l v w x y z r s k t = go (is_call k) refl t
    where
      go : (m : Bool) → is_call k ≡ m → T (m || is_report k) → P k
      go true q u = each_call a b c d e f g h i j l k (from_true (is_call k) q)
      go false q u = each_between 16 6 k (v, (w, (x, (y, (z, (r, (s, tt))))))) u

-- a kind is a byte
pub kind_byte : (k : ℕ) → T (kind_allowed false k) → T (ltb k 256)
kind_byte k t = each_kind (λ k. T (ltb k 256)) tt tt tt tt tt tt tt tt tt tt tt tt tt tt tt tt tt tt k t

-- From kind and operand to the record, and back.

pub kind_back : (k n : ℕ) → T (kind_allowed false k) → kind_of (record_of k n) ≡ k
kind_back k n t = each_kind (λ k. kind_of (record_of k n) ≡ k) refl refl refl refl refl refl refl refl refl refl refl refl refl refl refl refl refl refl k t

-- of a kind of call a call is made
pub call_back : (k n : ℕ) → T (is_call k) → T (is_call_record (record_of k n))
call_back k n t = each_call (λ k. T (is_call_record (record_of k n))) tt tt tt tt tt tt tt tt tt tt tt k t

-- an operand fits only a kind that is allowed
pub fits_kind : (threads sections k n : ℕ) → T (operand_fits threads sections k n) → T (kind_allowed false k)
fits_kind threads sections k n t = go (is_call k) (is_report k) t
  where
    go : (a b : Bool) → T (cond a (call_fits threads sections k n) (cond b (report_fits threads k n) false)) → T (a || b)
    go true b u = tt
    go false true u = tt
    go false false u = u

thread_back : (n : ℕ) → operand_number (operand_thread n) ≡ n
thread_back n = go (split (eqb n nobody))
  where
    go : T (eqb n nobody) ⊎ T (not (eqb n nobody)) → operand_number (operand_thread n) ≡ n
    go (inl t) = rw (is_true (eqb n nobody) t) (sym (eqb→eq n nobody t))
    go (inr t) = rw (is_false (eqb n nobody) t)

pub operand_back : (threads sections k n : ℕ) → T (operand_fits threads sections k n) → operand_of (record_of k n) ≡ n
operand_back threads sections k n t =
    each_kind (λ k. T (operand_fits threads sections k n) → operand_of (record_of k n) ≡ n)
    same same nil nil same same nil same same same same same (λ u. thread_back n) same same same same same
    k (fits_kind threads sections k n t) t
  where
    same : {A : Type 0} → A → n ≡ n
    same u = refl

    nil : T (eqb n 0) → 0 ≡ n
    nil u = sym (eqb→eq n 0 u)

-- a kind and an operand that pass question 8 make an allowed record
pub allowed_back : (p : Plan) (k n : ℕ) → T (operand_fits (threads p) p.sections k n) → T (allowed p (record_of k n))
allowed_back p k n t =
    each_kind (λ k. T (operand_fits (threads p) p.sections k n) → T (allowed p (record_of k n)))
    same same always always same same always same same same same thread (switch (split (eqb n nobody))) thread thread thread same same
    k (fits_kind (threads p) p.sections k n t) t
  where
    same : {A : Type 0} → A → A
    same u = u

    always : {A : Type 0} → A → Unit {0}
    always u = tt

    or_no : (a : Bool) → T (a || false) → T a
    or_no true u = tt
    or_no false u = u

    thread : T (ltb n (threads p) || false) → T (ltb n (threads p))
    thread u = or_no (ltb n (threads p)) u

    switch : T (eqb n nobody) ⊎ T (not (eqb n nobody)) → T (ltb n (threads p) || eqb n nobody) → T (is_thread p (operand_thread n))
    switch (inl e) u = rw (is_true (eqb n nobody) e) tt
    switch (inr d) u = rw (is_false (eqb n nobody) d) (thread (rw (is_false (eqb n nobody) d) at u))

-- From the record to kind and operand, and back. With 65535 threads at most, none has the number of nobody.

pub record_back : (p : Plan) → threads p ≤ 65535 → (r : Record) → T (allowed p r) → record_of (kind_of r) (operand_of r) ≡ r
record_back p h (call (Create t)) a = refl
record_back p h (call (Delay n)) a = refl
record_back p h (call Relinquish) a = refl
record_back p h (call End) a = refl
record_back p h (call (Take s)) a = refl
record_back p h (call (Give s)) a = refl
record_back p h (call Tick) a = refl
record_back p h (call (Timing (Arm i))) a = refl
record_back p h (call (Timing (Start n))) a = refl
record_back p h (call (Timing (Period n))) a = refl
record_back p h (call (Timing (Cancel i))) a = refl
record_back p h (report (Ready t)) a = refl
record_back p h (report (Switch none)) a = refl
record_back p h (report (Switch (some t))) a = rw (ne_eqb t nobody (λ e. omega (arith, ltb→lt t (threads p) a)))
record_back p h (report (Won t)) a = refl
record_back p h (report (Lost t)) a = refl
record_back p h (report (Yield t)) a = refl
record_back p h (report (Expire i)) a = refl
record_back p h (report (Late n)) a = refl

module _ (p : Plan) where
  -- the kind and the operand of an allowed record pass question 8
  pub operand_fits_lem : (r : Record) → T (allowed p r) → T (operand_fits (threads p) p.sections (kind_of r) (operand_of r))
  operand_fits_lem (call (Create t)) a = a
  operand_fits_lem (call (Delay n)) a = a
  operand_fits_lem (call Relinquish) a = a
  operand_fits_lem (call End) a = a
  operand_fits_lem (call (Take s)) a = a
  operand_fits_lem (call (Give s)) a = a
  operand_fits_lem (call Tick) a = a
  operand_fits_lem (call (Timing (Arm i))) a = a
  operand_fits_lem (call (Timing (Start n))) a = a
  operand_fits_lem (call (Timing (Period n))) a = a
  operand_fits_lem (call (Timing (Cancel i))) a = a
  operand_fits_lem (report (Ready t)) a = or_left (ltb t (threads p)) false a
  operand_fits_lem (report (Switch none)) a = or_right (ltb nobody (threads p)) true a
  operand_fits_lem (report (Switch (some t))) a = or_left (ltb t (threads p)) (eqb t nobody) a
  operand_fits_lem (report (Won t)) a = or_left (ltb t (threads p)) false a
  operand_fits_lem (report (Lost t)) a = or_left (ltb t (threads p)) false a
  operand_fits_lem (report (Yield t)) a = or_left (ltb t (threads p)) false a
  operand_fits_lem (report (Expire i)) a = a
  operand_fits_lem (report (Late n)) a = a

  -- and the operand fits into two bytes
  module _ (h : threads p ≤ 65535) (g : p.sections ≤ 65536) where
    thread_word : (t : ℕ) → T (ltb t (threads p)) → t < 65536
    thread_word t a = omega (arith, ltb→lt t (threads p) a)

    section_word : (s : ℕ) → T (ltb s p.sections) → s < 65536
    section_word s a = omega (arith, ltb→lt s p.sections a)

    timer_word : (i : ℕ) → T (ltb i timer_count) → i < 65536
    timer_word i a = omega (arith, ltb→lt i timer_count a)

    ticks_word : (n : ℕ) → T (between 1 65535 n) → n < 65536
    ticks_word n a = omega (arith, leb→le n 65535 (and_right (leb 1 n) (leb n 65535) a))

    pub operand_word : (r : Record) → T (allowed p r) → operand_of r < 65536
    operand_word (call (Create t)) a = thread_word t a
    operand_word (call (Delay n)) a = ticks_word n a
    operand_word (call Relinquish) a = omega arith
    operand_word (call End) a = omega arith
    operand_word (call (Take s)) a = section_word s a
    operand_word (call (Give s)) a = section_word s a
    operand_word (call Tick) a = omega arith
    operand_word (call (Timing (Arm i))) a = timer_word i a
    operand_word (call (Timing (Start n))) a = ticks_word n a
    operand_word (call (Timing (Period n))) a = omega (arith, leb→le n 65535 a)
    operand_word (call (Timing (Cancel i))) a = timer_word i a
    operand_word (report (Ready t)) a = thread_word t a
    operand_word (report (Switch none)) a = omega arith
    operand_word (report (Switch (some t))) a = thread_word t a
    operand_word (report (Won t)) a = thread_word t a
    operand_word (report (Lost t)) a = thread_word t a
    operand_word (report (Yield t)) a = thread_word t a
    operand_word (report (Expire i)) a = timer_word i a
    operand_word (report (Late n)) a = omega (arith, leb→le n 65535 a)

-- the kind of a call is a kind of call
pub call_kind_lem : (r : Record) → T (is_call_record r) → T (is_call (kind_of r))
call_kind_lem (call (Create t)) c = tt
call_kind_lem (call (Delay n)) c = tt
call_kind_lem (call Relinquish) c = tt
call_kind_lem (call End) c = tt
call_kind_lem (call (Take s)) c = tt
call_kind_lem (call (Give s)) c = tt
call_kind_lem (call Tick) c = tt
call_kind_lem (call (Timing (Arm i))) c = tt
call_kind_lem (call (Timing (Start n))) c = tt
call_kind_lem (call (Timing (Period n))) c = tt
call_kind_lem (call (Timing (Cancel i))) c = tt
call_kind_lem (report r) c = absurd c
