-- Bounds that admit just the operands that fit: the shapes that they have, and a table of them.
use mathlib.Core.Path.{◌≡◌, sym, subst, ◌∙◌}
use mathlib.Core.Logic.{◌⊎◌, inl, inr, ◌≢◌}
use mathlib.Core.Bool.{Bool, true, false, not, cond, ◌||◌, and-true, or-false}
use mathlib.Core.List.{List}
use Prim.Native.Nat.{ℕ, ◌+◌, ◌≤◌, ◌<◌, min}
use native.Mathlib.Omega.{arith}
use borrow.Author.Tests.{le-leb, lt-ltb, le-ltb, ne_eqb}
use lib.Dec.{T, eqb, leb, ltb, ltb→lt, nltb→le, leb-zero}
use lib.ListN.{length, get_or, set}
use lib.Seq.{get_or-set_same, get_or-set_other}
use Rattle.model.proofs.Tests.{split, is_true, is_false, equal?}
use Rattle.plan.specs.Bytes.{between}
use Rattle.dump.specs.declared.questions.Bounds.{Bounds}
use Rattle.dump.specs.Operands.{below, Exact, record_fits, Tabled}
use Rattle.dump.proofs.Ranges.{beyond}

-- from 0 on: an operand below a count, or else what is asked of one that is not
pub from_zero : (count n : ℕ) (other : Bool) → n < 65536 → cond (ltb n (min count 65536)) (leb 0 n) other ≡ ltb n count || other
from_zero count n other h = go (split (ltb n count))
  where
    go : T (ltb n count) ⊎ T (not (ltb n count)) → cond (ltb n (min count 65536)) (leb 0 n) other ≡ ltb n count || other
    go (inl t) = let l = ltb→lt n count t in rw (is_true (ltb n count) t, lt-ltb n (min count 65536) (omega arith)) (leb-zero n)
    go (inr t) = let l = nltb→le n count t in rw (is_false (ltb n count) t, le-ltb n (min count 65536) (omega arith))

pub below_count : (count : ℕ) → Exact (below count) (λ n. ltb n count)
below_count count n h = from_zero count n false h ∙ or-false (ltb n count)

-- 0 alone, none, and 1 to 65535

pub zero_alone : Exact (below 1) (λ n. eqb n 0)
zero_alone n h = below_count 1 n h ∙ go (equal? n 0)
  where
    go : (n ≡ 0) ⊎ (n ≢ 0) → ltb n 1 ≡ eqb n 0
    go (inl e) = rw e
    go (inr d) = le-ltb n 1 (omega arith) ∙ sym (ne_eqb n 0 d)

pub none_fits : Exact (below 0) (λ n. false)
none_fits n h = below_count 0 n h ∙ le-ltb n 0 (omega arith)

pub from_one : Exact (record { end = 65536; low = 1; nobody = false }) (between 1 65535)
from_one n h = rw (lt-ltb n 65536 h, le-leb n 65535 (omega arith), and-true (leb 1 n))

-- every operand of two bytes
pub any_word : Exact (below 65536) (λ n. leb n 65535)
any_word n h = below_count 65536 n h ∙ lt-ltb n 65536 h ∙ sym (le-leb n 65535 (omega arith))

-- a number beyond the kinds is not allowed, so no operand fits it
pub no_kind : (threads sections : ℕ) (calls_only : Bool) (k n : ℕ) → 32 ≤ k → record_fits threads sections calls_only k n ≡ false
no_kind threads sections true k n h = rw (beyond 1 11 k (omega arith) (omega arith))
no_kind threads sections false k n h = rw (beyond 1 11 k (omega arith) (omega arith), beyond 16 22 k (omega arith) (omega arith))

-- one more kind's bounds in a table
pub tabled : (threads sections : ℕ) (calls_only : Bool) (k : ℕ) (table : List Bounds) (b : Bounds) → k < length table → Tabled threads sections calls_only k table
    → Exact b (record_fits threads sections calls_only k) → Tabled threads sections calls_only (k + 1) (set table k b)
tabled threads sections calls_only k table b h before exact j l = go (equal? j k)
  where
    Right : (kind : ℕ) → Bounds → Type 0
    Right kind x = Exact x (record_fits threads sections calls_only kind)

    go : (j ≡ k) ⊎ (j ≢ k) → Right j (get_or (set table k b) j (below 0))
    go (inl e) = rw e (subst (Right k) (sym (get_or-set_same table k b (below 0) h)) exact)
    go (inr d) = subst (Right j) (sym (get_or-set_other table k j b (below 0) d)) (before j (omega arith))
