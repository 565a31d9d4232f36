-- An operand that fits its kind still fits where there are more threads and sections.
use mathlib.Core.Bool.{Bool, true, false, ◌||◌}
use Prim.Native.Nat.{ℕ, ◌≤◌}
use native.Mathlib.Omega.{arith}
use borrow.Author.Tests.{lt-ltb}
use lib.Dec.{T, ltb, eqb, ltb→lt}
use Rattle.model.specs.Records.{nobody}
use Rattle.model.proofs.Tests.{from_true, or_left, or_right}
use Rattle.dump.specs.Questions.{operand_fits}
use Rattle.dump.proofs.Codec.{each_kind, fits_kind}

pub wider : (threads sections more further k n : ℕ) → threads ≤ more → sections ≤ further → T (operand_fits threads sections k n) → T (operand_fits more further k n)
wider threads sections more further k n h g t =
    each_kind (λ k. T (operand_fits threads sections k n) → T (operand_fits more further k n))
    thread same same same section section same same same same same (report false) (report (eqb n nobody)) (report false) (report false) (report false) same same
    k (fits_kind threads sections k n t) t
  where
    same : {A : Type 0} → A → A
    same u = u

    below : (a b : ℕ) → a ≤ b → T (ltb n a) → T (ltb n b)
    below a b i u = let l = ltb→lt n a u in from_true (ltb n b) (lt-ltb n b (omega arith))

    thread : T (ltb n threads) → T (ltb n more)
    thread u = below threads more h u

    section : T (ltb n sections) → T (ltb n further)
    section u = below sections further g u

    either : (a b c : Bool) → (T a → T c) → T (a || b) → T (c || b)
    either true b c f u = or_left c b (f tt)
    either false b c f u = or_right c b u

    report : (b : Bool) → T (ltb n threads || b) → T (ltb n more || b)
    report b u = either (ltb n threads) b (ltb n more) thread u
