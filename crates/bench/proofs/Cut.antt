-- The program reads no further than its buffer holds, and writes what it would write of the whole input: what goes on behind the longest plan
-- and the longest call list is refused, by the same question in the buffer and in the whole.
use mathlib.Core.Path.{◌≡◌, ap, ap₂}
use mathlib.Core.Bool.{true}
use mathlib.Core.List.{List}
use Prim.Native.Nat.{ℕ}
use native.Mathlib.Omega.{arith}
use lib.ListN.{length, take}
use Rattle.kernel.specs.Answers.{refused, answer, output}
use Rattle.kernel.proofs.Laws.{refused_answer, refused_output}
use Rattle.streams.proofs.Laws.{cut_same}
use Rattle.bench.specs.Printed.{answered, filled, dump_in, line_of, to_output, to_error}

-- the buffer has 65,536 bytes

pub cut_answered : (input : List ℕ) (space : ℕ) → answered (take 65536 input) space ≡ answered input space
cut_answered input space = cut_same true (λ plan list. answer plan list space) refused (λ plan list. refused_answer plan list space) 65536 (omega arith) input

pub cut_filled : (input out : List ℕ) → filled (take 65536 input) out ≡ filled input out
cut_filled input out = cut_same true (λ plan list. output plan list out) (λ q. out) (λ plan list. refused_output plan list out) 65536 (omega arith) input

pub cut_output : (input out : List ℕ) → to_output (take 65536 input) out ≡ to_output input out
cut_output input out = ap₂ dump_in (cut_answered input (length out)) (cut_filled input out)

pub cut_error : (input : List ℕ) (space : ℕ) → to_error (take 65536 input) space ≡ to_error input space
cut_error input space = ap line_of (cut_answered input space)
