-- The program reads no further than its buffer holds, and prints what it would print of the whole input: what goes on behind the longest plan
-- and the longest dump is refused, by the same question in the buffer and in the whole.
use mathlib.Core.Path.{◌≡◌, ap}
use mathlib.Core.Bool.{false}
use mathlib.Core.List.{List}
use Prim.Native.Nat.{ℕ}
use native.Mathlib.Omega.{arith}
use lib.ListN.{take}
use Rattle.monitor.specs.Answers.{refused, check}
use Rattle.monitor.proofs.Laws.{refused_check}
use Rattle.streams.proofs.Laws.{cut_same}
use Rattle.watch.specs.Printed.{answered, line_of, printed}

-- the buffer has 65,536 bytes

pub cut_answered : (input : List ℕ) → answered (take 65536 input) ≡ answered input
cut_answered input = cut_same false check refused refused_check 65536 (omega arith) input

pub cut_printed : (input : List ℕ) → printed (take 65536 input) ≡ printed input
cut_printed input = ap line_of (cut_answered input)
