-- `written` meets its contract: what was written fits the output, so its bytes are there.
use Rattle.std.proofs.Common.{◌≡◌, ℕ, List, ◌≤◌, length, arith, sym, length-take-le}
use Rattle.kernel.specs.Answers.{bytes_for, wrote}
use Rattle.kernel.proofs.Laws.{written_fits}
use Rattle.streams.specs.Input.{plan_in, behind_plan}
use Rattle.bench.specs.Printed.{answered}
use Rattle.bench.proofs.written.Goals as goal

-- what was written fits the output
room : (input : List ℕ) (size n : ℕ) → wrote n ≡ answered input size → bytes_for n ≤ size
room input size n e = written_fits (plan_in input) (behind_plan input) size n (sym e)

pub overflow_mul-result : goal.overflow_mul-result
overflow_mul-result c = record { fits = omega (arith, room c.args.input.now (length c.args.out.now) c.in-Ok.records c.in-Ok.ensures.result_value) }

pub overflow_add-result : goal.overflow_add-result
overflow_add-result c = record { fits = omega (arith, room c.args.input.now (length c.args.out.now) c.in-Ok.records c.in-Ok.ensures.result_value) }

pub returns-in-Ok-clause-prefix_len : goal.returns-in-Ok-clause-prefix_len
returns-in-Ok-clause-prefix_len c =
    let r = room c.args.input.now (length c.args.out.now) c.in-Ok.records c.in-Ok.ensures.result_value in
    (omega (arith, c.answer.auto.out), sym (length-take-le _ c.answer.new.out (omega (arith, c.answer.auto.out))))
