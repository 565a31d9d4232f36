-- `tally` meets its contract: what each place of the table counts, and how often its number is left, is how often it stands in the word.
use mathlib.Core.Path.{sym, ◌∙◌}
use mathlib.Core.List.{map}
use Prim.Native.Nat.{ℕ, ◌<◌}
use native.Mathlib.Omega.{arith}
use lib.Dec.{eqb}
use lib.Seq.{ext_get_or}
use Rattle.model.specs.Searches.{up_to}
use Rattle.model.specs.Formed.{times}
use Rattle.model.proofs.Loops.{listed, length-listed}
use Rattle.lists.specs.Words.{nibbles}
use Rattle.lists.proofs.Queues.{taken_small, times_within}
use Rattle.lists.proofs.nibbles.tally.Goals as goal

pub overflow_add-found : goal.overflow_add-found
overflow_add-found c =
    let l = c.loop-t in
    let a = c.args in
    let t = c.in-Some.t in
    record { fits = omega (arith, l.invariant.1 t (omega (arith, taken_small _ _ c.in-Some.ensures.steps)), times_within (λ u. eqb u t) a.count a.word) }

pub returns : goal.returns
returns c =
    let l = c.loop-t in
    let a = c.args in
    let g : ℕ → ℕ = λ t. times (λ u. eqb u t) (nibbles a.count a.word) in
    ext_get_or 0 l.found (map g (up_to 16)) (l.invariant.0 ∙ sym (length-listed g 16))
    (λ t h.
    let k : t < 16 = omega (arith, l.invariant.0) in
    omega (arith, rw (c.in-None.ensures.steps.0) at (l.invariant.1 t k), listed g 16 t 0 k))
