-- `marks` meets its contract: what each place of the word counts, and how often its number is left, is what it counted at first and how often its number stands in the other word.
use mathlib.Core.Path.{refl, ◌∙◌}
use Prim.Native.Nat.{◌+◌, ◌^◌, ◌<◌}
use native.Mathlib.Omega.{arith}
use borrow.Author.Tests.{eq-eqb}
use lib.Dec.{eqb}
use Rattle.lists.specs.Words.{nibble, with_nibble, nibbles}
use Rattle.lists.proofs.Words.{one_more, set-fits}
use Rattle.lists.proofs.Queues.{taken_small, marked, times_within}
use Rattle.lists.proofs.nibbles.marks.Goals as goal

-- the number that a turn takes is below sixteen, and its place has room for one more
has_room : (c : goal.In-Some) → (c.in-Some.t < 16) × (nibble c.loop-t.total c.in-Some.t + 1 < 16)
has_room c =
    let l = c.loop-t in
    let a = c.args in
    let k = c.in-Some.t in
    let h = taken_small _ _ c.in-Some.ensures.steps in
    (h, omega (arith, c.requires.1 k h, rw (c.in-Some.ensures.steps, eq-eqb k k refl) at (l.invariant.1 k h), times_within (λ u. eqb u k) a.count a.word))

-- and stays within the word
fits : (c : goal.In-Some) → with_nibble c.loop-t.total c.in-Some.t (nibble c.loop-t.total c.in-Some.t + 1) < 2 ^ 64
fits c =
    let h = has_room c in
    set-fits c.loop-t.total c.in-Some.t (nibble c.loop-t.total c.in-Some.t + 1) h.0 c.loop-t.invariant.0 h.1

pub overflow_add-total : goal.overflow_add-total
overflow_add-total c = record { fits = rw (one_more c.loop-t.total c.in-Some.t (has_room c).0) (fits c) }

pub loop-t-preserved : goal.loop-t-preserved
loop-t-preserved c =
    let l = c.loop-t in
    let k = c.in-Some.t in
    let n = c.next.new.self in
    let h = has_room c in
    rw (one_more l.total k h.0) (fits c, λ t b. marked l.total (nibbles n.left n.rest) k t h.1 ∙ (rw (c.in-Some.ensures.steps) at (l.invariant.1 t b)))
