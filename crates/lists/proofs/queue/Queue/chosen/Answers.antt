-- `Queue::chosen` meets its contract: the one kept so far, or the first of greatest current priority among those left if that is greater, is the one chosen.
use mathlib.Core.Path.{◌≡◌, ap, sym, ◌∙◌}
use Prim.Native.Nat.{◌<◌}
use native.Mathlib.Omega.{arith}
use borrow.Author.Tests.{ne_eqb}
use Rattle.model.specs.Searches.{first_greatest}
use Rattle.lists.specs.Words.{nibbles, entry_of}
use Rattle.lists.specs.Lists.{current_in, queued}
use Rattle.lists.proofs.Queues.{taken_small, overtaken, replaced, stayed, nobody, base_current}
use Rattle.lists.proofs.queue.Queue.chosen.Goals as goal
use Rattle.lists.proofs.queue.Queue.chosen.Goals.{Joined-owner-t, else-owner-lt16, else-owner-t, then-owner-lt16, then-owner-t}

pub loop-t-init : goal.loop-t-init
loop-t-init c =
    let a = c.args in
    let b = entry_of a.bases in
    let f = current_in b a.owner a.urgency in
    let e = ap (λ k. nibbles k.left k.rest) c.into_iter-t-iterator.ensures.into_iter_gives ∙ c.iter-t-items.ensures in
    ap (λ l. overtaken f 255 0 (first_greatest f l)) e
    ∙ nobody f (queued a.self) (λ t m. let k : 0 < b t = c.requires.1.at t m in omega (arith, base_current b a.owner a.urgency t))

-- what is read in a turn is the current priority: the raised one is the owner's
value : (c : goal.Joined-owner-t)
    → let a = c.args in
    c.if-owner-t.c ≡ current_in (entry_of a.bases) a.owner a.urgency c.in-Some.t
value c =
    let a = c.args in
    let t = c.in-Some.t in
    let f = current_in (entry_of a.bases) a.owner a.urgency in
    let h = taken_small _ _ c.in-Some.ensures.steps in
    elim c.if-owner-t.branch [ then-owner-t w ↦ elim c.if-owner-lt16.branch [ then-owner-lt16 v ↦ w.c-is ∙ v.raised-is ∙ v.current-raised.ensures ∙ ap f w.if-owner-t.true | else-owner-lt16 v ↦ absurd (omega (arith, h, w.if-owner-t.true, v.if-owner-lt16.false)) ] | else-owner-t w ↦ rw (ne_eqb a.owner t w.if-owner-t.false) w.c-is ]

pub loop-t-preserved-then-top-c : goal.loop-t-preserved-then-top-c
loop-t-preserved-then-top-c c =
    let a = c.args in
    let l = c.loop-t in
    let n = c.next.new.self in
    let f = current_in (entry_of a.bases) a.owner a.urgency in
    let e = value (goal.at.loop-t-preserved-then-top-c c).Joined-owner-t in
    rw e
    (sym (replaced f l.who l.top c.in-Some.t (first_greatest f (nibbles n.left n.rest)) (omega arith))
    ∙ (rw c.in-Some.ensures.steps at l.invariant))

pub loop-t-preserved : goal.loop-t-preserved
loop-t-preserved c =
    let a = c.args in
    let l = c.loop-t in
    let n = c.next.new.self in
    let f = current_in (entry_of a.bases) a.owner a.urgency in
    let e = value (goal.at.loop-t-preserved c).Joined-owner-t in
    sym (stayed f l.who l.top c.in-Some.t (first_greatest f (nibbles n.left n.rest)) (omega arith))
    ∙ (rw c.in-Some.ensures.steps at l.invariant)

pub returns : goal.returns
returns c = rw c.in-None.ensures.steps.0 at c.loop-t.invariant
