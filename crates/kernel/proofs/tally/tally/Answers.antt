-- `tally` meets its contract: after k calls the records so far are counted.
use mathlib.Core.Path.{◌≡◌, refl, ap, sym, subst, ◌∙◌}
use mathlib.Core.Bool.{Bool, cond, not}
use mathlib.Core.List.{[], ◌++◌}
use mathlib.Core.Option.{none, some}
use Prim.Native.Nat.{ℕ, ◌+◌, ◌≤◌, ◌<◌}
use native.Mathlib.Omega.{arith}
use lib.ListN.{length}
use Rattle.std.specs.Prelude.{Some}
use Rattle.machine.specs.View.{view}
use Rattle.machine.specs.Clauses.{Fresh}
use Rattle.dump.specs.Layout.{record_count, running_place}
use Rattle.dump.proofs.Laws.{running_place_lem, running_next}
use Rattle.kernel.specs.Clauses.{Passed, made_of, tally_of}
use Rattle.kernel.proofs.Giving.{IsFormed}
use Rattle.kernel.proofs.CallList.{list_whole, calls_few}
use Rattle.kernel.proofs.CallsMade.{added, added_count, made_begin, made_all, made_steps, made_broke, made_due, made_formed, made_next}
use Rattle.kernel.proofs.tally.tally.Goals as goal
use Rattle.kernel.proofs.tally.tally.Goals.{After-is_complete, After-step-o, At-loop-k, Else-is_err, In-loop-k, Start}

pub first_operand-running-requires : goal.first_operand-running-requires
first_operand-running-requires c = calls_few c.requires

pub loop-k-init : goal.loop-k-init
loop-k-init c =
    let f = c.fresh-s in (
      omega arith,
      [],
      refl,
      made_begin f.result.machine.plan c.args.list.now f.result (subst (Fresh f.result) (sym f.ensures.plan') f.ensures),
      c.first_operand-running.ensures ∙ ap (λ m. running_place m 0) c.requires.count,
    )

-- what the run asks, of the plan that the first state carries
passed : (c : goal.At-loop-k) → (Passed c.fresh-s.result.machine.plan c.args.ceilings.now c.args.list.now c.args.n)
passed c =
    subst (λ p. Passed p c.args.ceilings.now c.args.list.now c.args.n) (sym c.fresh-s.ensures.plan') c.requires

pub step-o-requires : goal.step-o-requires
step-o-requires c =
    (made_steps (passed (goal.at.step-o-requires c).At-loop-k) c.loop-k.invariant.3 c.loop-k-test.true, c.loop-k.invariant.4)

pub returns-then-is_err : goal.returns-then-is_err
returns-then-is_err c =
    let e =
    ap (λ p. made_of p c.args.list.now) (sym c.fresh-s.ensures.plan')
    ∙ made_broke (passed (goal.at.returns-then-is_err c).At-loop-k) c.loop-k.invariant.3 c.loop-k-test.true c.step-o.result c.step-o.ensures (c.is_err.ensures.negation ∙ ap not c.if-is_err.true)
    in
    sym (ap tally_of e)

-- a list has few calls, and a call makes few records
few : (c : goal.In-loop-k) → (c.loop-k.k < 20000) × (c.loop-k.records ≤ 520000)
few c =
    let v = c.loop-k.invariant in
    let k = c.loop-k-test.true in
    (omega (arith, calls_few ((let it : (Passed c.fresh-s.result.machine.plan c.args.ceilings.now c.args.list.now c.args.n) = subst (λ p. Passed p c.args.ceilings.now c.args.list.now c.args.n) (sym c.fresh-s.ensures.plan') c.requires in it)), k), omega (arith, calls_few ((let it : (Passed c.fresh-s.result.machine.plan c.args.ceilings.now c.args.list.now c.args.n) = subst (λ p. Passed p c.args.ceilings.now c.args.list.now c.args.n) (sym c.fresh-s.ensures.plan') c.requires in it)), k, v.2, v.3.few))

pub overflow_add-records : goal.overflow_add-records
overflow_add-records c = record { fits = omega (arith, (few (goal.at.overflow_add-records c).In-loop-k).1) }

-- the call is admitted: its reports are few, and the state is well formed
admitted : (c : goal.Else-is_err) → (let o = c.step-o.result in (length (view o.state).due ≤ 25) × IsFormed o.state)
admitted c =
    let m = c.loop-k.invariant.3 in
    let k = c.loop-k-test.true in
    (made_due ((let it : (Passed c.fresh-s.result.machine.plan c.args.ceilings.now c.args.list.now c.args.n) = subst (λ p. Passed p c.args.ceilings.now c.args.list.now c.args.n) (sym c.fresh-s.ensures.plan') c.requires in it)) m k c.step-o.result c.step-o.ensures (c.is_err.ensures.negation ∙ ap not c.if-is_err.false), made_formed ((let it : (Passed c.fresh-s.result.machine.plan c.args.ceilings.now c.args.list.now c.args.n) = subst (λ p. Passed p c.args.ceilings.now c.args.list.now c.args.n) (sym c.fresh-s.ensures.plan') c.requires in it)) m k c.step-o.result c.step-o.ensures (c.is_err.ensures.negation ∙ ap not c.if-is_err.false))

pub overflow_add-records-in-loop-k : goal.overflow_add-records-in-loop-k
overflow_add-records-in-loop-k c =
    record { fits = omega (arith, (few (goal.at.overflow_add-records-in-loop-k c).In-loop-k).1, (admitted (goal.at.overflow_add-records-in-loop-k c).Else-is_err).0, c.due_count.ensures) }

pub settled-s-requires : goal.settled-s-requires
settled-s-requires c = (admitted (goal.at.settled-s-requires c).Else-is_err).1

pub overflow_add-running : goal.overflow_add-running
overflow_add-running c =
    let v = c.loop-k.invariant in
    let list = c.args.list.now in
    record { fits = omega (arith, v.4, running_place_lem (record_count list) c.loop-k.k, (few (goal.at.overflow_add-running c).In-loop-k).0, (list_whole (passed (goal.at.overflow_add-running c).At-loop-k)).count) }

pub loop-k-preserved : goal.loop-k-preserved
loop-k-preserved c =
    let v = c.loop-k.invariant in
    let k = c.loop-k-test.true in
    let o = c.step-o.result in
    let n = made_next (passed (goal.at.loop-k-preserved c).At-loop-k) v.3 k o c.step-o.ensures (c.is_err.ensures.negation ∙ ap not c.if-is_err.false) c.settled-s.result c.settled-s.ensures in
    let d = c.args.list.now in
    let count : c.loop-k.records + 1 + c.due_count.result ≡ length (v.1 ++ added d c.loop-k.k (view o.state)) =
    omega (arith, v.2, c.due_count.ensures, added_count v.1 d c.loop-k.k (view o.state))
    in
    (omega (arith, k), v.1 ++ added d c.loop-k.k (view o.state), count, n, running_next (record_count d) c.loop-k.k v.4)

-- after the last call all is made, or an arming is in progress
made-is : (c : goal.After-is_complete) {b : Bool} → c.is_complete.result ≡ b
    → (made_of c.args.plan c.args.list.now ≡ cond b (some c.loop-k.invariant.1) none)
made-is c e =
    let v = c.loop-k.invariant in
    ap (λ p. made_of p c.args.list.now) (sym c.fresh-s.ensures.plan')
    ∙ made_all ((let it : (Passed c.fresh-s.result.machine.plan c.args.ceilings.now c.args.list.now c.args.n) = subst (λ p. Passed p c.args.ceilings.now c.args.list.now c.args.n) (sym c.fresh-s.ensures.plan') c.requires in it)) v.3 c.loop-k-test.false ∙ ap (λ b. cond b (some v.1) none) (sym c.is_complete.ensures ∙ e)

pub returns-then-is_complete : goal.returns-then-is_complete
returns-then-is_complete c =
    let e = made-is (goal.at.returns-then-is_complete c).After-is_complete c.if-is_complete.true in
    ap (λ (n : ℕ). Some n) c.loop-k.invariant.2 ∙ sym (ap tally_of e)

pub returns-else-is_complete : goal.returns-else-is_complete
returns-else-is_complete c = sym (ap tally_of (made-is (goal.at.returns-else-is_complete c).After-is_complete c.if-is_complete.false))
