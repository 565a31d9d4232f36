-- `write` meets its contract: after k calls their records stand at their places.
use mathlib.Core.Path.{◌≡◌, refl, ap, sym, subst, ◌∙◌}
use mathlib.Core.Bool.{true}
use mathlib.Core.List.{List, [], ◌++◌, map}
use Rattle.std.specs.Prelude.{is_ok}
use Prim.Native.Nat.{ℕ, ◌+◌, ◌/◌, ◌%◌, ◌≤◌, ◌<◌}
use native.Mathlib.Omega.{arith}
use lib.ListN.{length, get_or, set, length-set}
use Rattle.std.specs.Int.{w16, to_le_bytes}
use Rattle.model.specs.Records.{call, report}
use Rattle.machine.specs.View.{view}
use Rattle.machine.specs.Clauses.{Fresh}
use Rattle.dump.specs.Layout.{record_count, running_place}
use Rattle.dump.proofs.Laws.{running_place_lem, running_next}
use Rattle.kernel.specs.Answers.{records_of, bytes_for, at_front}
use Rattle.kernel.specs.Clauses.{Passed, made_of, AllFit}
use Rattle.kernel.proofs.Placing.{from_size, from_next, counted, all_placed_lem}
use Rattle.kernel.proofs.CallList.{call_at, list_whole, calls_few, call_kind_lem, call_operand_lem}
use Rattle.kernel.proofs.CallsMade.{added, added_count, made_begin, made_written, made_steps, made_admitted, made_within, made_formed, made_next}
use Rattle.kernel.proofs.write.write.Goals as goal
use Rattle.kernel.proofs.write.write.Goals.{After-put, After-put_reports-w, After-step-o, At-loop-k, Start}

-- N in its two bytes
head : (n : ℕ) (out bytes : List ℕ) → n < 65536 → bytes ≡ to_le_bytes w16 n → set (set out 0 (get_or bytes 0 0)) 1 (get_or bytes 1 0) ≡ counted n out
head n out bytes h e = let q : (n / 256) % 256 ≡ n / 256 = omega arith in rw (e, q)

pub bounds-out-0 : goal.bounds-out-0
bounds-out-0 c = omega (arith, c.requires.1.room)

pub bounds-out-1 : goal.bounds-out-1
bounds-out-1 c = simp length-set (omega (arith, c.requires.1.room))

pub first_operand-from-requires : goal.first_operand-from-requires
first_operand-from-requires c = calls_few c.requires.0

pub first_operand-to-requires : goal.first_operand-to-requires
first_operand-to-requires c = c.requires.1.few

pub loop-k-init : goal.loop-k-init
loop-k-init c =
    let f = c.fresh-s in (
      omega arith,
      [],
      refl,
      made_begin f.result.machine.plan c.args.list.now f.result (subst (Fresh f.result) (sym f.ensures.plan') f.ensures),
      head _ _ _ (omega (arith, c.requires.1.few)) c.to_le_bytes.ensures,
      c.first_operand-from.ensures ∙ ap (λ m. running_place m 0) c.requires.0.count,
      omega (arith, c.first_operand-to.ensures),
    )

-- what the run asks, of the plan that the first state carries
passed : (l : goal.At-loop-k) → (let a = l.args in Passed l.fresh-s.result.machine.plan a.ceilings.now a.list.now a.calls)
passed l =
    let a = l.args in
    subst (λ p. Passed p a.ceilings.now a.list.now a.calls) (sym l.fresh-s.ensures.plan') l.requires.0

space : (l : goal.At-loop-k) → (let a = l.args in AllFit (made_of l.fresh-s.result.machine.plan a.list.now) a.n a.out.now)
space l =
    let a = l.args in
    subst (λ p. AllFit (made_of p a.list.now) a.n a.out.now) (sym l.fresh-s.ensures.plan') l.requires.1

-- the output is as long as it was
size : (l : goal.At-loop-k) → length l.loop-k.out ≡ length l.args.out.now
size l =
    let a = l.args in
    let v = l.loop-k.invariant in
    ap length v.4 ∙ from_size v.1 0 (2 + a.n) (counted a.n a.out.now) ∙ simp length-set

pub entry_at-e-requires : goal.entry_at-e-requires
entry_at-e-requires c = let p = passed (goal.at.entry_at-e-requires c).At-loop-k in (list_whole p, omega (arith, c.loop-k-test.true, p.count), c.loop-k.invariant.5)

pub step-o-requires : goal.step-o-requires
step-o-requires c =
    (made_steps (passed (goal.at.step-o-requires c).At-loop-k) c.loop-k.invariant.3 c.loop-k-test.true, c.loop-k.invariant.5)

-- every call is admitted, so this one is
admitted : (c : goal.After-step-o) → is_ok c.step-o.result.rule ≡ true
admitted c =
    made_admitted ((let it : (let a = c.args in Passed c.fresh-s.result.machine.plan a.ceilings.now a.list.now a.calls) = let a = c.args in
    subst (λ p. Passed p a.ceilings.now a.list.now a.calls) (sym c.fresh-s.ensures.plan') c.requires.0 in it)) c.loop-k.invariant.3 c.loop-k-test.true c.step-o.result c.step-o.ensures ((let it : (let a = c.args in AllFit (made_of c.fresh-s.result.machine.plan a.list.now) a.n a.out.now) = let a = c.args in
    subst (λ p. AllFit (made_of p a.list.now) a.n a.out.now) (sym c.fresh-s.ensures.plan') c.requires.1 in it)).admitted

-- and there is room for it and its reports
fits : (c : goal.After-step-o) → (c.loop-k.i + 1 + length (view c.step-o.result.state).due ≤ c.args.n)
fits c =
    let w = made_within ((let it : (let a = c.args in Passed c.fresh-s.result.machine.plan a.ceilings.now a.list.now a.calls) = let a = c.args in
    subst (λ p. Passed p a.ceilings.now a.list.now a.calls) (sym c.fresh-s.ensures.plan') c.requires.0 in it)) c.loop-k.invariant.3 c.loop-k-test.true c.step-o.result c.step-o.ensures (admitted c) ((let it : (let a = c.args in AllFit (made_of c.fresh-s.result.machine.plan a.list.now) a.n a.out.now) = let a = c.args in
    subst (λ p. AllFit (made_of p a.list.now) a.n a.out.now) (sym c.fresh-s.ensures.plan') c.requires.1 in it)).admitted in
    omega (
      arith,
      w,
      ((let it : (let a = c.args in AllFit (made_of c.fresh-s.result.machine.plan a.list.now) a.n a.out.now) = let a = c.args in
          subst (λ p. AllFit (made_of p a.list.now) a.n a.out.now) (sym c.fresh-s.ensures.plan') c.requires.1 in it)).count,
      c.loop-k.invariant.2,
    )

pub put-requires : goal.put-requires
put-requires c =
    let v = c.loop-k.invariant in
    (omega (arith, fits (goal.at.put-requires c).After-step-o, size (goal.at.put-requires c).At-loop-k, (space (goal.at.put-requires c).At-loop-k).room), omega (arith, fits (goal.at.put-requires c).After-step-o, size (goal.at.put-requires c).At-loop-k, (space (goal.at.put-requires c).At-loop-k).room, v.2, v.6))

pub overflow_add-i : goal.overflow_add-i
overflow_add-i c =
    record { fits = omega (arith, fits (goal.at.overflow_add-i c).After-step-o, (space (goal.at.overflow_add-i c).At-loop-k).few) }

pub overflow_add-to : goal.overflow_add-to
overflow_add-to c =
    let v = c.loop-k.invariant in
    record { fits = omega (arith, fits (goal.at.overflow_add-to c).After-step-o, (space (goal.at.overflow_add-to c).At-loop-k).few, v.2, v.6) }

pub put_reports-w-requires : goal.put_reports-w-requires
put_reports-w-requires c =
    let v = c.loop-k.invariant in
    let room : bytes_for c.args.n ≤ length c.put.new.out = omega (arith, size (goal.at.put_reports-w-requires c).At-loop-k, (space (goal.at.put_reports-w-requires c).At-loop-k).room, c.put.auto.out) in
    record {
      formed' = made_formed (passed (goal.at.put_reports-w-requires c).At-loop-k) v.3 c.loop-k-test.true c.step-o.result c.step-o.ensures (admitted (goal.at.put_reports-w-requires c).After-step-o);
      kinds = omega (arith, fits (goal.at.put_reports-w-requires c).After-step-o, room);
      operands = omega (arith, fits (goal.at.put_reports-w-requires c).After-step-o, room, v.2, v.6);
    }

pub overflow_add-from : goal.overflow_add-from
overflow_add-from c =
    let p = passed (goal.at.overflow_add-from c).At-loop-k in
    record { fits = omega (arith, c.loop-k.invariant.5, running_place_lem (record_count c.args.list.now) c.loop-k.k, c.loop-k-test.true, p.count, (list_whole p).count) }

pub loop-k-preserved : goal.loop-k-preserved
loop-k-preserved c =
    let e = c.entry_at-e.ensures in
    let a = c.args in
    let v = c.loop-k.invariant in
    let h = c.loop-k-test.true in
    let o = c.step-o.result in
    let d = a.list.now in
    let k = c.loop-k.k in
    let after = view o.state in
    let more = added_count v.1 d k after in
    let count : c.put_reports-w.result.records ≡ length (v.1 ++ added d k after) = omega (arith, v.2, c.put_reports-w.ensures.records', more) in (
      omega (arith, h),
      v.1 ++ added d k after,
      count,
      made_next (passed (goal.at.loop-k-preserved c).At-loop-k) v.3 h o c.step-o.ensures (admitted (goal.at.loop-k-preserved c).After-step-o) c.put_reports-w.result.state c.put_reports-w.ensures.settles,
      from_next c.loop-k.i c.loop-k.to (2 + a.n) v.1 (map report after.due) (call (call_at d k)) c.entry_at-e.result.kind c.entry_at-e.result.operand
          (counted a.n a.out.now) c.loop-k.out c.put.new.out c.put_reports-w.new.out v.2 v.6 v.4
          (e.0 ∙ call_kind_lem (passed (goal.at.loop-k-preserved c).At-loop-k) k h) (e.1 ∙ call_operand_lem (passed (goal.at.loop-k-preserved c).At-loop-k) k h) c.put.ensures c.put_reports-w.ensures.bytes,
      running_next (record_count d) k v.5,
      omega (arith, v.6, c.put_reports-w.ensures.running', more),
    )

pub shape_of-out : goal.shape_of-out
shape_of-out c = size (goal.at.shape_of-out c).At-loop-k

pub returns : goal.returns
returns c =
    let a = c.args in
    let v = c.loop-k.invariant in
    let e = ap records_of (ap (λ p. made_of p a.list.now) (sym c.fresh-s.ensures.plan') ∙ made_written (passed (goal.at.returns c).At-loop-k) v.3 c.loop-k-test.false (space (goal.at.returns c).At-loop-k).admitted) in
    v.4 ∙ all_placed_lem a.n v.1 a.out.now (c.requires.1.count ∙ ap length e) c.requires.1.room ∙ ap (λ rs. at_front rs a.out.now) (sym e)
