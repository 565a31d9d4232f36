-- `Reports::expired` meets its contract: after i turns the timers below i whose tick number this is and that are owed none are listed.
use mathlib.Core.Path.{◌≡◌, ap, sym, ◌∙◌}
use mathlib.Core.Bool.{Bool, true, false, not, ◌&&◌}
use mathlib.Core.List.{[], ◌∷◌, ◌++◌}
use Prim.Native.Nat.{◌+◌}
use native.Mathlib.Omega.{arith}
use lib.Dec.{eqb}
use lib.ListN.{length, length-append}
use Rattle.model.specs.Searches.{any, filter, up_to}
use Rattle.model.specs.Records.{timer_count, is_expire}
use Rattle.model.proofs.Loops.{up_to_more}
use Rattle.lists.specs.Lists.{queued}
use Rattle.lists.proofs.Laws.{length-queued, filter-kept, filter_dropped}
use Rattle.due.proofs.ReportKinds.{expires_of}
use Rattle.due.proofs.reports.Reports.expired.Invariants.{ends}
use Rattle.due.proofs.reports.Reports.expired.Goals as goal
use Rattle.due.proofs.reports.Reports.expired.Goals.{After-expires, At-loop-i, In-loop-i, else-expires, else-expires-via-else-expires, else-expires-via-then-expires+else-not-among, then-expires+then-not-among}

pub none-out-requires : goal.none-out-requires
none-out-requires c = tt

pub loop-i-init : goal.loop-i-init
loop-i-init c = (omega (arith, length-queued c.none-out.result, ap length c.none-out.ensures), c.none-out.ensures)

pub expires-requires : goal.expires-requires
expires-requires c = (c.loop-i-test.true, c.requires.0)

pub push-out-requires : goal.push-out-requires
push-out-requires c = (omega (arith, c.loop-i.invariant.0, c.loop-i-test.true), omega (arith, c.loop-i-test.true))

pub loop-i-preserved : goal.loop-i-preserved
loop-i-preserved c =
    let a = c.args in
    let v = c.loop-i.invariant in
    let h = c.loop-i-test.true in
    let f = ends a.self a.given a.timers a.number.0 in
    let due = c.due-due in
    let i = c.loop-i.i in
    let owed_is = λ (b : Bool) (e : b ≡ any (λ r. eqb r.kind 21 && eqb r.operand i) due.result.now). e ∙ expires_of i due.result.now ∙ ap (any (is_expire i)) due.ensures in
    elim c.if-expires.branch [
      | then-expires+then-not-among w ↦ let q : f c.loop-i.i ≡ true = rw (sym c.expires.ensures ∙ w.if-expires.true, ap not (sym (owed_is w.among.result w.among.ensures)) ∙ w.if-not-among.true-raw) in
          let n : w.push-out.result.count ≡ c.loop-i.out.count + 1 = sym (length-queued w.push-out.result) ∙ ap length w.push-out.ensures ∙ length-append (queued c.loop-i.out) (c.loop-i.i ∷ []) ∙ ap (λ m. m + 1) (length-queued c.loop-i.out) in
          rw w.out-is (omega (arith, n, v.0), w.push-out.ensures ∙ ap (λ l. l ++ (c.loop-i.i ∷ [])) v.1 ∙ sym (ap (filter f) (up_to_more c.loop-i.i) ∙ filter-kept f (up_to c.loop-i.i) c.loop-i.i q))
      | else-expires w ↦ let q : f c.loop-i.i ≡ false =
          elim w.else-expires.branch [ else-expires-via-then-expires+else-not-among u ↦ rw (sym c.expires.ensures ∙ u.if-expires.true, ap not (sym (owed_is u.among.result u.among.ensures)) ∙ u.if-not-among.false-raw) | else-expires-via-else-expires u ↦ rw (sym c.expires.ensures ∙ u.if-expires.false) ] in
          rw w.out-is (omega (arith, v.0), v.1 ∙ sym (ap (filter f) (up_to_more c.loop-i.i) ∙ filter_dropped f (up_to c.loop-i.i) c.loop-i.i q))
    ]

pub returns : goal.returns
returns c =
    let a = c.args in
    let z : c.loop-i.i ≡ timer_count = omega (arith, c.loop-i-test.false) in
    c.loop-i.invariant.1 ∙ ap (λ n. filter (ends a.self a.given a.timers a.number.0) (up_to n)) z
