-- `ceilings` meets its contract: a loop that counts one thread more for all sections in each turn.
use mathlib.Core.Path.{◌≡◌, ap, sym, ◌∙◌}
use mathlib.Core.Bool.{cond}
use mathlib.Core.List.{List, map}
use Prim.Native.Nat.{ℕ, ◌+◌, ◌≤◌, ◌<◌, max}
use native.Mathlib.Omega.{arith}
use lib.ListN.{length, get_or}
use lib.Seq.{ext_get_or}
use Rattle.model.specs.Searches.{up_to}
use Rattle.model.specs.Plan.{bit, ceiling}
use Rattle.plan.specs.declared.Plan.{Plan}
use Rattle.plan.specs.View.{base_in, may_take_in, view}
use Rattle.model.proofs.Loops.{TopLeft, raised, topped, listed, length-listed}
use Rattle.plan.proofs.ceilings.ceilings.Goals as goal

-- what a turn makes of the entry of one section
abbrev top : Plan → (t : ℕ) (tops : List ℕ) (section : ℕ) → ℕ
top p t tops s = cond (bit (get_or p.needs t 0) s) (max (get_or tops s 0) (get_or p.bases t 0)) (get_or tops s 0)

counted : (p : Plan) (t : ℕ) (tops next : List ℕ) → t < p.threads → next ≡ map (top p t tops) (up_to 16) → (s : ℕ) → s < 16
    → TopLeft (λ k. may_take_in p.threads p.needs k s) (base_in p.threads p.bases) p.threads t (get_or tops s 0)
    → TopLeft (λ k. may_take_in p.threads p.needs k s) (base_in p.threads p.bases) p.threads (t + 1) (get_or next s 0)
counted p t tops next h e s b inv =
    let n = p.threads in
    let f : get_or next s 0 ≡ cond (may_take_in n p.needs t s) (max (get_or tops s 0) (base_in n p.bases t)) (get_or tops s 0) =
    rw (listed (λ j. get_or p.bases j 0) n t 0 h, listed (λ j. get_or p.needs j 0) n t 0 h) (ap (λ l. get_or l s 0) e ∙ listed (top p t tops) 16 s 0 b) in
    raised (λ j. may_take_in n p.needs j s) (base_in n p.bases) n t (get_or tops s 0) (get_or next s 0) h f inv

-- behind the last thread it is the ceiling
found : (p : Plan) (t n s : ℕ) → p.threads ≤ t → TopLeft (λ k. may_take_in p.threads p.needs k s) (base_in p.threads p.bases) p.threads t n → n ≡ ceiling (view p) s
unfolding ceiling
found p t n s h inv =
    rw (length-listed (λ j. get_or p.bases j 0) p.threads) (topped (λ j. may_take_in p.threads p.needs j s) (base_in p.threads p.bases) p.threads t n h inv)

pub loop-t-preserved : goal.loop-t-preserved
loop-t-preserved c =
    let p = c.args.plan in
    let e = c.raised-next.ensures in
    (omega arith, ap length e ∙ length-listed (top p c.loop-t.t c.loop-t.all) 16, λ s h. counted p c.loop-t.t c.loop-t.all c.raised-next.result (omega arith) e s h (c.loop-t.invariant.2 s h))

pub returns : goal.returns
returns c =
    let p = c.args.plan in
    ext_get_or 0 c.loop-t.all (map (ceiling (view p)) (up_to 16)) (c.loop-t.invariant.1 ∙ sym (length-listed (ceiling (view p)) 16))
    (λ s h. let b : s < 16 = omega (arith, c.loop-t.invariant.1) in found p c.loop-t.t (get_or c.loop-t.all s 0) s (omega arith) (c.loop-t.invariant.2 s b) ∙ sym (listed (ceiling (view p)) 16 s 0 b))
