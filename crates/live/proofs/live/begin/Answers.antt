-- `begin` meets its contract: the plan of bytes that nothing refuses, and no thread where something does.
use mathlib.Core.Path.{◌≡◌, refl, ap, ◌∙◌}
use mathlib.Core.Option.{Option}
use Prim.Native.Nat.{ℕ}
use Rattle.std.specs.Prelude.{Result, Ok, Err, IfOk}
use Rattle.std.specs.Result.{result_err, result_unwrap_or}
use Rattle.model.specs.Plan as model
use Rattle.plan.specs.declared.Plan.{Plan}
use Rattle.plan.specs.declared.bytes.Refusal.{Refusal}
use Rattle.plan.specs.Bytes as plans
use Rattle.plan.specs.View.{view, Made}
use Rattle.live.specs.Watching.{fresh, no_plan, plan_unless, begin}
use Rattle.live.specs.Clauses.{plan_refused}
use Rattle.live.proofs.live.begin.Goals as goal

-- what refuses the bytes is handed on
told : {o : Option ℕ} (r : Result Plan Refusal) → plans.refused r ≡ o → plan_refused (result_err r) ≡ o
told (Ok p) e = e
told (Err q) e = e

-- the plan that is carried
carried : {o : Option ℕ} (p : model.Plan) (instead : Plan) (r : Result Plan Refusal) → view instead ≡ no_plan → plans.refused r ≡ o → IfOk r (λ plan. Made plan p)
    → view (result_unwrap_or r instead) ≡ plan_unless o p
carried p instead (Ok q) n e m = m.seen ∙ ap (λ (x : Option ℕ). plan_unless x p) e
carried p instead (Err q) n e m = n ∙ ap (λ (x : Option ℕ). plan_unless x p) e

pub returns : goal.returns
unfolding begin
returns c =
    let e = c.parse-parsed.ensures in
    record {
      answer = ap plan_refused c.err.ensures.value ∙ told c.parse-parsed.result e.refusal;
      leaves = c.fresh.ensures ∙ ap (λ p. fresh (view p)) c.unwrap_or.ensures ∙ ap fresh (carried _ _ c.parse-parsed.result refl e.refusal e.plan);
    }
