-- `beltcairn_begin` meets its contract: a refusal tells the number of its question and leaves the watch state, and without one the state is stored.
use mathlib.Core.Path.{◌≡◌, refl, ap, sym, ◌∙◌}
use mathlib.Core.Option.{Option, none, some, some-ne-none}
use Prim.Native.Nat.{ℕ}
use Rattle.plan.specs.Bytes.{refusal, question, number}
use Rattle.live.specs.Watching.{watched_unless, begin}
use Rattle.live.specs.Clauses.{seen, plan_refused}
use Rattle.exports.proofs.beltcairn_begin.Goals as goal

pub returns-in-Some : goal.returns-in-Some
returns-in-Some c =
    let a = c.args in
    let o : some (question c.in-Some.refusal) ≡ refusal a.plan.now = ap plan_refused (sym c.in-Some.is) ∙ c.begin-begun.ensures.answer in
    record {
      answer' = c.number.ensures ∙ ap number o;
      leaves = ap (λ (x : Option ℕ). watched_unless x (begin a.plan.now) (seen a.watch.now)) o;
      refused' = λ q e. refl;
    }

pub returns-in-None : goal.returns-in-None
returns-in-None c =
    let a = c.args in
    let o : none ≡ refusal a.plan.now = ap plan_refused (sym c.in-None.is) ∙ c.begin-begun.ensures.answer in
    record {
      answer' = ap number o;
      leaves = c.begin-begun.ensures.leaves ∙ ap (λ (x : Option ℕ). watched_unless x (begin a.plan.now) (seen a.watch.now)) o;
      refused' = λ q e. absurd (some-ne-none q (sym e ∙ sym o));
    }
