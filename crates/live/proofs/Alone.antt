-- A record alone, as a dump of five bytes: it is read as that record, and what is asked of it can be asked of the dump. And a Tick at which nothing
-- happens, which is not walked over.
use mathlib.Core.Path.{◌≡◌, refl, ap, sym, subst, ◌∙◌}
use mathlib.Core.Bool.{true, true≢false}
use Rattle.std.specs.Prelude.{Ok}
use mathlib.Core.List.{List, ◌∷◌}
use Prim.Native.Nat.{ℕ}
use native.Mathlib.Omega.{arith}
use lib.Dec.{T}
use Rattle.model.specs.Runs.{moved, step}
use Rattle.machine.specs.declared.state.State.{State}
use Rattle.machine.specs.View.{plan_of, view}
use Rattle.machine.specs.Kept.{kept}
use Rattle.machine.specs.Clauses.{Ceilings, later, still}
use Rattle.machine.proofs.Laws.{still_moves}
use Rattle.dump.specs.Layout.{operand_at, record_of, record_at, two_bytes}
use Rattle.dump.specs.Questions.{operand_fits}
use Rattle.walk.specs.Clauses.{Single, Advances}
use Rattle.live.specs.Clauses.{Asked}

abbrev pub alone : (kind operand : ℕ) → List ℕ
alone k n = 1 ∷ 0 ∷ k ∷ two_bytes n

operand_alone : (k n : ℕ) → operand_at (alone k n) 0 ≡ n
operand_alone k n = omega arith

pub record_alone : (k n : ℕ) → record_at (alone k n) 0 ≡ record_of k n
record_alone k n = ap (record_of k) (operand_alone k n)

pub alone_asked : {s : State} {k n : ℕ} → Asked s k n → {ceilings : List ℕ} → Ceilings s.machine ceilings → Single s ceilings (alone k n) 0
alone_asked {s} {k} {n} a c =
    let m = s.machine in
    record {
      formed' = a.formed';
      keeps = a.keeps;
      ceilings' = c;
      whole = record { count = omega arith; size = refl };
      within = omega arith;
      operand' = subst (λ (o : ℕ). T (operand_fits m.plan.threads m.plan.sections k o)) (sym (operand_alone k n)) a.operand';
      room = a.room;
    }

-- a Tick at which nothing happens moves the tick number alone
pub still_advances : {s : State} {k n : ℕ} → Asked s k n → k ≡ 7 → still s ≡ true → {s' : State} → s' ≡ later s → Advances s' (Ok tt) s (record_of k n)
still_advances {s} {k} {n} a q t {s'} e =
    record {
      outcome = ap (λ (x : State). moved (view x)) e ∙ sym (still_moves s a.formed' a.keeps (a.room q) t) ∙ ap (λ j. step (plan_of s.machine) (view s) (record_of j n)) (sym q);
      plan' = ap (λ (x : State). x.machine.plan) e;
      stays = λ d. absurd (true≢false d);
      keeps = subst (λ (x : State). T (kept x.machine)) (sym e) a.keeps;
    }
