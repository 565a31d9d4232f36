-- `judged` meets its contract: the record is walked over with the ceilings of the state's plan.
use mathlib.Core.Path.{◌≡◌, subst}
use mathlib.Core.List.{List, [], ◌∷◌}
use Prim.Native.Nat.{ℕ, ◌/◌, ◌%◌, ◌<◌}
use lib.ListN.{get_or}
use Rattle.std.specs.Int.{w16, to_le_bytes}
use native.Mathlib.Omega.{arith}
use Rattle.plan.proofs.Laws.{valid_fits}
use Rattle.machine.proofs.Laws.{formed_facts}
use Rattle.dump.specs.Layout.{record_at}
use Rattle.walk.specs.Clauses.{Advances}
use Rattle.live.proofs.Alone.{alone, record_alone, alone_asked}
use Rattle.live.proofs.live.judged.Goals as goal
use Rattle.live.proofs.live.judged.Goals.{After-ceilings-all, Start}

pub ceilings-all-requires : goal.ceilings-all-requires
ceilings-all-requires c = valid_fits _ (formed_facts c.args.state c.requires.formed').standing.valid

pub first_operand-requires : goal.first_operand-requires
first_operand-requires c = omega arith

-- the operand in its two bytes
same : (k n : ℕ) (bytes : List ℕ) → n < 65536 → bytes ≡ to_le_bytes w16 n → 1 ∷ 0 ∷ k ∷ get_or bytes 0 0 ∷ get_or bytes 1 0 ∷ [] ≡ alone k n
same k n bytes h e = let q : (n / 256) % 256 ≡ n / 256 = omega arith in rw (e, q)

pub step-requires : goal.step-requires
step-requires c =
    rw (same c.args.kind c.args.operand c.to_le_bytes.result (omega arith) c.to_le_bytes.ensures) (alone_asked c.requires c.ceilings-all.ensures, c.first_operand.ensures)

pub returns : goal.returns
returns c =
    let a = c.args in
    subst (λ x. Advances c.step.result.state c.step.result.rule a.state x) (record_alone a.kind a.operand)
    (subst (λ l. Advances c.step.result.state c.step.result.rule a.state (record_at l 0)) (same a.kind a.operand c.to_le_bytes.result (omega arith) c.to_le_bytes.ensures) c.step.ensures)
