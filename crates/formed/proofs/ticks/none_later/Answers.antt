-- `none_later` meets its contract: a loop that asks whether all pass, without an early end.
use mathlib.Core.Path.{◌≡◌, refl, sym, ◌∙◌}
use mathlib.Core.Bool.{Bool, true, false, ◌&&◌}
use mathlib.Core.List.{map}
use Prim.Native.Nat.{ℕ, ◌+◌}
use lib.Dec.{leb}
use Rattle.model.specs.Searches.{all}
use Rattle.model.proofs.Loops.{left, turn}
use Rattle.clock.specs.View.{number_at}
use Rattle.formed.proofs.ticks.none_later.Goals as goal

and_and : (a b c : Bool) → (a && b) && c ≡ a && (b && c)
and_and true b c = refl
and_and false b c = refl

pub loop-t-preserved : goal.loop-t-preserved
loop-t-preserved g c =
    let f : ℕ → Bool = λ n. leb n c.args.greatest.0 in
    let tick : ℕ → ℕ = number_at c.args.ticks in
    and_and c.loop-t.pass (f (tick c.loop-t.t)) (all f (map tick (left (c.loop-t.t + 1) g.row.N)))
    ∙ sym (turn (λ l. c.loop-t.pass && all f (map tick l)) g.row.N c.loop-t.t c.loop-t-test.true)
    ∙ c.loop-t.invariant
