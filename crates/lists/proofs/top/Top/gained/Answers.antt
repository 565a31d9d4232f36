-- `Top::gained` meets its contract: a ceiling below the one kept leaves the pair, any other makes the thread the owner.
use native.Mathlib.Omega.{arith}
use borrow.Author.Tests.{ne_eqb, lt-ltb, le-ltb}
use Rattle.keeping.specs.Top.{gained}
use Rattle.lists.proofs.top.Top.gained.Goals as goal

pub returns-then-ceiling-self : goal.returns-then-ceiling-self
unfolding gained
returns-then-ceiling-self c = rw (lt-ltb _ _ c.if-ceiling-self.true)

pub returns-else-ceiling-self : goal.returns-else-ceiling-self
unfolding gained
returns-else-ceiling-self c =
    let a = c.args in
    rw (ne_eqb a.thread 255 (λ e. omega arith), le-ltb a.ceiling a.self.ceiling (omega arith))
