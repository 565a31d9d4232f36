-- `first` meets its contract: the one of the array where there is one left, else the Switch.
use borrow.Author.Tests.{lt-ltb, le-ltb}
use native.Mathlib.Omega.{arith}
use Rattle.machine.proofs.reporting.Reporting.first.Goals as goal

pub switch-first-requires : goal.switch-first-requires
switch-first-requires c = tt

pub offset_bounds-all-given : goal.offset_bounds-all-given
offset_bounds-all-given c = record { fits = omega (arith, c.requires c.if-given-self.true) }

pub bounds-all-given : goal.bounds-all-given
bounds-all-given c = c.requires c.if-given-self.true

pub returns-then-given-self : goal.returns-then-given-self
returns-then-given-self c = let s = c.args.self in rw (lt-ltb s.given s.count c.if-given-self.true)

pub returns-else-given-self : goal.returns-else-given-self
returns-else-given-self c = let s = c.args.self in rw (le-ltb s.given s.count c.if-given-self.false, c.switch-first.ensures)
