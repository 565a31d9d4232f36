-- `names` meets its contract: a loop that asks whether the table, which counts the list, has every thread as often as its condition says.
use mathlib.Core.Path.{◌≡◌, refl, ap, sym, ◌∙◌}
use mathlib.Core.Bool.{Bool, true, false, cond}
use mathlib.Core.List.{List, map, map-id}
use Prim.Native.Nat.{ℕ, ◌<◌}
use native.Mathlib.Omega.{arith}
use borrow.Author.Tests.{eq-eqb, ne_eqb}
use lib.Dec.{eqb}
use mir.Val.{bool_byte}
use Rattle.model.specs.Searches.{all, up_to}
use Rattle.model.proofs.Loops.{all_begin, passed, failed, all_passed}
use Rattle.lists.specs.Words.{nibble, entry_of}
use Rattle.lists.specs.Lists.{queued}
use Rattle.formed.specs.Clauses.{names_by, names_those}
use Rattle.formed.proofs.standing.names.Invariants.{names_in, says}
use Rattle.formed.proofs.standing.names.Goals as goal
use Rattle.formed.proofs.standing.names.Goals.{After-from, At-loop-t}

pub loop-t-init : goal.loop-t-init
loop-t-init c = λ f e. all_begin f (λ u. u) c.args.threads

-- the table, as it stands at the head of the loop
module _ (k : goal.At-loop-t) where
  abbrev found : List ℕ
  found = k.tally.new.found

-- the naming in the list is such a test
answers : (k : goal.At-loop-t) (b : Bool)
    → let a = k.args in
    ((f : ℕ → Bool) → ((u : ℕ) → u < a.threads → names_in (found k) a.least a.most (nibble a.states u) u ≡ f u) → b ≡ all f (map (λ u. u) (up_to a.threads)))
    → b ≡ names_those a.threads a.states (queued a.list) a.least a.most
answers k b g =
    let a = k.args in
    let f : ℕ → Bool = λ t. names_by (queued a.list) a.least a.most (nibble a.states t) t in
    g f (λ u h. says (queued a.list) (found k) k.tally.ensures a.least a.most (nibble a.states u) u (omega (arith, k.requires.0))) ∙ ap (all f) (map-id (up_to a.threads))

byte_of : (b : Bool) → cond b 1 0 ≡ bool_byte b
byte_of true = refl
byte_of false = refl

-- what the table says of the thread whose turn it is
told : (c : goal.After-from)
    → let a = c.args in
    names_in (found c.before.before.before.before) a.least a.most (nibble a.states c.loop-t.t) c.loop-t.t ≡ eqb (entry_of (found c.before.before.before.before) c.loop-t.t) c.from.result
told c = rw (← c.nibble_at-state.ensures, ← c.named.ensures) (ap (eqb (entry_of (found c.before.before.before.before) c.loop-t.t)) (byte_of c.named.result ∙ sym c.from.ensures))

pub returns-then-found-t : goal.returns-then-found-t
returns-then-found-t c =
    let a = c.args in
    answers (goal.at.returns-then-found-t c).At-loop-t false (λ f e.
    failed f (λ u. u) a.threads c.loop-t.t (omega arith) (c.loop-t.invariant f e)
    (sym (e c.loop-t.t (omega arith)) ∙ told (goal.at.returns-then-found-t c).After-from ∙ ne_eqb (entry_of (found (goal.at.returns-then-found-t c).At-loop-t) c.loop-t.t) c.from.result c.if-found-t.true))

pub loop-t-preserved : goal.loop-t-preserved
loop-t-preserved c =
    let a = c.args in
    λ f e.
    passed f (λ u. u) a.threads c.loop-t.t (omega arith) (c.loop-t.invariant f e)
    (sym (e c.loop-t.t (omega arith)) ∙ told (goal.at.loop-t-preserved c).After-from ∙ eq-eqb (entry_of (found (goal.at.loop-t-preserved c).At-loop-t) c.loop-t.t) c.from.result c.if-found-t.false)

pub returns : goal.returns
returns c =
    answers (goal.at.returns c).At-loop-t true (λ f e. all_passed f (λ u. u) c.args.threads c.loop-t.t (omega arith) (c.loop-t.invariant f e))
