-- `names` meets its contract: a loop that asks whether the table, which counts the list, has every thread as often as its condition says.
use mathlib.Core.Path.{◌≡◌}
use mathlib.Core.Bool.{Bool, cond, ◌&&◌}
use mathlib.Core.List.{List, map}
use Prim.Native.Nat.{ℕ, ◌<◌}
use lib.Dec.{eqb, leb}
use Rattle.model.specs.Searches.{up_to}
use Rattle.model.specs.Formed.{times}
use Rattle.model.proofs.Loops.{AllLeft, listed}
use Rattle.lists.specs.Words.{nibble, entry_of}
use Rattle.formed.specs.Clauses.{names_by}
use Rattle.formed.proofs.standing.names.Given as goal

-- what the table says of a thread
abbrev pub names_in : (found : List ℕ) (least most state thread : ℕ) → Bool
names_in found a b s t = eqb (entry_of found t) (cond (leb a s && leb s b) 1 0)

-- it says it of the list
pub says : (l found : List ℕ) → found ≡ map (λ t. times (λ u. eqb u t) l) (up_to 16) → (a b s t : ℕ) → t < 16 → names_in found a b s t ≡ names_by l a b s t
says l found e a b s t h = rw (e, listed (λ t. times (λ u. eqb u t) l) 16 t 0 h)

-- whatever test agrees with the table on the threads: whether all that are left pass it is whether all do
abbrev pub invariant-loop-t : goal.invariant-loop-t
invariant-loop-t l =
    (f : ℕ → Bool) → ((u : ℕ) → u < l.threads → names_in l.found l.least l.most (nibble l.states u) u ≡ f u) → AllLeft f (λ u. u) l.threads l.t
