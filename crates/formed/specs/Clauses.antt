-- What question 12 asks of the parts of a machine, one after another; the question itself is model's Formed.
use Rattle.std.specs.Prelude.{◌≡◌, Bool, true, cond, ◌&&◌, List, ℕ, ◌≤◌, eqb, leb, ltb}
use Rattle.model.specs.Searches.{all, up_to}
use Rattle.model.specs.Formed.{times}
use Rattle.plan.specs.View.{Fits}
use Rattle.lists.specs.Words.{nibble}
use Rattle.lists.specs.Lists.{queued}
use Rattle.machine.specs.declared.Machine.{Machine}
use Rattle.machine.specs.Clauses.{Counts}

-- a list names a thread once if the number of its condition is one of these, and else not at all
abbrev pub names_by : (list : List ℕ) (least most state thread : ℕ) → Bool
names_by l a b s t = eqb (times (λ u. eqb u t) l) (cond (leb a s && leb s b) 1 0)

-- so it does with each of so many threads
abbrev pub names_those : (threads states : ℕ) (list : List ℕ) (least most : ℕ) → Bool
names_those n states l a b = all (λ t. names_by l a b (nibble states t) t) (up_to n)

-- a thread of this condition's number stands once in the queue if it is ready (1), in the waits if it waits (3, or no condition's number), in the order
-- of Delays if it sleeps (2), and nowhere else
abbrev pub stands_by : (queue waits delays : List ℕ) (state thread : ℕ) → Bool
stands_by q ws ds s t = names_by q 1 1 s t && names_by ws 3 15 s t && names_by ds 2 2 s t

-- all sixteen do so, those past the last thread too, and every number is that of a condition
abbrev pub all_stand : (states : ℕ) (queue waits delays : List ℕ) → Bool
all_stand states q ws ds = all (λ t. leb (nibble states t) 3 && stands_by q ws ds (nibble states t) t) (up_to 16)

-- so does each of so many threads, list by list
abbrev pub standing : (threads states : ℕ) (queue waits delays : List ℕ) → Bool
standing n states q ws ds = names_those n states q 1 1 && names_those n states ws 3 15 && names_those n states ds 2 2

-- the counts of a machine are within their arrays and words
pub record Counted (m : Machine) : Type 0 where
  pub fits : Fits m.plan
  pub counts : Counts m.queue m.holds m.waits
  pub delays' : m.delays.count ≤ 16

-- each thread stands where its condition says
abbrev pub Stood : Machine → Type 0
Stood m = standing m.plan.threads m.slots.states (queued m.queue) (queued m.waits) (queued m.delays) ≡ true

-- no thread waits, and every number names a condition
abbrev pub Calm : (states threads : ℕ) → Type 0
Calm states n = all (λ t. ltb (nibble states t) 3) (up_to n) ≡ true
