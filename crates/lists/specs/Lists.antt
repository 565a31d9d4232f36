-- The lists of the model that the code's packed words stand for.
use Rattle.std.specs.Prelude.{cond, ℕ, zero, suc, ◌/◌, ◌%◌, ◌<◌, max, eqb, get_or}
use mathlib.Core.List.{List, [], ◌∷◌, Memᴰ as Mem}
use Rattle.std.proofs.Math.Option.{Option, none, some}
use Rattle.model.specs.State as state
use Rattle.keeping.specs.Top as keeping
use Rattle.lists.specs.declared.queue.Queue.{Queue}
use Rattle.lists.specs.declared.top.Top.{Top}
use Rattle.lists.specs.declared.holds.Hold.{Hold}
use Rattle.lists.specs.declared.holds.Holds.{Holds}
use Rattle.lists.specs.Words.{nibbles, entry_of}

-- nobody is 255

abbrev pub numbered : Option ℕ → ℕ
numbered none = 255
numbered (some t) = t

abbrev pub thread_of : ℕ → Option ℕ
thread_of n = cond (eqb n 255) none (some n)

abbrev pub queued : Queue → List ℕ
queued q = nibbles q.count q.items

-- a section and the thread that holds it
abbrev pub hold_of : Hold → state.Hold
hold_of h = state.hold h.section h.thread

-- the first numbers of two words, as sections and the threads that hold them
abbrev pub held_in : (count sections threads : ℕ) → List state.Hold
held_in zero ss ts = []
held_in (suc n) ss ts = state.hold (ss % 16) (ts % 16) ∷ held_in n (ss / 16) (ts / 16)

abbrev pub held : Holds → List state.Hold
held hs = held_in hs.count hs.sections hs.threads

-- the owner with its ceiling
abbrev pub top_of : Top → keeping.Top
top_of k = record { owner = thread_of k.owner; ceiling = k.ceiling }

-- the ceiling of a held section, from the ceilings of all sections
abbrev pub ceiling_in : (ceilings : List ℕ) → state.Hold → ℕ
ceiling_in ceilings h = get_or ceilings h.section 0

-- the current priority of a thread, from the bases, the owner's number and the greatest base among the waits
abbrev pub current_in : (base : ℕ → ℕ) (owner urgency thread : ℕ) → ℕ
current_in base owner urgency t = cond (eqb owner t) (max (base t) urgency) (base t)

-- each of these threads has a base above 0 in the table
pub record Positive (bases threads : List ℕ) : Type 0 where
  pub at : (t : ℕ) → Mem t threads → 0 < entry_of bases t
