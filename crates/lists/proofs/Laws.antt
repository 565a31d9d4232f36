-- What other crates may cite of the lists.
use mathlib.Core.Path.{◌≡◌, ap}
use mathlib.Core.Logic.{inl, inr}
use mathlib.Core.List.Memᴰ.{cases_cons}
use mathlib.Core.List.{[], Memᴰ as Mem}
use Prim.Native.Nat.{ℕ, suc, ◌/◌, ◌<◌}
use native.Mathlib.Omega.{arith}
use lib.ListN.{length}
use Rattle.lists.specs.declared.queue.Queue.{Queue}
use Rattle.lists.specs.declared.holds.Holds.{Holds}
use Rattle.lists.specs.Words.{nibbles}
use Rattle.lists.specs.Lists.{queued, held}
use Rattle.lists.proofs.Holdings.{held-length}
use Rattle.lists.proofs.Queues.{length-nibbles}
-- what is left of a word has its first number in front, and at the end nothing is left
pub use Rattle.lists.proofs.Queues.{first, ended}
-- what is read of the word 0, of a word where a number was set, and elsewhere; words that read the same
pub use Rattle.lists.proofs.Words.{zero_nibble, read_set, read_other, same_word}
-- those that pass a test, of a list with one more at its end
pub use Rattle.lists.proofs.Queues.{filter-kept, filter_dropped}
-- a word has as many numbers that pass a test as are counted, at most
pub use Rattle.lists.proofs.Queues.{times_within}
-- numbers for threads, and back
pub use Rattle.lists.proofs.Numbered.{numbered-thread_of, thread_of-numbered, number_is, same_numbers}

-- a list has as many entries as its count says

pub length-queued : (q : Queue) → length (queued q) ≡ q.count
length-queued q = length-nibbles q.count q.items

pub queued_empty : (q : Queue) → q.count ≡ 0 → queued q ≡ []
queued_empty q e = ap (λ n. nibbles n q.items) e

pub length-held : (hs : Holds) → length (held hs) ≡ hs.count
length-held hs = held-length hs.count hs.sections hs.threads

-- every number of a word is below sixteen
pub nibbles_small : (n w t : ℕ) → Mem t (nibbles n w) → t < 16
nibbles_small Prim.Native.Nat.zero w t i = elim i [ ]
nibbles_small (suc n) w t i = elim (cases_cons i) [ inl e ↦ omega arith | inr j ↦ nibbles_small n (w / 16) t j ]
