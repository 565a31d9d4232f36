-- What other crates may cite.

-- the pair is the walk's result exactly if it fits; with one hold more it is found by one comparison
pub use Rattle.keeping.proofs.Walks.{fits_walk, walk_fits, gained_walk, walk_owner}
-- each record sets it to the walk's result, in every state, and each that moves the machine
pub use Rattle.keeping.proofs.Sets.{set_walk, set-moved}
