-- What other crates may cite of a walk.

-- a step moves as the model's does, or answers its rule
pub use Rattle.walk.proofs.Singles.{answers_moved, answers_broke}
