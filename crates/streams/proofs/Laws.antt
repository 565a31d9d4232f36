-- What other crates may cite of what both programs read and print.

-- decimal digits by those of a number's tenth
pub use Rattle.streams.proofs.Decimal.{decimal_by_tenth}
-- what is told of an input's plan and of all that is behind it, by where the plan ends
pub use Rattle.streams.proofs.Parts.{parted}
-- what a refusal alone tells is the same of an input and of what a buffer holds of it
pub use Rattle.streams.proofs.Cut.{cut_same}
-- and of what was read of an input whose bytes are known
pub use Rattle.streams.proofs.Reading.{read_same}
