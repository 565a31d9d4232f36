-- What holds of the definitions in specs/, each file on those above it. Open to other crates are Laws, which lists what they may cite, and the
-- general vocabulary below; the rest is this crate's own.

-- general vocabulary: tests as facts, searches over lists, loops that count
pub mod Tests
pub mod Searches
pub mod Loops
-- ceilings
mod Ceiling
-- the machine's invariant, and what follows from it in one state
mod Invariant
mod Nesting
-- every record keeps it
mod Agreement
mod Sleeping
mod Soundness
mod Performed
mod Kept
mod Reached
mod Operands
mod Timers
mod Bounds
mod Counting
mod Owed
mod Claims
mod Formed
mod Give
-- what one record changes
mod Turns
mod Holdings
mod Dues
mod Lent
mod Steps
-- whole lists of records
mod Numbered
mod Prefixes
mod Bench
-- demand 3: between records and machine, and the theorem
mod Trace
mod Belonging
mod ToRecords
mod ToMachine
mod Blocking
mod Activity
mod Theorem
mod Examples
pub mod Laws
