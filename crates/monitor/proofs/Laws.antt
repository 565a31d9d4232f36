-- What other crates may cite of the watch.

-- demand 3, of bytes: where the whole check answers clean, and before a breach
pub use Rattle.monitor.proofs.Promised.{promise_of_bytes, promise_before}
-- the known runs as bytes
pub use Rattle.monitor.proofs.KnownBytes.{known_bytes, run_a_written, run_a_lem, run_p12}
-- what plan and dump tell that the whole check does not refuse, and what it then answers; its answer where a question refuses them
pub use Rattle.monitor.proofs.Passed.{Passed, passed, judged_passed, unrefused_judged, refused_check}
