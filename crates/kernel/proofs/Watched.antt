-- The bench kernel and the watch: what the one writes the other finds clean with nothing due, and every such dump is written so.
use mathlib.Core.Path.{◌≡◌}
use mathlib.Core.Bool.{false}
use mathlib.Core.List.{List, map}
use Prim.Native.Nat.{ℕ, ◌≤◌}
use lib.Dec.{T, ltb}
use lib.ListN.{length, take}
use Rattle.model.specs.Searches.{all}
use Rattle.model.specs.Records.{call}
use Rattle.model.specs.Runs.{clean}
use Rattle.model.specs.Bench.{calls_of, Complete, Rested}
use Rattle.plan.specs.Bytes.{plan_of}
use Rattle.dump.specs.Layout.{decode, encode}
use Rattle.monitor.specs.Answers.{judged, check}
use Rattle.monitor.proofs.Laws.{judged_passed, unrefused_judged}
use Rattle.kernel.specs.Answers.{wrote, bytes_for, answer, output}
use Rattle.kernel.proofs.Wrote.{wrote_all}
use Rattle.kernel.proofs.Dumped.{of_bytes}
use Rattle.kernel.proofs.Laws.{written_clean, written_passes, clean_written}

-- For every call list that it accepts, the watch finds what it wrote clean with none due.
pub watch_finds_clean : (plan list out : List ℕ) (n : ℕ) → answer plan list (length out) ≡ wrote n → check plan (take (bytes_for n) (output plan list out)) ≡ judged (clean n 0)
watch_finds_clean plan list out n e =
    unrefused_judged plan (take (bytes_for n) (output plan list out)) (clean n 0) (wrote_all plan list out n e).plan_yes (written_passes plan list out n e) (written_clean plan list out n e)

-- Every dump that the watch finds clean with none due, that does not end inside an arming, and in which every call comes with nothing due, is what the bench
-- kernel writes for that dump's own calls. (A Tick between a call and its reports is none of the bench kernel's.)
pub found_clean_is_written : (plan dump out : List ℕ) (n : ℕ) → T (all (λ b. ltb b 256) dump) → check plan dump ≡ judged (clean n 0) → Complete (plan_of plan) (decode dump) → Rested (plan_of plan) (decode dump) → length dump ≤ length out
    → (answer plan (encode (map call (calls_of (decode dump)))) (length out) ≡ wrote n) × (take (length dump) (output plan (encode (map call (calls_of (decode dump)))) out) ≡ dump)
found_clean_is_written plan dump out n b e c h r =
    let j = judged_passed plan dump (clean n 0) e in
    clean_written plan dump out n j.0.plan' b (of_bytes plan false dump j.0.dump') j.1 c h r
