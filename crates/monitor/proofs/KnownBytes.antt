-- The known runs once more, as bytes: the whole check answers what the documents say.
use mathlib.Core.Path.{◌≡◌, refl, ap}
use mathlib.Core.Bool.{◌&&◌}
use mathlib.Core.List.Memᴰ.{head as here}
use mathlib.Core.List.Memᴰ.{tail as there}
use mathlib.Core.List.{List, [], ◌∷◌, map, Memᴰ as Mem}
use mathlib.Core.Option.{none}
use Prim.Native.Nat.{◌≤◌}
use native.Mathlib.Omega.{arith}
use lib.Dec.{T, leb, leb→le}
use lib.ListN.{length}
use Rattle.model.specs.Searches.{all}
use Rattle.model.specs.Plan.{valid_plan}
use Rattle.model.specs.Records.{allowed}
use Rattle.model.specs.Runs.{clean, judge}
use Rattle.model.specs.Known.{plan_a, run_a, Run, runs, Judged, known_runs, known_runs_allowed}
use Rattle.model.proofs.Tests.{and_left, and_right}
use Rattle.model.proofs.Searches.{all_at}
use Rattle.model.proofs.Laws.{counts_fit}
use Rattle.plan.specs.Bytes as plans
use Rattle.plan.specs.Known.{plan_bytes, plan_a_bytes, plan12_bytes}
use Rattle.plan.proofs.Laws.{known_plans}
use Rattle.dump.specs.Layout.{encode}
use Rattle.dump.specs.Questions.{most_records}
use Rattle.dump.proofs.Laws.{encode_passes, decode_encode}
use Rattle.monitor.specs.Answers.{judged, check}
use Rattle.monitor.specs.Known.{dump_a_bytes, dump12_bytes}
use Rattle.monitor.proofs.Passed.{unrefused_judged}

-- lists made of a list are equal exactly where what is made of each member is
module _ {A B : Type 0} (f g : A → B) where
  made_at : (l : List A) → map f l ≡ map g l → {a : A} → Mem a l → f a ≡ g a
  made_at [] e {a = a} x'' = elim x'' [ ]
  made_at (b ∷ l) e {a} (here q) = rw q (cc)
  made_at (b ∷ l) e {a} (there m) = made_at l (cc) m

  made_all : (l : List A) → ((a : A) → Mem a l → f a ≡ g a) → map f l ≡ map g l
  made_all [] h = refl
  made_all (a ∷ l) h = rw (h a (here refl), made_all l (λ b m. h b (there m)))

-- a known run fits a dump
short : T (all (λ (r : Run). leb (length r.records) most_records) runs)
short = tt

module _ (r : Run) (m : Mem r runs) where
  passes : T (valid_plan r.of && all (allowed r.of) r.records)
  passes = all_at (λ (x : Run). valid_plan x.of && all (allowed x.of) x.records) runs known_runs_allowed m

  plan_passes : plans.refusal (plan_bytes r.of) ≡ none
  plan_passes = made_at (λ (x : Run). plans.refusal (plan_bytes x.of)) (λ (x : Run). none) runs known_plans.0 m

  plan_read : plans.plan_of (plan_bytes r.of) ≡ r.of
  plan_read = made_at (λ (x : Run). plans.plan_of (plan_bytes x.of)) (λ (x : Run). x.of) runs known_plans.1 m

  verdict' : judge r.of r.records ≡ r.verdict
  verdict' =
      let same : ◌≡◌ {A = Judged} (record { label = r.label; verdict = judge r.of r.records }) (record { label = r.label; verdict = r.verdict })
      = made_at (λ (x : Run). record { label = x.label; verdict = judge x.of x.records }) (λ (x : Run). record { label = x.label; verdict = x.verdict }) runs known_runs m in
      ap (λ (j : Judged). j.verdict) same

  answers : check (plan_bytes r.of) (encode r.records) ≡ judged r.verdict
  answers =
      let counts = counts_fit r.of (and_left (valid_plan r.of) (all (allowed r.of) r.records) passes) in
      let few : length r.records ≤ most_records = leb→le (length r.records) most_records (all_at (λ (x : Run). leb (length x.records) most_records) runs short m) in
      let allowed' = and_right (valid_plan r.of) (all (allowed r.of) r.records) passes in
      unrefused_judged (plan_bytes r.of) (encode r.records) r.verdict plan_passes
      (encode_passes r.of (omega arith) (omega arith) r.records few allowed')
      (rw (plan_read, decode_encode r.of (omega arith) (omega arith) r.records (omega arith) allowed') verdict')

-- Of every known run, written as bytes, the answer is the verdict that the documents give it.
pub known_bytes : map (λ (r : Run). check (plan_bytes r.of) (encode r.records)) runs ≡ map (λ (r : Run). judged r.verdict) runs
known_bytes = made_all (λ (r : Run). check (plan_bytes r.of) (encode r.records)) (λ (r : Run). judged r.verdict) runs answers

-- The bytes that document 01 prints for run A are those of model's run A.
pub run_a_written : (plan_bytes plan_a ≡ plan_a_bytes) × (encode run_a ≡ dump_a_bytes)
run_a_written = (refl, refl)

pub run_a_lem : check plan_a_bytes dump_a_bytes ≡ judged (clean 17 0)
run_a_lem = answers _ (here refl)

-- P12, whose Delay shows which byte comes first
pub run_p12 : check plan12_bytes dump12_bytes ≡ judged (clean 264 0)
run_p12 = answers _ (there (there (there (there (there (there (there (there (there (there (there (there (here refl)))))))))))))
