-- Question 11 refuses nothing where the lent output has room for the greatest number of records.
use mathlib.Core.Path.{◌≡◌, refl}
use mathlib.Core.Bool.{Bool, true, false, cond}
use mathlib.Core.List.{List}
use mathlib.Core.Option.{Option, none, some}
use Prim.Native.Nat.{ℕ, ◌≤◌}
use native.Mathlib.Omega.{arith}
use borrow.Author.Tests.{leb-true, leb-false}
use lib.Dec.{leb}
use lib.ListN.{length}
use Rattle.model.specs.Records.{Record}
use Rattle.model.specs.Rules.{first_no}
use Rattle.plan.specs.Bytes as plans
use Rattle.plan.specs.Bytes.{thread_count, section_count}
use Rattle.plan.proofs.Laws as plan-laws
use Rattle.dump.specs.Questions as dumps
use Rattle.dump.specs.Questions.{most_records}
use Rattle.dump.proofs.Laws as dump-laws
use Rattle.kernel.specs.Answers.{refused, made, is_made, records_of, bytes_for, questions, or_else, refusal, answer_with, answer}

module _ (space : ℕ) (room : bytes_for most_records ≤ space) where
  -- where 10 has the answer Yes, so has 11
  fits : (rs : Option (List Record)) → first_no (questions rs space) ≡ some 11 → ⊥
  fits rs e = go (is_made rs) (leb n most_records) (leb (bytes_for n) space) refl refl e
    where
      n : ℕ
      n = length (records_of rs)

      go : (a b c : Bool) → leb n most_records ≡ b → leb (bytes_for n) space ≡ c → cond {A = Option ℕ} a (cond b (cond c none (some 11)) (some 10)) (some 9) ≡ some 11 → ⊥
      go true true true p q e = let z : ◌≡◌ {A = ℕ} 0 1 = cc in omega arith
      go true true false p q e = omega (arith, leb-true n most_records p, leb-false (bytes_for n) space q)
      go true false c p q e = let z : ◌≡◌ {A = ℕ} 10 11 = cc in omega arith
      go false b c p q e = let z : ◌≡◌ {A = ℕ} 9 11 = cc in omega arith

  module _ (plan list : List ℕ) where
    not_eleventh : (a b c : Option ℕ) → plans.refusal plan ≡ a → dumps.refusal (thread_count plan) (section_count plan) true list ≡ b → first_no (questions (made plan list) space) ≡ c
        → answer_with (or_else a (or_else b c)) (length (records_of (made plan list))) ≡ refused 11 → ⊥
    not_eleventh (some q) b c d e f r = let same : q ≡ 11 = cc in omega (arith, plan-laws.refusal_within plan q d)
    not_eleventh none (some q) c d e f r = let same : q ≡ 11 = cc in omega (arith, dump-laws.refusal_within _ _ true list q e)
    not_eleventh none none (some q) d e f r = let same : q ≡ 11 = cc in fits (made plan list) (cc)
    not_eleventh none none none d e f r = let z : ◌≡◌ {A = ℕ} 0 1 = cc in omega arith

    pub enough_space : answer plan list space ≡ refused 11 → ⊥
    unfolding answer refusal
    enough_space e = not_eleventh (plans.refusal plan) _ _ refl refl refl e
