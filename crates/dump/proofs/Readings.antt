-- Which record of the machine a kind and an operand are read as: a report for kinds from 16 on, a call below.
use mathlib.Core.Path.{◌≡◌, refl, sym, subst}
use mathlib.Core.Logic.{◌⊎◌, inl, inr}
use mathlib.Core.Bool.{true, false, not}
use Prim.Native.Nat.{ℕ, ◌%◌, ◌≤◌, ◌<◌}
use native.Mathlib.Omega.{arith}
use native.Mathlib.Nat.{mod-eq_of_lt}
use lib.Dec.{T, ltb, ltb→lt, nltb→le}
use Rattle.model.specs.Records as model
use Rattle.model.proofs.Tests.{split, is_false}
use Rattle.machine.specs.Records.{Named}
use Rattle.machine.specs.declared.record.Record.TheVariants.{Report}
use Rattle.dump.specs.Layout.{record_of}
use Rattle.dump.specs.Questions.{is_call, kind_allowed, operand_fits}
use Rattle.dump.specs.Reading.{Reads}
use Rattle.dump.proofs.Codec.{fits_kind, each_call, each_kind}

-- an operand below 16 is its own low byte
pub low : (n : ℕ) → T (ltb n 16) → n % 256 ≡ n
low n t = mod-eq_of_lt (omega (arith, ltb→lt n 16 t))

-- a report has its kind and its operand
module _ (n : ℕ) where
  called : {A : Type 0} → true ≡ false → A
  called e = absurd (subst T e tt)

  abbrev Fits : ℕ → Type 0
  Fits k = is_call k ≡ false → Reads (Report (record { kind = k; spare = 0; operand = n })) k n

  pub reports : (k : ℕ) → T (kind_allowed false k) → Fits k
  reports k t =
      each_kind Fits
      called called called called called called called called called called called
      (λ c. record { same = refl; kind' = record { least = omega arith; most = omega arith } })
      (λ c. record { same = refl; kind' = record { least = omega arith; most = omega arith } })
      (λ c. record { same = refl; kind' = record { least = omega arith; most = omega arith } })
      (λ c. record { same = refl; kind' = record { least = omega arith; most = omega arith } })
      (λ c. record { same = refl; kind' = record { least = omega arith; most = omega arith } })
      (λ c. record { same = refl; kind' = record { least = omega arith; most = omega arith } })
      (λ c. record { same = refl; kind' = record { least = omega arith; most = omega arith } })
      k t

-- the call of a kind below 16, with an operand
abbrev CallOf : (n k : ℕ) → Type 0
CallOf n k = (c : model.Call) × (record_of k n ≡ model.call c) × (model.call_kind c ≡ k)

module _ (k n : ℕ) (t : T (operand_fits 16 16 k n)) where
  -- a kind from 16 on is a report's
  report_reads : 16 ≤ k → Reads (Report (record { kind = k; spare = 0; operand = n })) k n
  report_reads h = reports n k (fits_kind 16 16 k n t) (go (split (is_call k)))
    where
      past : (j : ℕ) → T (is_call j) → 16 ≤ j → ⊥
      past j c =
          each_call (λ i. 16 ≤ i → ⊥)
          (λ i. omega arith) (λ i. omega arith) (λ i. omega arith) (λ i. omega arith) (λ i. omega arith) (λ i. omega arith) (λ i. omega arith)
          (λ i. omega arith) (λ i. omega arith) (λ i. omega arith) (λ i. omega arith)
          j c

      go : T (is_call k) ⊎ T (not (is_call k)) → is_call k ≡ false
      go (inl c) = absurd (past k c h)
      go (inr c) = is_false (is_call k) c

  -- one below is a call's
  call_reads : k < 16 → CallOf n k
  call_reads h =
      each_kind (λ j. j < 16 → CallOf n j)
      (λ i. (model.Create n, refl, refl))
      (λ i. (model.Delay n, refl, refl))
      (λ i. (model.Relinquish, refl, refl))
      (λ i. (model.End, refl, refl))
      (λ i. (model.Take n, refl, refl))
      (λ i. (model.Give n, refl, refl))
      (λ i. (model.Tick, refl, refl))
      (λ i. (model.Timing (model.Arm n), refl, refl))
      (λ i. (model.Timing (model.Start n), refl, refl))
      (λ i. (model.Timing (model.Period n), refl, refl))
      (λ i. (model.Timing (model.Cancel n), refl, refl))
      (λ i. absurd (omega arith)) (λ i. absurd (omega arith)) (λ i. absurd (omega arith)) (λ i. absurd (omega arith)) (λ i. absurd (omega arith)) (λ i. absurd (omega arith)) (λ i. absurd (omega arith))
      k (fits_kind 16 16 k n t) h

  pub names : Named k n (record_of k n)
  names = go (split (ltb k 16))
    where
      go : T (ltb k 16) ⊎ T (not (ltb k 16)) → Named k n (record_of k n)
      go (inl b) = inl (call_reads (ltb→lt k 16 b))
      go (inr b) = let r = report_reads (nltb→le k 16 b) in inr (r.kind', sym r.same)
