-- An input that goes on behind the longest plan and the longest dump is refused, wherever it is cut behind them, and by the same question:
-- by what its first bytes say, or because what is behind the plan is too long for any N.
use mathlib.Core.Path.{◌≡◌, refl, ap, ap₂, sym, ◌∙◌}
use mathlib.Core.Logic.{◌⊎◌, inl, inr}
use mathlib.Core.Bool.{Bool, not}
use mathlib.Core.List.{List}
use mathlib.Core.Option.{Option, none, some}
use Prim.Native.Nat.{ℕ, ◌+◌, ◌*◌, ◌≤◌, ◌<◌}
use native.Mathlib.Omega.{arith}
use lib.Dec.{T, leb, leb→le, nleb→lt}
use lib.ListN.{length, take, length-drop}
use lib.Seq.{length-take-le, take_all, take-take, get_or-take, get_or-drop}
use Rattle.model.proofs.Tests.{split}
use Rattle.plan.specs.Bytes as plans
use Rattle.plan.specs.Words.{byte}
use Rattle.plan.specs.Bytes.{thread_count, plan_length}
use Rattle.plan.proofs.Laws.{many_threads}
use Rattle.dump.specs.Layout.{record_count}
use Rattle.dump.proofs.Laws.{Refused, by_plan, by_list, too_long, too_long_lem}
use Rattle.streams.specs.Input.{plan_in, behind_plan}

module _ (calls_only : Bool) (size : ℕ) (input : List ℕ) (enough : 60053 ≤ size) (long : size ≤ length input) where
  cut : List ℕ
  cut = take size input

  same_byte : (i : ℕ) → i < size → byte cut i ≡ byte input i
  unfolding cut
  same_byte i h = get_or-take size input i 0 h

  cut_length : length cut ≡ size
  unfolding cut
  cut_length = length-take-le size input long

  -- with at most 16 threads the plan ends within the cut
  module _ (few : thread_count input ≤ 16) where
    same_end : plan_length cut ≡ plan_length input
    same_end = omega (arith, cut_length, same_byte 0 (omega arith))

    same_plan : plan_in cut ≡ plan_in input
    unfolding cut
    same_plan = ap (λ n. take n cut) same_end ∙ take-take (plan_length input) size input (omega arith)

    byte_behind : (i : ℕ) → i < 2 → byte (behind_plan cut) i ≡ byte (behind_plan input) i
    byte_behind i h =
        get_or-drop (plan_length cut) cut i 0 ∙ ap (λ n. byte cut (n + i)) same_end
        ∙ same_byte (plan_length input + i) (omega arith)
        ∙ sym (get_or-drop (plan_length input) input i 0)

    same_count : record_count (behind_plan cut) ≡ record_count (behind_plan input)
    same_count = ap₂ {C = ℕ} (λ a b. a + 256 * b) (byte_behind 0 (omega arith)) (byte_behind 1 (omega arith))

    long_behind : 60002 < length (behind_plan input)
    long_behind = omega (arith, length-drop (plan_length input) input)

    long_behind_cut : 60002 < length (behind_plan cut)
    long_behind_cut = omega (arith, length-drop (plan_length cut) cut, same_end, cut_length)

    few_refused : (o : Option ℕ) → plans.refusal (plan_in input) ≡ o → (q : ℕ) × Refused calls_only (plan_in cut) (behind_plan cut) q × Refused calls_only (plan_in input) (behind_plan input) q
    few_refused none e = (
      too_long (record_count (behind_plan input)),
      by_list (ap plans.refusal same_plan ∙ e) (too_long_lem _ _ calls_only (behind_plan cut) long_behind_cut ∙ ap (λ n. some (too_long n)) same_count),
      by_list e (too_long_lem _ _ calls_only (behind_plan input) long_behind),
    )
    few_refused (some q) e = (q, by_plan (ap plans.refusal same_plan ∙ e), by_plan e)

  -- the first byte is the plan's first byte
  first_kept : (whole : List ℕ) → 1 ≤ length whole → thread_count (plan_in whole) ≡ thread_count whole
  first_kept whole h = get_or-take (plan_length whole) whole 0 0 (omega arith)

  cut_refused : (q : ℕ) × Refused calls_only (plan_in (take size input)) (behind_plan (take size input)) q × Refused calls_only (plan_in input) (behind_plan input) q
  unfolding cut
  cut_refused = go (split (leb (thread_count input) 16))
    where
      go : T (leb (thread_count input) 16) ⊎ T (not (leb (thread_count input) 16))
          → (q : ℕ) × Refused calls_only (plan_in (take size input)) (behind_plan (take size input)) q × Refused calls_only (plan_in input) (behind_plan input) q
      go (inl t) = few_refused (leb→le (thread_count input) 16 t) (plans.refusal (plan_in input)) refl
      go (inr t) =
          let many = nleb→lt (thread_count input) 16 t in
          (1, by_plan (many_threads (plan_in cut) (omega (arith, first_kept cut (omega (arith, cut_length)), same_byte 0 (omega arith)))), by_plan (many_threads (plan_in input) (omega (arith, first_kept input (omega arith)))))

-- so whatever is told by a refusal alone is the same of the cut and of the whole
module _ {A : Type 0} (calls_only : Bool) (tell : (plan list : List ℕ) → A) (refusal : ℕ → A) (by : (plan list : List ℕ) (q : ℕ) → Refused calls_only plan list q → tell plan list ≡ refusal q) where
  pub cut_same : (size : ℕ) → 60053 ≤ size → (input : List ℕ) → tell (plan_in (take size input)) (behind_plan (take size input)) ≡ tell (plan_in input) (behind_plan input)
  cut_same size enough input = go (split (leb (length input) size))
    where
      go : T (leb (length input) size) ⊎ T (not (leb (length input) size)) → tell (plan_in (take size input)) (behind_plan (take size input)) ≡ tell (plan_in input) (behind_plan input)
      go (inl t) = ap (λ l. tell (plan_in l) (behind_plan l)) (take_all size input (leb→le (length input) size t))
      go (inr t) =
          let more = nleb→lt (length input) size t in
          let r = cut_refused calls_only size input enough (omega arith) in
          by _ _ r.0 r.1 ∙ sym (by _ _ r.0 r.2)
