-- The calls of a call list that passes, one by one: what stands at place k is a call, it is allowed, and the later calls follow it.
use mathlib.Core.Path.{◌≡◌, refl, ap, sym, subst, ◌∙◌}
use mathlib.Core.Bool.{true}
use mathlib.Core.List.{List, [], ◌∷◌, map}
use mathlib.Core.Option.{none}
use Prim.Native.Nat.{ℕ, ◌+◌, ◌≤◌, ◌<◌}
use native.Mathlib.Numerals.{add-one}
use native.Mathlib.Omega.{arith}
use lib.Dec.{T}
use lib.ListN.{length, get_or, drop, length-map, drop_of_length-le, get_or-map}
use lib.Seq.{drop-cons}
use Rattle.model.specs.Searches.{all}
use Rattle.model.specs.Records.{Call, Tick, Record, call, report, allowed}
use Rattle.model.specs.Bench.{calls_of}
use Rattle.plan.specs.View as plans
use Rattle.plan.specs.declared.Plan.{Plan}
use Rattle.model.proofs.Loops.{listed}
use Rattle.plan.proofs.Laws.{threads_view, valid_fits}
use Rattle.dump.specs.Layout.{record_count, kind_at, operand_at, decode, kind_of, operand_of, record_at}
use Rattle.dump.specs.Questions.{most_records, operand_fits, refusal, Whole}
use Rattle.dump.proofs.Laws.{is_call_record, kind_back, operand_back, fits_kind, allowed_back, decode-length, decoded_calls}
use Rattle.dump.proofs.Laws as dumps
use Rattle.kernel.specs.Clauses.{Passed}

-- records that are all calls are the records of their calls
pub calls_back : (rs : List Record) → T (all is_call_record rs) → map call (calls_of rs) ≡ rs
calls_back [] t = refl
calls_back (call k ∷ rs) t = ap {B = List Record} (λ l. call k ∷ l) (calls_back rs t)
calls_back (report r ∷ rs) t = absurd t

-- the calls of a list, and call k; past the end, where no law below looks, a Tick
abbrev pub calls : (list : List ℕ) → List Call
calls list = calls_of (decode list)

abbrev pub call_at : (list : List ℕ) (k : ℕ) → Call
call_at list k = get_or (calls list) k Tick

module _ {p : Plan} {ceilings list : List ℕ} {n : ℕ} (passed : Passed p ceilings list n) where
  pub plan_fits : plans.Fits p
  plan_fits = valid_fits p passed.valid

  pub list_whole : Whole list
  list_whole = dumps.whole p.threads p.sections true list passed.passes

  pub calls_few : n ≤ most_records
  calls_few = omega (arith, passed.count, list_whole.count)

  all_calls : map call (calls list) ≡ decode list
  all_calls =
      calls_back (decode list)
      (decoded_calls (plans.view p) list (subst (λ t. refusal t p.sections true list ≡ none) (sym (threads_view p)) passed.passes))

  calls_count : length (calls list) ≡ n
  calls_count = sym (length-map (calls list) call) ∙ ap length all_calls ∙ decode-length list ∙ sym passed.count

  -- behind the last call there is none
  pub calls_end : (k : ℕ) → n ≤ k → drop k (calls list) ≡ []
  calls_end k h = drop_of_length-le (calls list) {i = k} (omega (arith, calls_count))

  module _ (k : ℕ) (h : k < n) where
    below : k < record_count list
    below = omega (arith, passed.count)

    pub call_is : call (call_at list k) ≡ record_at list k
    call_is =
        sym (get_or-map call (calls list) k Tick) ∙ ap (λ (l : List Record). get_or l k (call Tick)) all_calls
        ∙ listed (record_at list) (record_count list) k (call Tick) below

    pub call_next : drop k (calls list) ≡ call_at list k ∷ drop (k + 1) (calls list)
    call_next = drop-cons (calls list) k Tick (omega (arith, calls_count)) ∙ ap (λ j. call_at list k ∷ drop j (calls list)) (sym (add-one k))

    pub call_fits_lem : T (operand_fits p.threads p.sections (kind_at list k) (operand_at list k))
    call_fits_lem = (dumps.entry_passes p.threads p.sections true list passed.passes k below).1

    pub call_allowed : T (allowed (plans.view p) (record_at list k))
    call_allowed =
        allowed_back (plans.view p) (kind_at list k) (operand_at list k)
        (subst (λ t. T (operand_fits t p.sections (kind_at list k) (operand_at list k))) (sym (threads_view p)) call_fits_lem)

    -- the kind and the operand read are those of the call
    pub call_kind_lem : kind_at list k ≡ kind_of (call (call_at list k))
    call_kind_lem =
        sym (kind_back (kind_at list k) (operand_at list k) (fits_kind p.threads p.sections (kind_at list k) (operand_at list k) call_fits_lem))
        ∙ ap kind_of (sym call_is)

    pub call_operand_lem : operand_at list k ≡ operand_of (call (call_at list k))
    call_operand_lem = sym (operand_back p.threads p.sections (kind_at list k) (operand_at list k) call_fits_lem) ∙ ap operand_of (sym call_is)
