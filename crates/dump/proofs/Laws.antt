-- What other crates may cite of dumps and call lists.
use mathlib.Core.Path.{◌≡◌}
use mathlib.Core.Bool.{Bool}
use mathlib.Core.List.{List}
use mathlib.Core.Option.{none}
use Prim.Native.Nat.{ℕ, ◌<◌}
use lib.Dec.{T}
use Rattle.model.specs.Searches.{up_to}
use Rattle.model.proofs.Searches.{all_at, in_up_to}
use Rattle.plan.specs.Bytes.{number}
use Rattle.plan.proofs.Laws.{zero_none}
use Rattle.dump.specs.Layout.{record_count, kind_at, operand_at}
use Rattle.dump.specs.Questions.{kind_allowed, operand_fits, has_kinds, has_operands, questions, refusal, Whole}
use Rattle.dump.proofs.Answers as answers
-- a question that refuses a plan or what is behind it, by the number answered; which one refuses bytes longer than any N allows; none is above 8
pub use Rattle.dump.proofs.Refusals.{Refused, by_plan, by_list, read_refusal, refused_plan, refused_list, too_long, too_long_lem, refusal_within}
-- the running place: at every record 2 + N plus twice its number, and moved on by two the next one's
pub use Rattle.dump.proofs.Running.{running_place_lem, running_next}
-- numbers in two bytes
pub use Rattle.dump.proofs.Words.{Stands}
-- one record, its kind and its operand, each way and back
pub use Rattle.dump.proofs.Codec.{allowed_back, fits_kind, is_call_record, kind_back, operand_back, operand_fits_lem, record_back}
-- which record of the machine a kind and an operand name
pub use Rattle.dump.proofs.Readings.{names}
-- an operand that fits still fits with more threads and sections
pub use Rattle.dump.proofs.Wider.{wider}
-- records written as bytes
pub use Rattle.dump.proofs.Encoded.{count_stands, decode_encode, encode_kind, encode-length, encode_passes, encode_passes_calls, nth, operand_stands}
-- bytes read as records; encoding and decoding are inverse
pub use Rattle.dump.proofs.Decoded.{decode-length, decoded_allowed, decoded_calls, encode_decode, part_all}

module _ (threads sections : ℕ) (calls_only : Bool) (bytes : List ℕ) where
  -- `refusal` answers 0 only where nothing refuses the bytes
  pub refusal_zero : number (refusal threads sections calls_only bytes) ≡ 0 → refusal threads sections calls_only bytes ≡ none
  unfolding refusal questions
  refusal_zero e = zero_none (questions threads sections calls_only bytes) tt e

  module _ (e : refusal threads sections calls_only bytes ≡ none) where
    -- bytes that nothing refuses are as long as N says, and every kind and every operand is allowed
    pub accepted : Whole bytes × T (has_kinds calls_only bytes) × T (has_operands threads sections bytes)
    accepted =
        let a = answers.accepted threads sections calls_only bytes e in
        (answers.whole bytes a.count a.size, a.kinds, a.operands)

    -- the first of these alone: what reading a record asks for
    pub whole : Whole bytes
    whole = accepted.0

    -- the others, of each record
    pub entry_passes : (i : ℕ) → i < record_count bytes
        → T (kind_allowed calls_only (kind_at bytes i)) × T (operand_fits threads sections (kind_at bytes i) (operand_at bytes i))
    entry_passes i h =
        let n = record_count bytes in (
          all_at (λ j. kind_allowed calls_only (kind_at bytes j)) (up_to n) accepted.1 (in_up_to n i h),
          all_at (λ j. operand_fits threads sections (kind_at bytes j) (operand_at bytes j)) (up_to n) accepted.2 (in_up_to n i h),
        )
