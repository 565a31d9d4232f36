-- What the answers to questions 5 to 8 say.
use mathlib.Core.Path.{◌≡◌}
use mathlib.Core.Bool.{Bool}
use mathlib.Core.List.{List}
use mathlib.Core.Option.{none}
use Prim.Native.Nat.{ℕ, ◌≤◌}
use lib.Dec.{T, leb, leb→le, eqb→eq}
use lib.ListN.{length}
use Rattle.model.proofs.Tests.{and_left, and_right}
use Rattle.model.proofs.Laws.{all_yes}
use Rattle.dump.specs.Layout.{record_count}
use Rattle.dump.specs.Questions.{most_records, has_count, has_length, has_kinds, has_operands, questions, refusal, Whole}

-- bytes that nothing refuses have the answer Yes to each question
pub record Accepted (threads sections : ℕ) (calls_only : Bool) (bytes : List ℕ) : Type 0 where
  pub count : T (has_count bytes)
  pub size : T (has_length bytes)
  pub kinds : T (has_kinds calls_only bytes)
  pub operands : T (has_operands threads sections bytes)

pub accepted : (threads sections : ℕ) (calls_only : Bool) (bytes : List ℕ) → refusal threads sections calls_only bytes ≡ none → Accepted threads sections calls_only bytes
unfolding refusal questions
accepted t s b bytes e = let r = all_yes (questions t s b bytes) e in record { count = r.0; size = r.1.0; kinds = r.1.1.0; operands = r.1.1.1.0 }

-- the answer Yes to question 5, and to questions 5 and 6, in numbers
pub has_two : (bytes : List ℕ) → T (has_count bytes) → 2 ≤ length bytes
has_two bytes c = leb→le 2 (length bytes) (and_left (leb 2 (length bytes)) _ c)

pub whole : (bytes : List ℕ) → T (has_count bytes) → T (has_length bytes) → Whole bytes
whole bytes c l =
    record {
      count = leb→le (record_count bytes) most_records (and_right (leb 2 (length bytes)) _ c);
      size = eqb→eq (length bytes) _ l;
    }
