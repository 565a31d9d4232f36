-- The plan's bytes, in the order of document 01, "The plan" and questions 1 to 4.
use Rattle.std.specs.Prelude.{◌≡◌, Bool, ◌&&◌, List, [], ◌∷◌, map, ℕ, ◌+◌, ◌*◌, ◌^◌, ◌≤◌, min, eqb, leb, ltb, length, Result, Ok, Err}
use Rattle.std.proofs.Math.Option.{Option, none, some}
use Rattle.model.specs.Searches.{all, up_to}
use Rattle.model.specs.Plan.{Plan}
use Rattle.model.specs.Rules.{Question, ◌asks◌, first_no}
use Rattle.plan.specs.Words.{byte, word}
use Rattle.plan.specs.declared.bytes.Refusal.{Refusal}
use Rattle.plan.specs.declared.bytes.Refusal.TheVariants.{Counts, Length, Priorities, Needs}

-- Byte 0 is T, the threads; byte 1 is S, the sections.
abbrev pub thread_count : List ℕ → ℕ
thread_count bytes = byte bytes 0

abbrev pub section_count : List ℕ → ℕ
section_count bytes = byte bytes 1

-- T bytes follow, the base priorities.
abbrev pub base_at : List ℕ → (thread : ℕ) → ℕ
base_at bytes t = byte bytes (2 + t)

-- T needs follow, each two bytes, low byte first.
abbrev pub needs_at : List ℕ → (thread : ℕ) → ℕ
needs_at bytes t = word bytes (2 + thread_count bytes + 2 * t)

-- the plan that the bytes stand for
abbrev pub plan_of : List ℕ → Plan
plan_of bytes =
    record {
      sections = section_count bytes;
      bases = map (base_at bytes) (up_to (thread_count bytes));
      needs = map (needs_at bytes) (up_to (thread_count bytes));
    }

-- low to high, both counted in
abbrev pub between : (low high number : ℕ) → Bool
between low high n = leb low n && leb n high

-- T, the threads (1 to 16); S, the sections (0 to 16)
abbrev pub in_range : (threads sections : ℕ) → Bool
in_range threads sections = between 1 16 threads && leb sections 16

-- a base priority: 1 to 64
abbrev pub is_priority : ℕ → Bool
is_priority b = between 1 64 b

-- every bit of a thread's needs at S or above is zero: law within_bits of proofs/Bits.antt
abbrev pub needs_within : (sections needs : ℕ) → Bool
needs_within sections n = ltb n (2 ^ sections)

-- 1: Has the plan 2 bytes or more, with T and S in range?
abbrev pub has_counts : List ℕ → Bool
has_counts bytes = leb 2 (length bytes) && in_range (thread_count bytes) (section_count bytes)

-- 2: Is it exactly 2 + 3T long?
abbrev pub has_length : List ℕ → Bool
has_length bytes = eqb (length bytes) (2 + 3 * thread_count bytes)

-- 3: Is every priority 1 to 64?
abbrev pub has_priorities : List ℕ → Bool
has_priorities bytes = all is_priority (plan_of bytes).bases

-- 4: Is every needs bit at S or above zero?
abbrev pub has_needs : List ℕ → Bool
has_needs bytes = all (needs_within (section_count bytes)) (plan_of bytes).needs

unfoldable pub questions : List ℕ → List Question
questions bytes = 1 asks has_counts bytes ∷ 2 asks has_length bytes ∷ 3 asks has_priorities bytes ∷ 4 asks has_needs bytes ∷ []

-- The first No gives its number.
unfoldable pub refusal : List ℕ → Option ℕ
refusal bytes = first_no (questions bytes)

-- the number of the question that a refusal names
abbrev pub question : Refusal → ℕ
question Counts = 1
question Length = 2
question Priorities = 3
question Needs = 4

-- what an answer refuses, by the number of the question
abbrev pub refused : {A : Type 0} → Result A Refusal → Option ℕ
refused (Ok a) = none
refused (Err r) = some (question r)

-- an answer as a number: 0 if every question has the answer Yes
abbrev pub number : Option ℕ → ℕ
number none = 0
number (some n) = n

-- what the answer Yes to questions 1 and 2 says in numbers
pub record Whole (bytes : List ℕ) : Type 0 where
  pub threads : thread_count bytes ≤ 16
  pub sections : section_count bytes ≤ 16
  pub size : length bytes ≡ 2 + 3 * thread_count bytes

-- where the plan ends in what a program reads: as many bytes as its first byte implies, or all there are
abbrev pub plan_length : List ℕ → ℕ
plan_length input = min (length input) (2 + 3 * thread_count input)
