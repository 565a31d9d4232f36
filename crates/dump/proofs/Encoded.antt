-- Records written as bytes: what stands where, that questions 5 to 8 have the answer Yes, and that the records are read back.
use mathlib.Core.Path.{◌≡◌, refl, ap, sym, subst, ◌∙◌}
use mathlib.Core.Bool.{Bool, true, false}
use mathlib.Core.List.{List, [], ◌∷◌, ◌++◌, map}
use mathlib.Core.Option.{none}
use Prim.Native.Nat.{ℕ, zero, suc, ◌+◌, ◌*◌, ◌≤◌, ◌<◌}
use native.Mathlib.Omega.{arith}
use lib.Dec.{T, leb, ltb, le→leb}
use lib.ListN.{length, get_or, length-append, length-map, get_or-append}
use lib.Seq.{get_or-append-add, ext_get_or}
use Rattle.model.specs.Searches.{all, up_to}
use Rattle.model.specs.Plan.{Plan, threads}
use Rattle.model.specs.Records.{Tick, Record, call, allowed}
use Rattle.model.specs.Rules.{Question, first_no}
use Rattle.model.proofs.Tests.{is_true, and_left, and_right, and_both, eq_test}
use Rattle.model.proofs.Searches.{all_from, all_append, up_to_at, all_in}
use Rattle.plan.specs.Words.{byte, word}
use Rattle.model.proofs.Loops.{listed, length-listed}
use Rattle.dump.specs.Layout.{record_count, kind_at, operand_at, record_of, record_at, decode, kind_of, operand_of, two_bytes, operands, encode}
use Rattle.dump.specs.Questions.{most_records, kind_allowed, operand_fits, has_count, has_length, has_kinds, has_operands, questions, refusal}
use Rattle.dump.proofs.Words.{two_are_bytes, Stands, stands_word}
use Rattle.dump.proofs.Codec.{is_call_record, kind_byte, fits_kind, record_back, operand_fits_lem, operand_word, call_kind_lem}

module _ {A : Type 0} where
  -- what each of a list passes, at a place within the list
  passes_at : (f : A → Bool) (l : List A) → T (all f l) → (d : A) (i : ℕ) → i < length l → T (f (get_or l i d))
  passes_at f [] t d i h = absurd (omega arith)
  passes_at f (a ∷ l) t d zero h = and_left (f a) (all f l) t
  passes_at f (a ∷ l) t d (suc i) h = passes_at f l (and_right (f a) (all f l) t) d i (omega arith)

  -- what is made of each of a list, at a place within the list
  made_at : {B : Type 0} (f : A → B) (l : List A) (i : ℕ) (d : A) (e : B) → i < length l → get_or (map f l) i e ≡ f (get_or l i d)
  made_at f [] i d e h = absurd (omega arith)
  made_at f (a ∷ l) zero d e h = refl
  made_at f (a ∷ l) (suc i) d e h = made_at f l i d e (omega arith)

-- record i; past the end, where no law below looks, a Tick
abbrev pub nth : List Record → ℕ → Record
nth rs i = get_or rs i (call Tick)

operands-length : (rs : List Record) → length (operands rs) ≡ 2 * length rs
operands-length [] = refl
operands-length (r ∷ rs) = omega (arith, operands-length rs)

operands_at : (rs : List Record) (i : ℕ) → i < length rs → Stands (operands rs) (2 * i) (operand_of (nth rs i))
operands_at [] i h = absurd (omega arith)
operands_at (r ∷ rs) zero h = record { low = refl; high = refl }
operands_at (r ∷ rs) (suc i) h =
    let s = operands_at rs i (omega arith) in
    let e : 2 * suc i ≡ suc (suc (2 * i)) = omega arith in
    let f : 2 * suc i + 1 ≡ suc (suc (2 * i + 1)) = omega arith in
    record {
      low = ap (λ k. byte (operands (r ∷ rs)) k) e ∙ s.low;
      high = ap (λ k. byte (operands (r ∷ rs)) k) f ∙ s.high;
    }

module _ (rs : List Record) where
  pub encode-length : length (encode rs) ≡ 2 + 3 * length rs
  encode-length = omega (arith, length-append (map kind_of rs) (operands rs), length-map rs kind_of, operands-length rs)

  pub count_stands : Stands (encode rs) 0 (length rs)
  count_stands = record { low = refl; high = refl }

  pub encode_count : record_count (encode rs) ≡ length rs
  encode_count = stands_word count_stands

  -- what stands behind N
  behind : (i : ℕ) → byte (encode rs) (2 + i) ≡ byte (map kind_of rs ++ operands rs) i
  behind i = let e : 2 + i ≡ suc (suc i) = omega arith in ap (λ k. byte (encode rs) k) e

  -- and behind the kinds
  further : (i j : ℕ) → j ≡ 2 + length rs + i → byte (encode rs) j ≡ byte (operands rs) i
  further i j e =
      let f : j ≡ 2 + (length (map kind_of rs) + i) = omega (arith, length-map rs kind_of) in
      ap (λ k. byte (encode rs) k) f ∙ behind (length (map kind_of rs) + i) ∙ get_or-append-add (map kind_of rs) (operands rs) i 0

  module _ (i : ℕ) (h : i < length rs) where
    pub encode_kind : kind_at (encode rs) i ≡ kind_of (nth rs i)
    encode_kind =
        behind i ∙ get_or-append (map kind_of rs) (operands rs) 0 i (omega (arith, length-map rs kind_of)) ∙ made_at kind_of rs i (call Tick) 0 h

    pub operand_stands : Stands (encode rs) (2 + length rs + 2 * i) (operand_of (nth rs i))
    operand_stands =
        let s = operands_at rs i h in
        record {
          low = further (2 * i) (2 + length rs + 2 * i) refl ∙ s.low;
          high = further (2 * i + 1) (2 + length rs + 2 * i + 1) (omega arith) ∙ s.high;
        }

    pub encode_operand : operand_at (encode rs) i ≡ operand_of (nth rs i)
    encode_operand = ap (λ n. word (encode rs) (2 + n + 2 * i)) encode_count ∙ stands_word operand_stands

-- the records are read back
pub decode_encode : (p : Plan) → threads p ≤ 65535 → p.sections ≤ 65536 → (rs : List Record) → length rs ≤ 65535 → T (all (allowed p) rs) → decode (encode rs) ≡ rs
decode_encode p h g rs n t =
    ext_get_or (call Tick) (decode (encode rs)) rs (size ∙ encode_count rs)
    (λ i k. let l : i < record_count (encode rs) = omega (arith, size) in listed (record_at (encode rs)) (record_count (encode rs)) i (call Tick) l ∙ same i (omega (arith, encode_count rs)))
  where
    size : length (decode (encode rs)) ≡ record_count (encode rs)
    size = length-listed (record_at (encode rs)) (record_count (encode rs))

    same : (i : ℕ) → i < length rs → record_at (encode rs) i ≡ nth rs i
    same i k =
        ap (λ (x : ℕ). record_of x (operand_at (encode rs) i)) (encode_kind rs i k)
        ∙ ap (λ (x : ℕ). record_of (kind_of (nth rs i)) x) (encode_operand rs i k)
        ∙ record_back p h (nth rs i) (passes_at (allowed p) rs t (call Tick) i k)

-- where every answer is Yes, there is no first No
no_No : (qs : List Question) → T (all (λ q. q.answer) qs) → first_no qs ≡ none
no_No [] t = refl
no_No (q ∷ qs) t = rw (is_true q.answer (and_left q.answer _ t)) (no_No qs (and_right q.answer _ t))

-- what holds of the kind and the operand of every record holds of every kind and operand in the bytes
each_entry : (f : (kind operand : ℕ) → Bool) (rs : List Record) → T (all (λ r. f (kind_of r) (operand_of r)) rs)
    → T (all (λ i. f (kind_at (encode rs) i) (operand_at (encode rs) i)) (up_to (record_count (encode rs))))
each_entry f rs t = all_in _ (up_to (record_count (encode rs))) (λ i m. at i (omega (arith, up_to_at (record_count (encode rs)) m, encode_count rs)))
  where
    at : (i : ℕ) → i < length rs → T (f (kind_at (encode rs) i) (operand_at (encode rs) i))
    at i h =
        subst (λ x. T (f x (operand_at (encode rs) i))) (sym (encode_kind rs i h))
        (subst (λ x. T (f (kind_of (nth rs i)) x)) (sym (encode_operand rs i h)) (passes_at (λ r. f (kind_of r) (operand_of r)) rs t (call Tick) i h))

-- every answer is Yes, if every kind is allowed
answers : (p : Plan) (calls_only : Bool) (rs : List Record) → length rs ≤ most_records → T (all (allowed p) rs) → T (all (λ r. kind_allowed calls_only (kind_of r)) rs)
    → refusal (threads p) p.sections calls_only (encode rs) ≡ none
unfolding refusal questions
answers p calls_only rs n t k =
    no_No (questions (threads p) p.sections calls_only (encode rs))
    (and_both (has_count (encode rs)) _ count
    (and_both (has_length (encode rs)) _ size
    (and_both (has_kinds calls_only (encode rs)) _ kinds (and_both (has_operands (threads p) p.sections (encode rs)) _ fit tt))))
  where
    count : T (has_count (encode rs))
    count =
        and_both (leb 2 (length (encode rs))) (leb (record_count (encode rs)) most_records)
        (le→leb 2 (length (encode rs)) (omega arith)) (le→leb (record_count (encode rs)) most_records (omega (arith, encode_count rs)))

    size : T (has_length (encode rs))
    size = eq_test (length (encode rs)) (2 + 3 * record_count (encode rs)) (omega (arith, encode-length rs, encode_count rs))

    kinds : T (has_kinds calls_only (encode rs))
    kinds = each_entry (λ x y. kind_allowed calls_only x) rs k

    fit : T (has_operands (threads p) p.sections (encode rs))
    fit = each_entry (operand_fits (threads p) p.sections) rs (all_from (allowed p) _ (operand_fits_lem p) rs t)

kinds_allowed : (p : Plan) (rs : List Record) → T (all (allowed p) rs) → T (all (λ r. kind_allowed false (kind_of r)) rs)
kinds_allowed p rs t = all_from (allowed p) _ (λ r a. fits_kind (threads p) p.sections (kind_of r) (operand_of r) (operand_fits_lem p r a)) rs t

-- As a dump, questions 5 to 8 have the answer Yes; and as a call list, if every record is a call.

pub encode_passes : (p : Plan) → threads p ≤ 65535 → p.sections ≤ 65536 → (rs : List Record) → length rs ≤ most_records → T (all (allowed p) rs)
    → refusal (threads p) p.sections false (encode rs) ≡ none
encode_passes p h g rs n t = answers p false rs n t (kinds_allowed p rs t)

pub encode_passes_calls : (p : Plan) → threads p ≤ 65535 → p.sections ≤ 65536 → (rs : List Record) → length rs ≤ most_records → T (all (allowed p) rs)
    → T (all is_call_record rs) → refusal (threads p) p.sections true (encode rs) ≡ none
encode_passes_calls p h g rs n t c = answers p true rs n t (all_from is_call_record _ call_kind_lem rs c)

-- what is written is bytes
pub encode_bytes : (p : Plan) → threads p ≤ 65535 → p.sections ≤ 65536 → (rs : List Record) → length rs ≤ 65535 → T (all (allowed p) rs)
    → T (all (λ b. ltb b 256) (encode rs))
encode_bytes p h g rs n t =
    all_append is_byte (two_bytes (length rs)) (map kind_of rs ++ operands rs) (two_are_bytes (length rs) (omega arith))
    (all_append is_byte (map kind_of rs) (operands rs) (kinds rs (kinds_allowed p rs t)) (words rs t))
  where
    is_byte : ℕ → Bool
    is_byte b = ltb b 256

    kinds : (l : List Record) → T (all (λ r. kind_allowed false (kind_of r)) l) → T (all is_byte (map kind_of l))
    kinds [] u = tt
    kinds (r ∷ l) u =
        and_both (ltb (kind_of r) 256) _ (kind_byte (kind_of r) (and_left (kind_allowed false (kind_of r)) _ u)) (kinds l (and_right (kind_allowed false (kind_of r)) _ u))

    words : (l : List Record) → T (all (allowed p) l) → T (all is_byte (operands l))
    words [] u = tt
    words (r ∷ l) u =
        all_append is_byte (two_bytes (operand_of r)) (operands l)
        (two_are_bytes (operand_of r) (operand_word p h g r (and_left (allowed p r) _ u))) (words l (and_right (allowed p r) _ u))
