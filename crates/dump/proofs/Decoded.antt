-- Bytes read as records: the records one by one, that they are allowed, and that the bytes are written back.
use mathlib.Core.Path.{◌≡◌, ap, sym, subst, ◌∙◌}
use mathlib.Core.Logic.{◌⊎◌, inl, inr, ◌≢◌}
use mathlib.Core.Bool.{Bool, true, not}
use mathlib.Core.List.{List, [], ◌∷◌, map}
use mathlib.Core.Option.{none}
use Prim.Native.Nat.{ℕ, zero, suc, ◌+◌, ◌*◌, ◌-◌, ◌/◌, ◌%◌, ◌≤◌, ◌<◌}
use native.Mathlib.Omega.{arith}
use lib.Dec.{T, ltb, ltb→lt, nltb→le, eqb→eq}
use lib.ListN.{length}
use lib.Seq.{ext_get_or}
use Rattle.model.specs.Searches.{all, up_to}
use Rattle.model.specs.Plan.{Plan, threads}
use Rattle.model.specs.Records.{Tick, Record, call, allowed}
use Rattle.model.proofs.Tests.{split, and_left, and_right, and_both, equal?}
use Rattle.model.proofs.Searches.{all_from, all_at, in_up_to}
use Rattle.plan.specs.Words.{byte}
use Rattle.model.proofs.Loops.{begin, listed, length-listed}
use Rattle.dump.specs.Layout.{record_count, kind_at, operand_at, record_at, decode, part, kind_of, operand_of, encode}
use Rattle.dump.specs.Questions.{operand_fits, refusal}
use Rattle.dump.proofs.Words.{Stands, word_stands}
use Rattle.dump.proofs.Codec.{is_call_record, kind_back, call_back, fits_kind, operand_back, allowed_back}
use Rattle.dump.proofs.Answers.{Accepted, accepted}
use Rattle.dump.proofs.Encoded.{nth, encode-length, count_stands, encode_kind, operand_stands}

-- a test passed by each of a list that is made of another
all_made : {A B : Type 0} (f : B → Bool) (g : A → B) (l : List A) → T (all (λ a. f (g a)) l) → T (all f (map g l))
all_made f g [] t = tt
all_made f g (a ∷ l) t = and_both (f (g a)) _ (and_left (f (g a)) _ t) (all_made f g l (and_right (f (g a)) _ t))

-- past the end too, where the byte counts as 0
byte_below : (bytes : List ℕ) → T (all (λ b. ltb b 256) bytes) → (i : ℕ) → byte bytes i < 256
byte_below [] t i = omega arith
byte_below (b ∷ bytes) t zero = ltb→lt b 256 (and_left (ltb b 256) _ t)
byte_below (b ∷ bytes) t (suc i) = byte_below bytes (and_right (ltb b 256) _ t) i

module _ (bytes : List ℕ) where
  pub decode-length : length (decode bytes) ≡ record_count bytes
  decode-length = length-listed (record_at bytes) (record_count bytes)

  decode-nth : (i : ℕ) → i < record_count bytes → nth (decode bytes) i ≡ record_at bytes i
  decode-nth i h = listed (record_at bytes) (record_count bytes) i (call Tick) h

  -- the part from the first record on and before N is the whole
  pub part_all : part bytes 0 (record_count bytes) ≡ decode bytes
  part_all = begin (map (record_at bytes)) (record_count bytes)

-- the records are allowed, and those of a call list are calls

pub decoded_allowed : (p : Plan) (calls_only : Bool) (bytes : List ℕ) → refusal (threads p) p.sections calls_only bytes ≡ none → T (all (allowed p) (decode bytes))
decoded_allowed p calls_only bytes e =
    all_made (allowed p) (record_at bytes) (up_to (record_count bytes))
    (all_from _ _ (λ i. allowed_back p (kind_at bytes i) (operand_at bytes i)) (up_to (record_count bytes)) (accepted (threads p) p.sections calls_only bytes e).operands)

pub decoded_calls : (p : Plan) (bytes : List ℕ) → refusal (threads p) p.sections true bytes ≡ none → T (all is_call_record (decode bytes))
decoded_calls p bytes e =
    all_made is_call_record (record_at bytes) (up_to (record_count bytes))
    (all_from _ _ (λ i. call_back (kind_at bytes i) (operand_at bytes i)) (up_to (record_count bytes)) (accepted (threads p) p.sections true bytes e).kinds)

-- lists of bytes with N records are the same if they have the same N, kinds and operands
module _ (x y : List ℕ) where
  abbrev Alike : (place : ℕ) → Type 0
  Alike place = (byte x place ≡ byte y place) × (byte x (place + 1) ≡ byte y (place + 1))

  alike : {place n : ℕ} → Stands x place n → Stands y place n → Alike place
  alike s t = (s.low ∙ sym t.low, s.high ∙ sym t.high)

  same_bytes : (n : ℕ) → length x ≡ 2 + 3 * n → length y ≡ 2 + 3 * n
      → Alike 0 → ((i : ℕ) → i < n → byte x (2 + i) ≡ byte y (2 + i)) → ((i : ℕ) → i < n → Alike (2 + n + 2 * i)) → x ≡ y
  same_bytes n k l count kinds operands = ext_get_or 0 x y (k ∙ sym l) (λ j h. at j (omega arith))
    where
      moved : (i j : ℕ) → j ≡ i → byte x i ≡ byte y i → byte x j ≡ byte y j
      moved i j e q = ap (λ m. byte x m) e ∙ q ∙ ap (λ m. byte y m) (sym e)

      at : (j : ℕ) → j < 2 + 3 * n → byte x j ≡ byte y j
      at zero h = count.0
      at (suc zero) h = count.1
      at (suc (suc j)) h = go (split (ltb j n))
        where
          operand : n ≤ j → ((j - n) % 2 ≡ 0) ⊎ ((j - n) % 2 ≢ 0) → byte x (suc (suc j)) ≡ byte y (suc (suc j))
          operand m (inl e) = moved (2 + n + 2 * ((j - n) / 2)) (suc (suc j)) (omega arith) (operands ((j - n) / 2) (omega arith)).0
          operand m (inr d) = moved (2 + n + 2 * ((j - n) / 2) + 1) (suc (suc j)) (omega arith) (operands ((j - n) / 2) (omega arith)).1

          go : T (ltb j n) ⊎ T (not (ltb j n)) → byte x (suc (suc j)) ≡ byte y (suc (suc j))
          go (inl t) = moved (2 + j) (suc (suc j)) (omega arith) (kinds j (ltb→lt j n t))
          go (inr t) = operand (nltb→le j n t) (equal? ((j - n) % 2) 0)

-- the bytes are written back
pub encode_decode : (threads sections : ℕ) (calls_only : Bool) (bytes : List ℕ) → T (all (λ b. ltb b 256) bytes) → refusal threads sections calls_only bytes ≡ none
    → encode (decode bytes) ≡ bytes
encode_decode threads sections calls_only bytes t e =
    same_bytes (encode rs) bytes n (omega (arith, encode-length rs, decode-length bytes)) size
    (alike (encode rs) bytes (subst (λ m. Stands (encode rs) 0 m) (decode-length bytes) (count_stands rs)) (word_stands bytes 0 (byte_below bytes t 0)))
    kinds
    (λ i h. alike (encode rs) bytes (operand i h) (word_stands bytes (2 + n + 2 * i) (byte_below bytes t (2 + n + 2 * i))))
  where
    rs : List Record
    rs = decode bytes

    n : ℕ
    n = record_count bytes

    yes : Accepted threads sections calls_only bytes
    yes = accepted threads sections calls_only bytes e

    size : length bytes ≡ 2 + 3 * n
    size = eqb→eq (length bytes) (2 + 3 * n) yes.size

    fits : (i : ℕ) → i < n → T (operand_fits threads sections (kind_at bytes i) (operand_at bytes i))
    fits i h = all_at (λ i. operand_fits threads sections (kind_at bytes i) (operand_at bytes i)) (up_to n) yes.operands (in_up_to n i h)

    within : (i : ℕ) → i < n → i < length rs
    within i h = omega (arith, decode-length bytes)

    kinds : (i : ℕ) → i < n → byte (encode rs) (2 + i) ≡ byte bytes (2 + i)
    kinds i h =
        encode_kind rs i (within i h) ∙ ap kind_of (decode-nth bytes i h)
        ∙ kind_back (kind_at bytes i) (operand_at bytes i) (fits_kind threads sections (kind_at bytes i) (operand_at bytes i) (fits i h))

    operand : (i : ℕ) → i < n → Stands (encode rs) (2 + n + 2 * i) (operand_at bytes i)
    operand i h =
        subst (λ m. Stands (encode rs) (2 + m + 2 * i) (operand_at bytes i)) (decode-length bytes)
        (subst (λ m. Stands (encode rs) (2 + length rs + 2 * i) m)
        (ap operand_of (decode-nth bytes i h) ∙ operand_back threads sections (kind_at bytes i) (operand_at bytes i) (fits i h))
        (operand_stands rs i (within i h)))
