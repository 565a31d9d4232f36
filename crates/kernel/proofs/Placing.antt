-- What stands where once records are at their places; with N in front, all of them make the dump.
use mathlib.Core.Path.{◌≡◌, refl, ap, sym, subst, ◌∙◌}
use mathlib.Core.Logic.{◌⊎◌, inl, inr, ◌≢◌}
use mathlib.Core.Bool.{not}
use mathlib.Core.List.{List, [], ◌∷◌, ◌++◌}
use Prim.Native.Nat.{ℕ, zero, suc, ◌+◌, ◌*◌, ◌-◌, ◌/◌, ◌%◌, ◌≤◌, ◌<◌}
use native.Mathlib.Omega.{arith}
use lib.Dec.{T, ltb, ltb→lt, nltb→le}
use lib.ListN.{length, drop, set, length-append, length-drop, length-set, get_or-append}
use lib.Seq.{get_or-append-add, get_or-drop, get_or-set_same, get_or-set_other, ext_get_or}
use Rattle.model.specs.Records.{Record}
use Rattle.model.proofs.Tests.{split, equal?}
use Rattle.plan.specs.Words.{byte}
use Rattle.dump.specs.Layout.{kind_of, operand_of, encode}
use Rattle.dump.proofs.Laws.{Stands, nth, encode-length, count_stands, encode_kind, operand_stands}
use Rattle.kernel.specs.Answers.{bytes_for, at_front}
use Rattle.kernel.specs.Clauses.{record_put, records_put}

-- the places of N, of the kinds and of the operands are all that there are before the end
by_place : (P : ℕ → Type 0) (n : ℕ) → P 0 → P 1 → ((i : ℕ) → i < n → P (2 + i)) → ((i : ℕ) → i < n → P (2 + n + 2 * i)) → ((i : ℕ) → i < n → P (2 + n + 2 * i + 1))
    → (j : ℕ) → j < bytes_for n → P j
by_place P n a b kinds lows highs zero h = a
by_place P n a b kinds lows highs (suc zero) h = b
by_place P n a b kinds lows highs (suc (suc j)) h = go (split (ltb j n))
  where
    operand : n ≤ j → ((j - n) % 2 ≡ 0) ⊎ ((j - n) % 2 ≢ 0) → P (suc (suc j))
    operand m (inl e) = let z : 2 + n + 2 * ((j - n) / 2) ≡ suc (suc j) = omega arith in subst P z (lows ((j - n) / 2) (omega arith))
    operand m (inr d) = let z : 2 + n + 2 * ((j - n) / 2) + 1 ≡ suc (suc j) = omega arith in subst P z (highs ((j - n) / 2) (omega arith))

    go : T (ltb j n) ⊎ T (not (ltb j n)) → P (suc (suc j))
    go (inl t) = let z : 2 + j ≡ suc (suc j) = omega arith in subst P z (kinds j (ltb→lt j n t))
    go (inr t) = operand (nltb→le j n t) (equal? ((j - n) % 2) 0)

-- not at the kind of record i, nor at its operand, with this running place
record Apart (i running j : ℕ) : Type 0 where
  kind : j ≢ 2 + i
  low : j ≢ running
  high : j ≢ running + 1

-- the record stands at these places as record i
record Put (i running : ℕ) (r : Record) (out : List ℕ) : Type 0 where
  kind : byte out (2 + i) ≡ kind_of r
  operand : Stands out running (operand_of r)

module _ (i at k x : ℕ) (out : List ℕ) where
  put_size : length (record_put i at k x out) ≡ length out
  put_size = simp length-set

  put_elsewhere : (j : ℕ) → Apart i at j → byte (record_put i at k x out) j ≡ byte out j
  put_elsewhere j a =
      get_or-set_other (set (set out (2 + i) k) at (x % 256)) (at + 1) j (x / 256) 0 a.high
      ∙ get_or-set_other (set out (2 + i) k) at j (x % 256) 0 a.low
      ∙ get_or-set_other out (2 + i) j k 0 a.kind

put_there : (i at : ℕ) (r : Record) (out : List ℕ) → 2 + i < at → at + 1 < length out → Put i at r (record_put i at (kind_of r) (operand_of r) out)
put_there i at r out h room =
    record {
      kind =
          get_or-set_other two (at + 1) (2 + i) (x / 256) 0 (λ e. omega arith)
          ∙ get_or-set_other one at (2 + i) (x % 256) 0 (λ e. omega arith)
          ∙ get_or-set_same out (2 + i) k 0 (omega arith);
      operand =
          record {
            low =
                get_or-set_other two (at + 1) at (x / 256) 0 (λ e. omega arith)
                ∙ get_or-set_same one at (x % 256) 0 (simp length-set (omega arith));
            high = get_or-set_same two (at + 1) (x / 256) 0 (simp length-set (omega arith));
          };
    }
  where
    k : ℕ
    k = kind_of r

    x : ℕ
    x = operand_of r

    one : List ℕ
    one = set out (2 + i) k

    two : List ℕ
    two = set one at (x % 256)

-- records from i on

pub from_size : (rs : List Record) (i at : ℕ) (out : List ℕ) → length (records_put i at rs out) ≡ length out
from_size [] i at out = refl
from_size (r ∷ rs) i at out = from_size rs (i + 1) (at + 2) (record_put i at (kind_of r) (operand_of r) out) ∙ put_size i at (kind_of r) (operand_of r) out

-- of n records
module _ (n : ℕ) where
  -- the running place of record a
  abbrev Runs : (a at : ℕ) → Type 0
  Runs a at = at ≡ 2 + n + 2 * a

  -- no place of a record from i on
  abbrev Beside : (i j : ℕ) → Type 0
  Beside i j = (a at : ℕ) → i ≤ a → a < n → Runs a at → Apart a at j

  from_elsewhere : (rs : List Record) (i at : ℕ) (out : List ℕ) → Runs i at → i + length rs ≤ n → (j : ℕ) → Beside i j → byte (records_put i at rs out) j ≡ byte out j
  from_elsewhere [] i at out e h j f = refl
  from_elsewhere (r ∷ rs) i at out e h j f =
      from_elsewhere rs (i + 1) (at + 2) (record_put i at (kind_of r) (operand_of r) out) (omega arith) (omega arith) j (λ a b c. f a b (omega arith))
      ∙ put_elsewhere i at (kind_of r) (operand_of r) out j (f i at (omega arith) (omega arith) e)

  from_there : (rs : List Record) (i at : ℕ) (out : List ℕ) → Runs i at → i + length rs ≤ n → bytes_for n ≤ length out
      → (m : ℕ) → m < length rs → Put (i + m) (2 + n + 2 * (i + m)) (nth rs m) (records_put i at rs out)
  from_there [] i at out e h room m l = absurd (omega arith)
  from_there (r ∷ rs) i at out e h room zero l =
      let out' = record_put i at (kind_of r) (operand_of r) out in
      let y : at ≡ 2 + n + 2 * (i + 0) = omega arith in
      let z : i ≡ i + 0 = omega arith in
      let p = put_there i at r out (omega arith) (omega arith) in
      let stays : (j : ℕ) → Beside (i + 1) j → byte (records_put (i + 1) (at + 2) rs out') j ≡ byte out' j = from_elsewhere rs (i + 1) (at + 2) out' (omega arith) (omega arith) in
      subst (λ b. Put (i + 0) b r (records_put (i + 1) (at + 2) rs out')) y
      (subst (λ a. Put a at r (records_put (i + 1) (at + 2) rs out')) z
      (record {
        kind = stays (2 + i) (λ a b c d g. record { kind = λ q. omega arith; low = λ q. omega arith; high = λ q. omega arith }) ∙ p.kind;
        operand =
            record {
              low = stays at (λ a b c d g. record { kind = λ q. omega arith; low = λ q. omega arith; high = λ q. omega arith }) ∙ p.operand.low;
              high = stays (at + 1) (λ a b c d g. record { kind = λ q. omega arith; low = λ q. omega arith; high = λ q. omega arith }) ∙ p.operand.high;
            };
      }))
  from_there (r ∷ rs) i at out e h room (suc m) l =
      let out' = record_put i at (kind_of r) (operand_of r) out in
      let z : i + 1 + m ≡ i + suc m = omega arith in
      subst (λ a. Put a (2 + n + 2 * a) (nth rs m) (records_put (i + 1) (at + 2) rs out')) z
      (from_there rs (i + 1) (at + 2) out' (omega arith) (omega arith) (omega (arith, put_size i at (kind_of r) (operand_of r) out)) m (omega arith))

-- first some, then those behind them
from_both : (a b : List Record) (i at : ℕ) (out : List ℕ) → records_put i at (a ++ b) out ≡ records_put (i + length a) (at + 2 * length a) b (records_put i at a out)
from_both [] b i at out =
    let y : at ≡ at + 2 * 0 = omega arith in
    let z : i ≡ i + 0 = omega arith in
    ap (λ j. records_put j at b out) z ∙ ap (λ t. records_put (i + 0) t b out) y
from_both (r ∷ a) b i at out =
    let out' = record_put i at (kind_of r) (operand_of r) out in
    let y : at + 2 + 2 * length a ≡ at + 2 * suc (length a) = omega arith in
    let z : i + 1 + length a ≡ i + suc (length a) = omega arith in
    from_both a b (i + 1) (at + 2) out' ∙ ap (λ j. records_put j (at + 2 + 2 * length a) b (records_put (i + 1) (at + 2) a out')) z
    ∙ ap (λ t. records_put (i + suc (length a)) t b (records_put (i + 1) (at + 2) a out')) y

-- one more record is put behind those that stand already, and then some more
pub from_next : (i at first : ℕ) (done rs : List Record) (r : Record) (k x : ℕ) (start out out' out'' : List ℕ) → i ≡ length done → at ≡ first + 2 * length done → out ≡ records_put 0 first done start
    → k ≡ kind_of r → x ≡ operand_of r → out' ≡ record_put i at k x out → out'' ≡ records_put (i + 1) (at + 2) rs out' → out'' ≡ records_put 0 first (done ++ r ∷ rs) start
from_next i at first done rs r k x start out out' out'' count place before a b c d =
    let z : i ≡ 0 + length done = omega arith in
    d ∙ ap (records_put (i + 1) (at + 2) rs) (c ∙ ap (λ y. record_put i at y x out) a ∙ ap (λ y. record_put i at (kind_of r) y out) b)
    ∙ ap (λ j. records_put j at (r ∷ rs) out) z ∙ ap (λ t. records_put (0 + length done) t (r ∷ rs) out) place ∙ ap (records_put (0 + length done) (first + 2 * length done) (r ∷ rs)) before
    ∙ sym (from_both done (r ∷ rs) 0 first start)

-- N in two bytes, low byte first
abbrev pub counted : ℕ → List ℕ → List ℕ
counted n out = set (set out 0 (n % 256)) 1 (n / 256)

module _ (rs : List Record) (out : List ℕ) (room : bytes_for (length rs) ≤ length out) where
  abbrev n : ℕ
  n = length rs

  abbrev filled : List ℕ
  filled = records_put 0 (2 + n) rs (counted n out)

  -- no record stands at N's places or behind the last operand
  beside : (j : ℕ) → (j < 2) ⊎ (bytes_for n ≤ j) → byte filled j ≡ byte (counted n out) j
  beside j c = from_elsewhere n rs 0 (2 + n) (counted n out) (omega arith) (omega arith) j (λ a at b d e. apart a at d e c)
    where
      apart : (a at : ℕ) → a < n → Runs n a at → (j < 2) ⊎ (bytes_for n ≤ j) → Apart a at j
      apart a at d e (inl l) = record { kind = λ q. omega arith; low = λ q. omega arith; high = λ q. omega arith }
      apart a at d e (inr g) = record { kind = λ q. omega arith; low = λ q. omega arith; high = λ q. omega arith }

  there : (i : ℕ) → i < n → Put i (2 + n + 2 * i) (nth rs i) filled
  there i h =
      let z : 0 + i ≡ i = omega arith in
      subst (λ a. Put a (2 + n + 2 * a) (nth rs i) filled) z (from_there n rs 0 (2 + n) (counted n out) (omega arith) (omega arith) (simp length-set room) i h)

  dumped : (j : ℕ) → j < bytes_for n → byte filled j ≡ byte (encode rs) j
  dumped =
      by_place (λ j. byte filled j ≡ byte (encode rs) j) n
      (beside 0 (inl (omega arith)) ∙ get_or-set_other (set out 0 (n % 256)) 1 0 (n / 256) 0 (λ e. omega arith) ∙ get_or-set_same out 0 (n % 256) 0 (omega arith) ∙ sym (count_stands rs).low)
      (beside 1 (inl (omega arith)) ∙ get_or-set_same (set out 0 (n % 256)) 1 (n / 256) 0 (simp length-set (omega arith)) ∙ sym (count_stands rs).high)
      (λ i h. (there i h).kind ∙ sym (encode_kind rs i h))
      (λ i h. (there i h).operand.low ∙ sym (operand_stands rs i h).low)
      (λ i h. (there i h).operand.high ∙ sym (operand_stands rs i h).high)

  -- behind it nothing is touched
  untouched : (j : ℕ) → bytes_for n ≤ j → byte filled j ≡ byte out j
  untouched j h =
      beside j (inr h) ∙ get_or-set_other (set out 0 (n % 256)) 1 j (n / 256) 0 (λ e. omega arith) ∙ get_or-set_other out 0 j (n % 256) 0 (λ e. omega arith)

  -- the dump stands in front, and what was behind it is there still
  dump_placed : filled ≡ at_front rs out
  dump_placed = ext_get_or 0 filled (at_front rs out) (omega (arith, size, length-append (encode rs) rest, encode-length rs, length-drop (bytes_for n) out)) (λ j h. at j (split (ltb j (bytes_for n))))
    where
      rest : List ℕ
      rest = drop (bytes_for n) out

      size : length filled ≡ length out
      size = from_size rs 0 (2 + n) (counted n out) ∙ simp length-set

      at : (j : ℕ) → T (ltb j (bytes_for n)) ⊎ T (not (ltb j (bytes_for n))) → byte filled j ≡ byte (at_front rs out) j
      at j (inl t) =
          let h = ltb→lt j (bytes_for n) t in
          dumped j h ∙ sym (get_or-append (encode rs) rest 0 j (omega (arith, encode-length rs, h)))
      at j (inr t) =
          let h = nltb→le j (bytes_for n) t in
          let z : length (encode rs) + (j - bytes_for n) ≡ j = omega (arith, encode-length rs, h) in
          let y : bytes_for n + (j - bytes_for n) ≡ j = omega (arith, h) in
          untouched j h
          ∙ sym (ap (λ i. byte out i) y) ∙ sym (get_or-drop (bytes_for n) out (j - bytes_for n) 0)
          ∙ sym (get_or-append-add (encode rs) rest (j - bytes_for n) 0) ∙ ap (λ i. byte (at_front rs out) i) z

pub all_placed_lem : (n : ℕ) (rs : List Record) (out : List ℕ) → n ≡ length rs → bytes_for n ≤ length out → records_put 0 (2 + n) rs (counted n out) ≡ at_front rs out
all_placed_lem n rs out e room = ap (λ m. records_put 0 (2 + m) rs (counted m out)) e ∙ dump_placed rs out (omega arith)
