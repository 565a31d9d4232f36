-- The reports due by their places: those behind the ones given.
use mathlib.Core.Path.{◌≡◌, refl, ap, sym, ◌∙◌}
use mathlib.Core.Logic.{◌⊎◌, inl, inr}
use mathlib.Core.Bool.{not}
use mathlib.Core.List.Memᴰ.{head as here}
use mathlib.Core.List.Memᴰ.{tail as there}
use mathlib.Core.List.{List, [], ◌∷◌, map, tail, Memᴰ as Mem}
use Prim.Native.Nat.{ℕ, zero, suc, ◌+◌, ◌-◌, ◌≤◌, ◌<◌}
use native.Mathlib.Numerals.{add-one}
use native.Mathlib.Omega.{arith}
use lib.Dec.{T, ltb, ltb→lt, nltb→le}
use lib.ListN.{length, get_or, take, drop, drop_of_length-le, get_or-eq_default, get_or-map, length-map, length-take}
use lib.Seq.{drop-cons, drop-drop, ext_get_or}
use Rattle.std.proofs.lemmas.List.{drop-take, drop-map, get_or-take}
use Rattle.model.proofs.Tests.{split}
use Rattle.model.proofs.Loops.{listed as entry_listed, length-listed}
use Rattle.due.specs.declared.reports.Report.{Report}
use Rattle.due.specs.declared.reports.Reports.{Reports}
use Rattle.due.specs.Lists.{report_room, report_of, IsReport, no_report, listed, owed}

-- as many reports as are in use
pub length-owed : (rs : Reports) → length (owed rs) ≡ rs.count
length-owed rs = length-listed (λ i. report_of (get_or rs.items i no_report)) rs.count

-- one more is given: the first is due no longer
pub drop-next : {A : Type 0} (n : ℕ) (l : List A) → drop (n + 1) l ≡ tail (drop n l)
drop-next {A} n l = rw add-one (go n l)
  where
    go : (n : ℕ) (l : List A) → drop (suc n) l ≡ tail (drop n l)
    go zero [] = refl
    go zero (a ∷ l) = refl
    go (suc n) [] = refl
    go (suc n) (a ∷ l) = go n l

in_drop : {A : Type 0} (n : ℕ) (l : List A) {a : A} → Mem a (drop n l) → Mem a l
in_drop zero l m = m
in_drop (suc n) [] m = m
in_drop (suc n) (b ∷ l) m = there (in_drop n l m)

module _ (at : ℕ → Report) (n given : ℕ) where
  counted : length (listed at n) ≡ n
  counted = length-listed (λ i. report_of (at i)) n

  -- nothing is due where all are given
  pub none_due : n ≤ given → drop given (listed at n) ≡ []
  none_due h = drop_of_length-le (listed at n) {i = given} (omega (arith, counted))

  -- otherwise the one behind those given is due first
  pub first_due : given < n → drop given (listed at n) ≡ report_of (at given) ∷ drop (suc given) (listed at n)
  first_due h =
      drop-cons (listed at n) given (report_of no_report) (omega (arith, counted))
      ∙ ap (λ r. r ∷ drop (suc given) (listed at n)) (entry_listed (λ i. report_of (at i)) n given (report_of no_report) h)

  pub next_due : given < n → drop given (listed at n) ≡ report_of (at given) ∷ drop (given + 1) (listed at n)
  next_due h = rw add-one (first_due h)

-- and so is every one up to the count
pub in_due : (at : ℕ → Report) (n given i : ℕ) → given ≤ i → i < n → Mem (report_of (at i)) (drop given (listed at n))
in_due at n given i a b =
    let z : given + (i - given) ≡ i = omega arith in
    in_drop (i - given) (drop given (listed at n)) (rw (drop-drop (i - given) given (listed at n), z, first_due at n i b) (here refl))

-- past the end of an array there is no report
pub within : (items : List Report) (i : ℕ) → length items ≡ report_room → IsReport (get_or items i no_report) → i < report_room
within items i size k = go (split (ltb i report_room))
  where
    go : T (ltb i report_room) ⊎ T (not (ltb i report_room)) → i < report_room
    go (inl u) = ltb→lt i report_room u
    go (inr u) =
        let past : get_or items i no_report ≡ no_report = get_or-eq_default items no_report (omega (arith, nltb→le i report_room u)) in
        let z : IsReport no_report = rw past at k in
        absurd (omega (arith, z.least))

-- those behind the ones given, as a slice of the array
module _ (rs : Reports) (given : ℕ) where
  pub due_slice : given ≤ rs.count → rs.count ≤ length rs.items → map report_of (take (rs.count - given) (drop given rs.items)) ≡ drop given (owed rs)
  due_slice h k =
      let n = rs.count - given in
      let z : given + n ≡ rs.count = omega arith in
      ap (map report_of) (sym (drop-take given n rs.items) ∙ ap (λ m. drop given (take m rs.items)) z) ∙ sym (drop-map report_of given (take rs.count rs.items)) ∙ ap (drop given) (sym whole)
    where
      long : length (map report_of (take rs.count rs.items)) ≡ rs.count
      long = omega (arith, length-map (take rs.count rs.items) report_of, length-take rs.count rs.items)

      whole : owed rs ≡ map report_of (take rs.count rs.items)
      whole = ext_get_or (report_of no_report) (owed rs) (map report_of (take rs.count rs.items)) (length-owed rs ∙ sym long)
          (λ i b. let c : i < rs.count = omega (arith, length-owed rs) in
          entry_listed (λ j. report_of (get_or rs.items j no_report)) rs.count i (report_of no_report) c
          ∙ sym (get_or-map report_of (take rs.count rs.items) i no_report ∙ ap report_of (get_or-take rs.count rs.items i no_report c)))

  pub none_left : rs.count ≤ given → map report_of [] ≡ drop given (owed rs)
  none_left h = sym (none_due (λ i. get_or rs.items i no_report) rs.count given h)
