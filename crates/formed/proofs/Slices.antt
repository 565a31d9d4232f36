-- The reports due as a slice of their array: the list that they stand for, and what the library's words for a list say of it.
use mathlib.Core.Path.{◌≡◌, refl, ap, sym, ◌∙◌}
use mathlib.Core.Bool.{Bool, true, false, cond, not, ◌&&◌, ◌||◌}
use mathlib.Core.List.{List, [], ◌∷◌, ◌++◌, map}
use Prim.Native.Nat.{ℕ, ◌+◌, ◌-◌, ◌≤◌, ◌<◌}
use native.Mathlib.Omega.{arith}
use lib.ListN.{length, take, drop, get_or, get_or-map, length-map, length-take}
use lib.Seq.{ext_get_or}
use Rattle.std.specs.List.{AllPass, list_all, count_by}
use Rattle.std.specs.Bool.{IsTrue}
use mathlib.Core.Logic.{◌↔◌}
use Rattle.std.proofs.lemmas.List.{drop-take, drop-map, get_or-take}
use Rattle.std.proofs.lemmas.List.Recursion.{is_count_by}
use Rattle.std.proofs.lemmas.List.Sums.{AllPass-from_list_all, list_all-from_AllPass}
use Rattle.model.specs.Searches.{all, filter}
use Rattle.model.specs.Records.{is_switch}
use Rattle.model.specs.Formed.{switch_last}
use Rattle.model.proofs.Loops.{listed}
use Rattle.due.specs.declared.reports.Report.{Report}
use Rattle.due.specs.declared.reports.Reports.{Reports}
use Rattle.due.specs.Lists.{report_of, no_report, owed}
use Rattle.due.proofs.Laws.{length-owed}

-- a test of what entries stand for is a test of the entries
module _ {A B : Type 0} (f : B → Bool) (g : A → B) where
  pub all_of : (l : List A) → list_all (λ a. f (g a)) l ≡ all f (map g l)
  all_of [] = refl
  all_of (a ∷ l) = ap (λ b. f (g a) && b) (all_of l)

  pub count_of : (l : List A) → count_by (λ a. f (g a)) l ≡ length (filter f (map g l))
  count_of l = sym (is_count_by (λ l. length (filter f (map g l))) (λ a. f (g a)) refl (λ a l. one_more (f (g a)) (g a) (filter f (map g l))) l)
    where
      one_more : (b : Bool) (a : B) (l : List B) → length (cond b (a ∷ l) l) ≡ cond b (1 + length l) (length l)
      one_more true a l = omega arith
      one_more false a l = refl

  -- an answer that is Yes where each passes
  pub answers : (l : List A) (b : Bool) → (IsTrue b ↔ AllPass (λ a. f (g a)) l) → b ≡ all f (map g l)
  answers l b h = go b h (list_all (λ a. f (g a)) l) refl ∙ all_of l
    where
      go : (b : Bool) → (IsTrue b ↔ AllPass (λ a. f (g a)) l) → (r : Bool) → list_all (λ a. f (g a)) l ≡ r → b ≡ list_all (λ a. f (g a)) l
      go true h r e = sym (list_all-from_AllPass (λ a. f (g a)) l (h.0 refl))
      go false h true e = h.1 (AllPass-from_list_all (λ a. f (g a)) l e) ∙ sym e
      go false h false e = sym e

-- no entry but the last one is a Switch
pub last_of : (l : List Report) (r : Report) → all (λ d. not (is_switch d)) (map report_of l) ≡ switch_last (map report_of (l ++ (r ∷ [])))
last_of [] r = either (not (is_switch (report_of r)))
  where
    either : (b : Bool) → true ≡ (b || true) && true
    either true = refl
    either false = refl
last_of (a ∷ l) r = go l (last_of l r)
  where
    first : (b c d : Bool) → c ≡ d → b && c ≡ (b || false) && d
    first true c d e = e
    first false c d e = refl

    go : (l : List Report) → all (λ d. not (is_switch d)) (map report_of l) ≡ switch_last (map report_of (l ++ (r ∷ []))) → all (λ d. not (is_switch d)) (map report_of (a ∷ l)) ≡ switch_last (map report_of (a ∷ (l ++ (r ∷ []))))
    go [] e = first (not (is_switch (report_of a))) _ _ e
    go (b ∷ l) e = first (not (is_switch (report_of a))) _ _ e

-- the reports due, as a slice
pub due_of : (rs : Reports) (given : ℕ) → given ≤ rs.count → rs.count ≤ length rs.items → map report_of (take (rs.count - given) (drop given rs.items)) ≡ drop given (owed rs)
due_of rs given h k =
    let n = rs.count - given in
    let z : given + n ≡ rs.count = omega arith in
    ap (map report_of) (sym (drop-take given n rs.items) ∙ ap (λ m. drop given (take m rs.items)) z) ∙ sym (drop-map report_of given (take rs.count rs.items)) ∙ ap (drop given) (sym whole)
  where
    long : length (map report_of (take rs.count rs.items)) ≡ rs.count
    long = omega (arith, length-map (take rs.count rs.items) report_of, length-take rs.count rs.items)

    whole : owed rs ≡ map report_of (take rs.count rs.items)
    whole = ext_get_or (report_of no_report) (owed rs) (map report_of (take rs.count rs.items)) (length-owed rs ∙ sym long)
        (λ i b. let c : i < rs.count = omega (arith, length-owed rs) in
        listed (λ j. report_of (get_or rs.items j no_report)) rs.count i (report_of no_report) c
        ∙ sym (get_or-map report_of (take rs.count rs.items) i no_report ∙ ap report_of (get_or-take rs.count rs.items i no_report c)))
