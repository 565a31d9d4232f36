-- Questions 1 and 8 in numbers. Rule 30 compares whole operands: of reports of one kind that question 8 allows, the operands that a dump has for them.
use mathlib.Core.Path.{◌≡◌, refl, sym, ◌∙◌}
use mathlib.Core.Bool.{Bool, ◌&&◌}
use mathlib.Core.Option.{Option, none, some, some-ne-none}
use Prim.Native.Nat.{ℕ, ◌≤◌, ◌<◌}
use native.Mathlib.Omega.{arith}
use lib.Dec.{T, eqb, leb, leb→le, ltb→lt}
use lib.ListN.{length}
use Rattle.model.specs.Searches.{all, same}
use Rattle.model.specs.Plan.{Plan, threads, valid_plan}
use Rattle.model.specs.Records.{Report, Ready, Switch, Won, Lost, Yield, Expire, Late, report_kind, operand, operand_number, allowed_report}
use Rattle.model.proofs.Tests.{and_left, and_right, is_false, ne_test}

-- question 1 in numbers
pub counts_fit : (p : Plan) → T (valid_plan p) → (threads p ≤ 16) × (p.sections ≤ 16)
unfolding valid_plan
counts_fit p v =
    let few : T (leb 1 (threads p) && leb (threads p) 16) = and_left (leb 1 (threads p) && leb (threads p) 16) (leb p.sections 16) counts in
    (leb→le (threads p) 16 (and_right (leb 1 (threads p)) (leb (threads p) 16) few), leb→le p.sections 16 (and_right (leb 1 (threads p) && leb (threads p) 16) (leb p.sections 16) counts))
  where
    first : Bool
    first = leb 1 (threads p) && leb (threads p) 16 && leb p.sections 16

    second : Bool
    second = eqb (length p.needs) (threads p)

    third : Bool
    third = all (λ b. leb 1 b && leb b 64) p.bases

    counts : T first
    counts = and_left first second (and_left (first && second) third (and_left (first && second && third) _ v))

-- only a Switch names nobody
nobody_switch : (r : Report) → operand r ≡ none → report_kind r ≡ 17
nobody_switch (Ready t) e = absurd (some-ne-none t e)
nobody_switch (Switch w) e = refl
nobody_switch (Won t) e = absurd (some-ne-none t e)
nobody_switch (Lost t) e = absurd (some-ne-none t e)
nobody_switch (Yield t) e = absurd (some-ne-none t e)
nobody_switch (Expire i) e = absurd (some-ne-none i e)
nobody_switch (Late n) e = absurd (some-ne-none n e)

module _ (p : Plan) (v : T (valid_plan p)) where
  -- and a Switch names no thread 65535
  switch_below : (r : Report) → T (allowed_report p r) → report_kind r ≡ 17 → (t : ℕ) → operand r ≡ some t → t < 65535
  switch_below (Ready u) a k t e = absurd (omega arith)
  switch_below (Switch w) a k t e = omega (arith, (counts_fit p v).0, ltb→lt t (threads p) (rw e at a))
  switch_below (Won u) a k t e = absurd (omega arith)
  switch_below (Lost u) a k t e = absurd (omega arith)
  switch_below (Yield u) a k t e = absurd (omega arith)
  switch_below (Expire i) a k t e = absurd (omega arith)
  switch_below (Late n) a k t e = absurd (omega arith)

  pub whole_operands : (d r : Report) → T (allowed_report p d) → T (allowed_report p r) → report_kind d ≡ report_kind r → same (operand d) (operand r) ≡ eqb (operand_number (operand d)) (operand_number (operand r))
  whole_operands d r a b k = go (operand d) (operand r) refl refl
    where
      go : (x y : Option ℕ) → operand d ≡ x → operand r ≡ y → same x y ≡ eqb (operand_number x) (operand_number y)
      go none none e f = refl
      go none (some u) e f = let h = switch_below r b (sym k ∙ nobody_switch d e) u f in sym (is_false (eqb 65535 u) (ne_test 65535 u (λ q. omega arith)))
      go (some t) none e f = let h = switch_below d a (k ∙ nobody_switch r f) t e in sym (is_false (eqb t 65535) (ne_test t 65535 (λ q. omega arith)))
      go (some t) (some u) e f = refl
