-- One turn of a walk: what is known of the record that is read, and that each way through the turn is one of the machine's answers.
use mathlib.Core.Path.{◌≡◌, sym, ap, subst, ◌∙◌}
use mathlib.Core.Logic.{◌≢◌}
use mathlib.Core.Bool.{Bool, false, true, ◌&&◌, ◌||◌, not, true≢false}
use mathlib.Core.List.{List}
use Prim.Native.Nat.{ℕ, ◌+◌, ◌≤◌, ◌<◌}
use lib.Dec.{T, eqb, leb, ltb, leb→le, ltb→lt, eqb→eq}
use Rattle.model.specs.Records as records
use Rattle.model.specs.Records.{call, is_tick, is_tick_record}
use Rattle.model.specs.Rules.{stage, call_place, in_order}
use Rattle.model.proofs.Tests.{from_true, and_left, and_right}
use Rattle.due.specs.declared.reports.Report.{Report}
use Rattle.due.specs.Lists.{report_of}
use Rattle.machine.specs.declared.record.Record.{Record}
use Rattle.machine.specs.declared.record.Record.TheVariants as variants
use Rattle.machine.specs.declared.reporting.Reporting.{Reporting}
use Rattle.machine.specs.declared.state.State.{State}
use Rattle.machine.specs.View.{view, shown}
use Rattle.machine.specs.Records as machine
use Rattle.machine.specs.Clauses.{passed}
use Rattle.machine.specs.Calls.{Asks, Calls, Moves, Ticks, Answers, Called, in_place, unasked, Hearing, Hears}
use Rattle.machine.proofs.Laws.{named_place, heard_answers, unasked_answers, passed_answers}
use Rattle.dump.specs.declared.layout.Entry.{Entry}
use Rattle.dump.specs.Layout.{kind_at, operand_at, record_of, record_at}
use Rattle.dump.specs.Questions.{operand_fits}
use Rattle.dump.proofs.Laws.{names}
use Rattle.walk.specs.Clauses.{Walks}
use Rattle.walk.proofs.Walking.{Walking, heard_due, not_heard, walk_record, walk_reads, walk_ceilings, walk_asks}

is : {old r x : Reporting} {z : records.Record} → r ≡ x → Answers x old z → Answers r old z
is {old} {z = z} q a = subst (λ r. Answers r old z) (sym q) a

module _ {s : State} {ceilings bytes : List ℕ} {from to : ℕ} (a : Walks s ceilings bytes from to)
    {c : Reporting} {i : ℕ} (stands : Walking s.machine.plan (view s) bytes from to c i) (more : i < to)
    {e : Entry} (read : (e.kind ≡ kind_at bytes i) × (e.operand ≡ operand_at bytes i)) where
  abbrev pub at : records.Record
  at = record_at bytes i

  pub asks : Asks c at
  asks = walk_asks a stands more

  is_record : record_of e.kind e.operand ≡ at
  is_record = walk_record bytes i read

  pub readable : T (operand_fits 16 16 e.kind e.operand)
  readable = walk_reads a stands more read

  named : machine.Named e.kind e.operand at
  named = subst (machine.Named e.kind e.operand) is_record (names e.kind e.operand readable)

  -- the test whether the record is heard, and what it says
  abbrev test : Bool
  test = not (eqb e.kind 7) && ltb c.given c.due || not (in_place c.machine e.kind)

  -- in its place something is due, and it is no Tick
  due : {hears : Bool} → hears ≡ test → hears ≡ true → T (in_place c.machine e.kind) → (e.kind ≢ 7) × (c.given < c.due)
  due h t o = heard_due e.kind c.given c.due (in_place c.machine e.kind) (sym h ∙ t) o

  pub hearing : {hears : Bool} → hears ≡ test → hears ≡ true → Hearing c e.kind
  hearing h t = record { formed' = asks.formed'; due' = λ o. (due h t o).1 }

  pub heard : {hears : Bool} → hears ≡ test → hears ≡ true → {after made : Reporting} → after ≡ made → Hears made c e.kind e.operand → Answers after c at
  heard h t q m = is q (heard_answers asks m (due h t) named)

  -- nothing is due but where it is a Tick, and the record stands in its place
  module _ {hears : Bool} (h : hears ≡ test) (f : hears ≡ false) where
    unheard : (is_tick_record at ≡ false → c.due ≤ c.given) × T (in_order (shown c).timers.arming at)
    unheard =
        let u = not_heard e.kind c.given c.due (in_place c.machine e.kind) (sym h ∙ f) in
        let other : is_tick_record at ≡ false → e.kind ≢ 7 =
        λ n z. true≢false (ap is_tick_record (ap (λ k. record_of k e.operand) (sym z) ∙ is_record) ∙ n) in
        (λ n. u.0 (other n), rw (named_place named) u.1)

    -- a call that is record i, in its place
    ordered : {k : records.Call} → at ≡ call k → stage (shown c).timers.arming ≡ call_place k
    ordered {k} q =
        let st = shown c in
        eqb→eq (stage st.timers.arming) (call_place k) (subst (λ r. T (in_order st.timers.arming r)) q unheard.1)

    -- other than Tick it comes with nothing due
    calls : {k : records.Call} → is_tick k ≡ false → at ≡ call k → Calls c k
    calls n q = record { asks = subst (λ r. Asks c r) q asks; undue = unheard.0 (ap is_tick_record q ∙ n); ordered = ordered q }

    -- a Tick, whatever is due
    ticks : at ≡ call records.Tick → Ticks c
    ticks q = record { asks = subst (λ r. Asks c r) q asks; ordered = ordered q }

    -- kind 7 is Tick
    is_tick_call : e.kind ≡ 7 → at ≡ call records.Tick
    is_tick_call k = sym is_record ∙ ap (λ n. record_of n e.operand) k

    pub ticks_by : e.kind ≡ 7 → Ticks c
    ticks_by k = ticks (is_tick_call k)

    pub passes : e.kind ≡ 7 → c.rule ≡ 0 → {quiet : Bool} → quiet ≡ (leb c.due c.given && ltb (c.machine.tick.0 + 1) c.quiet.0) → quiet ≡ true → {after : Reporting} → after ≡ passed c → Answers after c at
    passes k z {quiet} b t q =
        let undue = leb c.due c.given in
        let below = ltb (c.machine.tick.0 + 1) c.quiet.0 in
        let both = from_true (undue && below) (sym b ∙ t) in
        let k' = ticks_by k in
        let calm : Calls c records.Tick = record { asks = k'.asks; undue = leb→le c.due c.given (and_left undue below both); ordered = k'.ordered } in
        is q (subst (λ y. Answers (passed c) c y) (sym (is_tick_call k)) (passed_answers calm z (ltb→lt (c.machine.tick.0 + 1) c.quiet.0 (and_right undue below both))))

    -- the record that was read is record i
    module _ {r : Record} (same : machine.record_of r ≡ record_of e.kind e.operand) where
      is_read : {x : Record} → r ≡ x → at ≡ machine.record_of x
      is_read q = sym is_record ∙ sym same ∙ ap machine.record_of q

      pub called : {x : Record} {k : records.Call} → r ≡ x → machine.record_of x ≡ call k → is_tick k ≡ false → Calls c k
      called q m n = calls n (is_read q ∙ m)

      -- a call that may move a hold has the ceilings beside it
      pub moves : {x : Record} {k : records.Call} → r ≡ x → machine.record_of x ≡ call k → is_tick k ≡ false → Moves c ceilings k
      moves q m n = record { calls = called q m n; ceilings' = walk_ceilings a stands }

      pub ticked : {x : Record} → r ≡ x → machine.record_of x ≡ call records.Tick → Ticks c
      ticked q m = ticks (is_read q ∙ m)

      -- it is a call that is made
      pub made : {x : Record} {k : records.Call} → r ≡ x → machine.record_of x ≡ call k → {after x' : Reporting} → after ≡ x' → Called x' c k → Answers after c at
      made q m {x' = x'} z o = is z (subst (λ y. Answers x' c y) (sym (is_read q ∙ m)) o.answers)

      -- it is a report that was not asked for
      pub barred : {d : Report} → r ≡ variants.Report d → {after made' : Reporting} → after ≡ made' → made' ≡ unasked c → Answers after c at
      barred {d} q z m = let n = is_read q in is (z ∙ m) (unasked_answers asks unheard.1 (unheard.0 (ap is_tick_record n)) (report_of d) n)
