-- `Reports::joined` meets its contract: those stored so far, and the reports of those left, are all.
use mathlib.Core.Path.{◌≡◌, ap, sym, ◌∙◌}
use mathlib.Core.List.{[], ◌∷◌, ◌++◌, map, append-nil, append_assoc}
use native.Mathlib.Omega.{arith}
use lib.ListN.{length, length-set}
use Rattle.model.proofs.Loops.{stored_next}
use Rattle.lists.specs.Words.{nibbles}
use Rattle.lists.specs.Lists.{queued}
use Rattle.lists.proofs.Laws.{length-queued}
use Rattle.due.specs.Lists.{kind_number, report_of, no_report, report_by, owed}
use Rattle.due.proofs.Sized.{reports_size}
use Rattle.due.proofs.reports.Reports.joined.Invariants.{held}
use Rattle.due.proofs.reports.Reports.joined.Goals as goal

pub loop-t-init : goal.loop-t-init
loop-t-init c =
    let a = c.args in
    let s = c.into_iter-t-iterator in
    let e : nibbles s.result.left s.result.rest ≡ queued a.who = rw s.ensures.into_iter_gives c.iter-t-items.ensures in
    record {
      room = omega (arith, ap length e, length-queued a.who, c.requires.1);
      sized = reports_size a.self c.well_formed.0;
      all = ap (λ l. owed a.self ++ map (report_by (kind_number a.kind)) l) e;
    }

pub offset_bounds-items-n : goal.offset_bounds-items-n
offset_bounds-items-n c = record { fits = omega (arith, c.loop-t.invariant.room) }

pub loop-t-preserved : goal.loop-t-preserved
loop-t-preserved c =
    let l = c.loop-t in
    let v = l.invariant in
    let by = report_by (kind_number c.args.kind) in
    let t = c.in-Some.t in
    let more = nibbles c.next.new.self.left c.next.new.self.rest in
    let s = c.in-Some.ensures.steps in
    let stored =
    stored_next report_of no_report c.of-r.result l.items l.n (omega (arith, v.room, v.sized, ap length s))
    ∙ ap (λ r. held l.items l.n ++ (report_of r ∷ [])) c.of-r.ensures in
    record {
      room = omega (arith, v.room, ap length s);
      sized = length-set l.items l.n c.of-r.result ∙ v.sized;
      all = ap (λ k. k ++ map by more) stored ∙ append_assoc (held l.items l.n) (by t ∷ []) (map by more)
          ∙ ap (λ k. held l.items l.n ++ map by k) (sym s) ∙ v.all;
    }

pub returns : goal.returns
returns c =
    let l = c.loop-t in
    sym (append-nil (held l.items l.n))
    ∙ ap (λ k. held l.items l.n ++ map (report_by (kind_number c.args.kind)) k) (sym c.in-None.ensures.steps.0)
    ∙ l.invariant.all
