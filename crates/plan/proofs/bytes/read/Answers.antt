-- `read` meets its contract: bytes that nothing refuses have the answer Yes to questions 1 and 2.
use mathlib.Core.Path.{◌≡◌, ap, ◌∙◌}
use native.Mathlib.Omega.{arith}
use Rattle.plan.specs.Bytes.{thread_count, section_count, Whole}
use Rattle.plan.specs.View.{in_use}
use Rattle.plan.proofs.Answers.{accepted, whole}
use Rattle.plan.proofs.bytes.read.Goals as goal
use Rattle.plan.proofs.bytes.read.Goals.{After-byte_at, Start}

readable : (c : goal.Start) → Whole c.args.bytes.now
readable c =
    let a = accepted c.args.bytes.now c.requires in
    whole c.args.bytes.now a.counts a.size

pub byte_at-requires : goal.byte_at-requires
byte_at-requires c =
    let w = readable (goal.at.byte_at-requires c).Start in
    omega arith

pub byte_at-requires-2 : goal.byte_at-requires-2
byte_at-requires-2 c =
    let w = readable (goal.at.byte_at-requires-2 c).Start in
    omega arith

pub bases_of-requires : goal.bases_of-requires
bases_of-requires c = readable (goal.at.bases_of-requires c).Start

pub needs_of-requires : goal.needs_of-requires
needs_of-requires c = readable (goal.at.needs_of-requires c).Start

pub returns : goal.returns
returns c =
    let bytes = c.args.bytes.now in
    let w = readable (goal.at.returns c).Start in
    let threads : c.byte_at.result ≡ thread_count bytes = c.byte_at.ensures in
    let sections : c.byte_at-2.result ≡ section_count bytes = c.byte_at-2.ensures in
    let bases = ap (λ n. in_use n c.bases_of.result) threads ∙ c.bases_of.ensures in
    let needs = ap (λ n. in_use n c.needs_of.result) threads ∙ c.needs_of.ensures in
    record {
      fits = record { threads = omega arith; sections = omega arith };
      seen = λ i. record { sections = sections i; bases = bases i; needs = needs i };
    }
