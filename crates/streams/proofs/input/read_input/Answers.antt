-- `read_input` meets its contract: the bytes of a read stand behind those of the reads before, until the buffer is full or the input ends.
use Rattle.std.proofs.Common.{◌-◌, rules, length, subst, sym}
use Rattle.std.proofs.KnownBytes.{Consumes-trans}
use Rattle.std.specs.Io.{ReadsAtMost}
use Rattle.std.specs.Io.KnownBytes.{Consumes, ReadConsumes}
use Rattle.streams.proofs.Reading.{moved, behind}
use Rattle.streams.proofs.input.read_input.Goals as goal

pub loop-done-preserved : goal.loop-done-preserved
loop-done-preserved g c =
    let l = c.loop-done in
    let got = c.read.new.buf in
    let n = c.in-Some.n in
    let answer = moved c.read.result n (search rules) in
    let bound = subst (λ r. ReadsAtMost r got) answer c.read.ensures.bound in
    let bytes = subst (λ r. ReadConsumes (g.R.Read.remaining l.reader) (g.R.Read.remaining c.read.new.self) r got) answer c.read.ensures.bytes in (
      search rules,
      search rules,
      subst (Consumes _ _) (sym (behind l.done (length l.buf - l.done) n l.buf got l.invariant.0 bound.0)) (Consumes-trans _ _ _ _ _ l.invariant.2 bytes.0),
    )
