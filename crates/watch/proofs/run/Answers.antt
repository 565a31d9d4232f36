-- `run` meets its contract: what was read is printed like the whole input.
use Rattle.std.proofs.Common.{◌≡◌, Result, Ok, Err, OnOk, IsOk, IfOk, IfSome, rules, length, take, refl, subst}
use Rattle.std.specs.Io.KnownBytes.{Appends}
use Rattle.streams.proofs.Laws.{read_same}
use Rattle.watch.specs.Printed.{printed}
use Rattle.watch.proofs.Cut.{cut_printed}
use Rattle.watch.proofs.run.Goals as goal

-- where a failure alone is told otherwise, what was done is the same
as_done : {T E F : Type 0} {P Q : Type 0} (r : Result T E) (s : Result T F) → (IsOk s → IsOk r) → (P → Q) → OnOk r P → OnOk s Q
as_done r (Err e) same f p = tt
as_done (Err e) (Ok t) same f p = let z = same refl in absurd (cc)
as_done (Ok u) (Ok t) same f p = f p

pub returns : goal.returns
returns g c =
    let n = c.in_ok-size.size in
    let buf = c.read_input.new.buf in
    let read : c.read_input.result ≡ Ok n = search rules in
    let front = subst (λ r. IfOk r (λ n. IfSome (g.R.Read.remaining c.args.reader.now) (λ input. take n buf ≡ take (length buf) input))) read c.read_input.ensures.bytes in
    let text : c.as_slice.result.now ≡ printed (take n buf) = search rules in
    let wrote = Appends (g.W.Write.contents c.args.writer.now) (g.W.Write.contents c.write_piece.new.writer) in
    as_done c.write_piece.result c.map_err-2.result (search rules) (λ p. read_same printed wrote (g.R.Read.remaining c.args.reader.now) n 65536 buf cut_printed c.read_input.auto.buf front (subst wrote text p)) c.write_piece.ensures
