-- `run` meets its contract: what was read is answered like the whole input.
use Rattle.std.proofs.Common.{◌≡◌, [], Ok, IfOk, OnOk, IfSome, rules, length, take, replicate, sym, subst}
use Rattle.std.proofs.KnownBytes.{Appends-nil}
use Rattle.std.specs.Io.KnownBytes.{Appends}
use Rattle.streams.proofs.Laws.{read_same}
use Rattle.bench.specs.Printed.{to_output, to_error}
use Rattle.bench.proofs.Cut.{cut_output, cut_error}
use Rattle.bench.proofs.run.Goals as goal

pub returns-in_ok-map_err-in-Ok-clause-output : goal.returns-in_ok-map_err-in-Ok-clause-output
returns-in_ok-map_err-in-Ok-clause-output g c =
    let n = c.in_ok-size.size in
    let buf = c.read_input.new.buf in
    let known = g.R.Read.remaining c.args.reader.now in
    let read : c.read_input.result ≡ Ok n = search rules in
    let front = subst (λ r. IfOk r (λ n. IfSome known (λ input. take n buf ≡ take (length buf) input))) read c.read_input.ensures.bytes in
    let grown = Appends (g.W.Write.contents c.args.writer.now) (g.W.Write.contents c.write_piece.new.writer) in
    let wrote : c.write_piece.result ≡ Ok c.in_ok-map_err-in-Ok.field-0 = search rules in
    let done = subst (λ r. OnOk r (grown (take c.in-Ok.dump c.written.new.out))) wrote c.write_piece.ensures in
    read_same (λ input. to_output input (replicate 65536 0)) grown known n 65536 buf (λ input. cut_output input (replicate 65536 0)) c.read_input.auto.buf front (subst grown c.in-Ok.ensures.out_after done)

pub returns-in_ok-map_err-in-Ok-clause-line : goal.returns-in_ok-map_err-in-Ok-clause-line
returns-in_ok-map_err-in-Ok-clause-line g c =
    let n = c.in_ok-size.size in
    let buf = c.read_input.new.buf in
    let known = g.R.Read.remaining c.args.reader.now in
    let read : c.read_input.result ≡ Ok n = search rules in
    let front = subst (λ r. IfOk r (λ n. IfSome known (λ input. take n buf ≡ take (length buf) input))) read c.read_input.ensures.bytes in
    read_same (λ input. to_error input 65536) (λ line. [] ≡ line) known n 65536 buf (λ input. cut_error input 65536) c.read_input.auto.buf front (sym c.in-Ok.ensures.line_after)

pub returns-in-Err-clause-output : goal.returns-in-Err-clause-output
returns-in-Err-clause-output g c =
    let n = c.in_ok-size.size in
    let buf = c.read_input.new.buf in
    let known = g.R.Read.remaining c.args.reader.now in
    let read : c.read_input.result ≡ Ok n = search rules in
    let front = subst (λ r. IfOk r (λ n. IfSome known (λ input. take n buf ≡ take (length buf) input))) read c.read_input.ensures.bytes in
    let contents = g.W.Write.contents c.args.writer.now in
    read_same (λ input. to_output input (replicate 65536 0)) (Appends contents contents) known n 65536 buf (λ input. cut_output input (replicate 65536 0)) c.read_input.auto.buf front
    (subst (Appends contents contents) (sym c.in-Err.ensures.out_after) (Appends-nil contents))

pub returns-in-Err-clause-line : goal.returns-in-Err-clause-line
returns-in-Err-clause-line g c =
    let n = c.in_ok-size.size in
    let buf = c.read_input.new.buf in
    let known = g.R.Read.remaining c.args.reader.now in
    let read : c.read_input.result ≡ Ok n = search rules in
    let front = subst (λ r. IfOk r (λ n. IfSome known (λ input. take n buf ≡ take (length buf) input))) read c.read_input.ensures.bytes in
    read_same (λ input. to_error input 65536) (λ line. c.in-Err.text.items ≡ line) known n 65536 buf (λ input. cut_error input 65536) c.read_input.auto.buf front c.in-Err.ensures.line_after
