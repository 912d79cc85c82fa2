-- One piece behind another was taken, up to the answer.
use Rattle.std.proofs.Common.{◌≡◌, ◌<◌, ◌≤◌, ◌++◌, length, take, refl, arith, length-append}
use Rattle.std.proofs.lemmas.Result.{err_from_is_err_and}
use Rattle.rcv_io.specs.declared.fault.ReadError.TheVariants.{TooLong, Memory}
use Rattle.rcv_io.proofs.Taking.{took_none, took_piece, too_long, stopped}
use Rattle.rcv_look.proofs.whole.read_whole.Goals as goal

pub loop-bytes-init : goal.loop-bytes-init
loop-bytes-init g c = record {
  took = took_none _ _ _ c.new-bytes.ensures.items;
  short = omega arith;
  fine = refl;
}

pub returns-then-count-most-clause-taken : goal.returns-then-count-most-clause-taken
returns-then-count-most-clause-taken g c =
    let read = c.in_ok-count.ensures in
    let piece = take c.in_ok-count.count c.read.new.buf in
    let long : c.args.most < length (c.loop-bytes.bytes.items ++ piece) = omega (arith, length-append c.loop-bytes.bytes.items piece, read.bound.1) in
    too_long _ _ _ _ _ _ _ (took_piece _ _ _ _ _ _ _ _ _ c.loop-bytes.invariant.took read.bound.1 read.bytes read.number) long refl

pub returns-in_err-extend_from_slice-clause-taken : goal.returns-in_err-extend_from_slice-clause-taken
returns-in_err-extend_from_slice-clause-taken g c =
    let read = c.in_ok-count.ensures in
    let piece = take c.in_ok-count.count c.read.new.buf in
    let short : length (c.loop-bytes.bytes.items ++ piece) ≤ c.args.most = omega (arith, length-append c.loop-bytes.bytes.items piece, read.bound.1) in
    let gone = err_from_is_err_and c.from_residual-in_err-extend_from_slice.result c.from_residual-in_err-extend_from_slice.ensures.1 in
    rw gone.1
    (stopped _ _ _ _ _ _ _ _ (took_piece _ _ _ _ _ _ _ _ _ c.loop-bytes.invariant.took read.bound.1 read.bytes read.number) short gone.2 (λ (e : Memory ≡ TooLong). cc))
