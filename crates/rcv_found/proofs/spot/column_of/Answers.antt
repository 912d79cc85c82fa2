-- One byte more.
use Rattle.std.proofs.Common.{◌∙◌, ap, sym, take, arith}
use Rattle.std.proofs.lemmas.List.{take_more}
use Rattle.rcv_found.specs.Spots as spots
use Rattle.rcv_found.proofs.spot.column_of.Goals as goal

pub loop-byte-preserved : goal.loop-byte-preserved
loop-byte-preserved c =
    let short = c.next_column-column.ensures.short c.loop-byte.byte-index c.loop-byte.invariant.short in record {
      so_far =
          c.next_column-column.ensures.step (take c.loop-byte.byte-index c.args.before.now) c.loop-byte.invariant.so_far
          ∙ ap spots.column_of (sym (take_more c.args.before.now c.loop-byte.byte-index _ c.loop-byte-test.true));
      short = omega (arith, short);
    }
