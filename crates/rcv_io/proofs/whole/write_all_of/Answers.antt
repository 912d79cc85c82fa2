use Rattle.std.proofs.Common.{rules, ◌∙◌}
use Rattle.std.proofs.lemmas.List.{take_rest}
use Rattle.rcv_io.proofs.Writing.{wrote_more}
use Rattle.rcv_io.proofs.whole.write_all_of.Goals as goal

pub loop-done-preserved : goal.loop-done-preserved
loop-done-preserved g c =
    let piece = rw (take_rest c.args.bytes.now c.loop-done.done) at c.in_ok-done.ensures.bytes in
    record {
      inside = search rules;
      front = wrote_more _ _ _ _ _ _ c.loop-done.invariant.front piece;
      fine = c.in_ok-done.ensures.fine ∙ c.loop-done.invariant.fine;
    }
