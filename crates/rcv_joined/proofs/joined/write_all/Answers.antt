-- One journal more, behind its heading.
use Rattle.std.proofs.Common.{rules}
use Rattle.rcv_page.proofs.Adding.{then, adds_same}
use Rattle.rcv_joined.proofs.Joining.{next_one}
use Rattle.rcv_joined.proofs.joined.write_all.Goals as goal

pub loop-number-preserved : goal.loop-number-preserved
loop-number-preserved g c =
    adds_same _ _ _ _ (next_one c.args.json c.args.texts.now c.loop-number.number _ (search rules)) (then c.loop-number.invariant (then c.write_heading.ensures c.word.ensures))
