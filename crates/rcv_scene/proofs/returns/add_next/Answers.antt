-- With words before and after it.
use Rattle.rcv_scene.proofs.returns.add_next.Goals as goal

pub returns : goal.returns
returns c = record { before = c.if-first.before.now; after = c.as_slice.result.now; is = c.in_ok-put_point.ensures }
