-- The text is taken, or not.
use Rattle.rcv_c.proofs.Opened.{checks_failed}
use Rattle.rcv_c.proofs.open.check.Goals as goal

pub returns : goal.returns
returns c =
    checks_failed c.args.text.now c.args.why.now c.failed.new.why c.failed.result (c.failed.ensures c.args.text.now c.in-Err.ensures.taken)
