-- One poll, behind which the cell has its ends.
use Rattle.rcv_super.proofs.step.poll_cell.Goals as goal

pub returns : goal.returns
returns g c = record { poll = c.poll-poll.result; polled = c.poll-poll.ensures.polled; goes = c.poll-poll.ensures.goes; ends = c.known.ensures.ends }
