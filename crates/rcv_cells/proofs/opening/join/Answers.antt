-- Two channels more.
use Rattle.rcv_session.specs.Session.{rules_of}
use Rattle.rcv_cells.proofs.Wiring.{one_set}
use Rattle.rcv_cells.proofs.opening.join.Goals as goal

pub returns : goal.returns
returns c = one_set (rules_of c.args.setup.now) c.args.role c.args.all.now.items c.args.other c.args.mine.now c.push.new.self c.index_mut-theirs.result.now c.push-2.new.self c.requires.joined c.requires.other c.in_ok-post.post c.in_ok-their_post.inbox c.in_ok-their_post.their_post c.in_ok-post.their_inbox c.index_mut-theirs.ensures.value c.in_ok-push-2.ensures c.in_ok-push.ensures c.in_ok-post.ensures c.in_ok-their_post.ensures
