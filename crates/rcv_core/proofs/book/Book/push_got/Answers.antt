-- An event that may come is the next one of its role.
use Rattle.rcv_tree.specs.declared.event.Dir.TheVariants.{Got}
use Rattle.rcv_core.proofs.Events.{next_event}
use Rattle.rcv_core.proofs.book.Book.push_got.Goals as goal

pub behind_by-behind-requires-clause-next : goal.behind_by-behind-requires-clause-next
behind_by-behind-requires-clause-next c = next_event c.args.self.now Got c.args.event.now c.requires.may
