-- The event is the role's, or there is nothing to add.
use Rattle.std.proofs.Common.{List, ◌++◌, append-nil, sym, ◌∙◌, ap}
use Rattle.rcv_tree.specs.declared.event.Event.{Event}
use Rattle.rcv_depend.proofs.Rounds.{own_event, other_event}
use Rattle.rcv_depend.proofs.tests.add_own.Goals as goal

pub returns-then-eq : goal.returns-then-eq
returns-then-eq c = c.in_ok-push.ensures.items ∙ ap (λ (l : List Event). c.args.log.now.items ++ l) (sym (own_event c.args.role c.args.event (sym c.eq.ensures ∙ c.if-eq.true)))

pub returns : goal.returns
returns c = sym (append-nil c.args.log.now.items) ∙ ap (λ (l : List Event). c.args.log.now.items ++ l) (sym (other_event c.args.role c.args.event (sym c.eq.ensures ∙ c.if-eq.false)))
