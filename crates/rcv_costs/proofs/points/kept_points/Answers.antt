-- One event more.
use Rattle.std.proofs.Common.{◌≡◌, length, ◌∙◌, arith}
use Rattle.rcv_tree.specs.declared.event.Event.{Event}
use Rattle.rcv_model.specs.Journal.{events_of}
use Rattle.rcv_model.proofs.Bystanders.{as_many}
use Rattle.rcv_core.specs.Book.{state_of}
use Rattle.rcv_costs.proofs.Lists.{mapped_more, mapped_all}
use Rattle.rcv_costs.proofs.points.kept_points.Goals as goal

pub loop-number-preserved : goal.loop-number-preserved
loop-number-preserved c = c.in_ok-push.ensures.items ∙ mapped_more (λ (e : Event). e.point) (events_of c.args.role (state_of c.args.book.now).kept) c.loop-number.number c.event.result.now c.loop-number.points.items c.event.ensures c.loop-number.invariant

pub returns : goal.returns
returns c =
    let all : c.loop-number.number ≡ length (events_of c.args.role (state_of c.args.book.now).kept) = omega (arith, c.loop-number-test.false, c.loop-number.auto.number-end, c.kept-number-end.ensures, as_many c.args.role (state_of c.args.book.now).kept) in
    mapped_all (λ (e : Event). e.point) (events_of c.args.role (state_of c.args.book.now).kept) c.loop-number.number c.loop-number.points.items all c.loop-number.invariant
