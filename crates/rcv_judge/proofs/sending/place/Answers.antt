-- The point of the last event; 0 if there is none.
use Rattle.std.proofs.Common.{◌≡◌, ◌+◌, ◌-◌, length, sym, ◌∙◌, ap, arith}
use Rattle.rcv_tree.specs.declared.event.Event.{Event}
use Rattle.rcv_model.specs.Run.{acts}
use Rattle.rcv_core.specs.Book.{state_of}
use Rattle.rcv_judge.proofs.Sends.{place_there, place_at_first}
use Rattle.rcv_judge.proofs.sending.place.Goals as goal

pub returns-then-count-eq0 : goal.returns-then-count-eq0
returns-then-count-eq0 c =
    let none = c.if-count-eq0.true in
    let size : 0 ≡ length (acts c.args.role (state_of c.args.book.now).kept) = omega (arith, none, c.kept-count.ensures) in
    sym (place_at_first (state_of c.args.book.now) c.args.role size)

pub returns : goal.returns
returns c =
    let some = c.if-count-eq0.false in
    let size : c.kept-count.result - 1 + 1 ≡ length (acts c.args.role (state_of c.args.book.now).kept) = omega (arith, some, c.kept-count.ensures) in
    ap (λ (e : Event). e.point) c.last.view_is ∙ sym (place_there (state_of c.args.book.now) c.args.role (c.kept-count.result - 1) c.event-last.result.now size c.event-last.ensures)
