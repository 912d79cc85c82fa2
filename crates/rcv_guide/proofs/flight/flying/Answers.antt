-- One event after another.
use Rattle.std.proofs.Common.{◌≡◌, List, [], ◌∷◌, ◌++◌, ◌+◌, ◌-◌, drop, sym, ◌∙◌, ap, append-nil, append_assoc, arith}
use Rattle.rcv_tree.specs.declared.event.Message.{Message}
use Rattle.rcv_tree.specs.Events.{message_sent}
use Rattle.rcv_model.specs.Run.{put}
use Rattle.rcv_points.specs.Follow.{net_in}
use Rattle.rcv_ledger.specs.Logs.{log_at}
use Rattle.rcv_guide.proofs.Flying.{put_none_at, put_some_at, put_later, put_end}
use Rattle.rcv_guide.proofs.flight.flying.Goals as goal

pub puts-requires : goal.puts-requires
puts-requires c = c.requires.sound c.args.from c.loop-place.place c.event-event.result.now c.event-event.ensures

pub loop-place-preserved-then-not-puts : goal.loop-place-preserved-then-not-puts
loop-place-preserved-then-not-puts c =
    ap (λ l. c.loop-place.messages.items ++ drop c.loop-place.left l) (sym (put_none_at (net_in c.args.points.now) c.args.from c.args.to (log_at c.args.ledger.now.logs c.args.from) c.loop-place.place c.event-event.result.now c.event-event.ensures (sym c.puts.ensures ∙ c.if-not-puts.true)))
    ∙ c.loop-place.invariant

pub loop-place-preserved-then-left-gt0 : goal.loop-place-preserved-then-left-gt0
loop-place-preserved-then-left-gt0 c =
    ap (λ l. c.loop-place.messages.items ++ l) (sym (put_later (net_in c.args.points.now) c.args.from c.args.to (log_at c.args.ledger.now.logs c.args.from) c.loop-place.place c.event-event.result.now c.loop-place.left (c.loop-place.left - 1) c.event-event.ensures (sym c.puts.ensures ∙ c.if-not-puts.false) (omega (arith, c.if-left-gt0.true))))
    ∙ c.loop-place.invariant

pub loop-place-preserved : goal.loop-place-preserved
loop-place-preserved c =
    let e = c.event-event.result.now in
    let behind = put (net_in c.args.points.now) c.args.from c.args.to (drop (c.loop-place.place + 1) (log_at c.args.ledger.now.logs c.args.from)) in
    let none : c.loop-place.left ≡ 0 = omega (arith, c.if-left-gt0.false) in
    ap (λ (l : List Message). l ++ drop c.loop-place.left behind) (c.in_ok-push.ensures.items ∙ ap (λ (m : Message). c.loop-place.messages.items ++ m ∷ []) c.message.ensures)
    ∙ append_assoc c.loop-place.messages.items (message_sent e ∷ []) (drop c.loop-place.left behind)
    ∙ ap (λ n. c.loop-place.messages.items ++ message_sent e ∷ drop n behind) none
    ∙ ap (λ l. c.loop-place.messages.items ++ l) (sym (put_some_at (net_in c.args.points.now) c.args.from c.args.to (log_at c.args.ledger.now.logs c.args.from) c.loop-place.place e c.event-event.ensures (sym c.puts.ensures ∙ c.if-not-puts.false)))
    ∙ ap (λ n. c.loop-place.messages.items ++ drop n (put (net_in c.args.points.now) c.args.from c.args.to (drop c.loop-place.place (log_at c.args.ledger.now.logs c.args.from)))) (sym none)
    ∙ c.loop-place.invariant

pub returns : goal.returns
returns c =
    sym (append-nil c.loop-place.messages.items)
    ∙ ap (λ l. c.loop-place.messages.items ++ l) (sym (put_end (net_in c.args.points.now) c.args.from c.args.to (log_at c.args.ledger.now.logs c.args.from) c.loop-place.place c.loop-place.left (omega (arith, c.loop-place-test.false, c.made-place-end.ensures))))
    ∙ c.loop-place.invariant
