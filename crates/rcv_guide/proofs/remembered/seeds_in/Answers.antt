-- The seeds of one role more.
use Rattle.std.proofs.Common.{◌≡◌, ◌<◌, List, ◌++◌, length, take, sym, ◌∙◌, ap, arith}
use Rattle.std.proofs.lemmas.List.{get_or_default}
use Rattle.rcv_tree.specs.declared.event.Event.{Event}
use Rattle.rcv_ledger.specs.Logs.{log_at}
use Rattle.rcv_guide.specs.declared.numbers.Numbers.{Numbers}
use Rattle.rcv_guide.specs.Numbers.{at_start, numbers_at}
use Rattle.rcv_guide.proofs.Merging.{seeds_more}
use Rattle.rcv_guide.proofs.remembered.seeds_in.Goals as goal

pub loop-role-preserved : goal.loop-role-preserved
loop-role-preserved c =
    let lt : c.loop-role.role < length c.args.numbers.now = omega (arith, c.loop-role-test.true, c.loop-role.auto.role-end) in
    let added : c.add_first.new.events.items ≡ c.loop-role.seeds.items ++ take (numbers_at c.args.numbers.now c.loop-role.role).seeds (log_at c.args.ledger.now.logs c.loop-role.role) =
    c.in_ok-add_first.ensures ∙ ap (λ (x : Numbers). c.loop-role.seeds.items ++ take x.seeds (log_at c.args.ledger.now.logs c.loop-role.role)) (get_or_default c.args.numbers.now c.loop-role.role _ at_start lt) in
    added
    ∙ ap (λ (l : List Event). l ++ take (numbers_at c.args.numbers.now c.loop-role.role).seeds (log_at c.args.ledger.now.logs c.loop-role.role)) c.loop-role.invariant
    ∙ sym (seeds_more (λ r. take (numbers_at c.args.numbers.now r).seeds (log_at c.args.ledger.now.logs r)) c.loop-role.role)
