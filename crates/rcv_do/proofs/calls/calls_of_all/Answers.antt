use Rattle.std.proofs.Common.{◌≡◌, ◌++◌, length, map, drop, [], sym, ap, ◌∙◌, append-nil, arith}
use Rattle.rcv_module.specs.Parts.{sites_from, part_of}
use Rattle.rcv_do.proofs.Items.{no_more}
use Rattle.rcv_do.proofs.Faulting.{parts_long}
use Rattle.rcv_do.proofs.Orders.{all_inside}
use Rattle.rcv_do.specs.Code.{call_of, parts_in, protocols_in}
use Rattle.rcv_do.proofs.Calling.{next_calls}
use Rattle.rcv_do.proofs.calls.calls_of_all.Goals as goal

pub loop-index-preserved : goal.loop-index-preserved
loop-index-preserved c =
    next_calls (call_of (parts_in c.args.parts.now)) (protocols_in c.args.parts.now) c.loop-index.index _ _ _ _ c.at.ensures
    c.loop-index.invariant c.in_ok-add_block.ensures

pub returns-clause-inside : goal.returns-clause-inside
returns-clause-inside c =
    let all : drop c.loop-index.index (protocols_in c.args.parts.now) ≡ [] = no_more (protocols_in c.args.parts.now) c.loop-index.index (omega arith) in
    all_inside (parts_in c.args.parts.now) c.loop-index.calls.items (length (protocols_in c.args.parts.now)) (parts_long (protocols_in c.args.parts.now))
    (sym (append-nil c.loop-index.calls.items)
    ∙ sym (ap (λ l. c.loop-index.calls.items ++ map (call_of (parts_in c.args.parts.now)) (sites_from c.loop-index.index (map part_of l))) all)
    ∙ c.loop-index.invariant)
