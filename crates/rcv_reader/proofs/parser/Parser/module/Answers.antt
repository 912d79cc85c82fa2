use Rattle.std.proofs.Common.{[], ◌∷◌, ◌∙◌}
use Rattle.rcv_machine.specs.Words.{Protocol, Is, This, ProtocolName, in_head}
use Rattle.rcv_reader.proofs.Modules.{at_protocol, begun, head_fresh, ends_by, module_first, behind_global, module_next, module_read, module_ends, left_some, left_none}
use Rattle.rcv_reader.proofs.parser.Parser.module.Goals as goal

pub returns-in_err-module-clause-err : goal.returns-in_err-module-clause-err
returns-in_err-module-clause-err c =
    ends_by _ _ _ _ _ in_head at_protocol c.from_residual.ensures.1 (begun _ c.requires.fresh) c.in_err-module.ensures.goes

pub protocol-requires : goal.protocol-requires
protocol-requires c = record { fresh = head_fresh _ _ _ _ c.requires.fresh c.in_ok-module.ensures.read }

pub returns-in_err-main-clause-err : goal.returns-in_err-main-clause-err
returns-in_err-main-clause-err c =
    ends_by _ _ _ _ _ (λ k. This (Is Protocol) ∷ ProtocolName ∷ k) [] c.from_residual-in_err-main.ensures.1
    (begun _ c.requires.fresh ∙ c.in_ok-module.ensures.goes at_protocol) c.in_err-main.ensures.goes.0

pub loop-alloc-init : goal.loop-alloc-init
loop-alloc-init c =
    module_first _ _ _ _ _ _ _ c.requires.fresh c.in_ok-module.ensures.goes c.in_ok-module.ensures.read c.in_ok-main.ensures.goes.0
    c.in_ok-main.ensures.read c.in_ok-main.ensures.given c.new-others.ensures

pub protocol-requires-in-loop-alloc : goal.protocol-requires-in-loop-alloc
protocol-requires-in-loop-alloc c =
    record { fresh = (behind_global _ _ _ _ _ c.loop-alloc.invariant (c.takes.ensures.yes c.loop-alloc-test.true)).0 }

pub returns-in_err-protocol-clause-err : goal.returns-in_err-protocol-clause-err
returns-in_err-protocol-clause-err c =
    ends_by _ _ _ _ _ (λ k. This (Is Protocol) ∷ ProtocolName ∷ k) [] c.from_residual-in_err-protocol.ensures.1
    (behind_global _ _ _ _ _ c.loop-alloc.invariant (c.takes.ensures.yes c.loop-alloc-test.true)).1 c.in_err-protocol.ensures.goes.0

pub loop-alloc-preserved : goal.loop-alloc-preserved
loop-alloc-preserved c =
    module_next _ _ _ _ _ c.in_ok-protocol.field-0 _ _ c.loop-alloc.invariant (c.takes.ensures.yes c.loop-alloc-test.true)
    c.in_ok-protocol.ensures.goes.0 c.in_ok-protocol.ensures.read
    (c.in_ok-protocol.ensures.given.0 ∙ c.new.ensures, c.in_ok-protocol.ensures.given.1 ∙ c.new-in-loop-alloc.ensures) c.in_ok-push.ensures.ok

pub returns-then-left-ne0-clause-err : goal.returns-then-left-ne0-clause-err
returns-then-left-ne0-clause-err c =
    let over = c.takes.ensures.no c.loop-alloc-test.false in
    module_ends _ _ _ _ _ c.loop-alloc.invariant over.0 over.1.unlike (left_some _ c.left.ensures c.if-left-ne0.true)

pub returns-clause-ok : goal.returns-clause-ok
returns-clause-ok c =
    let over = c.takes.ensures.no c.loop-alloc-test.false in
    module_read _ _ _ _ (rw over.0 at c.loop-alloc.invariant) (left_none _ c.left.ensures c.if-left-ne0.false)
