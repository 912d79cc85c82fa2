use Rattle.std.proofs.Common.{◌∷◌}
use Rattle.rcv_machine.specs.Words.{Protocol, Is, This, ProtocolName, MoreProtocols, Rest}
use Rattle.rcv_reader.proofs.Stops.{halts_behind}
use Rattle.rcv_reader.proofs.Whole.{outer, body_recs, to_body, protocol_goes, protocol_read}
use Rattle.rcv_reader.proofs.parser.Parser.protocol.Goals as goal

pub returns-in_err-stmts-clause-goes : goal.returns-in_err-stmts-clause-goes
returns-in_err-stmts-clause-goes c =
    halts_behind _ _ _ c.heading.new.self _ (λ k. This (Is Protocol) ∷ ProtocolName ∷ k) (λ k. Rest (outer c.heading.new.self) ∷ k)
    (λ k. MoreProtocols ∷ k) (λ x k. MoreProtocols ∷ k) c.from_residual-in_err-stmts.ensures.1 c.in_err-stmts.ensures.goes.0
    (to_body _ _ _ c.requires.fresh c.in_ok-name.ensures.read c.in_ok-name.ensures.goes)

pub begin_anew-roles-requires : goal.begin_anew-roles-requires
begin_anew-roles-requires c =
    record { none = body_recs _ _ c.stmts.new.self _ c.requires.fresh c.in_ok-name.ensures.read c.in_ok-stmts.ensures.read.0 }

pub returns-clause-goes : goal.returns-clause-goes
returns-clause-goes c =
    protocol_goes _ _ c.stmts.new.self _ _ c.requires.fresh c.in_ok-name.ensures.read c.in_ok-name.ensures.goes c.in_ok-stmts.ensures.goes.0
    c.in_ok-stmts.ensures.goes.1 c.begin_anew-roles.ensures.anew

pub returns-clause-read : goal.returns-clause-read
returns-clause-read c =
    protocol_read _ _ _ _ _ _ c.requires.fresh c.in_ok-name.ensures.read c.in_ok-stmts.ensures.goes.0 c.in_ok-stmts.ensures.read
    c.new-body.ensures c.begin_anew-roles.ensures.is c.begin_anew-roles.ensures.small c.begin_anew-roles.ensures.anew
