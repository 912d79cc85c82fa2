use Rattle.std.proofs.Common.{◌∷◌}
use Rattle.rcv_machine.specs.Machine.{Decls}
use Rattle.rcv_reader.proofs.Stops.{halts_behind}
use Rattle.rcv_reader.proofs.Reading.{decls_next}
use Rattle.rcv_reader.proofs.parser.Parser.decls.Goals as goal

pub loop-alloc-preserved : goal.loop-alloc-preserved
loop-alloc-preserved c =
    decls_next _ _ _ _ _ _ _ _ c.in_ok-decl.field-0 c.loop-alloc.invariant (c.takes.ensures.no c.loop-alloc-test.true).0
    c.in_ok-decl.ensures.goes c.in_ok-decl.ensures.kept c.in_ok-decl.ensures.read c.in_ok-push.ensures.ok

pub returns-in_err-decl-clause-goes : goal.returns-in_err-decl-clause-goes
returns-in_err-decl-clause-goes c =
    let so = rw (c.takes.ensures.no c.loop-alloc-test.true).0 at c.loop-alloc.invariant in
    (halts_behind _ _ _ _ _ _ (λ k. Decls so.names ∷ k) (λ k. k) _ c.from_residual.ensures.1
    (c.in_err-decl.ensures.goes so.names so.has) so.goes).0
