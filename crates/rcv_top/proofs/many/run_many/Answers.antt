-- The sessions that were prepared are those of the input, and they aren't too much.
use Rattle.std.proofs.Common.{sym, subst}
use Rattle.rcv_session.specs.Session.{SessionView}
use Rattle.rcv_later.specs.Preparing.{ArePrepared}
use Rattle.rcv_top.specs.Many.{IsTooMuch, IsRunOfMany}
use Rattle.rcv_top.specs.Sharing.{IsRunOfPrepared}
use Rattle.rcv_top.proofs.Prepared.{come_to}
use Rattle.rcv_top.proofs.Writing.{widen}
use Rattle.rcv_top.proofs.many.run_many.Goals as goal

pub returns-clause-runs : goal.returns-clause-runs
returns-clause-runs g c =
    let session : SessionView = record { protocol = c.args.taken.accepted.protocol; scripts = c.args.taken.scripts.lines; plan = c.args.taken.plan } in
    let are : ArePrepared c.args.input.now c.args.sessions c.as_slice.result.now = subst (ArePrepared c.args.input.now c.args.sessions) (sym c.as_slice.ensures.value) c.in_ok-prepared.ensures in
    let few : IsTooMuch c.args.sessions session → ⊥ = λ much. let yes = c.is_too_much-too_much.ensures.1 much in let no = c.if-too_much.false in absurd (cc) in
    widen (g.K.Sink.written c.args.sink.now) (g.K.Sink.written c.run_prepared.new.sink) (g.K.Sink.faults c.args.sink.now) (g.K.Sink.faults c.run_prepared.new.sink)
    (IsRunOfPrepared c.args.json c.as_slice.result.now) (IsRunOfMany c.args.sessions c.args.json session) c.run_prepared.result
    (λ status bytes. come_to c.args.sessions c.args.json c.args.input.now session c.as_slice.result.now status bytes c.requires.taken are few) c.run_prepared.ensures.runs
