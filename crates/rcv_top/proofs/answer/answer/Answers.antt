-- What the command makes of the session that is taken is written, or the line of the first refusal.
use Rattle.std.proofs.Common.{◌≡◌, ℕ, List, Option, IfOk, refl, sym, subst}
use Rattle.std.specs.Prelude.{Result, Ok, Err}
use Rattle.std.specs.declared.alloc.AllocError.{AllocError}
use Rattle.rcv_tree.specs.declared.protocol.Protocol.{Protocol}
use Rattle.rcv_session.specs.Session.{SessionView}
use Rattle.rcv_printer.specs.CanonicalText.{canonical}
use Rattle.rcv_words.specs.declared.command.Command.{Command}
use Rattle.rcv_words.specs.declared.command.Command.TheVariants as commands
use Rattle.rcv_words.specs.Commands.{CommandView, Run, RunMany, Check, Project, Table, Gen, Replay, Line, view_of, IsWithin}
use Rattle.rcv_top.specs.declared.output.Output.{Output}
use Rattle.rcv_top.specs.Commands.{TakesWhole}
use Rattle.rcv_top.specs.Replaying.{IsReplayAnswer}
use Rattle.rcv_top.specs.declared.status.Status.{Status}
use Rattle.rcv_top.specs.declared.status.Status.TheVariants as statuses
use Rattle.rcv_top.specs.Many.{IsRunOfMany}
use Rattle.rcv_top.specs.Running.{IsSessionRun}
use Rattle.rcv_top.specs.Outcome.{IsAnswer, made, replayed}
use Rattle.rcv_top.specs.Projection.{IsProjection}
use Rattle.rcv_top.specs.Writing.{Writes}
use Rattle.rcv_top.proofs.Rooms.{taken_sessions_can_run}
use Rattle.rcv_top.proofs.Sessions.{made_of, refused_of}
use Rattle.rcv_top.proofs.Writing.{widen, put_writes}
use Rattle.rcv_top.proofs.answer.answer.Goals as goal

-- an answer to a command that is this one
as_asked : (d e : Command) (text : List ℕ) (before after : Option (List ℕ)) (fb fa : ℕ) (result : Result Status AllocError) → d ≡ e
    → Writes (IsAnswer (view_of e) text) before after fb fa result → Writes (IsAnswer (view_of d) text) before after fb fa result
as_asked d e text before after fb fa result same = subst (λ (x : Command). Writes (IsAnswer (view_of x) text) before after fb fa result) (sym same)

-- one that isn't `replay` takes its whole text
takes_whole : (d : Command) → (view_of d ≡ Replay → ⊥) → TakesWhole (view_of d)
takes_whole (commands.Run workers json) other = tt
takes_whole (commands.RunMany sessions workers json) other = tt
takes_whole commands.Check other = tt
takes_whole (commands.Project role) other = tt
takes_whole commands.Table other = tt
takes_whole (commands.Gen number) other = tt
takes_whole commands.Line other = tt
takes_whole commands.Replay other = absurd (other refl)

-- what is said of a journal is an answer
answer_said : {E : Type 0} (text : List ℕ) (command : CommandView) (result : Result Output E) → command ≡ Replay
    → IfOk result (λ output. IsReplayAnswer text output.status output.bytes.items)
    → IfOk result (λ output. IsAnswer command text output.status output.bytes.items)
answer_said text command (Err e) is said = tt
answer_said text command (Ok output) is said = replayed is said

pub returns-then-is_replay-clause-answers : goal.returns-then-is_replay-clause-answers
returns-then-is_replay-clause-answers g c =
    put_writes (g.K.Sink.written c.args.sink.now) (g.K.Sink.written c.put.new.sink) (g.K.Sink.faults c.args.sink.now) (g.K.Sink.faults c.put.new.sink)
    (IsAnswer (view_of c.args.command.now) c.args.input.now) c.replay_answer.result c.put.result (answer_said c.args.input.now (view_of c.args.command.now) c.replay_answer.result (c.is_replay.ensures.0 c.if-is_replay.true) c.replay_answer.ensures) c.put.ensures.put

pub run-requires-clause-least : goal.run-requires-clause-least
run-requires-clause-least g c coded lives = (subst (λ (d : Command). IsWithin (view_of d)) c.in-Run.is c.requires.within).0

pub run-requires-clause-most : goal.run-requires-clause-most
run-requires-clause-most g c coded lives = (subst (λ (d : Command). IsWithin (view_of d)) c.in-Run.is c.requires.within).1

pub returns-in-Run-clause-answers : goal.returns-in-Run-clause-answers
returns-in-Run-clause-answers g c =
    let session : SessionView = record { protocol = c.in-Ok.taken.accepted.protocol; scripts = c.in-Ok.taken.scripts.lines; plan = c.in-Ok.taken.plan } in
    as_asked c.args.command.now _ c.args.input.now (g.K.Sink.written c.args.sink.now) (g.K.Sink.written c.run.new.sink) (g.K.Sink.faults c.args.sink.now) (g.K.Sink.faults c.run.new.sink) c.run.result c.in-Run.is
    (widen (g.K.Sink.written c.args.sink.now) (g.K.Sink.written c.run.new.sink) (g.K.Sink.faults c.args.sink.now) (g.K.Sink.faults c.run.new.sink)
    (IsSessionRun c.in-Run.workers c.in-Run.json session) (IsAnswer (Run c.in-Run.workers c.in-Run.json) c.args.input.now) c.run.result
    (λ status bytes ran. made session c.in-Ok.ensures.taken ran) c.run.ensures.runs)

pub run_many-requires-clause-few : goal.run_many-requires-clause-few
run_many-requires-clause-few g c coded lives = (subst (λ (d : Command). IsWithin (view_of d)) c.in-RunMany.is c.requires.within).1

pub run_many-requires-clause-least : goal.run_many-requires-clause-least
run_many-requires-clause-least g c coded lives = (subst (λ (d : Command). IsWithin (view_of d)) c.in-RunMany.is c.requires.within).2

pub run_many-requires-clause-most : goal.run_many-requires-clause-most
run_many-requires-clause-most g c coded lives = (subst (λ (d : Command). IsWithin (view_of d)) c.in-RunMany.is c.requires.within).3

pub returns-in-RunMany-clause-answers : goal.returns-in-RunMany-clause-answers
returns-in-RunMany-clause-answers g c =
    let session : SessionView = record { protocol = c.in-Ok.taken.accepted.protocol; scripts = c.in-Ok.taken.scripts.lines; plan = c.in-Ok.taken.plan } in
    as_asked c.args.command.now _ c.args.input.now (g.K.Sink.written c.args.sink.now) (g.K.Sink.written c.run_many.new.sink) (g.K.Sink.faults c.args.sink.now) (g.K.Sink.faults c.run_many.new.sink) c.run_many.result c.in-RunMany.is
    (widen (g.K.Sink.written c.args.sink.now) (g.K.Sink.written c.run_many.new.sink) (g.K.Sink.faults c.args.sink.now) (g.K.Sink.faults c.run_many.new.sink)
    (IsRunOfMany c.in-RunMany.sessions c.in-RunMany.json session) (IsAnswer (RunMany c.in-RunMany.sessions c.in-RunMany.workers c.in-RunMany.json) c.args.input.now) c.run_many.result
    (λ status bytes came. made session c.in-Ok.ensures.taken came) c.run_many.ensures.runs)

pub returns-in-Check-clause-answers : goal.returns-in-Check-clause-answers
returns-in-Check-clause-answers g c =
    let session : SessionView = record { protocol = c.in-Ok.taken.accepted.protocol; scripts = c.in-Ok.taken.scripts.lines; plan = c.in-Ok.taken.plan } in
    let written = subst (λ (p : Protocol). IfOk c.check-made.result (λ output. (output.status ≡ statuses.Completed) × (output.bytes.items ≡ canonical p))) c.protocol.ensures.value c.check-made.ensures in
    as_asked c.args.command.now _ c.args.input.now (g.K.Sink.written c.args.sink.now) (g.K.Sink.written c.put-in-Check.new.sink) (g.K.Sink.faults c.args.sink.now) (g.K.Sink.faults c.put-in-Check.new.sink) c.put-in-Check.result c.in-Check.is
    (put_writes (g.K.Sink.written c.args.sink.now) (g.K.Sink.written c.put-in-Check.new.sink) (g.K.Sink.faults c.args.sink.now) (g.K.Sink.faults c.put-in-Check.new.sink)
    (IsAnswer Check c.args.input.now) c.check-made.result c.put-in-Check.result (made_of c.args.input.now Check session c.check-made.result c.in-Ok.ensures.taken written) c.put-in-Check.ensures.put)

pub returns-in-Project-clause-answers : goal.returns-in-Project-clause-answers
returns-in-Project-clause-answers g c =
    let session : SessionView = record { protocol = c.in-Ok.taken.accepted.protocol; scripts = c.in-Ok.taken.scripts.lines; plan = c.in-Ok.taken.plan } in
    let projected = subst (λ (name : List ℕ). IfOk c.project_role-made.result (λ output. IsProjection c.in-Ok.taken.accepted.protocol name output.status output.bytes.items)) c.as_slice.ensures c.project_role-made.ensures in
    as_asked c.args.command.now _ c.args.input.now (g.K.Sink.written c.args.sink.now) (g.K.Sink.written c.put-in-Project.new.sink) (g.K.Sink.faults c.args.sink.now) (g.K.Sink.faults c.put-in-Project.new.sink) c.put-in-Project.result c.in-Project.is
    (put_writes (g.K.Sink.written c.args.sink.now) (g.K.Sink.written c.put-in-Project.new.sink) (g.K.Sink.faults c.args.sink.now) (g.K.Sink.faults c.put-in-Project.new.sink)
    (IsAnswer (Project c.in-Project.role) c.args.input.now) c.project_role-made.result c.put-in-Project.result (made_of c.args.input.now (Project c.in-Project.role) session c.project_role-made.result c.in-Ok.ensures.taken projected) c.put-in-Project.ensures.put)

pub returns-in-Table-clause-answers : goal.returns-in-Table-clause-answers
returns-in-Table-clause-answers g c =
    let session : SessionView = record { protocol = c.in-Ok.taken.accepted.protocol; scripts = c.in-Ok.taken.scripts.lines; plan = c.in-Ok.taken.plan } in
    as_asked c.args.command.now _ c.args.input.now (g.K.Sink.written c.args.sink.now) (g.K.Sink.written c.put-in-Table.new.sink) (g.K.Sink.faults c.args.sink.now) (g.K.Sink.faults c.put-in-Table.new.sink) c.put-in-Table.result c.in-Table.is
    (put_writes (g.K.Sink.written c.args.sink.now) (g.K.Sink.written c.put-in-Table.new.sink) (g.K.Sink.faults c.args.sink.now) (g.K.Sink.faults c.put-in-Table.new.sink)
    (IsAnswer Table c.args.input.now) c.write_tables-made.result c.put-in-Table.result (made_of c.args.input.now Table session c.write_tables-made.result c.in-Ok.ensures.taken c.write_tables-made.ensures) c.put-in-Table.ensures.put)

pub returns-in-Gen-clause-answers : goal.returns-in-Gen-clause-answers
returns-in-Gen-clause-answers g c =
    let session : SessionView = record { protocol = c.in-Ok.taken.accepted.protocol; scripts = c.in-Ok.taken.scripts.lines; plan = c.in-Ok.taken.plan } in
    as_asked c.args.command.now _ c.args.input.now (g.K.Sink.written c.args.sink.now) (g.K.Sink.written c.put-in-Gen.new.sink) (g.K.Sink.faults c.args.sink.now) (g.K.Sink.faults c.put-in-Gen.new.sink) c.put-in-Gen.result c.in-Gen.is
    (put_writes (g.K.Sink.written c.args.sink.now) (g.K.Sink.written c.put-in-Gen.new.sink) (g.K.Sink.faults c.args.sink.now) (g.K.Sink.faults c.put-in-Gen.new.sink)
    (IsAnswer (Gen c.in-Gen.number) c.args.input.now) c.run_generated.result c.put-in-Gen.result (made_of c.args.input.now (Gen c.in-Gen.number) session c.run_generated.result c.in-Ok.ensures.taken c.run_generated.ensures) c.put-in-Gen.ensures.put)

pub returns-in-Line-clause-answers : goal.returns-in-Line-clause-answers
returns-in-Line-clause-answers g c =
    let session : SessionView = record { protocol = c.in-Ok.taken.accepted.protocol; scripts = c.in-Ok.taken.scripts.lines; plan = c.in-Ok.taken.plan } in
    as_asked c.args.command.now _ c.args.input.now (g.K.Sink.written c.args.sink.now) (g.K.Sink.written c.put-in-Line.new.sink) (g.K.Sink.faults c.args.sink.now) (g.K.Sink.faults c.put-in-Line.new.sink) c.put-in-Line.result c.in-Line.is
    (put_writes (g.K.Sink.written c.args.sink.now) (g.K.Sink.written c.put-in-Line.new.sink) (g.K.Sink.faults c.args.sink.now) (g.K.Sink.faults c.put-in-Line.new.sink)
    (IsAnswer Line c.args.input.now) c.run_line.result c.put-in-Line.result (made_of c.args.input.now Line session c.run_line.result c.in-Ok.ensures.taken c.run_line.ensures) c.put-in-Line.ensures.put)

pub returns-in-Err-clause-answers : goal.returns-in-Err-clause-answers
returns-in-Err-clause-answers g c =
    put_writes (g.K.Sink.written c.args.sink.now) (g.K.Sink.written c.put-in-Err.new.sink) (g.K.Sink.faults c.args.sink.now) (g.K.Sink.faults c.put-in-Err.new.sink)
    (IsAnswer (view_of c.args.command.now) c.args.input.now) c.refuse.result c.put-in-Err.result (refused_of c.args.input.now (view_of c.args.command.now) c.in-Err.error c.refuse.result (takes_whole c.args.command.now (λ is. let yes = c.is_replay.ensures.1 is in let no = c.if-is_replay.false in absurd (cc))) c.in-Err.ensures.taken c.refuse.ensures) c.put-in-Err.ensures.put

pub run-requires-clause-can_run : goal.run-requires-clause-can_run
run-requires-clause-can_run g c coded lives = (taken_sessions_can_run c.args.input.now (record { protocol = c.in-Ok.taken.accepted.protocol; scripts = c.in-Ok.taken.scripts.lines; plan = c.in-Ok.taken.plan }) c.in-Ok.ensures.taken).0

pub run_generated-requires-clause-can_run : goal.run_generated-requires-clause-can_run
run_generated-requires-clause-can_run g c = (taken_sessions_can_run c.args.input.now (record { protocol = c.in-Ok.taken.accepted.protocol; scripts = c.in-Ok.taken.scripts.lines; plan = c.in-Ok.taken.plan }) c.in-Ok.ensures.taken).0

pub run_line-requires-clause-can_run : goal.run_line-requires-clause-can_run
run_line-requires-clause-can_run g c = (taken_sessions_can_run c.args.input.now (record { protocol = c.in-Ok.taken.accepted.protocol; scripts = c.in-Ok.taken.scripts.lines; plan = c.in-Ok.taken.plan }) c.in-Ok.ensures.taken).0
