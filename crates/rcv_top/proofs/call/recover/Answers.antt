-- The words decide what is read, what is read decides what is written.
use Rattle.std.proofs.Common.{refl, subst, List, ℕ}
use Rattle.std.specs.Prelude.{Ok, Err}
use Rattle.rcv_words.specs.Commands.{texts_of, view_of}
use Rattle.rcv_top.specs.Outcome.{IsAnswer}
use Rattle.rcv_top.specs.Calls.{around}
use Rattle.rcv_top.proofs.Answering.{answer_said, usage_said, too_much, wants_at_once, wants_memory, sink_tells, source_tells, not_read_fault, not_write_fault, no_read_fault}
use Rattle.rcv_top.proofs.call.recover.Goals as goal

pub returns-in-Err-Usage-clause-says : goal.returns-in-Err-Usage-clause-says
returns-in-Err-Usage-clause-says g c =
    usage_said (texts_of c.args.words.now) (around g.S.Source.rest g.S.Source.given g.S.Source.faults c.args.source.now c.args.source.now g.K.Sink.written g.K.Sink.faults c.args.sink.now c.write.new.sink) c.write.result
    (c.in-Err-Usage.ensures.usage c.in-Err-Usage.field-0-is) (record { rest = refl; given = refl; faults = refl }) c.write.ensures.wrote

pub returns-in-Err-Memory-clause-says : goal.returns-in-Err-Memory-clause-says
returns-in-Err-Memory-clause-says g c =
    wants_at_once (texts_of c.args.words.now) (around g.S.Source.rest g.S.Source.given g.S.Source.faults c.args.source.now c.args.source.now g.K.Sink.written g.K.Sink.faults c.args.sink.now c.args.sink.now)
    (record { rest = refl; given = refl; faults = refl }) (record { written = refl; faults = refl })

pub returns-in-Err-TooLong-clause-says : goal.returns-in-Err-TooLong-clause-says
returns-in-Err-TooLong-clause-says g c =
    too_much (texts_of c.args.words.now) (around g.S.Source.rest g.S.Source.given g.S.Source.faults c.args.source.now c.input_of.new.source g.K.Sink.written g.K.Sink.faults c.args.sink.now c.args.sink.now)
    (view_of c.in-Ok.command) c.in-Err-TooLong.field-0 c.in-Ok.ensures.command c.in-Err-TooLong.ensures.got c.in-Err-TooLong.field-0-is (record { written = refl; faults = refl })

pub returns-in-Err-Memory-input_of-clause-says : goal.returns-in-Err-Memory-input_of-clause-says
returns-in-Err-Memory-input_of-clause-says g c =
    wants_memory (texts_of c.args.words.now) (around g.S.Source.rest g.S.Source.given g.S.Source.faults c.args.source.now c.input_of.new.source g.K.Sink.written g.K.Sink.faults c.args.sink.now c.args.sink.now)
    (view_of c.in-Ok.command) (Err c.in-Err-Memory-input_of.field-0) c.in-Ok.ensures.command c.in-Err-Memory-input_of.ensures.got (λ same. let memory = c.in-Err-Memory-input_of.field-0-is in cc) (record { written = refl; faults = refl })

pub returns-in-Ok-answer-clause-says : goal.returns-in-Ok-answer-clause-says
returns-in-Ok-answer-clause-says g c =
    let w = c.in-Ok-answer.ensures.answers in
    answer_said (texts_of c.args.words.now) (around g.S.Source.rest g.S.Source.given g.S.Source.faults c.args.source.now c.input_of.new.source g.K.Sink.written g.K.Sink.faults c.args.sink.now c.answer.new.sink)
    (view_of c.in-Ok.command) c.in-Ok-input_of.input w.bytes w.status _ c.in-Ok.ensures.command c.in-Ok-input_of.ensures.got c.in-Ok-input_of.ensures.short
    (subst (λ (t : List ℕ). IsAnswer (view_of c.in-Ok.command) t w.status w.bytes) c.as_slice.ensures.value w.is_kind) w.wrote

pub returns-in-Ok-answer-clause-source_faults : goal.returns-in-Ok-answer-clause-source_faults
returns-in-Ok-answer-clause-source_faults g c =
    let w = c.in-Ok-answer.ensures.answers in
    let read = c.in-Ok-input_of.ensures in
    source_tells (g.K.Sink.written c.args.sink.now) (g.K.Sink.written c.answer.new.sink) (g.K.Sink.faults c.args.sink.now) (g.K.Sink.faults c.answer.new.sink)
    (g.S.Source.faults c.args.source.now) (g.S.Source.faults c.input_of.new.source) w.bytes w.status _
    (not_read_fault (view_of c.in-Ok.command) c.as_slice.result.now w.status w.bytes w.is_kind)
    (no_read_fault (g.S.Source.faults c.args.source.now) (g.S.Source.faults c.input_of.new.source) read.later (λ more. let fault = read.fault_always more in cc))
    w.wrote

pub returns-in-Ok-answer-clause-sink_faults : goal.returns-in-Ok-answer-clause-sink_faults
returns-in-Ok-answer-clause-sink_faults g c =
    let w = c.in-Ok-answer.ensures.answers in
    sink_tells (g.K.Sink.written c.args.sink.now) (g.K.Sink.written c.answer.new.sink) (g.K.Sink.faults c.args.sink.now) (g.K.Sink.faults c.answer.new.sink) w.bytes w.status _
    (not_write_fault (view_of c.in-Ok.command) c.as_slice.result.now w.status w.bytes w.is_kind)
    c.answer.ensures.later w.wrote

pub returns-clause-says : goal.returns-clause-says
returns-clause-says g c =
    let nothing = c.in-Err.ensures.answers in
    wants_memory (texts_of c.args.words.now) (around g.S.Source.rest g.S.Source.given g.S.Source.faults c.args.source.now c.input_of.new.source g.K.Sink.written g.K.Sink.faults c.args.sink.now c.answer.new.sink)
    (view_of c.in-Ok.command) (Ok c.in-Ok-input_of.input) c.in-Ok.ensures.command c.in-Ok-input_of.ensures.got (λ same. cc) (record { written = nothing.0; faults = nothing.1 })
