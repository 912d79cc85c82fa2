-- The words, then the text, and what comes of it.
use Rattle.std.proofs.Common.{ℕ, List, [], inl, refl, subst}
use Rattle.rcv_pipe.specs.declared.opening.OpeningError.TheVariants as errors
use Rattle.rcv_talk.specs.declared.status.Status.TheVariants.{Usage, Refused, ReadFault, WriteFault, Memory, TooLong}
use Rattle.rcv_talk.specs.Around.{around}
use Rattle.rcv_talk.specs.Openings.{texts_of}
use Rattle.rcv_talk.specs.Calls.{TellsFault}
use Rattle.rcv_talk.specs.Conversing.{ComesOfText}
use Rattle.rcv_talk.proofs.Calls.{opening_as, says_behind, says_usage, says_no_events}
use Rattle.rcv_talk.proofs.Rounds.{took_nothing}
use Rattle.rcv_talk.proofs.CallsFaults.{no_rise, rises, stays, text_tells_sink, text_tells_source, wrote_tells_sink, wrote_tells_source}
use Rattle.rcv_talk.proofs.call.talk.Goals as goal

pub returns-in-Ok-read_text-clause-says : goal.returns-in-Ok-read_text-clause-says
returns-in-Ok-read_text-clause-says g c =
    let t = c.in-Ok-read_text.ensures.takes in
    let call = around g.S.Source.rest g.S.Source.given g.S.Source.faults c.read_text.new.source c.behind_text.new.source g.K.Sink.written g.K.Sink.faults c.args.sink.now c.behind_text.new.sink in
    says_behind (texts_of c.args.words.now) (g.S.Source.rest c.args.source.now) (g.S.Source.given c.args.source.now) (g.S.Source.faults c.args.source.now)
    (around g.S.Source.rest g.S.Source.given g.S.Source.faults c.read_text.new.source c.behind_text.new.source g.K.Sink.written g.K.Sink.faults c.args.sink.now c.behind_text.new.sink)
    c.in-Some.saving t.taken c.in-Ok-read_text.text.items c.read_text.new.pipe.held c.in-Some.ensures t.took t.is.0
    (no_rise _ _ c.in-Ok-read_text.ensures.later (λ more. let fault = c.in-Ok-read_text.ensures.fault_always more in cc)) c.behind_text.result
    (subst (λ (b : List ℕ). ComesOfText b c.in-Some.saving c.read_text.new.pipe.held call c.behind_text.result) c.as_slice.ensures.value c.behind_text.ensures)

pub returns-in-Ok-read_text-clause-source_faults : goal.returns-in-Ok-read_text-clause-source_faults
returns-in-Ok-read_text-clause-source_faults g c =
    subst (λ (n : ℕ). TellsFault n (g.S.Source.faults c.behind_text.new.source) ReadFault c.behind_text.result)
    (no_rise _ _ c.in-Ok-read_text.ensures.later (λ more. let fault = c.in-Ok-read_text.ensures.fault_always more in cc))
    (text_tells_source
    (around g.S.Source.rest g.S.Source.given g.S.Source.faults c.read_text.new.source c.behind_text.new.source g.K.Sink.written g.K.Sink.faults c.args.sink.now c.behind_text.new.sink)
    c.behind_text.result c.as_slice.result.now c.read_text.new.pipe.held c.in-Some.saving c.behind_text.ensures)

pub returns-in-Ok-read_text-clause-sink_faults : goal.returns-in-Ok-read_text-clause-sink_faults
returns-in-Ok-read_text-clause-sink_faults g c =
    text_tells_sink
    (around g.S.Source.rest g.S.Source.given g.S.Source.faults c.read_text.new.source c.behind_text.new.source g.K.Sink.written g.K.Sink.faults c.args.sink.now c.behind_text.new.sink)
    c.behind_text.result c.as_slice.result.now c.read_text.new.pipe.held c.in-Some.saving c.behind_text.ensures

pub returns-in_default-clause-says : goal.returns-in_default-clause-says
returns-in_default-clause-says g c =
    says_usage (texts_of c.args.words.now)
    (around g.S.Source.rest g.S.Source.given g.S.Source.faults c.args.source.now c.args.source.now g.K.Sink.written g.K.Sink.faults c.args.sink.now c.write.new.sink)
    c.write.result c.in_default.ensures refl refl c.write.ensures.wrote

pub returns-in_default-clause-source_faults : goal.returns-in_default-clause-source_faults
returns-in_default-clause-source_faults g c =
    wrote_tells_source (g.K.Sink.written c.args.sink.now) (g.K.Sink.written c.write.new.sink) (g.K.Sink.faults c.args.sink.now) (g.K.Sink.faults c.write.new.sink) _ _ _ Usage c.write.result (λ e. cc) refl c.write.ensures.wrote

pub returns-in_default-clause-sink_faults : goal.returns-in_default-clause-sink_faults
returns-in_default-clause-sink_faults g c =
    wrote_tells_sink (g.K.Sink.written c.args.sink.now) (g.K.Sink.written c.write.new.sink) _ _ _ Usage c.write.result (λ e. cc) c.write.ensures.later c.write.ensures.wrote

pub returns-in_default-new-clause-says : goal.returns-in_default-new-clause-says
returns-in_default-new-clause-says g c = inl (record { taken = []; takes = took_nothing (g.S.Source.rest c.args.source.now) (g.S.Source.given c.args.source.now); silent = refl })

pub returns-in_default-new-clause-source_faults : goal.returns-in_default-new-clause-source_faults
returns-in_default-new-clause-source_faults g c = stays _ _ ReadFault Memory refl (λ e. cc)

pub returns-in_default-new-clause-sink_faults : goal.returns-in_default-new-clause-sink_faults
returns-in_default-new-clause-sink_faults g c = stays _ _ WriteFault Memory refl (λ e. cc)

pub returns-in-Err-NoEvents-clause-says : goal.returns-in-Err-NoEvents-clause-says
returns-in-Err-NoEvents-clause-says g c =
    let t = c.in-Err-NoEvents.ensures.takes in
    let none = opening_as (g.S.Source.rest c.read_text.new.source) t.taken c.read_text.new.pipe c.in-Err-NoEvents.field-0 errors.NoEvents c.in-Err-NoEvents.field-0-is t.is in
    says_no_events (texts_of c.args.words.now)
    (around g.S.Source.rest g.S.Source.given g.S.Source.faults c.args.source.now c.read_text.new.source g.K.Sink.written g.K.Sink.faults c.args.sink.now c.write-in-Err-NoEvents.new.sink)
    c.write-in-Err-NoEvents.result c.in-Some.saving t.taken c.in-Some.ensures t.took none.0 none.1 c.write-in-Err-NoEvents.ensures.wrote

pub returns-in-Err-NoEvents-clause-source_faults : goal.returns-in-Err-NoEvents-clause-source_faults
returns-in-Err-NoEvents-clause-source_faults g c =
    wrote_tells_source (g.K.Sink.written c.args.sink.now) (g.K.Sink.written c.write-in-Err-NoEvents.new.sink) (g.K.Sink.faults c.args.sink.now) (g.K.Sink.faults c.write-in-Err-NoEvents.new.sink) _ _ _ Refused c.write-in-Err-NoEvents.result (λ e. cc)
    (no_rise _ _ c.in-Err-NoEvents.ensures.later (λ more. let fault = c.in-Err-NoEvents.ensures.fault_always more in cc)) c.write-in-Err-NoEvents.ensures.wrote

pub returns-in-Err-NoEvents-clause-sink_faults : goal.returns-in-Err-NoEvents-clause-sink_faults
returns-in-Err-NoEvents-clause-sink_faults g c =
    wrote_tells_sink (g.K.Sink.written c.args.sink.now) (g.K.Sink.written c.write-in-Err-NoEvents.new.sink) _ _ _ Refused c.write-in-Err-NoEvents.result (λ e. cc) c.write-in-Err-NoEvents.ensures.later c.write-in-Err-NoEvents.ensures.wrote

pub returns-in-Err-ReadFault-clause-says : goal.returns-in-Err-ReadFault-clause-says
returns-in-Err-ReadFault-clause-says g c =
    let t = c.in-Err-ReadFault.ensures.takes in
    record { rose = c.in-Err-ReadFault.ensures.fault (let is = c.in-Err-ReadFault.field-0-is in cc); is = inl (record { saving = c.in-Some.saving; words_are = c.in-Some.ensures; taken = t.taken; takes = t.took; none = opening_as (g.S.Source.rest c.read_text.new.source) t.taken c.read_text.new.pipe c.in-Err-ReadFault.field-0 errors.ReadFault c.in-Err-ReadFault.field-0-is t.is; silent = refl }) }

pub returns-in-Err-ReadFault-clause-source_faults : goal.returns-in-Err-ReadFault-clause-source_faults
returns-in-Err-ReadFault-clause-source_faults g c = rises _ _ ReadFault ReadFault c.in-Err-ReadFault.ensures.later (c.in-Err-ReadFault.ensures.fault (let is = c.in-Err-ReadFault.field-0-is in cc)) refl

pub returns-in-Err-ReadFault-clause-sink_faults : goal.returns-in-Err-ReadFault-clause-sink_faults
returns-in-Err-ReadFault-clause-sink_faults g c = stays _ _ WriteFault ReadFault refl (λ e. cc)

pub returns-in-Err-TooLong-clause-says : goal.returns-in-Err-TooLong-clause-says
returns-in-Err-TooLong-clause-says g c =
    let t = c.in-Err-TooLong.ensures.takes in
    record { saving = c.in-Some.saving; words_are = c.in-Some.ensures; taken = t.taken; takes = t.took; long = opening_as (g.S.Source.rest c.read_text.new.source) t.taken c.read_text.new.pipe c.in-Err-TooLong.field-0 errors.TooLong c.in-Err-TooLong.field-0-is t.is; silent = refl }

pub returns-in-Err-TooLong-clause-source_faults : goal.returns-in-Err-TooLong-clause-source_faults
returns-in-Err-TooLong-clause-source_faults g c =
    stays _ _ ReadFault TooLong (no_rise _ _ c.in-Err-TooLong.ensures.later (λ more. let fault = c.in-Err-TooLong.ensures.fault_always more in cc)) (λ e. cc)

pub returns-in-Err-TooLong-clause-sink_faults : goal.returns-in-Err-TooLong-clause-sink_faults
returns-in-Err-TooLong-clause-sink_faults g c = stays _ _ WriteFault TooLong refl (λ e. cc)

pub returns-clause-says : goal.returns-clause-says
returns-clause-says g c =
    let t = c.in-Err-Memory.ensures.takes in
    inl (record { taken = t.taken; takes = t.took; silent = refl })

pub returns-clause-source_faults : goal.returns-clause-source_faults
returns-clause-source_faults g c =
    stays _ _ ReadFault Memory (no_rise _ _ c.in-Err-Memory.ensures.later (λ more. let fault = c.in-Err-Memory.ensures.fault_always more in cc)) (λ e. cc)

pub returns-clause-sink_faults : goal.returns-clause-sink_faults
returns-clause-sink_faults g c = stays _ _ WriteFault Memory refl (λ e. cc)
