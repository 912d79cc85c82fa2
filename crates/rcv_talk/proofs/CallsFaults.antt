-- How the counts of faults tell why a call failed.
use Rattle.std.proofs.Common.{◌≡◌, ◌∙◌, ◌≤◌, ℕ, List, inl, inr, refl, sym, ⊎_elim, arith}
use Rattle.std.specs.Prelude.{◌<◌}
use Rattle.std.proofs.lemmas.Bool.{cases_lt}
use Rattle.std.specs.declared.option.Option.{Option}
use Rattle.rcv_io.specs.Causes.{Rose}
use Rattle.rcv_guided.specs.Session.{SessionView}
use Rattle.rcv_guided.specs.declared.saving.Saving.{Saving}
use Rattle.rcv_talk.specs.declared.status.Status.{Status}
use Rattle.rcv_talk.specs.declared.status.Status.TheVariants.{Done, Usage, Refused, ReadFault, WriteFault, Memory, TooLong, HalfLine}
use Rattle.rcv_talk.specs.Around.{Around}
use Rattle.rcv_talk.specs.Talking.{Talks}
use Rattle.rcv_talk.specs.Calls.{TellsFault, Wrote}
use Rattle.rcv_talk.specs.Conversing.{OnlyWrites, OnlyWants, Converses, ComesOfText}

-- Another status, and the count stays; or this one, and it rose.
pub stays : (before now : ℕ) (fault result : Status) → now ≡ before → (result ≡ fault → ⊥) → TellsFault before now fault result
stays before now fault result same other = record { later = omega (arith, same); only = λ e. absurd (other e); always = λ more. absurd (omega (arith, same, more)) }

pub rises : (before now : ℕ) (fault result : Status) → before ≤ now → Rose before now → result ≡ fault → TellsFault before now fault result
rises before now fault result later rose is = record { later = later; only = λ e. rose; always = λ more. is }

-- Reading ended without a fault, and the count stays.
pub no_rise : (m n : ℕ) → m ≤ n → (m < n → ⊥) → n ≡ m
no_rise m n later none = ⊎_elim (λ more. absurd (none more)) (λ few. omega (arith, later, few)) (cases_lt m n)

-- Where bytes were to be written with this status.
pub wrote_tells_sink : (before after : Option (List ℕ)) (f g : ℕ) (bytes : List ℕ) (status result : Status) → (status ≡ WriteFault → ⊥) → f ≤ g → Wrote before after f g bytes status result → TellsFault f g WriteFault result
wrote_tells_sink before after f g bytes status result other later (inl w) = stays f g WriteFault result w.2 (λ e. other (sym w.0 ∙ e))
wrote_tells_sink before after f g bytes status result other later (inr w) = rises f g WriteFault result later w.1 w.0

pub wrote_tells_source : (before after : Option (List ℕ)) (f g m n : ℕ) (bytes : List ℕ) (status result : Status) → (status ≡ ReadFault → ⊥) → n ≡ m → Wrote before after f g bytes status result → TellsFault m n ReadFault result
wrote_tells_source before after f g m n bytes status result other same (inl w) = stays m n ReadFault result same (λ e. other (sym w.0 ∙ e))
wrote_tells_source before after f g m n bytes status result other same (inr w) = stays m n ReadFault result same (λ e. let f = w.0 in cc)

abbrev TellSource : Around → Status → Type 0
TellSource call result = TellsFault call.read_faults_before call.read_faults_after ReadFault result

abbrev TellSink : Around → Status → Type 0
TellSink call result = TellsFault call.write_faults_before call.write_faults_after WriteFault result

module _ (s : SessionView) (waiting : List ℕ) (call : Around) where
  talks_source : (status : Status) → Talks s waiting call status → TellSource call status
  talks_source Done (inl t) = stays _ _ ReadFault Done t.source (λ e. cc)
  talks_source Done (inr t) = stays _ _ ReadFault Done t.source (λ e. cc)
  talks_source HalfLine t = stays _ _ ReadFault HalfLine t.source (λ e. cc)
  talks_source ReadFault t = rises _ _ ReadFault ReadFault t.later t.rose refl
  talks_source WriteFault t = stays _ _ ReadFault WriteFault t.source (λ e. cc)
  talks_source Memory t = stays _ _ ReadFault Memory t.source (λ e. cc)
  talks_source Usage t = absurd t
  talks_source Refused t = absurd t
  talks_source TooLong t = absurd t

  talks_sink : (status : Status) → Talks s waiting call status → TellSink call status
  talks_sink Done (inl t) = stays _ _ WriteFault Done t.sink.calm (λ e. cc)
  talks_sink Done (inr t) = stays _ _ WriteFault Done t.sink.calm (λ e. cc)
  talks_sink HalfLine t = stays _ _ WriteFault HalfLine t.sink.calm (λ e. cc)
  talks_sink ReadFault t = stays _ _ WriteFault ReadFault t.sink.calm (λ e. cc)
  talks_sink WriteFault t = rises _ _ WriteFault WriteFault t.later t.rose refl
  talks_sink Memory t = stays _ _ WriteFault Memory t.sink.calm (λ e. cc)
  talks_sink Usage t = absurd t
  talks_sink Refused t = absurd t
  talks_sink TooLong t = absurd t

module _ (call : Around) (status : Status) where
  writes_source : (bytes : List ℕ) → OnlyWrites call bytes Refused status → TellSource call status
  writes_source bytes w = wrote_tells_source call.written_before call.written_after call.write_faults_before call.write_faults_after _ _ bytes Refused status (λ e. cc) w.unread.calm w.wrote

  writes_sink : (bytes : List ℕ) → OnlyWrites call bytes Refused status → TellSink call status
  writes_sink bytes w = wrote_tells_sink call.written_before call.written_after _ _ bytes Refused status (λ e. cc) w.later w.wrote

  wants_source : OnlyWants call status → TellSource call status
  wants_source w = stays _ _ ReadFault status w.unread.calm (λ e. let m = w.is in cc)

  wants_sink : OnlyWants call status → TellSink call status
  wants_sink w = stays _ _ WriteFault status w.calm (λ e. let m = w.is in cc)

  converses_source : (s : SessionView) (waiting : List ℕ) → Converses s waiting call status → TellSource call status
  converses_source s waiting (inl t) = talks_source s waiting (record call { written_before = t.between }) status t.talks
  converses_source s waiting (inr (inl f)) = stays _ _ ReadFault status f.unread.calm (λ e. let m = f.is in cc)
  converses_source s waiting (inr (inr w)) = wants_source w

  converses_sink : (s : SessionView) (waiting : List ℕ) → Converses s waiting call status → TellSink call status
  converses_sink s waiting (inl t) = talks_sink s waiting (record call { written_before = t.between }) status t.talks
  converses_sink s waiting (inr (inl f)) = rises _ _ WriteFault status f.later f.rose f.is
  converses_sink s waiting (inr (inr w)) = wants_sink w

  -- Behind a text.
  pub text_tells_source : (text waiting : List ℕ) (saving : Saving) → ComesOfText text saving waiting call status → TellSource call status
  text_tells_source text waiting saving (inl c) = converses_source c.start waiting c.converses
  text_tells_source text waiting saving (inr (inl r)) = writes_source _ r.writes
  text_tells_source text waiting saving (inr (inr w)) = wants_source w

  pub text_tells_sink : (text waiting : List ℕ) (saving : Saving) → ComesOfText text saving waiting call status → TellSink call status
  text_tells_sink text waiting saving (inl c) = converses_sink c.start waiting c.converses
  text_tells_sink text waiting saving (inr (inl r)) = writes_sink _ r.writes
  text_tells_sink text waiting saving (inr (inr w)) = wants_sink w
