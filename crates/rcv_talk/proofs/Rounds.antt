-- Rounds, one behind the other.
use Rattle.std.proofs.Common.{◌≡◌, ◌∙◌, ◌≤◌, ℕ, Bool, true, false, true≢false, List, [], ◌∷◌, ◌++◌, length, Option, Some, None, Result, Ok, Err, inl, inr, refl, sym, ap, subst, arith, append_assoc, append-nil, length-append}
use Rattle.std.specs.Prelude.{◌≢◌, ⊤, OnErr, OnOk, is_err}
use Rattle.std.specs.Io.KnownBytes.{append_known, prepend_known}
use Rattle.rcv_io.specs.Causes.{counted, Rose}
use Rattle.rcv_io.specs.Source.{Took}
use Rattle.rcv_io.specs.Sink.{WroteBeginning}
use Rattle.rcv_guided.specs.Session.{SessionView}
use Rattle.rcv_pipe.specs.Feeds.{HasNoFeed}
use Rattle.rcv_pipe.specs.Pipe.{PipeView, Reads, Waits, roomy}
use Rattle.rcv_pipe.proofs.Waiting.{waits_lack, waits_read}
use Rattle.rcv_talk.specs.declared.status.Status.{Status}
use Rattle.rcv_talk.specs.declared.status.Status.TheVariants.{Done, Usage, Refused, ReadFault, WriteFault, Memory, TooLong, HalfLine}
use Rattle.rcv_talk.specs.declared.answers.Next.{Next}
use Rattle.rcv_talk.specs.declared.answers.Next.TheVariants.{More, Ended}
use Rattle.rcv_talk.specs.Answering.{AnswersHeld}
use Rattle.rcv_talk.specs.Around.{Around}
use Rattle.rcv_talk.specs.Dialogue.{GoOn, SaysEnd}
use Rattle.rcv_talk.specs.Talking.{AnswersSome, Ends, FailsToRead, HasAnswered, HasEnded, HasFailed, HasRead, HasTalked, IsOver, IsExchange, SinkIsCalm, Talks, TalksOn, TalksToLine, TalksToSourceEnd, Tells, TellsOn, WaitsForMore}
use Rattle.rcv_talk.proofs.Telling.{ends_behind, on_both, on_more, same_go_on, tells_both, tells_more, tells_none}
use Rattle.std.proofs.lemmas.List.Elements.{All-append}

-- ---- what was taken and written

prepend_both : (a b : List ℕ) (rest : Option (List ℕ)) → prepend_known a (prepend_known b rest) ≡ prepend_known (a ++ b) rest
prepend_both a b None = refl
prepend_both a b (Some xs) = ap (λ (ys : List ℕ). Some ys) (sym (append_assoc a b xs))

prepend_none : (rest : Option (List ℕ)) → rest ≡ prepend_known [] rest
prepend_none None = refl
prepend_none (Some xs) = refl

append_both : (w : Option (List ℕ)) (a b : List ℕ) → append_known (append_known w a) b ≡ append_known w (a ++ b)
append_both None a b = refl
append_both (Some xs) a b = ap (λ (ys : List ℕ). Some ys) (append_assoc xs a b)

append_none : (w : Option (List ℕ)) → w ≡ append_known w []
append_none None = refl
append_none (Some xs) = ap (λ (ys : List ℕ). Some ys) (sym (append-nil xs))

pub took_nothing : (r : Option (List ℕ)) (g : ℕ) → Took r r g g []
took_nothing r g = record { front = prepend_none r; each_counted = omega arith; no_other = omega arith }

pub took_both : (r0 r1 r2 : Option (List ℕ)) (g0 g1 g2 : ℕ) (a b : List ℕ) → Took r0 r1 g0 g1 a → Took r1 r2 g1 g2 b → Took r0 r2 g0 g2 (a ++ b)
took_both r0 r1 r2 g0 g1 g2 a b t u = record {
  front = t.front ∙ ap (prepend_known a) u.front ∙ prepend_both a b r2;
  each_counted = omega (arith, t.each_counted, u.each_counted, length-append a b);
  no_other = omega (arith, t.no_other, u.no_other, length-append a b);
}

pub wrote_both : (w0 w1 w2 : Option (List ℕ)) (a b : List ℕ) → w1 ≡ append_known w0 a → w2 ≡ append_known w1 b → w2 ≡ append_known w0 (a ++ b)
wrote_both w0 w1 w2 a b t u = u ∙ ap (λ w. append_known w b) t ∙ append_both w0 a b

pub began_behind : (w0 w1 w2 : Option (List ℕ)) (a b : List ℕ) → w1 ≡ append_known w0 a → WroteBeginning w1 w2 b → WroteBeginning w0 w2 (a ++ b)
began_behind w0 w1 w2 a b t u = record {
  front = a ++ u.front;
  back = u.back;
  whole = append_assoc a u.front u.back ∙ ap (λ xs. a ++ xs) u.whole;
  missing = u.missing;
  written = wrote_both w0 w1 w2 a u.front t u.written;
}

-- ---- one round

-- What is told of a source and a sink.
abbrev pub act : Option (List ℕ) → Option (List ℕ) → ℕ → ℕ → ℕ → ℕ → Option (List ℕ) → Option (List ℕ) → ℕ → ℕ → Around
act r r' g g' s s' w w' f f' =
    record {
      rest_before = r;
      rest_after = r';
      given_before = g;
      given_after = g';
      read_faults_before = s;
      read_faults_after = s';
      written_before = w;
      written_after = w';
      write_faults_before = f;
      write_faults_after = f';
    }

-- The same bytes, read otherwise.
abbrev regrouped : (old new : SessionView) (bytes bytes' output rest : List ℕ) → bytes' ≡ bytes → Tells old bytes output new rest → Tells old bytes' output new rest
regrouped old new bytes bytes' output rest same t = record {
  lines = t.lines;
  whole = t.whole;
  bytes_are = same ∙ t.bytes_are;
  added = t.added;
  told = t.told;
  protocol = t.protocol;
}

abbrev tells_still : (old new : SessionView) (bytes output rest : List ℕ) → Tells old bytes output new rest → Tells old (bytes ++ []) output new rest
tells_still old new bytes output rest t = regrouped old new bytes (bytes ++ []) output rest (append-nil bytes) t

module _ (old new : SessionView) (bytes : List ℕ) (r r' : Option (List ℕ)) (g g' s s' : ℕ) (w w' : Option (List ℕ)) (f f' : ℕ) where
  abbrev still : (output rest : List ℕ) → Took r r' g g' [] → (t : Tells old bytes output new rest) → HasTalked old bytes (act r r' g g' s s' w w' f f')
  still output rest took t = record { read = []; takes = took; output = output; last = new; rest = rest; tells = tells_still old new bytes output rest t }

  over_so : (status : Status) (pipe : PipeView) (a : HasAnswered old bytes w w' f f' new pipe true) → IsOver a.rest r r' g g' s s' status → Ends a.rest status → TalksToSourceEnd old bytes (act r r' g g' s s' w w' f f') status
  over_so status pipe a o ends = record {
    talk = still a.output a.rest o.took a.tells.tells;
    go_on = a.tells.go_on;
    lack = o.lack;
    ends = ends;
    over = o.over;
    source = o.calm;
    sink = record { written = a.written; calm = a.calm };
  }

  -- All that was held is answered, and then it waits.
  pub waits_then : (status : Status) (pipe : PipeView) (a : HasAnswered old bytes w w' f f' new pipe true) (after : PipeView)
      → (s ≤ s') → WaitsForMore a.rest r r' g g' s s' after (Err status) → Talks old bytes (act r r' g g' s s' w w' f f') status
  waits_then Done pipe a after later o = inr (over_so Done pipe a o o.ends)
  waits_then HalfLine pipe a after later o = over_so HalfLine pipe a o o.ends
  waits_then ReadFault pipe a after later o = record {
    talk = still a.output a.rest o.took a.tells.tells;
    go_on = a.tells.go_on;
    lack = o.lack;
    rose = o.rose;
    later = later;
    sink = record { written = a.written; calm = a.calm };
  }
  waits_then Usage pipe a after later o = absurd o.ends
  waits_then Refused pipe a after later o = absurd o.ends
  waits_then WriteFault pipe a after later o = absurd o.ends
  waits_then Memory pipe a after later o = absurd o.ends
  waits_then TooLong pipe a after later o = absurd o.ends

  pub reads_on : (pipe : PipeView) (a : HasAnswered old bytes w w' f f' new pipe true) (after : PipeView) → HasRead a.rest r r' g g' s s' after
      → TalksOn old bytes (act r r' g g' s s' w w' f f') new after
  reads_on pipe a after h = record {
    read = h.read;
    takes = h.took;
    output = a.output;
    rest = a.rest ++ h.read;
    tells = on_more old new bytes h.read a.output a.rest a.tells;
    waits = h.waits;
    source = h.calm;
    sink = record { written = a.written; calm = a.calm };
  }

-- More lines are held.
pub answers_on : (old new : SessionView) (bytes : List ℕ) (r : Option (List ℕ)) (g s : ℕ) (w w' : Option (List ℕ)) (f f' : ℕ) (pipe : PipeView) (all : Bool)
    → HasAnswered old bytes w w' f f' new pipe all → TalksOn old bytes (act r r g g s s w w' f f') new pipe
answers_on old new bytes r g s w w' f f' pipe all a = record {
  read = [];
  takes = took_nothing r g;
  output = a.output;
  rest = a.rest;
  tells = record { tells = tells_still old new bytes a.output a.rest a.tells.tells; go_on = a.tells.go_on };
  waits = a.waits;
  source = refl;
  sink = record { written = a.written; calm = a.calm };
}

-- Answering ends it.
pub answers_end : (old new : SessionView) (bytes : List ℕ) (r : Option (List ℕ)) (g s : ℕ) (w w' : Option (List ℕ)) (f f' : ℕ) (pipe : PipeView) (status : Status)
    → f ≤ f' → AnswersSome old bytes w w' f f' new pipe (Err status) → Talks old bytes (act r r g g s s w w' f f') status
answers_end old new bytes r g s w w' f f' pipe Done later a = inl (record {
  talk = record { read = []; takes = took_nothing r g; output = a.output; last = a.last; rest = a.rest; tells = tells_still old a.last bytes a.output a.rest a.tells.tells };
  ends = a.tells.ends;
  source = refl;
  sink = record { written = a.written; calm = a.calm };
})
answers_end old new bytes r g s w w' f f' pipe WriteFault later a = record {
  talk = record { read = []; takes = took_nothing r g; output = a.output; last = a.last; rest = a.rest; tells = tells_still old a.last bytes a.output a.rest a.tells };
  beginning = a.beginning;
  rose = a.rose;
  later = later;
  source = refl;
}
answers_end old new bytes r g s w w' f f' pipe Memory later a = record {
  talk = record { read = []; takes = took_nothing r g; output = []; last = old; rest = bytes; tells = tells_still old old bytes [] bytes (tells_none old bytes).tells };
  source = refl;
  sink = record { written = a.written ∙ append_none w; calm = a.calm };
}
answers_end old new bytes r g s w w' f f' pipe Usage later a = absurd a
answers_end old new bytes r g s w w' f f' pipe Refused later a = absurd a
answers_end old new bytes r g s w w' f f' pipe ReadFault later a = absurd a
answers_end old new bytes r g s w w' f f' pipe TooLong later a = absurd a
answers_end old new bytes r g s w w' f f' pipe HalfLine later a = absurd a

-- ---- rounds

pub starts : (old : SessionView) (bytes : List ℕ) (r : Option (List ℕ)) (g s : ℕ) (w : Option (List ℕ)) (f : ℕ) (pipe : PipeView) → Waits pipe bytes → TalksOn old bytes (act r r g g s s w w f f) old pipe
starts old bytes r g s w f pipe waits = record {
  read = [];
  takes = took_nothing r g;
  output = [];
  rest = bytes;
  tells = record { tells = tells_still old old bytes [] bytes (tells_none old bytes).tells; go_on = (tells_none old bytes).go_on };
  waits = waits;
  source = refl;
  sink = record { written = append_none w; calm = refl };
}

module _ (old mid : SessionView) (bytes : List ℕ) (r0 r1 r2 : Option (List ℕ)) (g0 g1 g2 s0 s1 s2 : ℕ) (w0 w1 w2 : Option (List ℕ)) (f0 f1 f2 : ℕ) (pipe : PipeView)
    (t : TalksOn old bytes (act r0 r1 g0 g1 s0 s1 w0 w1 f0 f1) mid pipe) where
  -- What was told so far, of the bytes that are read by then.
  abbrev so_far : (more : List ℕ) → TellsOn old (bytes ++ (t.read ++ more)) t.output mid (t.rest ++ more)
  so_far more = record {
    tells = regrouped old mid ((bytes ++ t.read) ++ more) (bytes ++ (t.read ++ more)) t.output (t.rest ++ more) (sym (append_assoc bytes t.read more))
        (tells_more old mid (bytes ++ t.read) more t.output t.rest t.tells.tells);
    go_on = t.tells.go_on;
  }

  abbrev talked : (u : HasTalked mid t.rest (act r1 r2 g1 g2 s1 s2 w1 w2 f1 f2)) → HasTalked old bytes (act r0 r2 g0 g2 s0 s2 w0 w2 f0 f2)
  talked u = record {
    read = t.read ++ u.read;
    takes = took_both r0 r1 r2 g0 g1 g2 t.read u.read t.takes u.takes;
    output = t.output ++ u.output;
    last = u.last;
    rest = u.rest;
    tells = tells_both old mid u.last (bytes ++ (t.read ++ u.read)) t.output (t.rest ++ u.read) u.output u.rest (so_far u.read).tells u.tells;
  }

  went_on : (u : HasTalked mid t.rest (act r1 r2 g1 g2 s1 s2 w1 w2 f1 f2)) → GoOn mid u.tells.lines → GoOn old (talked u).tells.lines
  went_on u go = All-append (λ l. SaysEnd old l → ⊥) t.tells.tells.lines u.tells.lines t.tells.go_on (same_go_on old mid u.tells.lines t.tells.tells.protocol go)

  calm_both : s2 ≡ s1 → s2 ≡ s0
  calm_both c = c ∙ t.source

  sink_both : (output : List ℕ) → SinkIsCalm (act r1 r2 g1 g2 s1 s2 w1 w2 f1 f2) output → SinkIsCalm (act r0 r2 g0 g2 s0 s2 w0 w2 f0 f2) (t.output ++ output)
  sink_both output c = record { written = wrote_both w0 w1 w2 t.output output t.sink.written c.written; calm = c.calm ∙ t.sink.calm }

  source_end : (status : Status) → TalksToSourceEnd mid t.rest (act r1 r2 g1 g2 s1 s2 w1 w2 f1 f2) status → TalksToSourceEnd old bytes (act r0 r2 g0 g2 s0 s2 w0 w2 f0 f2) status
  source_end status u = record {
    talk = talked u.talk;
    go_on = went_on u.talk u.go_on;
    lack = u.lack;
    ends = u.ends;
    over = u.over;
    source = calm_both u.source;
    sink = sink_both u.talk.output u.sink;
  }

  line_end : TalksToLine mid t.rest (act r1 r2 g1 g2 s1 s2 w1 w2 f1 f2) → TalksToLine old bytes (act r0 r2 g0 g2 s0 s2 w0 w2 f0 f2)
  line_end u = record {
    talk = talked u.talk;
    ends = ends_behind old mid t.tells.tells.lines u.talk.tells.lines t.tells.tells.protocol t.tells.go_on u.ends;
    source = calm_both u.source;
    sink = sink_both u.talk.output u.sink;
  }

  -- Rounds, and then the last one.
  pub then_ends : (status : Status) → Talks mid t.rest (act r1 r2 g1 g2 s1 s2 w1 w2 f1 f2) status → Talks old bytes (act r0 r2 g0 g2 s0 s2 w0 w2 f0 f2) status
  then_ends Done (inl u) = inl (line_end u)
  then_ends Done (inr u) = inr (source_end Done u)
  then_ends HalfLine u = source_end HalfLine u
  then_ends ReadFault u = record {
    talk = talked u.talk;
    go_on = went_on u.talk u.go_on;
    lack = u.lack;
    rose = subst (λ (n : ℕ). Rose n s2) t.source u.rose;
    later = subst (λ (n : ℕ). n ≤ s2) t.source u.later;
    sink = sink_both u.talk.output u.sink;
  }
  then_ends WriteFault u = record {
    talk = talked u.talk;
    beginning = began_behind w0 w1 w2 t.output u.talk.output t.sink.written u.beginning;
    rose = subst (λ (n : ℕ). Rose n f2) t.sink.calm u.rose;
    later = subst (λ (n : ℕ). n ≤ f2) t.sink.calm u.later;
    source = calm_both u.source;
  }
  then_ends Memory u = record { talk = talked u.talk; source = calm_both u.source; sink = sink_both u.talk.output u.sink }
  then_ends Usage u = absurd u
  then_ends Refused u = absurd u
  then_ends TooLong u = absurd u

  -- And then one more.
  pub then_on : (new : SessionView) (after : PipeView) → TalksOn mid t.rest (act r1 r2 g1 g2 s1 s2 w1 w2 f1 f2) new after → TalksOn old bytes (act r0 r2 g0 g2 s0 s2 w0 w2 f0 f2) new after
  then_on new after u = record {
    read = t.read ++ u.read;
    takes = took_both r0 r1 r2 g0 g1 g2 t.read u.read t.takes u.takes;
    output = t.output ++ u.output;
    rest = u.rest;
    tells = on_both old mid new (bytes ++ (t.read ++ u.read)) t.output (t.rest ++ u.read) u.output u.rest (so_far u.read) u.tells;
    waits = u.waits;
    source = calm_both u.source;
    sink = sink_both u.output u.sink;
  }

-- Where no more rounds are counted.
pub stops : (old new : SessionView) (bytes : List ℕ) (call : Around) (pipe : PipeView) → TalksOn old bytes call new pipe → Talks old bytes call Memory
stops old new bytes call pipe t = record {
  talk = record { read = t.read; takes = t.takes; output = t.output; last = new; rest = t.rest; tells = t.tells.tells };
  source = t.source;
  sink = t.sink;
}

-- ---- how a source ends

nothing : (xs : List ℕ) → length xs ≡ 0 → xs ≡ []
nothing [] is = refl
nothing (x ∷ xs) is = absurd (omega (arith, is))

-- Bytes wait: the front of a line, or what is held.
pub long_waits : (p : PipeView) (bytes : List ℕ) → p.long ≡ true → Waits p bytes → bytes ≢ []
long_waits p bytes on w none = let full = w.long on in let both = length-append w.dropped p.held in let whole = ap length (sym w.whole ∙ none) in omega (arith, full, both, whole)

pub held_waits : (p : PipeView) (bytes : List ℕ) → (length p.held ≡ 0 → ⊥) → Waits p bytes → bytes ≢ []
held_waits p bytes some w none = let both = length-append w.dropped p.held in let whole = ap length (sym w.whole ∙ none) in some (omega (arith, both, whole))

pub none_waits : (p : PipeView) (bytes : List ℕ) → p.long ≡ false → length p.held ≡ 0 → Waits p bytes → bytes ≡ []
none_waits p bytes off none w = w.whole ∙ ap (λ xs. xs ++ p.held) (w.short off) ∙ nothing p.held none

-- ---- waiting

took_read : (r r' : Option (List ℕ)) (g g' : ℕ) (read : List ℕ) → r ≡ prepend_known read r' → g' ≡ counted g (length read) → Took r r' g g' read
took_read r r' g g' read front number = record { front = front; each_counted = omega (arith, number); no_other = omega (arith, number) }

-- More was read.
pub has_read : (p q : PipeView) (bytes : List ℕ) (r r' : Option (List ℕ)) (g g' f f' count : ℕ) → Waits p bytes → HasNoFeed p.held → Reads (roomy p).held q.held r r' g g' count
    → q.long ≡ (roomy p).long → f' ≡ f → HasRead bytes r r' g g' f f' q
has_read p q bytes r r' g g' f f' count w lack reads long calm = record {
  read = reads.read;
  took = took_read r r' g g' reads.read reads.front reads.number;
  waits = waits_read p q bytes reads.read w lack reads.held long;
  calm = calm;
}

-- The source ended.
over_waits : (bytes : List ℕ) (r r' : Option (List ℕ)) (g g' f f' : ℕ) (pipe : PipeView) (status : Status) → IsOver bytes r r' g g' f f' status → WaitsForMore bytes r r' g g' f f' pipe (Err status)
over_waits bytes r r' g g' f f' pipe Done o = o
over_waits bytes r r' g g' f f' pipe HalfLine o = o
over_waits bytes r r' g g' f f' pipe ReadFault o = absurd o.ends
over_waits bytes r r' g g' f f' pipe Usage o = o
over_waits bytes r r' g g' f f' pipe Refused o = o
over_waits bytes r r' g g' f f' pipe WriteFault o = o
over_waits bytes r r' g g' f f' pipe Memory o = o
over_waits bytes r r' g g' f f' pipe TooLong o = o

pub is_over : (p q : PipeView) (bytes : List ℕ) (r r' : Option (List ℕ)) (g g' f f' count : ℕ) (status : Status) → Waits p bytes → HasNoFeed p.held → Reads (roomy p).held q.held r r' g g' count
    → count ≡ 0 → q.long ≡ (roomy p).long → f' ≡ f → (Waits q bytes → Ends bytes status) → WaitsForMore bytes r r' g g' f f' q (Err status)
is_over p q bytes r r' g g' f f' count status w lack reads zero long calm ends =
    let none : reads.read ≡ [] = nothing reads.read (reads.count_is ∙ zero) in
    let waits : Waits q bytes = subst (λ (b : List ℕ). Waits q b) (ap (λ (more : List ℕ). bytes ++ more) none ∙ append-nil bytes) (waits_read p q bytes reads.read w lack reads.held long) in
    over_waits bytes r r' g g' f f' q status (record {
      took = subst (λ (t : List ℕ). Took r r' g g' t) none (took_read r r' g g' reads.read reads.front reads.number);
      over = reads.end zero;
      ends = ends waits;
      lack = waits_lack p bytes w lack;
      calm = calm;
    })

-- The source failed.
pub fails_to_read : (p : PipeView) (bytes : List ℕ) (r r' : Option (List ℕ)) (g g' f f' : ℕ) → Waits p bytes → HasNoFeed p.held → r' ≡ r → g' ≡ g → Rose f f' → FailsToRead bytes r r' g g' f f'
fails_to_read p bytes r r' g g' f f' w lack rest given rose = record {
  took = record { front = prepend_none r ∙ ap (prepend_known []) (sym rest); each_counted = omega (arith, given); no_other = omega (arith, given) };
  lack = waits_lack p bytes w lack;
  rose = rose;
}

-- ---- answers

-- Where a test says how a call ended.
pub of_err : {T E : Type 0} (P : Type 0) (result : Result T E) → OnErr result P → is_err result ≡ true → P
of_err P (Ok x) p e = absurd (true≢false (sym e))
of_err P (Err x) p e = p

pub of_ok : {T E : Type 0} (P : Type 0) (result : Result T E) → OnOk result P → is_err result ≡ false → P
of_ok P (Ok x) p e = p
of_ok P (Err x) p e = absurd (true≢false e)

module _ (old new : SessionView) (bytes text_old text_new items : List ℕ) (pipe : PipeView) (next : Next) (h : AnswersHeld old bytes text_old text_new new pipe next)
    (w w' : Option (List ℕ)) (f f' : ℕ) (none : text_old ≡ []) (same : items ≡ text_new) where
  abbrev held_tells : Tells old bytes h.output new h.rest
  held_tells = record { lines = h.lines; whole = h.whole; bytes_are = h.bytes_are; added = h.added; told = h.told; protocol = h.protocol }

  all_text : items ≡ h.output
  all_text = same ∙ h.text ∙ ap (λ t. t ++ h.output) none

  pub has_answered : w' ≡ append_known w items → f' ≡ f → (all : Bool) → (all ≡ true → next ≡ More) → next ≢ Ended → HasAnswered old bytes w w' f f' new pipe all
  has_answered written calm all more other = record {
    output = h.output;
    rest = h.rest;
    tells = record { tells = held_tells; go_on = h.go_on other };
    written = written ∙ ap (append_known w) all_text;
    calm = calm;
    waits = h.waits;
    lack = λ on. h.all (more on);
  }

  pub has_ended : w' ≡ append_known w items → f' ≡ f → next ≡ Ended → HasEnded old bytes w w' f f'
  has_ended written calm ended = record {
    output = h.output;
    last = new;
    rest = h.rest;
    tells = record { tells = held_tells; ends = h.ends ended };
    written = written ∙ ap (append_known w) all_text;
    calm = calm;
  }

  pub has_failed : WroteBeginning w w' items → Rose f f' → HasFailed old bytes w w' f f'
  has_failed beginning rose = record {
    output = h.output;
    last = new;
    rest = h.rest;
    tells = held_tells;
    beginning = subst (WroteBeginning w w') all_text beginning;
    rose = rose;
  }

-- ---- a round

-- All that was held is answered; then it waits.
abbrev all_of : (old new : SessionView) (bytes : List ℕ) (w w' : Option (List ℕ)) (f f' : ℕ) (pipe : PipeView) (all : Bool) → HasAnswered old bytes w w' f f' new pipe all → all ≡ true
    → HasAnswered old bytes w w' f f' new pipe true
all_of old new bytes w w' f f' pipe all a on = record {
  output = a.output;
  rest = a.rest;
  tells = a.tells;
  written = a.written;
  calm = a.calm;
  waits = a.waits;
  lack = λ _. a.lack on;
}

pub answers_then : (old new : SessionView) (bytes : List ℕ) (r r' : Option (List ℕ)) (g g' s s' : ℕ) (w w' : Option (List ℕ)) (f f' : ℕ) (pipe after : PipeView) (all : Bool) (result : Result ⊤ Status)
    → (a : HasAnswered old bytes w w' f f' new pipe all) → all ≡ true → s ≤ s' → WaitsForMore a.rest r r' g g' s s' after result → IsExchange old bytes (act r r' g g' s s' w w' f f') new after result
answers_then old new bytes r r' g g' s s' w w' f f' pipe after all (Ok _) a on later more =
    reads_on old new bytes r r' g g' s s' w w' f f' pipe (all_of old new bytes w w' f f' pipe all a on) after more
answers_then old new bytes r r' g g' s s' w w' f f' pipe after all (Err status) a on later more =
    waits_then old new bytes r r' g g' s s' w w' f f' status pipe (all_of old new bytes w w' f f' pipe all a on) after later more

-- Answering ends it.
pub answers_stop : (old new : SessionView) (bytes : List ℕ) (r : Option (List ℕ)) (g s : ℕ) (w w' : Option (List ℕ)) (f f' : ℕ) (pipe : PipeView) (status : Status) (result : Result ⊤ Status)
    → result ≡ Err status → f ≤ f' → AnswersSome old bytes w w' f f' new pipe (Err status) → IsExchange old bytes (act r r g g s s w w' f f') new pipe result
answers_stop old new bytes r g s w w' f f' pipe status result is later a =
    subst (λ (x : Result ⊤ Status). IsExchange old bytes (act r r g g s s w w' f f') new pipe x) (sym is) (answers_end old new bytes r g s w w' f f' pipe status later a)
