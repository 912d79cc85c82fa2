-- What a call says, from what it read and wrote.
use Rattle.std.proofs.Common.{◌≡◌, ◌∙◌, ◌≤◌, ℕ, List, [], ◌++◌, Option, inl, inr, refl, sym, ap, subst, ⊎_elim, append_assoc, append-nil}
use Rattle.std.specs.Prelude.{false, Err}
use Rattle.std.specs.Io.KnownBytes.{append_known, IsAtEnd}
use Rattle.rcv_io.specs.Causes.{Rose}
use Rattle.rcv_io.specs.Source.{Took}
use Rattle.rcv_io.specs.Sink.{WroteBeginning}
use Rattle.rcv_tree.specs.declared.entry.Entry.{Entry}
use Rattle.rcv_input.specs.Line.{refusal_line}
use Rattle.rcv_input.specs.Refusals.{IsFirstRefusal}
use Rattle.rcv_input.specs.declared.refused.Refused.{Refused as Refusal}
use Rattle.rcv_guide.specs.History.{HasHistory}
use Rattle.rcv_guide.proofs.Histories.{histories_begin}
use Rattle.rcv_guided.specs.Session.{SessionView}
use Rattle.rcv_guided.specs.declared.saving.Saving.{Saving}
use Rattle.rcv_pipe.specs.Feeds.{ended}
use Rattle.rcv_pipe.specs.Pipe.{PipeView, Waits}
use Rattle.rcv_pipe.specs.declared.opening.OpeningError.{OpeningError}
use Rattle.rcv_pipe.specs.Opening.{IsOpening, Opens, OpensNone}
use Rattle.rcv_talk.specs.declared.status.Status.{Status}
use Rattle.rcv_talk.specs.declared.status.Status.TheVariants.{Done, Usage, Refused, ReadFault, WriteFault, Memory, TooLong, HalfLine}
use Rattle.rcv_talk.specs.Around.{Around, Takes}
use Rattle.rcv_talk.specs.Dialogue.{AreTold, NoneRestores}
use Rattle.rcv_talk.specs.Openings.{AreWords, AreOtherWords, Begins, first_room, ready_line, usage_line, no_events_line}
use Rattle.rcv_talk.specs.Talking.{HasTalked, Talks, TalksToLine, TalksToSourceEnd}
use Rattle.rcv_talk.specs.Calls.{Dialogue, output_of, IsRefusal, Says, Wrote}
use Rattle.rcv_talk.specs.Conversing.{IsUnread, OnlyWants, OnlyFails, TalksBehindLine, Converses, OnlyRefuses, ConversesOf, ComesOfText}
use Rattle.rcv_talk.proofs.Telling.{lines_go_on, tells_none}
use Rattle.rcv_talk.proofs.Rounds.{took_nothing, took_both, wrote_both, began_behind}

-- ---- histories

begun_history : (text : List ℕ) (saving : Saving) (s : SessionView) → Begins text saving s → HasHistory s.guide []
begun_history text saving s b = subst (λ (x : SessionView). HasHistory x.guide []) (sym b.is) (histories_begin b.bundle.protocol b.bundle.plan first_room)

-- What was told from the start on is the history, where nothing was restored.
pub told_history : (text : List ℕ) (saving : Saving) (start last : SessionView) (lines : List (List ℕ)) (output : List ℕ) (added : List Entry)
    → Begins text saving start → AreTold start lines output added last → NoneRestores start lines → HasHistory last.guide added
told_history text saving start last lines output added b told none = lines_go_on start last lines output added none told [] (begun_history text saving start b)

-- ---- what was taken

opens_more : (bytes text behind more : List ℕ) → Opens bytes text behind → Opens (bytes ++ more) text (behind ++ more)
opens_more bytes text behind more o = record {
  lines = o.lines;
  others = o.others;
  text_is = o.text_is;
  events = o.events;
  is = o.is;
  whole = ap (λ (b : List ℕ). b ++ more) o.whole ∙ append_assoc text (ended o.events ++ behind) more ∙ ap (λ (b : List ℕ). text ++ b) (append_assoc (ended o.events) behind more);
}

still_taken : (r0 r1 r2 : Option (List ℕ)) (g0 g1 g2 : ℕ) (taken : List ℕ) → Took r0 r1 g0 g1 taken → r2 ≡ r1 → g2 ≡ g1 → Took r0 r2 g0 g2 taken
still_taken r0 r1 r2 g0 g1 g2 taken took rest given =
    subst (λ (r : Option (List ℕ)). Took r0 r g0 g2 taken) (sym rest) (subst (λ (g : ℕ). Took r0 r1 g0 g taken) (sym given) took)

-- ---- the first line, and the dialogue behind it

-- In a pipe that isn't long, what it holds waits.
pub held_waits : (pipe : PipeView) → pipe.long ≡ false → Waits pipe pipe.held
held_waits pipe short = record { dropped = []; whole = refl; short = λ e. refl; front = tt; long = λ e. absurd (let f = short in cc) }

pub talks_behind : (s : SessionView) (waiting : List ℕ) (call : Around) (between : Option (List ℕ)) (f : ℕ) (bytes : List ℕ) (said result : Status) → bytes ≡ ready_line s → said ≡ Done
    → Wrote call.written_before between call.write_faults_before f bytes Done said → Talks s waiting (record call { written_before = between; write_faults_before = f }) result → Converses s waiting call result
talks_behind s waiting call between f bytes said result bytes_are is (inl w) talks = inl (record {
  between = between;
  line = w.1 ∙ ap (append_known call.written_before) bytes_are;
  talks = subst (λ (n : ℕ). Talks s waiting (record call { written_before = between; write_faults_before = n }) result) w.2 talks;
})
talks_behind s waiting call between f bytes said result bytes_are is (inr w) talks = absurd (let e = w.0 in cc)

pub fails_at_line : (s : SessionView) (waiting : List ℕ) (call : Around) (bytes : List ℕ) (result : Status) → bytes ≡ ready_line s → (result ≡ Done → ⊥) → IsUnread call → call.write_faults_before ≤ call.write_faults_after
    → Wrote call.written_before call.written_after call.write_faults_before call.write_faults_after bytes Done result → Converses s waiting call result
fails_at_line s waiting call bytes result bytes_are other unread later (inl w) = absurd (other w.0)
fails_at_line s waiting call bytes result bytes_are other unread later (inr w) = inr (inl (record {
  is = w.0;
  unread = unread;
  beginning = subst (λ (b : List ℕ). WroteBeginning call.written_before call.written_after b) bytes_are w.2;
  rose = w.1;
  later = later;
}))

-- The text's refusal, which is written.
pub refuses_text : (text : List ℕ) (saving : Saving) (waiting : List ℕ) (call : Around) (line bytes : List ℕ) (result : Status) → (refusal : Refusal) × IsFirstRefusal text refusal × (line ≡ refusal_line refusal) → bytes ≡ line
    → IsUnread call → call.write_faults_before ≤ call.write_faults_after → Wrote call.written_before call.written_after call.write_faults_before call.write_faults_after bytes Refused result → ComesOfText text saving waiting call result
refuses_text text saving waiting call line bytes result is bytes_are unread later wrote = inr (inl (record {
  refusal = is.0;
  first = is.1;
  writes = record {
    unread = unread;
    wrote = subst (λ (b : List ℕ). Wrote call.written_before call.written_after call.write_faults_before call.write_faults_after b Refused result) (bytes_are ∙ is.2) wrote;
    later = later;
  };
}))

-- ---- behind a text

module _ (words : List (List ℕ)) (r0 : Option (List ℕ)) (g0 s0 : ℕ) (inner : Around) (saving : Saving) (taken text behind : List ℕ) (are : AreWords words saving)
    (took : Took r0 inner.rest_before g0 inner.given_before taken) (opens : Opens taken text behind) (calm : inner.read_faults_before ≡ s0) where
  -- The call with what it did before the text ended.
  abbrev outer : Around
  outer = record inner { rest_before = r0; given_before = g0; read_faults_before = s0 }

  abbrev dialogue_of : (s : SessionView) (between : Option (List ℕ)) → Begins text saving s → HasTalked s behind (record inner { written_before = between }) → Dialogue words outer
  dialogue_of s between begins talk = record {
    taken = taken ++ talk.read;
    takes = took_both r0 inner.rest_before inner.rest_after g0 inner.given_before inner.given_after taken talk.read took talk.takes;
    text = text;
    behind = behind ++ talk.read;
    opens = opens_more taken text behind talk.read opens;
    saving = saving;
    words_are = are;
    start = s;
    begins = begins;
    lines = talk.tells.lines;
    whole = talk.tells.whole;
    rest = talk.rest;
    behind_is = talk.tells.bytes_are;
    answers = talk.output;
    entries = talk.tells.added;
    last = talk.last;
    told = talk.tells.told;
    history = told_history text saving s talk.last talk.tells.lines talk.output talk.tells.added begins talk.tells.told;
  }

  all_written : (s : SessionView) (between : Option (List ℕ)) (output : List ℕ) → between ≡ append_known inner.written_before (ready_line s) → inner.written_after ≡ append_known between output
      → inner.written_after ≡ append_known inner.written_before (ready_line s ++ output)
  all_written s between output line more = wrote_both inner.written_before between inner.written_after (ready_line s) output line more

  says_source_end : (s : SessionView) (begins : Begins text saving s) (t : TalksBehindLine s behind inner Done) (u : TalksToSourceEnd s behind (record inner { written_before = t.between }) Done) → Says words outer Done
  says_source_end s begins t u = record {
    dialogue = dialogue_of s t.between begins u.talk;
    writes = all_written s t.between u.talk.output t.line u.sink.written;
    ends = inr (record { go_on = u.go_on; over = u.over }, u.ends);
  }

  says_line_end : (s : SessionView) (begins : Begins text saving s) (t : TalksBehindLine s behind inner Done) (u : TalksToLine s behind (record inner { written_before = t.between })) → Says words outer Done
  says_line_end s begins t u = record {
    dialogue = dialogue_of s t.between begins u.talk;
    writes = all_written s t.between u.talk.output t.line u.sink.written;
    ends = inl u.ends;
  }

  says_talked : (s : SessionView) → Begins text saving s → (status : Status) → TalksBehindLine s behind inner status → Says words outer status
  says_talked s begins Done t = ⊎_elim (λ u. says_line_end s begins t u) (λ u. says_source_end s begins t u) t.talks
  says_talked s begins HalfLine t = record {
    dialogue = dialogue_of s t.between begins t.talks.talk;
    writes = all_written s t.between t.talks.talk.output t.line t.talks.sink.written;
    ends = record { go_on = t.talks.go_on; over = t.talks.over };
    half = t.talks.ends;
    one = t.talks.lack;
  }
  says_talked s begins ReadFault t = record {
    rose = subst (λ (n : ℕ). Rose n inner.read_faults_after) calm t.talks.rose;
    is = inr (record {
      dialogue = dialogue_of s t.between begins t.talks.talk;
      writes = all_written s t.between t.talks.talk.output t.line t.talks.sink.written;
      go_on = t.talks.go_on;
      half = t.talks.lack;
    });
  }
  says_talked s begins WriteFault t =
      let d = dialogue_of s t.between begins t.talks.talk in
      record {
        rose = t.talks.rose;
        bytes = output_of d;
        is = inr (inr (d, refl));
        writes = began_behind inner.written_before t.between inner.written_after (ready_line s) t.talks.talk.output t.line t.talks.beginning;
      }
  says_talked s begins Memory t = inr (record {
    dialogue = dialogue_of s t.between begins t.talks.talk;
    writes = all_written s t.between t.talks.talk.output t.line t.talks.sink.written;
  })
  says_talked s begins Usage t = absurd t.talks
  says_talked s begins Refused t = absurd t.talks
  says_talked s begins TooLong t = absurd t.talks

  -- Nothing more was read.
  took_still : IsUnread inner → Took r0 inner.rest_after g0 inner.given_after taken
  took_still u = still_taken r0 inner.rest_before inner.rest_after g0 inner.given_before inner.given_after taken took u.rest u.given

  abbrev talked_nothing : (s : SessionView) → IsUnread inner → HasTalked s behind (record inner { written_before = inner.written_before })
  talked_nothing s u = record {
    read = [];
    takes = still_taken inner.rest_before inner.rest_before inner.rest_after inner.given_before inner.given_before inner.given_after [] (took_nothing inner.rest_before inner.given_before) u.rest u.given;
    output = [];
    last = s;
    rest = behind ++ [];
    tells = (tells_none s (behind ++ [])).tells;
  }

  says_failed : (s : SessionView) → Begins text saving s → (status : Status) → OnlyFails inner (ready_line s) status → Says words outer status
  says_failed s begins status f =
      subst (Says words outer) (sym f.is) (record {
        rose = f.rose;
        bytes = ready_line s;
        is = inr (inr (dialogue_of s inner.written_before begins (talked_nothing s f.unread), sym (append-nil (ready_line s))));
        writes = f.beginning;
      })

  says_wants : (status : Status) → OnlyWants inner status → Says words outer status
  says_wants status w = subst (Says words outer) (sym w.is) (inl (record { taken = taken; takes = took_still w.unread; silent = w.silent }))

  says_conversed : (status : Status) → ConversesOf text saving behind inner status → Says words outer status
  says_conversed status c = go c.converses
    where
      go : Converses c.start behind inner status → Says words outer status
      go (inl t) = says_talked c.start c.begins status t
      go (inr (inl f)) = says_failed c.start c.begins status f
      go (inr (inr w)) = says_wants status w

  says_refused : (status : Status) → OnlyRefuses text inner status → Says words outer status
  says_refused status r = go r.writes.wrote
    where
      is : IsRefusal words outer (refusal_line r.refusal)
      is = inr (r.refusal, record { saving = saving; words_are = are; taken = taken; takes = took_still r.writes.unread; text = text; behind = behind; opens = opens; refused = r.first }, refl)

      go : Wrote inner.written_before inner.written_after inner.write_faults_before inner.write_faults_after (refusal_line r.refusal) Refused status → Says words outer status
      go (inl w) = subst (Says words outer) (sym w.0) (record { bytes = refusal_line r.refusal; is = is; writes = w.1 })
      go (inr w) = subst (Says words outer) (sym w.0) (record { rose = w.1; bytes = refusal_line r.refusal; is = inr (inl is); writes = w.2 })

  -- What the call says behind its text.
  pub says_behind : (status : Status) → ComesOfText text saving behind inner status → Says words outer status
  says_behind status (inl c) = says_conversed status c
  says_behind status (inr (inl r)) = says_refused status r
  says_behind status (inr (inr w)) = says_wants status w

-- ---- where no session begins

-- What is said of some error is said of the same one.
pub opening_as : (rest : Option (List ℕ)) (taken : List ℕ) (pipe : PipeView) (found error : OpeningError) → found ≡ error → IsOpening rest taken pipe (Err found) → IsOpening rest taken pipe (Err error)
opening_as rest taken pipe found error same is = subst (λ (e : OpeningError). IsOpening rest taken pipe (Err e)) same is

pub says_usage : (words : List (List ℕ)) (call : Around) (status : Status) → AreOtherWords words → call.rest_after ≡ call.rest_before → call.given_after ≡ call.given_before
    → Wrote call.written_before call.written_after call.write_faults_before call.write_faults_after usage_line Usage status → Says words call status
says_usage words call status others rest given (inl w) = subst (Says words call) (sym w.0) (record { other = record { others = others; unread = rest; none_given = given }; writes = w.1 })
says_usage words call status others rest given (inr w) = subst (Says words call) (sym w.0) (record {
  rose = w.1;
  bytes = usage_line;
  is = inl (record { others = others; unread = rest; none_given = given }, refl);
  writes = w.2;
})

pub says_no_events : (words : List (List ℕ)) (call : Around) (status : Status) (saving : Saving) (taken : List ℕ) → AreWords words saving → Takes call taken → OpensNone taken → IsAtEnd call.rest_after
    → Wrote call.written_before call.written_after call.write_faults_before call.write_faults_after no_events_line Refused status → Says words call status
says_no_events words call status saving taken are takes none over wrote = go wrote
  where
    is : IsRefusal words call no_events_line
    is = inl (record { saving = saving; words_are = are; taken = taken; takes = takes; none = none; over = over }, refl)

    go : Wrote call.written_before call.written_after call.write_faults_before call.write_faults_after no_events_line Refused status → Says words call status
    go (inl w) = subst (Says words call) (sym w.0) (record { bytes = no_events_line; is = is; writes = w.1 })
    go (inr w) = subst (Says words call) (sym w.0) (record { rose = w.1; bytes = no_events_line; is = inr (inl is); writes = w.2 })
