-- Lines that are held, and their answers.
use Rattle.std.proofs.Common.{◌≡◌, ◌∙◌, ◌<◌, ℕ, ◌+◌, true, false, true≢false, List, [], ◌∷◌, ◌++◌, drop, length, take, Result, Ok, Err, refl, sym, ap, subst, arith, append_assoc, append-nil, length-append}
use Rattle.std.specs.Prelude.{◌↔◌}
use Rattle.std.proofs.lemmas.List.Elements.{All-cons, All-nil, All-push}
use Rattle.rcv_dialogue.specs.declared.answer.Answer.TheVariants as answer
use Rattle.rcv_dialogue.specs.declared.line.Line.{Line}
use Rattle.rcv_dialogue.specs.declared.line.Line.TheVariants.{Ask}
use Rattle.rcv_dialogue.specs.declared.line.Question.TheVariants.{End}
use Rattle.rcv_dialogue.specs.declared.wrong.LineError.{LineError}
use Rattle.rcv_dialogue.specs.declared.wrong.LineError.TheVariants.{Long, Wrong}
use Rattle.rcv_dialogue.specs.Answers.{answer_text, unread_text}
use Rattle.rcv_dialogue.specs.Lines.{SaysLine}
use Rattle.rcv_guided.specs.Answers.{IsAnswer, Says}
use Rattle.rcv_guided.specs.Session.{SessionView}
use Rattle.rcv_guided.specs.Hearing.{accepted_of}
use Rattle.rcv_pipe.specs.Feeds.{HasNoFeed, IsFeed, ended}
use Rattle.rcv_pipe.specs.Pipe.{PipeView, Waits}
use Rattle.rcv_pipe.proofs.Feeds.{both_lack}
use Rattle.rcv_talk.specs.Answering.{Answers, AnswersFirst, AnswersHeld}
use Rattle.rcv_talk.specs.Dialogue.{GoOn, IsRead, SaysEnd}
use Rattle.rcv_talk.specs.Talking.{Tells}
use Rattle.rcv_talk.specs.declared.answers.Next.{Next}
use Rattle.rcv_talk.specs.declared.answers.Next.TheVariants.{More, Written, Ended}
use Rattle.rcv_talk.proofs.Telling.{same_end, tells_both, told_one}

ok_same : {T E : Type 0} (x y : T) (r : Result T E) → r ≡ Ok x → r ≡ Ok y → x ≡ y
ok_same x y (Ok z) is other = cc
ok_same x y (Err e) is other = absurd (cc)

err_is_not_ok : {T E : Type 0} (x : T) (e : E) (r : Result T E) → r ≡ Err e → r ≡ Ok x → ⊥
err_is_not_ok x e (Ok y) is_err is_ok = cc
err_is_not_ok x e (Err f) is_err is_ok = cc

-- ---- one line

module _ (old : SessionView) (text : List ℕ) (read : Result Line LineError) (is_read : IsRead old text read)
    (only : (line : Line) → SaysLine (accepted_of old) text line → read ≡ Ok line) where
  -- It is one of the dialogue.
  pub answers_heard : (new : SessionView) (text_old text_new : List ℕ) (line : Line) (next : Next)
      → read ≡ Ok line → SaysLine (accepted_of old) text line → Says (accepted_of old) text_old text_new (IsAnswer old line new)
      → (next ≡ Ended) ↔ (line ≡ Ask End) → new.guide.protocol ≡ old.guide.protocol → Answers old text text_old text_new new next
  answers_heard new text_old text_new line next is says heard ends same = record {
    said = heard.answer;
    added = heard.is.added;
    told = record { read = Ok line; is_read = subst (IsRead old text) is is_read; comes = (heard.is.hears, heard.is.history) };
    text = heard.text;
    ends = (
      λ end. subst (SaysLine (accepted_of old) text) (ends.0 end) says,
      λ end. ends.1 (ok_same line (Ask End) read is (only (Ask End) end)),
    );
    protocol = same;
  }

  -- It isn't.
  pub answers_unread : (text_old text_new : List ℕ) (error : LineError) → read ≡ Err error → text_new ≡ text_old ++ unread_text error
      → Answers old text text_old text_new old More
  answers_unread text_old text_new Long is said = record {
    said = answer.Long;
    added = [];
    told = record { read = Err Long; is_read = subst (IsRead old text) is is_read; comes = (refl, record { nothing = refl; same = refl }) };
    text = said;
    ends = (λ end. absurd (cc), λ end. absurd (err_is_not_ok (Ask End) Long read is (only (Ask End) end)));
    protocol = refl;
  }
  answers_unread text_old text_new (Wrong w) is said = record {
    said = answer.Wrong w;
    added = [];
    told = record { read = Err (Wrong w); is_read = subst (IsRead old text) is is_read; comes = (refl, record { nothing = refl; same = refl }) };
    text = said;
    ends = (λ end. absurd (cc), λ end. absurd (err_is_not_ok (Ask End) (Wrong w) read is (only (Ask End) end)));
    protocol = refl;
  }

-- A line that is too long.
pub answers_long : (old : SessionView) (text text_old text_new : List ℕ) → 2048 < length text → text_new ≡ text_old ++ unread_text Long
    → Answers old text text_old text_new old More
answers_long old text text_old text_new long said =
    answers_unread old text (Err Long) (record { long = (λ is. long, λ more. refl); exact = λ short. absurd (omega (arith, short, long)) })
    (λ line says. let short = says.short in absurd (omega (arith, short, long))) text_old text_new Long refl said

-- ---- the first line that is held

module _ (old new : SessionView) (pipe : PipeView) (feed : ℕ) (bytes text_old text_new : List ℕ) (next : Next)
    (is : IsFeed pipe.held feed) (waits : Waits pipe bytes) where
  -- All of it, with what was dropped.
  pub first_answered : Answers old (waits.dropped ++ take feed pipe.held) text_old text_new new next → AnswersFirst old pipe feed bytes text_old text_new new next
  first_answered a = record {
    line = waits.dropped ++ take feed pipe.held;
    one = both_lack waits.dropped (take feed pipe.held) waits.front is.line;
    rest = drop (feed + 1) pipe.held;
    bytes_are = waits.whole ∙ ap (λ b. waits.dropped ++ b) is.whole
        ∙ sym (append_assoc waits.dropped (ended (take feed pipe.held)) (drop (feed + 1) pipe.held))
        ∙ ap (λ b. b ++ drop (feed + 1) pipe.held) (sym (append_assoc waits.dropped (take feed pipe.held) (10 ∷ [])));
    waits = record { dropped = []; whole = refl; short = λ off. refl; front = tt; long = λ on. absurd (true≢false (sym on)) };
    answers = a;
  }

pub first_long : (old : SessionView) (pipe : PipeView) (feed : ℕ) (bytes text_old text_new : List ℕ) → IsFeed pipe.held feed → Waits pipe bytes
    → pipe.long ≡ true → text_new ≡ text_old ++ unread_text Long → AnswersFirst old pipe feed bytes text_old text_new old More
first_long old pipe feed bytes text_old text_new is waits on said =
    let much = waits.long on in
    let both = length-append waits.dropped (take feed pipe.held) in
    first_answered old old pipe feed bytes text_old text_new More is waits
    (answers_long old (waits.dropped ++ take feed pipe.held) text_old text_new (omega (arith, much, both)) said)

-- ---- lines that are held

-- They are all that are whole.
pub held_all : (old new : SessionView) (bytes text_old text_new : List ℕ) (pipe : PipeView) → AnswersHeld old bytes text_old text_new new pipe Written
    → HasNoFeed pipe.held → AnswersHeld old bytes text_old text_new new pipe More
held_all old new bytes text_old text_new pipe a lack = record {
  lines = a.lines;
  whole = a.whole;
  rest = a.rest;
  bytes_are = a.bytes_are;
  waits = a.waits;
  output = a.output;
  added = a.added;
  told = a.told;
  text = a.text;
  all = λ is. lack;
  ends = λ is. absurd (cc);
  go_on = λ other. a.go_on (λ is. absurd (cc));
  protocol = a.protocol;
}

-- And one more.
module _ (old mid new : SessionView) (bytes text_old text_mid text_new : List ℕ) (pipe after : PipeView) (feed : ℕ) (next : Next)
    (a : AnswersHeld old bytes text_old text_mid mid pipe Written) (f : AnswersFirst mid pipe feed a.rest text_mid text_new new next)
    (passed : after ≡ record { held = drop (feed + 1) pipe.held; long = false }) where
  before : Tells old bytes a.output mid a.rest
  before = record { lines = a.lines; whole = a.whole; bytes_are = a.bytes_are; added = a.added; told = a.told; protocol = a.protocol }

  one : Tells mid a.rest (answer_text (accepted_of mid) f.answers.said) new f.rest
  one = record {
    lines = f.line ∷ [];
    whole = All-cons HasNoFeed f.line [] f.one (All-nil HasNoFeed);
    bytes_are = f.bytes_are ∙ ap (λ b. b ++ f.rest) (sym (append-nil (ended f.line)));
    added = f.answers.added;
    told = told_one mid new f.line f.answers.said f.answers.added f.answers.told;
    protocol = f.answers.protocol;
  }

  front : GoOn old a.lines
  front = a.go_on (λ is. absurd (cc))

  pub held_more : (then : Next) → (then ≡ More → ⊥) → (then ≡ Ended → next ≡ Ended) → (next ≡ Ended → then ≡ Ended)
      → AnswersHeld old bytes text_old text_new new after then
  unfolding before one
  held_more then other to from =
      let both = tells_both old mid new bytes a.output a.rest (answer_text (accepted_of mid) f.answers.said) f.rest before one in
      record {
        lines = a.lines ++ f.line ∷ [];
        whole = both.whole;
        rest = f.rest;
        bytes_are = both.bytes_are;
        waits = subst (λ (p : PipeView). Waits p f.rest) (sym passed) f.waits;
        output = a.output ++ answer_text (accepted_of mid) f.answers.said;
        added = both.added;
        told = both.told;
        text = f.answers.text ∙ ap (λ t. t ++ answer_text (accepted_of mid) f.answers.said) a.text
            ∙ append_assoc text_old a.output (answer_text (accepted_of mid) f.answers.said);
        all = λ is. absurd (other is);
        ends = λ is. record {
          front = a.lines;
          end = f.line;
          lines_are = refl;
          go_on = front;
          ends = same_end old mid f.line a.protocol (f.answers.ends.0 (to is));
        };
        go_on = λ is. All-push (λ l. SaysEnd old l → ⊥) a.lines f.line front
            (λ end. is (from (f.answers.ends.1 (same_end mid old f.line (sym a.protocol) end))));
        protocol = f.answers.protocol ∙ a.protocol;
      }
