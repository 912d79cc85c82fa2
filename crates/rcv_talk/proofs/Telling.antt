-- Lines that are told, one behind the other.
use Rattle.std.proofs.Common.{◌≡◌, ◌∙◌, ◌≤◌, ℕ, List, [], ◌∷◌, ◌++◌, flat_map, length, Result, Ok, Err, refl, sym, ap, subst, ⊎_elim, arith, append_assoc, append-nil}
use Rattle.std.proofs.lemmas.Bool.{cases_lt}
use Rattle.std.proofs.lemmas.List.Concat.{flat_map-append}
use Rattle.std.proofs.lemmas.List.Elements.{All-append, All-head, All-tail}
use Rattle.rcv_tree.specs.declared.entry.Entry.{Entry}
use Rattle.rcv_tree.specs.declared.protocol.Protocol.{Protocol}
use Rattle.rcv_dialogue.specs.declared.answer.Answer.{Answer}
use Rattle.rcv_dialogue.specs.declared.line.Line.{Line}
use Rattle.rcv_dialogue.specs.declared.line.Line.TheVariants as line
use Rattle.rcv_dialogue.specs.declared.words.Misfit.{Misfit}
use Rattle.rcv_dialogue.specs.declared.line.Question.TheVariants.{End}
use Rattle.rcv_dialogue.specs.declared.wrong.LineError.{LineError}
use Rattle.rcv_dialogue.specs.declared.wrong.LineError.TheVariants.{Long, Wrong}
use Rattle.rcv_dialogue.specs.Answers.{answer_text}
use Rattle.rcv_dialogue.specs.Lines.{SaysLine}
use Rattle.rcv_dialogue.specs.Reading.{Words, counted, line_at}
use Rattle.rcv_dialogue.proofs.Whole.{line_takes}
use Rattle.rcv_lines.specs.Cutting.{fields_of, joined}
use Rattle.rcv_lines.proofs.Joining.{join_again}
use Rattle.rcv_guide.specs.History.{HasHistory}
use Rattle.rcv_guided.specs.Session.{SessionView}
use Rattle.rcv_guided.specs.Hearing.{accepted_of, IsUnchanged}
use Rattle.rcv_guided.specs.Histories.{GoesOnBy}
use Rattle.rcv_guided.specs.Answers.{GoesOnBehind}
use Rattle.rcv_pipe.specs.Feeds.{HasNoFeed, ended}
use Rattle.rcv_talk.specs.Dialogue.{AreTold, ComesOf, EndsByLine, GoOn, IsRead, IsTold, NoneRestores, SaysAgain, SaysEnd}
use Rattle.rcv_talk.specs.Laws.{HistoriesGoOnBehindSnapshots}
use Rattle.rcv_talk.specs.Talking.{Tells, TellsOn}
use Rattle.rcv_talk.proofs.Protocols.{hears_keep}

-- Lines, and then others.
pub told_both : (s mid new : SessionView) (xs ys : List (List ℕ)) (out more : List ℕ) (added later : List Entry) → AreTold s xs out added mid → AreTold mid ys more later new
    → AreTold s (xs ++ ys) (out ++ more) (added ++ later) new
told_both s mid new [] ys out more added later first then =
    subst (λ (o : List ℕ). AreTold s ys (o ++ more) (added ++ later) new) (sym first.0)
    (subst (λ (e : List Entry). AreTold s ys more (e ++ later) new) (sym first.1) (subst (λ (m : SessionView). AreTold m ys more later new) first.2 then))
told_both s mid new (x ∷ xs) ys out more added later first then = record {
  said = first.said;
  first = first.first;
  between = first.between;
  told = first.told;
  rest = first.rest ++ more;
  more = first.more ++ later;
  others = told_both first.between mid new xs ys first.rest more first.more later first.others then;
  output_is = ap (λ o. o ++ more) first.output_is ∙ append_assoc (answer_text (accepted_of s) first.said) first.rest more;
  added_is = ap (λ e. e ++ later) first.added_is ∙ append_assoc first.first first.more later;
}

pub told_none : (s : SessionView) → AreTold s [] [] [] s
told_none s = (refl, refl, refl)

pub told_one : (s new : SessionView) (text : List ℕ) (said : Answer) (added : List Entry) → IsTold s text said added new → AreTold s (text ∷ []) (answer_text (accepted_of s) said) added new
told_one s new text said added told = record {
  said = said;
  first = added;
  between = new;
  told = told;
  rest = [];
  more = [];
  others = told_none new;
  output_is = sym (append-nil (answer_text (accepted_of s) said));
  added_is = sym (append-nil added);
}

-- Histories go on.
unchanged_goes_on : (old new : SessionView) (added : List Entry) → IsUnchanged old added new → GoesOnBy old added new
unchanged_goes_on old new added is history has =
    subst (λ (s : SessionView). HasHistory s.guide (history ++ added)) (sym is.same)
    (subst (λ (e : List Entry). HasHistory old.guide (history ++ e)) (sym is.nothing) (subst (HasHistory old.guide) (sym (append-nil history)) has))

-- What is read is what the text says.
counted_ok : (words : Words) (r : Result Line Misfit) (l : Line) → counted words r ≡ Ok l → r ≡ Ok l
counted_ok words (Ok x) l is = cc
counted_ok words (Err e) l is = absurd (cc)

says_it : (s : SessionView) (text : List ℕ) (l : Line) → IsRead s text (Ok l) → SaysLine (accepted_of s) text l
says_it s text l is =
    let short : length text ≤ 2048 = ⊎_elim (λ more. absurd (not_long (is.long.1 more))) (λ le. le) (cases_lt 2048 (length text)) in
    let t = line_takes (accepted_of s) (fields_of text) l (counted_ok (fields_of text) (line_at (accepted_of s) (fields_of text)) l (is.exact short)) in
    record { formed = t.0; words = sym (join_again text) ∙ ap joined t.1; short = short }
  where
    not_long : Ok l ≡ Err Long → ⊥
    not_long e = absurd (cc)

-- A line leaves the protocol as it is, and the history goes on by it, unless it is one of a snapshot.
line_keeps : (old new : SessionView) (read : Result Line LineError) (said : Answer) (added : List Entry) → ComesOf old read said added new → new.guide.protocol ≡ old.guide.protocol
line_keeps old new (Ok l) said added comes = hears_keep old l said added new comes.0
line_keeps old new (Err Long) said added comes = ap (λ (s : SessionView). s.guide.protocol) comes.1.same
line_keeps old new (Err (Wrong w)) said added comes = ap (λ (s : SessionView). s.guide.protocol) comes.1.same

heard_goes_on : (old new : SessionView) (text : List ℕ) (l : Line) (added : List Entry) → SaysLine (accepted_of old) text l → (SaysAgain old text → ⊥) → GoesOnBehind l old added new → GoesOnBy old added new
heard_goes_on old new text (line.Send told) added says none goes = goes
heard_goes_on old new text (line.Recv told) added says none goes = goes
heard_goes_on old new text (line.Save told) added says none goes = goes
heard_goes_on old new text (line.Fail failed) added says none goes = goes
heard_goes_on old new text (line.Crash r) added says none goes = goes
heard_goes_on old new text (line.Recover told) added says none goes = goes
heard_goes_on old new text (line.Ask asked) added says none goes = goes
heard_goes_on old new text (line.Again told) added says none goes = absurd (none (told, says))

line_goes_on : (old new : SessionView) (text : List ℕ) (read : Result Line LineError) (said : Answer) (added : List Entry) → IsRead old text read → (SaysAgain old text → ⊥) → ComesOf old read said added new → GoesOnBy old added new
line_goes_on old new text (Ok l) said added is none comes = heard_goes_on old new text l added (says_it old text l is) none comes.1
line_goes_on old new text (Err Long) said added is none comes = unchanged_goes_on old new added comes.1
line_goes_on old new text (Err (Wrong w)) said added is none comes = unchanged_goes_on old new added comes.1

-- Which lines are of a snapshot is a matter of the protocol.
same_again : (s t : SessionView) (text : List ℕ) → t.guide.protocol ≡ s.guide.protocol → SaysAgain t text → SaysAgain s text
same_again s t text same says = (says.0, subst (λ (p : Protocol). SaysLine (record { protocol = p }) text (line.Again says.0)) same says.1)

none_again : (s t : SessionView) (lines : List (List ℕ)) → t.guide.protocol ≡ s.guide.protocol → NoneRestores s lines → NoneRestores t lines
none_again s t lines same none k d inside says = none k d inside (same_again s t _ same says)

pub lines_go_on : (old new : SessionView) (lines : List (List ℕ)) (output : List ℕ) (added : List Entry) → NoneRestores old lines → AreTold old lines output added new → GoesOnBy old added new
lines_go_on old new [] output added none told = unchanged_goes_on old new added (record { nothing = told.1; same = told.2 })
lines_go_on old new (x ∷ xs) output added none told = λ history has.
    let one = line_goes_on old told.between x told.told.read told.said told.first told.told.is_read (All-head (λ l. SaysAgain old l → ⊥) x xs none) told.told.comes history has in
    let others = none_again old told.between xs (line_keeps old told.between told.told.read told.said told.first told.told.comes) (All-tail (λ l. SaysAgain old l → ⊥) x xs none) in
    let rest = lines_go_on told.between new xs told.rest told.more others told.others (history ++ told.first) one in
    subst (HasHistory new.guide) (append_assoc history told.first told.more ∙ ap (λ e. history ++ e) (sym told.added_is)) rest

pub histories_go_on_behind_snapshots : HistoriesGoOnBehindSnapshots
histories_go_on_behind_snapshots s last lines output added none told = lines_go_on s last lines output added none told

-- Which lines end a dialogue is a matter of its protocol.
pub same_end : (s t : SessionView) (text : List ℕ) → t.guide.protocol ≡ s.guide.protocol → SaysEnd t text → SaysEnd s text
same_end s t text same says = subst (λ (p : Protocol). SaysLine (record { protocol = p }) text (line.Ask End)) same says

pub same_go_on : (s t : SessionView) (lines : List (List ℕ)) → t.guide.protocol ≡ s.guide.protocol → GoOn t lines → GoOn s lines
same_go_on s t lines same go k d inside says = go k d inside (same_end t s _ (sym same) says)

-- ---- bytes

abbrev pub tells_more : (old new : SessionView) (bytes more output rest : List ℕ) → Tells old bytes output new rest → Tells old (bytes ++ more) output new (rest ++ more)
tells_more old new bytes more output rest t = record {
  lines = t.lines;
  whole = t.whole;
  bytes_are = ap (λ b. b ++ more) t.bytes_are ∙ append_assoc (flat_map ended t.lines) rest more;
  added = t.added;
  told = t.told;
  protocol = t.protocol;
}

abbrev pub tells_both : (old mid new : SessionView) (bytes out rest more last : List ℕ) → Tells old bytes out mid rest → Tells mid rest more new last → Tells old bytes (out ++ more) new last
tells_both old mid new bytes out rest more last t u = record {
  lines = t.lines ++ u.lines;
  whole = All-append HasNoFeed t.lines u.lines t.whole u.whole;
  bytes_are = t.bytes_are ∙ ap (λ b. flat_map ended t.lines ++ b) u.bytes_are ∙ sym (append_assoc (flat_map ended t.lines) (flat_map ended u.lines) last)
      ∙ ap (λ b. b ++ last) (sym (flat_map-append ended t.lines u.lines));
  added = t.added ++ u.added;
  told = told_both old mid new t.lines u.lines out more t.added u.added t.told u.told;
  protocol = u.protocol ∙ t.protocol;
}

pub on_both : (old mid new : SessionView) (bytes out rest more last : List ℕ) → TellsOn old bytes out mid rest → TellsOn mid rest more new last → TellsOn old bytes (out ++ more) new last
on_both old mid new bytes out rest more last t u = record {
  tells = tells_both old mid new bytes out rest more last t.tells u.tells;
  go_on = All-append (λ l. SaysEnd old l → ⊥) t.tells.lines u.tells.lines t.go_on (same_go_on old mid u.tells.lines t.tells.protocol u.go_on);
}

pub on_more : (old new : SessionView) (bytes more output rest : List ℕ) → TellsOn old bytes output new rest → TellsOn old (bytes ++ more) output new (rest ++ more)
on_more old new bytes more output rest t = record { tells = tells_more old new bytes more output rest t.tells; go_on = t.go_on }

abbrev pub tells_none : (old : SessionView) (bytes : List ℕ) → TellsOn old bytes [] old bytes
tells_none old bytes = record {
  tells = record { lines = []; whole = λ k d inside. absurd (omega (arith, inside)); bytes_are = refl; added = []; told = told_none old; protocol = refl };
  go_on = λ k d inside. absurd (omega (arith, inside));
}

pub ends_behind : (old mid : SessionView) (front lines : List (List ℕ)) → mid.guide.protocol ≡ old.guide.protocol → GoOn old front → EndsByLine mid lines → EndsByLine old (front ++ lines)
ends_behind old mid front lines same go e = record {
  front = front ++ e.front;
  end = e.end;
  lines_are = ap (λ ls. front ++ ls) e.lines_are ∙ sym (append_assoc front e.front (e.end ∷ []));
  go_on = All-append (λ l. SaysEnd old l → ⊥) front e.front go (same_go_on old mid e.front same e.go_on);
  ends = same_end old mid e.end same e.ends;
}
