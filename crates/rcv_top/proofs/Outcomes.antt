-- The answer to words and an input is one.
use Rattle.std.proofs.Common.{◌≡◌, ℕ, ◌<◌, Bool, Option, Some, None, inl, inr, ⊎_elim, sym, List, [], length, flat_map, refl, ◌∙◌, ap, subst, arith}
use Rattle.std.proofs.lemmas.Bool.{cases_lt}
use Rattle.rcv_tree.specs.declared.protocol.Protocol.{Protocol}
use Rattle.rcv_tree.specs.declared.entry.Entry.{Entry}
use Rattle.rcv_tree.specs.Names.{place_of}
use Rattle.rcv_model.specs.Text.{Body, body_of}
use Rattle.rcv_model.specs.Places.{net_of}
use Rattle.rcv_model.specs.Journal.{Rules, reading}
use Rattle.rcv_grammar.specs.Laws.{SayTheSame}
use Rattle.rcv_input.specs.declared.refused.Refused as refusals
use Rattle.rcv_input.specs.Refusals.{IsFirstRefusal}
use Rattle.rcv_input.specs.Line.{refusal_line}
use Rattle.rcv_input.proofs.Once.{one_answer}
use Rattle.rcv_printer.specs.CanonicalText.{canonical}
use Rattle.rcv_session.specs.Session.{SessionView, rules_of}
use Rattle.rcv_journal.specs.declared.line.RoleLine.{RoleLine}
use Rattle.rcv_journal.specs.JournalText.{limit_text, last_line}
use Rattle.rcv_gen.specs.Summary.{summary_text}
use Rattle.rcv_journal.specs.Lines.{AreLinesOf}
use Rattle.rcv_journal.proofs.SameText.{both, same_limit, all_same, text_with}
use Rattle.rcv_words.specs.Commands.{CommandView, Run, RunMany, Check, Project, Table, Gen, Replay, Line, IsCommand, IsNoCommand}
use Rattle.rcv_top.specs.Commands.{AskForSeveral, AskForSource, TakesWhole, text_for}
use Rattle.rcv_accept.specs.Accepted.{IsAcceptedProtocol}
use Rattle.rcv_input.specs.Laws.{AreSame}
use Rattle.rcv_tables.specs.Rows.{TableView, IsTable}
use Rattle.rcv_tables.specs.TableText.{table_text}
use Rattle.rcv_tables.proofs.OneText.{one_table_text}
use Rattle.rcv_top.specs.declared.status.Status.{Status}
use Rattle.rcv_top.specs.Projection.{IsProjection}
use Rattle.rcv_top.specs.Recovering.{accepted_as, IsTableText}
use Rattle.rcv_top.specs.Running.{IsSessionRun}
use Rattle.rcv_top.specs.Generating.{kept_in, IsSummaryOf, IsSummaryRun}
use Rattle.rcv_top.specs.Lining.{line_text as stable_text, IsLineBehind, IsLineOf, IsLineRun}
use Rattle.rcv_top.specs.Outcome.{most_bytes, Makes, IsAsked, IsAnswer, usage, too_long, answered, refused, made, replayed}
use Rattle.rcv_project.specs.LocalText as projection
use Rattle.rcv_project.specs.LocalText.{LineView, AreLinesAt, places_to, line_text}
use Rattle.rcv_project.proofs.OneText.{roles_have_one_text}
use Rattle.rcv_replay.specs.declared.replayed.Replayed.{Replayed}
use Rattle.rcv_replay.specs.declared.replayed.Replayed.TheVariants as replays
use Rattle.rcv_replay.proofs.Once.{one_replay}
use Rattle.rcv_top.specs.Replaying.{IsSaidOf, IsReplayAnswer}
use Rattle.rcv_top.specs.Laws.{OneOutcome}
use Rattle.rcv_top.proofs.Asking.{one_command, text_given}
use Rattle.rcv_top.proofs.Runs.{one_journal_of, rules_same, one_run}
use Rattle.rcv_top.proofs.ManyRuns.{one_run_of_many}
use Rattle.rcv_top.proofs.OneSummary.{one_summary}
use Rattle.rcv_top.proofs.OneLine.{one_line_of}

-- the last line says the same
same_last : (s t : SessionView) → s.protocol.roles ≡ t.protocol.roles → (lines : List RoleLine) → last_line s lines ≡ last_line t lines
same_last s t roles lines = ap (λ ls. text_with lines [] [] ls) (all_same (limit_text s) (limit_text t) (same_limit s t roles) lines)

same_summary : (s t : SessionView) (number : ℕ) → s.protocol.roles ≡ t.protocol.roles → body_of s.protocol.body ≡ body_of t.protocol.body → (journal : List Entry) (lines : List RoleLine)
    → summary_text number (length s.protocol.roles) (net_of (body_of s.protocol.body)).count journal (kept_in lines) (last_line s lines) ≡ summary_text number (length t.protocol.roles) (net_of (body_of t.protocol.body)).count journal (kept_in lines) (last_line t lines)
same_summary s t number roles bodies journal lines =
    both (λ rs b. summary_text number (length rs) (net_of b).count journal (kept_in lines) (last_line s lines)) s.protocol t.protocol roles bodies
    ∙ ap (λ last. summary_text number (length t.protocol.roles) (net_of (body_of t.protocol.body)).count journal (kept_in lines) last) (same_last s t roles lines)

-- two summaries of sessions that say the same
one_summary_run : (number : ℕ) (s t : SessionView) (a b : Status) (x y : List ℕ) → IsAcceptedProtocol t.protocol → AreSame s t → IsSummaryRun number s a x → IsSummaryRun number t b y → (a ≡ b) × (x ≡ y)
one_summary_run number s t a b x y lawful same run other = (run.completed ∙ sym other.completed, one_summary t k number x y (subst (λ (es : List Entry). IsSummaryOf t es number x) journals moved) other.summary)
  where
    j : List Entry
    j = run.journal

    k : List Entry
    k = other.journal

    rules : rules_of s ≡ rules_of t
    rules = rules_same s t same

    journals : j ≡ k
    journals = one_journal_of s t j k lawful rules run.alone other.alone

    moved : IsSummaryOf t j number x
    moved =
        let text = run.summary in
        record {
          lines = text.lines;
          are_lines = subst (λ (r : Rules). AreLinesOf r (reading r j) text.lines) rules text.are_lines;
          is_summary = text.is_summary ∙ same_summary s t number same.protocols.role_names same.protocols.bodies j text.lines;
        }

-- two stable lines of sessions that say the same
one_line_run : (s t : SessionView) (a b : Status) (x y : List ℕ) → IsAcceptedProtocol t.protocol → AreSame s t → IsLineRun s a x → IsLineRun t b y → (a ≡ b) × (x ≡ y)
one_line_run s t a b x y lawful same run other = (run.completed ∙ sym other.completed, one_line_of t k x y (subst (λ (es : List Entry). IsLineOf t es x) journals moved) other.line)
  where
    j : List Entry
    j = run.journal

    k : List Entry
    k = other.journal

    rules : rules_of s ≡ rules_of t
    rules = rules_same s t same

    journals : j ≡ k
    journals = one_journal_of s t j k lawful rules run.alone other.alone

    moved : IsLineOf t j x
    moved =
        let line = run.line in
        record {
          counts = line.counts;
          are_counts = subst (λ (r : Rules). IsLineBehind r j line.counts) rules line.are_counts;
          is_text = line.is_text ∙ ap (λ (names : List (List ℕ)). stable_text names line.counts) same.protocols.role_names;
        }

-- ---- what excludes what

is_asked : (words : List (List ℕ)) (input : List ℕ) (command : CommandView) → IsNoCommand words → IsAsked words command input → ⊥
is_asked words input command none asked = none command asked.words_are

is_short : (words : List (List ℕ)) (input : List ℕ) (command : CommandView) → AskForSource words → most_bytes < length input → IsAsked words command input → ⊥
is_short words input command source many asked =
    let same : source.0 ≡ command = one_command words source.0 command source.2 asked.words_are in
    let text : text_for command input ≡ input = subst (λ (c : CommandView). text_for c input ≡ input) same (text_given source.0 input source.1) in
    let short = asked.short in
    let size = ap length text in
    omega (arith, many, short, size)

-- ---- the same bytes

one_line : (input : List ℕ) (x y : refusals.Refused) → IsFirstRefusal input x → IsFirstRefusal input y → refusal_line x ≡ refusal_line y
one_line input x y first other = ap refusal_line (one_answer.refusals input x y first other)

one_text_of : (p q : Protocol) → SayTheSame p q → canonical p ≡ canonical q
one_text_of p q say =
    let modules = say.modules in
    let declared = say.declared in
    let names = say.names in
    let roles = say.role_names in
    let bodies = say.bodies in
    rw (modules, declared, names, roles, bodies) refl

-- the texts of the tables of two protocols that say the same
abbrev TableText : List ℕ → List (List ℕ) → Body → Type 0
TableText bytes names body = (table : TableView) × IsTable (net_of body) (length names) table × (bytes ≡ table_text (net_of body) names table)

one_table : (p q : Protocol) (b c : List ℕ) → IsAcceptedProtocol q → SayTheSame p q → IsTableText p b → IsTableText q c → b ≡ c
one_table p q b c lawful say x y = go (subst (TableText b q.roles) say.bodies (subst (λ (rs : List (List ℕ)). TableText b rs (body_of p.body)) say.role_names (x.table, x.is_table, x.is_text)))
  where
    go : TableText b q.roles (body_of q.body) → b ≡ c
    go t = t.2 ∙ one_table_text (accepted_as q) t.0 y.table lawful t.1 y.is_table ∙ sym y.is_text

-- the lines of a role with this number, and their bytes
abbrev RoleText : ℕ → List ℕ → List (List ℕ) → Body → Type 0
RoleText r bytes names body =
    (lines : List LineView) × AreLinesAt (net_of body) r (places_to (net_of body) r (net_of body).count) lines × (bytes ≡ flat_map (line_text names (net_of body)) lines)

projection_moves : (p q : Protocol) (r : ℕ) (bytes : List ℕ) → SayTheSame p q → projection.IsTextOf (accepted_as p) r bytes → projection.IsTextOf (accepted_as q) r bytes
projection_moves p q r bytes say text = go (subst (RoleText r bytes q.roles) say.bodies (subst (λ (rs : List (List ℕ)). RoleText r bytes rs (body_of p.body)) say.role_names (text.lines, text.are_lines, text.is_text)))
  where
    go : RoleText r bytes q.roles (body_of q.body) → projection.IsTextOf (accepted_as q) r bytes
    go t = record { lines = t.0; are_lines = t.1; is_text = t.2 }

-- what `project` makes of two protocols that say the same
one_projection : (p q : Protocol) (name : List ℕ) (s t : Status) (b c : List ℕ) → IsAcceptedProtocol q → SayTheSame p q → IsProjection p name s b → IsProjection q name t c → (s ≡ t) × (b ≡ c)
one_projection p q name s t b c lawful say x y = go x y
  where
    place_moves : (o : Option ℕ) → place_of p.roles name ≡ o → place_of q.roles name ≡ o
    place_moves o = subst (λ (rs : List (List ℕ)). place_of rs name ≡ o) say.role_names

    go : IsProjection p name s b → IsProjection q name t c → (s ≡ t) × (b ≡ c)
    go (inl (r, at, is, text)) (inl (o, there, also, other)) =
        let moved = place_moves (Some r) at in
        let same : o ≡ r = cc in
        (is ∙ sym also, roles_have_one_text (accepted_as q) r b c lawful (projection_moves p q r b say text) (subst (λ (n : ℕ). projection.IsTextOf (accepted_as q) n c) same other))
    go (inl (r, at, is, text)) (inr (none, also, other)) = absurd (let moved = place_moves (Some r) at in cc)
    go (inr (none, is, line)) (inl (o, there, also, other)) = absurd (let moved = place_moves None none in cc)
    go (inr (none, is, line)) (inr (other, also, same)) = (is ∙ sym also, line ∙ sym same)

-- a command that doesn't ask for several workers of one session
abbrev IsForOne : CommandView → Type 0
IsForOne (Run workers json) = workers ≡ 1
IsForOne (RunMany sessions workers json) = Unit {0}
IsForOne Check = Unit {0}
IsForOne (Project name) = Unit {0}
IsForOne Table = Unit {0}
IsForOne (Gen number) = Unit {0}
IsForOne Replay = Unit {0}
IsForOne Line = Unit {0}

is_for_one : (words : List (List ℕ)) (command : CommandView) → (AskForSeveral words → ⊥) → IsCommand words command → IsForOne command
is_for_one words (Run workers json) few command =
    ⊎_elim (λ many. absurd (few (workers, json, many, command))) (λ most. let least = command.2.0 in omega (arith, most, least)) (cases_lt 1 workers)
is_for_one words (RunMany sessions workers json) few command = tt
is_for_one words Check few command = tt
is_for_one words (Project name) few command = tt
is_for_one words Table few command = tt
is_for_one words (Gen number) few command = tt
is_for_one words Replay few command = tt
is_for_one words Line few command = tt

-- one worker is one
by_one : (workers : ℕ) (json : Bool) (session : SessionView) (status : Status) (bytes : List ℕ) → workers ≡ 1 → IsSessionRun workers json session status bytes → IsSessionRun 1 json session status bytes
by_one workers json session status bytes one = subst (λ (n : ℕ). IsSessionRun n json session status bytes) one

-- what a command makes of two sessions that say the same
one_making : (s t : SessionView) (command : CommandView) (a b : Status) (x y : List ℕ) → IsForOne command → IsAcceptedProtocol t.protocol → AreSame s t → Makes s command a x → Makes t command b y → (a ≡ b) × (x ≡ y)
one_making s t (Run workers json) a b x y one lawful same m n = one_run json s t a b x y lawful same (by_one workers json s a x one m) (by_one workers json t b y one n)
one_making s t (RunMany sessions workers json) a b x y one lawful same m n = one_run_of_many sessions json s t a b x y lawful same m n
one_making s t Check a b x y one lawful same m n = (m.0 ∙ sym n.0, m.1 ∙ one_text_of s.protocol t.protocol same.protocols ∙ sym n.1)
one_making s t (Project name) a b x y one lawful same m n = one_projection s.protocol t.protocol name a b x y lawful same.protocols m n
one_making s t Table a b x y one lawful same m n = (m.0 ∙ sym n.0, one_table s.protocol t.protocol x y lawful same.protocols m.1 n.1)
one_making s t (Gen number) a b x y one lawful same m n = one_summary_run number s t a b x y lawful same m n
one_making s t Replay a b x y one lawful same m n = absurd m
one_making s t Line a b x y one lawful same m n = one_line_run s t a b x y lawful same m n

-- what `replay` says
one_said : (x : Replayed) (s t : Status) (b c : List ℕ) → IsSaidOf x s b → IsSaidOf x t c → (s ≡ t) × (b ≡ c)
one_said (replays.Refused r) s t b c is other = (is.0 ∙ sym other.0, is.1 ∙ sym other.1)
one_said (replays.Legal entries limited) s t b c is other = (is.0 ∙ sym other.0, is.1 ∙ sym other.1)
one_said (replays.WrongEntry k) s t b c is other = (is.0 ∙ sym other.0, is.1 ∙ sym other.1)
one_said replays.WrongEnd s t b c is other = (is.0 ∙ sym other.0, is.1 ∙ sym other.1)

one_replay_answer : (text : List ℕ) (s t : Status) (b c : List ℕ) → IsReplayAnswer text s b → IsReplayAnswer text t c → (s ≡ t) × (b ≡ c)
one_replay_answer text s t b c is other =
    one_said other.said s t b c (subst (λ (x : Replayed). IsSaidOf x s b) (one_replay text is.said other.said is.is_said other.is_said) is.says) other.says

-- what it answers to a text
one_answer_of : (command : CommandView) (text : List ℕ) (s t : Status) (b c : List ℕ) → IsForOne command → IsAnswer command text s b → IsAnswer command text t c → (s ≡ t) × (b ≡ c)
one_answer_of command text s t b c one (refused whole1 refusal1 first1) (refused whole2 refusal2 first2) = (refl, one_line text refusal1 refusal2 first1 first2)
one_answer_of command text s t b c one (refused whole1 refusal1 first1) (made s2 taken2 makes2) = absurd (one_answer.either text s2 refusal1 taken2 first1)
one_answer_of command text s t b c one (made s1 taken1 makes1) (refused whole2 refusal2 first2) = absurd (one_answer.either text s1 refusal2 taken1 first2)
one_answer_of command text s t b c one (made s1 taken1 makes1) (made s2 taken2 makes2) = one_making s1 s2 command s t b c one taken2.protocol.accepted (one_answer.sessions text s1 s2 taken1 taken2) makes1 makes2
one_answer_of command text s t b c one (refused whole1 refusal1 first1) (replayed is2 answer2) = absurd (subst TakesWhole is2 whole1)
one_answer_of command text s t b c one (replayed is1 answer1) (refused whole2 refusal2 first2) = absurd (subst TakesWhole is1 whole2)
one_answer_of command text s t b c one (made s1 taken1 makes1) (replayed is2 answer2) = absurd (subst (λ (d : CommandView). Makes s1 d s b) is2 makes1)
one_answer_of command text s t b c one (replayed is1 answer1) (made s2 taken2 makes2) = absurd (subst (λ (d : CommandView). Makes s2 d t c) is1 makes2)
one_answer_of command text s t b c one (replayed is1 answer1) (replayed is2 answer2) = one_replay_answer text s t b c answer1 answer2

pub one_outcome : OneOutcome
one_outcome words input s t b c few (usage n1) (usage n2) = (refl, refl)
one_outcome words input s t b c few (usage n1) (too_long w2 many2) = absurd (n1 w2.0 w2.2)
one_outcome words input s t b c few (usage n1) (answered d2 asked2 answer2) = absurd (is_asked words input d2 n1 asked2)
one_outcome words input s t b c few (too_long w1 many1) (usage n2) = absurd (n2 w1.0 w1.2)
one_outcome words input s t b c few (too_long w1 many1) (too_long w2 many2) = (refl, refl)
one_outcome words input s t b c few (too_long w1 many1) (answered d2 asked2 answer2) = absurd (is_short words input d2 w1 many1 asked2)
one_outcome words input s t b c few (answered d1 asked1 answer1) (usage n2) = absurd (is_asked words input d1 n2 asked1)
one_outcome words input s t b c few (answered d1 asked1 answer1) (too_long w2 many2) = absurd (is_short words input d1 w2 many2 asked1)
one_outcome words input s t b c few (answered d1 asked1 answer1) (answered d2 asked2 answer2) =
    let same = one_command words d1 d2 asked1.words_are asked2.words_are in
    one_answer_of d2 (text_for d2 input) s t b c (is_for_one words d2 few asked2.words_are) (subst (λ (d : CommandView). IsAnswer d (text_for d input) s b) same answer1) answer2
