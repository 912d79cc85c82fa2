-- Words that are commands. And each law has something to speak of: applied to the input that rcv_input's worked case takes.
use Rattle.std.proofs.Common.{◌≡◌, ℕ, true, false, codes, ◌<◌, ◌≤◌, List, [], ◌∷◌, length, refl, ap, inl, inr, arith}
use Rattle.std.specs.Prelude.{◌↔◌, slice_index}
use Rattle.std.specs.Fmt.{digits}
use Rattle.rcv_session.specs.Session.{SessionView, rules_of}
use Rattle.rcv_accept.specs.Accepted.{IsAcceptedProtocol, net_for}
use Rattle.rcv_lexer.specs.Parts.{parts_of}
use Rattle.rcv_syntax.specs.Grammar.{spelling}
use Rattle.rcv_reader.specs.Refusals.{AreReadAs}
use Rattle.rcv_grammar.specs.Canonical.{source_of}
use Rattle.rcv_grammar.specs.Laws.{SayTheSame}
use Rattle.rcv_grammar.specs.Printable.{IsPrintable}
use Rattle.rcv_grammar.proofs.Once.{texts_have_one_tree}
use Rattle.rcv_grammar.proofs.Canonizing.{canonical_sources_are_read}
use Rattle.rcv_grammar.proofs.Printables.{read_is_printable}
use Rattle.rcv_printer.specs.CanonicalText.{canonical, body_text, inner}
use Rattle.rcv_printer.specs.Laws.{IsReadAs}
use Rattle.rcv_printer.proofs.ReadBack.{reads_back, stays}
use Rattle.rcv_model.specs.Journal.{Rules, State, reading}
use Rattle.rcv_model.specs.Final.{AreDone}
use Rattle.rcv_journal.specs.JournalText.{AreNamed, last_line}
use Rattle.rcv_journal.proofs.Named.{legal_is_named}
use Rattle.rcv_journal.proofs.OneText.{one_text, completed_is_written}
use Rattle.rcv_project.specs.LocalText.{IsTextOf}
use Rattle.rcv_project.proofs.OneText.{roles_have_one_text}
use Rattle.rcv_tables.specs.TableText.{table_text}
use Rattle.rcv_tables.proofs.OneText.{one_table_text}
use Rattle.rcv_input.specs.Input.{IsTaken}
use Rattle.rcv_input.proofs.Planned as planned
use Rattle.rcv_input.proofs.Worked.{input, symbols, tokens, cut, protocol, its_body, is_read, session, taken}
use Rattle.rcv_top.specs.declared.status.Status.{Status}
use Rattle.rcv_top.specs.declared.status.Status.TheVariants.{Completed}
use Rattle.clap.specs.Words.{fault_of}
use Rattle.clap.specs.declared.error.kind.ErrorKind.TheVariants as kind
use Rattle.clap.proofs.OnLiterals.{clap_on_literals}
use Rattle.rcv_words.specs.Program.{rcv}
use Rattle.rcv_words.specs.Commands.{Run, Check, Project, Gen, Line, IsCommand, IsNoCommand, line_of}
use Rattle.rcv_top.specs.Commands.{AskForSeveral, AskForSource}
use Rattle.rcv_top.specs.Generating.{IsSummaryRun}
use Rattle.rcv_top.specs.Lining.{line_text, IsLineRun}
use Rattle.rcv_top.specs.Laws.{HasEnded, HasOutcome}
use Rattle.rcv_top.specs.Running.{EndsAs, all_done, at_limit, IsSessionRun}
use Rattle.rcv_top.specs.Recovering.{IsTableText, accepted_as}
use Rattle.rcv_top.specs.Headline.{IsHeadline}
use Rattle.rcv_top.specs.Outcome.{most_bytes, IsOutcome, answered, made}
use Rattle.rcv_top.proofs.Asking.{one_command, check_command, gen_asks}
use Rattle.rcv_top.proofs.Asked.{outcomes_are_runs}
use Rattle.rcv_top.proofs.Again.{checks_stay}
use Rattle.rcv_top.proofs.Ending.{sessions_end, summary_exists, line_exists}
use Rattle.rcv_top.proofs.Existing.{outcomes_exist}
use Rattle.rcv_json.proofs.OneJson.{one_json}
use Rattle.rcv_top.proofs.OneSummary.{one_summary}
use Rattle.rcv_top.proofs.OneLine.{one_line_of}
use Rattle.rcv_top.proofs.Outcomes.{one_outcome}
use Rattle.rcv_top.proofs.RoleTexts.{text_exists}
use Rattle.rcv_top.proofs.TableTexts.{table_exists}

-- ---- words

-- `run` alone asks for one worker, and so does `--workers 1`; `--workers 2` for two
alone : IsCommand (codes "run" ∷ []) (Run 1 false)
unfolding clap_on_literals
alone = (refl, (refl, refl, refl, refl, refl, refl), (omega arith, omega arith))

abbrev with_workers : List ℕ → List (List ℕ)
with_workers word = codes "run" ∷ codes "--workers" ∷ word ∷ []

said : IsCommand (with_workers (codes "1")) (Run 1 false)
unfolding clap_on_literals
said = (refl, (refl, refl, refl, refl, refl, refl), (omega arith, omega arith))

two : IsCommand (with_workers (codes "2")) (Run 2 false)
unfolding clap_on_literals
two = (refl, (refl, refl, refl, refl, refl, refl), (omega arith, omega arith))

several : AskForSeveral (with_workers (codes "2"))
several = (2, false, omega arith, two)

-- an option may stand in front of the word
as_json : IsCommand (codes "--json" ∷ codes "run" ∷ []) (Run 1 true)
unfolding clap_on_literals
as_json = (refl, (refl, refl, refl, refl, refl, refl), (omega arith, omega arith))

of_role : IsCommand (codes "project" ∷ codes "--role=B" ∷ []) (Project (codes "B"))
unfolding clap_on_literals
of_role = (refl, (refl, record { workers = refl; json = refl; role = refl; number = refl; sessions = refl }), tt)

-- `--workers 9` is no command
nine_fails : fault_of rcv (line_of (with_workers (codes "9"))) ≡ kind.ValueValidation ∷ []
unfolding clap_on_literals
nine_fails = refl

no_nine : IsNoCommand (with_workers (codes "9"))
no_nine c is = let taken = is.0 in let fails = nine_fails in cc

-- `gen` is one, which doesn't ask for the source; `check` does
abbrev gen_12 : List (List ℕ)
gen_12 = codes "gen" ∷ codes "--number" ∷ codes "12" ∷ []

generates : IsCommand gen_12 (Gen 12)
unfolding clap_on_literals
generates = (refl, (refl, record { workers = refl; json = refl; role = refl; number = refl; sessions = refl }), omega arith)

reads_nothing : AskForSource gen_12 → ⊥
reads_nothing = gen_asks gen_12 (Gen 12) 12 generates refl

reads : AskForSource (codes "check" ∷ [])
reads = (Check, tt, check_command)

-- `line` is one, which takes no option
of_line : IsCommand (codes "line" ∷ []) Line
unfolding clap_on_literals
of_line = (refl, (refl, record { workers = refl; json = refl; role = refl; number = refl; sessions = refl }), tt)

-- ---- whatever the source gave, `gen` answers the same
abbrev anything : List ℕ
anything = codes "anything"

answer_of_gen : HasOutcome gen_12 anything
answer_of_gen = outcomes_exist gen_12 anything

-- ---- a session

lawful : IsAcceptedProtocol protocol
lawful = taken.protocol.accepted

-- it is read as one tree, as its canonical source is, and can be printed
one_tree : SayTheSame protocol protocol
one_tree = (texts_have_one_tree symbols protocol protocol [] [] is_read is_read).0

canonical_read : AreReadAs (spelling (source_of protocol)) protocol []
canonical_read = canonical_sources_are_read symbols protocol [] is_read

printable : IsPrintable protocol
printable = read_is_printable input (parts_of input).protocol tokens protocol [] cut is_read

-- its session comes to an end, and its journal is what the headline says
ended : (status : Status) × (bytes : List ℕ) × IsSessionRun 1 false session status bytes
ended = sessions_end false input session taken

headline : IsHeadline (rules_of session) ended.2.journal
headline = ended.2.is_journal.headline

-- `run` answers that, and what it answers is the run of one worker on a session that the input is taken as
ran : IsOutcome (codes "run" ∷ []) input ended.0 ended.1
ran = answered (Run 1 false) (record { words_are = alone; short = omega arith }) (made session taken ended.2)

has_ended : (rules : Rules) (s : State) (status : Status) → EndsAs rules s status → HasEnded status
has_ended rules s status (all_done done) = inl refl
has_ended rules s status (at_limit limit) = inr refl

is_run : (s : SessionView) × IsTaken input s × IsSessionRun 1 false s ended.0 ended.1
is_run =
    outcomes_are_runs (codes "run" ∷ []) input 1 false ended.0 ended.1 alone
    (has_ended (rules_of session) (reading (rules_of session) ended.2.journal) ended.0 ended.2.ends) ran

-- so it is where the first role crashes, and both fail
crashed : (status : Status) × (bytes : List ℕ) × IsSessionRun 1 false planned.session status bytes
crashed = sessions_end false planned.input planned.session planned.is_taken

headline_of_crashes : IsHeadline (rules_of planned.session) crashed.2.journal
headline_of_crashes = crashed.2.is_journal.headline

-- it may be written as JSON, in one way
in_json : (status : Status) × (bytes : List ℕ) × IsSessionRun 1 true session status bytes
in_json = sessions_end true input session taken

same_json : in_json.1 ≡ in_json.1
same_json = one_json session in_json.2.journal in_json.1 in_json.1 in_json.2.written in_json.2.written

-- it has a summary, and one alone
summed : (bytes : List ℕ) × IsSummaryRun 12 session Completed bytes
summed = summary_exists 12 input session taken

same_summary : summed.0 ≡ summed.0
same_summary = one_summary session summed.1.journal 12 summed.0 summed.0 summed.1.summary summed.1.summary

-- it has a stable line, and one alone, whose text names each role with its count
lined : (bytes : List ℕ) × IsLineRun session Completed bytes
lined = line_exists input session taken

same_line : lined.0 ≡ lined.0
same_line = one_line_of session lined.1.journal lined.0 lined.0 lined.1.line lined.1.line

worked_line : line_text (codes "A" ∷ codes "B" ∷ codes "S" ∷ []) (slice_index (3 ∷ 4 ∷ 14 ∷ [])) ≡ codes "line A 3 B 4 S 14\n"
unfolding digits
worked_line = refl

-- each role and point of the journal has a name, and its last line tells whether all roles are done
named : AreNamed session ended.2.journal
named = legal_is_named session ended.2.journal lawful ended.2.is_journal.headline.legal

last : (last_line session ended.2.written.lines ≡ codes "completed\n") ↔ AreDone (rules_of session) (reading (rules_of session) ended.2.journal)
last = completed_is_written session (reading (rules_of session) ended.2.journal) ended.2.written.lines ended.2.written.are_lines

-- `check` writes its canonical text, and nothing else; that is read as the same protocol
checked : IsOutcome (codes "check" ∷ []) input Completed (canonical protocol)
checked = answered Check (record { words_are = check_command; short = omega arith }) (made session taken (refl, refl))

-- and written again, it stays as it is
short_again : length (canonical protocol) ≤ most_bytes
short_again = let body = ap (λ b. length (body_text protocol.roles (inner []) b (codes "}\n"))) its_body in omega (arith, body)

checked_again : IsOutcome (codes "check" ∷ []) (canonical protocol) Completed (canonical protocol)
checked_again = checks_stay input (canonical protocol) checked short_again

no_workers : AskForSeveral (codes "check" ∷ []) → ⊥
no_workers several = let e = one_command (codes "check" ∷ []) Check (Run several.0 several.1) check_command several.3 in cc

no_other : (s : Status) (b : List ℕ) → IsOutcome (codes "check" ∷ []) input s b → (Completed ≡ s) × (canonical protocol ≡ b)
no_other s b outcome = one_outcome (codes "check" ∷ []) input Completed s (canonical protocol) b no_workers checked outcome

read_back : IsReadAs (canonical protocol) protocol
read_back = reads_back input (parts_of input).protocol tokens protocol [] cut is_read

text_stays : canonical protocol ≡ canonical protocol
text_stays = stays input (parts_of input).protocol tokens protocol protocol [] cut is_read read_back

-- it has tables
tabled : (bytes : List ℕ) × IsTableText protocol bytes
tabled = table_exists protocol lawful

same_table : table_text (net_for (accepted_as protocol)) protocol.roles tabled.1.table ≡ table_text (net_for (accepted_as protocol)) protocol.roles tabled.1.table
same_table = one_table_text (accepted_as protocol) tabled.1.table tabled.1.table lawful tabled.1.is_table tabled.1.is_table

-- and its first role a text
declared : 0 < length protocol.roles
declared = omega arith

acts : (bytes : List ℕ) × IsTextOf (accepted_as protocol) 0 bytes
acts = text_exists protocol 0 lawful declared

same_acts : acts.0 ≡ acts.0
same_acts = roles_have_one_text (accepted_as protocol) 0 acts.0 acts.0 lawful acts.1 acts.1

same_journal : ended.1 ≡ ended.1
same_journal = one_text session ended.2.journal ended.1 ended.1 ended.2.written ended.2.written
