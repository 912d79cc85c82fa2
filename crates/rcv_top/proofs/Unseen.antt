-- An input whose first role crashes behind its only event, with a host that takes both roles: its session completes, and its
-- crash leaves no trace.
use Rattle.std.proofs.Common.{◌≡◌, ℕ, zero, suc, false, List, [], ◌∷◌, length, replicate, refl, sym, ap, subst, arith}
use Rattle.std.specs.Prelude.{if◌then◌else◌, slice_index}
use Rattle.rcv_tree.specs.Bits.{has_bit, is_listed}
use Rattle.rcv_tree.specs.declared.entry.Entry.{Entry}
use Rattle.rcv_tree.specs.declared.entry.Entry.TheVariants.{Send, Recv, Crash}
use Rattle.rcv_model.specs.Form.{HasForm}
use Rattle.rcv_model.specs.Net.{Net, HasOneLane}
use Rattle.rcv_model.specs.Next.{IsProper}
use Rattle.rcv_model.specs.Places.{net_of}
use Rattle.rcv_model.specs.Plan.{RoomLine, session_rules}
use Rattle.rcv_model.specs.Run.{acts}
use Rattle.rcv_model.specs.Journal.{Rules, State, start, after, place, reading, concerned_in, kept_by, May, IsLegal}
use Rattle.rcv_model.specs.Final.{IsActOf, IsFinal, AreDone}
use Rattle.rcv_model.proofs.Cases.{says, hears, recover}
use Rattle.rcv_model.proofs.Checked.{next_by, send_by, recv_by}
use Rattle.rcv_model.proofs.Forms.{proper}
use Rattle.rcv_model.proofs.Journals.{below_8}
use Rattle.rcv_model.proofs.OneLane.{one_lane, one_ends}
use Rattle.rcv_model.proofs.Recovering.{may_recover}
use Rattle.rcv_model.proofs.Stepping.{final_by}
use Rattle.rcv_session.specs.Session.{SessionView, lines_of, rules_of}
use Rattle.rcv_input.proofs.Planned.{input, session, is_taken}
use Rattle.rcv_input.proofs.Worked.{one, its_body}
use Rattle.rcv_transparent.specs.Calm.{calm, ReadsNoAttempt, IsDoneJournal}
use Rattle.rcv_transparent.specs.Traces.{LeavesNoTrace}
use Rattle.rcv_top.specs.declared.status.Status.{Status}
use Rattle.rcv_top.specs.declared.status.Status.TheVariants.{Completed}
use Rattle.rcv_top.specs.Running.{all_done, CanRun, IsJournalOf, IsSessionRun}
use Rattle.rcv_jobs.specs.Texts.{IsWritten}
use Rattle.rcv_top.specs.Laws.{CompletesBlind}
use Rattle.rcv_top.proofs.Ending.{has_text}
use Rattle.rcv_top.proofs.Headlines.{journals_are_legal}
use Rattle.rcv_top.proofs.Rooms.{taken_sessions_can_run}
use Rattle.rcv_top.proofs.Traceless.{calm_sessions_complete}

abbrev pub net : Net
net = net_of one

abbrev rules : Rules
rules = session_rules one 2 (lines_of session) session.plan

same_rules : rules_of session ≡ rules
same_rules = ap (λ b. session_rules b 2 (lines_of session) session.plan) its_body

form : HasForm one 2
form = record { numbered = (refl, tt); ends = (omega arith, omega arith, (λ e. omega arith), tt); subjects = tt; apart = tt; few_roles = omega arith; few_points = omega arith }

pub lawful : IsProper net 2
lawful = proper one 2 form

pub net_one : HasOneLane net
net_one = one_lane one tt

-- A has saved what it sent, so nothing is taken back, and both clocks are raised
abbrev back : Entry
back = recover 0 3 (1 ∷ replicate 7 0) 0

abbrev pub journal : List Entry
journal = Send (says 0 1 0 1) ∷ Crash 0 ∷ back ∷ Recv (hears 1 1 0 3 1) ∷ []

abbrev s0 : State
s0 = start 2

abbrev s1 : State
s1 = after rules s0 (Send (says 0 1 0 1))

abbrev s2 : State
s2 = after rules s1 (Crash 0)

abbrev s3 : State
s3 = after rules s2 back

abbrev s4 : State
s4 = after rules s3 (Recv (hears 1 1 0 3 1))

goes_back : May rules s2 back
goes_back = may_recover rules s2 0 lawful (one_ends net net_one) 3 (1 ∷ replicate 7 0) 0 (omega arith, refl) (omega arith) (below_8 (λ q. has_bit 3 q ≡ is_listed (concerned_in rules s2 0) q) refl refl refl refl refl refl refl refl) refl (below_8 (λ q. slice_index (1 ∷ replicate 7 0) q ≡ (if has_bit 3 q then length (acts q (kept_by rules s2 0)) else 0)) refl refl refl refl refl refl refl refl) refl

legal : IsLegal rules journal
legal = (send_by rules net_one s0 (says 0 1 0 1) refl refl refl refl refl refl refl, ((omega arith, (refl, omega arith)), (goes_back, (recv_by rules net_one s3 (hears 1 1 0 3 1) [] refl refl refl refl refl, tt))))

done : AreDone rules (reading rules journal)
done zero lt z n = (next_by net net_one 0 (place s4 0) refl).complete z n
done (suc zero) lt z n = (next_by net net_one 1 (place s4 1) refl).complete z n
done (suc (suc r)) lt z n = omega arith

final : IsFinal rules (reading rules journal)
final = final_by rules s4 (lawful.two_ends, net_one) refl

text : (bytes : List ℕ) × IsWritten false session journal bytes
text = has_text false session journal (subst (λ (x : Rules). IsProper x.net x.roles) (sym same_rules) lawful)

pub is_done : IsDoneJournal session journal
is_done = record {
  legal = subst (λ (x : Rules). IsLegal x journal) (sym same_rules) legal;
  done = subst (λ (x : Rules). AreDone x (reading x journal)) (sym same_rules) done;
}

pub can : CanRun session
can = (taken_sessions_can_run input session is_taken).0

-- with channels that hold no message it can't
abbrev without_room : SessionView
without_room = record session { plan = RoomLine 0 ∷ [] }

cannot : CanRun without_room → ⊥
cannot can = let room = can.room in omega (arith, room)

-- at first A can send, so the empty journal isn't a journal of a session that ran to its end
acts_first : IsActOf rules s0 0 (Send (says 0 1 0 1))
acts_first = (refl, send_by rules net_one s0 (says 0 1 0 1) refl refl refl refl refl refl refl, omega arith)

not_empty : IsJournalOf session [] → ⊥
not_empty is =
    let ended : IsFinal rules (reading rules []) = subst (λ (x : Rules). IsFinal x (reading x [])) same_rules is.headline.final in
    ended.none_acts 0 (omega arith) (Send (says 0 1 0 1), acts_first)

-- some two workers may write it
run : IsSessionRun 2 false session Completed text.0
run = record {
  journal = journal;
  is_journal = journals_are_legal session journal can is_done.legal (subst (λ (x : Rules). IsFinal x (reading x journal)) (sym same_rules) final);
  ends = all_done is_done.done;
  written = text.1;
  alone = λ one. absurd (omega (arith, one));
}

-- there are no scripts
pub blind : ReadsNoAttempt session
blind zero = tt
blind (suc zero) = tt
blind (suc (suc r)) = tt

no_trace : LeavesNoTrace session journal
unfolding run
no_trace = run.is_journal.traceless is_done.done blind

pub completes : CompletesBlind session journal
completes = record { can = can; blind = blind; done = is_done }

-- four workers complete the session without the crash line, too
by_four : (status : Status) (bytes : List ℕ) → IsSessionRun 4 false (calm session) status bytes → status ≡ Completed
by_four status bytes run = calm_sessions_complete session journal completes 4 false status bytes run
