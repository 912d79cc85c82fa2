-- Two sessions of the input whose first role crashes behind its only event: in the second one the crash would come at a count
-- that the role never has, so nobody crashes. Both complete, and keep the same.
use Rattle.std.proofs.Common.{◌≡◌, ℕ, zero, suc, false, List, [], ◌∷◌, refl, sym, ap, subst, arith}
use Rattle.rcv_tree.specs.declared.entry.Entry.{Entry}
use Rattle.rcv_tree.specs.declared.entry.Entry.TheVariants.{Send, Recv}
use Rattle.rcv_model.specs.Plan.{session_rules}
use Rattle.rcv_model.specs.Journal.{Rules, State, start, after, place, reading, IsLegal}
use Rattle.rcv_model.specs.Final.{IsFinal, AreDone}
use Rattle.rcv_model.proofs.Cases.{says, hears}
use Rattle.rcv_model.proofs.Checked.{next_by, send_by, recv_by}
use Rattle.rcv_model.proofs.Stepping.{final_by}
use Rattle.rcv_session.specs.Session.{net_for, lines_of, rules_of}
use Rattle.rcv_plan.specs.Shifted.{shifted}
use Rattle.rcv_input.proofs.Planned.{input, session, is_taken}
use Rattle.rcv_input.proofs.Worked.{one, its_body}
use Rattle.rcv_later.specs.Later.{later}
use Rattle.rcv_transparent.specs.Calm.{IsDoneJournal}
use Rattle.rcv_transparent.specs.Traces.{KeepTheSame}
use Rattle.rcv_top.specs.Headline.{IsHeadline}
use Rattle.rcv_top.specs.Running.{CanRun, IsJournalOf}
use Rattle.rcv_top.specs.Laws.{CompletesBlind}
use Rattle.rcv_top.proofs.Headlines.{journals_are_legal}
use Rattle.rcv_top.proofs.Rooms.{taken_sessions_can_run}
use Rattle.rcv_top.proofs.Traceless.{sessions_keep_alike}
use Rattle.rcv_top.proofs.Unseen as unseen
use Rattle.rcv_top.proofs.Unseen.{net, net_one, lawful, blind}

abbrev rules : Rules
rules = session_rules one 2 (lines_of session) (shifted 1 session.plan)

same_rules : rules_of (later session 1) ≡ rules
same_rules = ap (λ b. session_rules b 2 (lines_of session) (shifted 1 session.plan)) its_body

abbrev journal : List Entry
journal = Send (says 0 1 0 1) ∷ Recv (hears 1 1 0 2 1) ∷ []

abbrev s0 : State
s0 = start 2

abbrev s1 : State
s1 = after rules s0 (Send (says 0 1 0 1))

abbrev s2 : State
s2 = after rules s1 (Recv (hears 1 1 0 2 1))

legal : IsLegal rules journal
legal = (send_by rules net_one s0 (says 0 1 0 1) refl refl refl refl refl refl refl, (recv_by rules net_one s1 (hears 1 1 0 2 1) [] refl refl refl refl refl, tt))

done : AreDone rules (reading rules journal)
done zero lt z n = (next_by net net_one 0 (place s2 0) refl).complete z n
done (suc zero) lt z n = (next_by net net_one 1 (place s2 1) refl).complete z n
done (suc (suc r)) lt z n = omega arith

final : IsFinal rules (reading rules journal)
final = final_by rules s2 (lawful.two_ends, net_one) refl

is_done : IsDoneJournal (later session 1) journal
is_done = record {
  legal = subst (λ (x : Rules). IsLegal x journal) (sym same_rules) legal;
  done = subst (λ (x : Rules). AreDone x (reading x journal)) (sym same_rules) done;
}

can : CanRun (later session 1)
can = (taken_sessions_can_run input session is_taken).1 1

is_journal : IsJournalOf (later session 1) journal
is_journal = journals_are_legal (later session 1) journal can is_done.legal (subst (λ (x : Rules). IsFinal x (reading x journal)) (sym same_rules) final)

headline : IsHeadline (rules_of (later session 1)) journal
headline = is_journal.headline

completes : CompletesBlind (later session 1) journal
completes = record { can = can; blind = blind; done = is_done }

-- the first one is the session of the plan as it was read
first_completes : CompletesBlind (later session 0) unseen.journal
first_completes = unseen.completes

alike : KeepTheSame (net_for session) (reading (rules_of (later session 0)) unseen.journal) (reading (rules_of (later session 1)) journal)
alike = sessions_keep_alike session 0 1 unseen.journal journal first_completes completes
