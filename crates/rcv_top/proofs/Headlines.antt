-- Each legal and final journal of a session that can run is as the headline says, and leaves no trace of its crashes.
use Rattle.std.proofs.Common.{◌≡◌, ℕ, List, refl, sym, subst}
use Rattle.rcv_tree.specs.declared.entry.Entry.{Entry}
use Rattle.rcv_model.specs.Net.{Net}
use Rattle.rcv_model.specs.Next.{IsProper, IsAccepted}
use Rattle.rcv_model.specs.Text.{Body, body_of}
use Rattle.rcv_model.specs.Premises.{IsSession, IsSessionOf}
use Rattle.rcv_model.specs.Journal.{Rules, reading, IsLegal}
use Rattle.rcv_model.specs.Final.{IsFinal}
use Rattle.rcv_model.proofs.Forms.{proper}
use Rattle.rcv_model.proofs.Legal.{accepted_runs}
use Rattle.rcv_model.proofs.Reached.{reach}
use Rattle.rcv_model.proofs.Telling.{tells_right}
use Rattle.rcv_theory.proofs.Foreseeing.{recoveries_are_foreseen}
use Rattle.rcv_accept.specs.Accepted.{IsAcceptedProtocol}
use Rattle.rcv_session.specs.Session.{SessionView, rules_of}
use Rattle.rcv_transparent.specs.Calm.{ReadsNoAttempt, IsBlindSession}
use Rattle.rcv_transparent.proofs.Traceless.{crashes_leave_no_trace}
use Rattle.rcv_top.specs.Headline.{IsHeadline}
use Rattle.rcv_top.specs.Running.{CanRun}
use Rattle.rcv_top.specs.Laws.{JournalsAreLegal}

-- a final legal journal of an accepted text is what the headline says
pub headline_by : (rules : Rules) (body : Body) (journal : List Entry) → IsSessionOf rules body → IsLegal rules journal → IsFinal rules (reading rules journal) → IsHeadline rules journal
headline_by rules body journal of_text legal final = record {
  legal = legal;
  runs = accepted_runs rules journal is_session.proper is_session.accepted legal;
  reaches = λ front back e. reach rules body front back of_text.net of_text.form of_text.accepted (subst (IsLegal rules) (sym e) legal);
  undoes = λ front back p concerned kept undone e. tells_right rules front back p concerned kept undone (subst (IsLegal rules) (sym e) legal);
  spares = λ front back p concerned kept undone e. recoveries_are_foreseen rules front back p concerned kept undone is_session (subst (IsLegal rules) (sym e) legal);
  final = final;
}
  where
    is_session : IsSession rules
    is_session = record {
      proper = subst (λ (n : Net). IsProper n rules.roles) (sym of_text.net) (proper body rules.roles of_text.form);
      accepted = subst (λ (n : Net). IsAccepted n rules.roles) (sym of_text.net) of_text.accepted;
    }

-- and of an accepted protocol
pub headline_of : (session : SessionView) (journal : List Entry) → IsAcceptedProtocol session.protocol → IsLegal (rules_of session) journal → IsFinal (rules_of session) (reading (rules_of session) journal) → IsHeadline (rules_of session) journal
headline_of session journal lawful = headline_by (rules_of session) (body_of session.protocol.body) journal (record { net = refl; form = lawful.form; accepted = lawful.accepted })

pub blind_by : (session : SessionView) → CanRun session → ReadsNoAttempt session → IsBlindSession session
blind_by session can blind = record {
  of_text = record { net = refl; form = can.accepted.form; accepted = can.accepted.accepted };
  room = can.room;
  blind = blind;
}

pub journals_are_legal : JournalsAreLegal
journals_are_legal session journal can legal final = record {
  headline = headline_of session journal can.accepted legal final;
  traceless = λ done blind. crashes_leave_no_trace session journal (blind_by session can blind) (record { legal = legal; done = done });
}
