-- The headline of a journal of a text with lanes side by side: a host of one lane's two roles fails when both lanes are at
-- their ends and the stage behind is done. A part of that lane and the stage behind are undone; D, in the lane beside, keeps
-- all; and C, whose lane ended there too, restarts behind it. The session leaves no trace of the crash.
use Rattle.std.proofs.Common.{◌≡◌, ℕ, false, List, [], ◌∷◌, ◌++◌, refl, sym, subst, arith}
use Rattle.rcv_model.specs.Next.{IsProper}
use Rattle.rcv_model.specs.Run.{joint_of, IsReachedState}
use Rattle.rcv_model.specs.TableLaws.{IsForeseen}
use Rattle.rcv_model.specs.UndoLaws.{TellsRight}
use Rattle.rcv_model.specs.Undo.{picked}
use Rattle.rcv_model.specs.Journal.{Rules, durable, group_of, reading}
use Rattle.rcv_model.specs.Final.{IsFinal}
use Rattle.rcv_model.proofs.Cases.{says, hears}
use Rattle.rcv_theory.specs.Bystander.{KeepsAll}
use Rattle.rcv_session.specs.Session.{rules_of}
use Rattle.rcv_transparent.specs.Traces.{LeavesNoTrace}
use Rattle.rcv_parallel.proofs.LaneSession as lanes
use Rattle.rcv_parallel.proofs.LaneTraces.{view, same_rules, is_blind, is_done}
use Rattle.rcv_top.specs.declared.status.Status.TheVariants.{Completed}
use Rattle.rcv_top.specs.Headline.{IsHeadline}
use Rattle.rcv_top.specs.Running.{all_done, CanRun, IsSessionRun}
use Rattle.rcv_jobs.specs.Texts.{IsWritten}
use Rattle.rcv_top.proofs.Headlines.{headline_by, journals_are_legal}
use Rattle.rcv_top.proofs.Ending.{has_text}
use Rattle.rcv_top.proofs.LaneProtocol.{lawful}

headline : IsHeadline lanes.rules lanes.journal
headline = headline_by lanes.rules lanes.text lanes.journal (record { net = refl; form = lanes.text_form; accepted = lanes.text_accepted }) lanes.legal lanes.final

-- before the recovery both lanes are at their ends, and the state is one that the protocol reaches
reached : IsReachedState lanes.net (joint_of lanes.net (reading lanes.rules lanes.front).kept)
reached = headline.reaches lanes.front (lanes.back ∷ lanes.rest) refl

-- the recovery undoes four of ten events: b and e, each sent and received
tells : TellsRight lanes.rules (reading lanes.rules lanes.front) (reading lanes.rules (lanes.front ++ lanes.back ∷ [])) 1 (record { 0 = 7 }) lanes.kept 4
tells = headline.undoes lanes.front lanes.rest 1 (record { 0 = 7 }) lanes.kept 4 refl

what_is_left : picked tells.has (reading lanes.rules lanes.front).kept ≡ says 0 1 0 1 ∷ says 2 3 0 1 ∷ says 0 1 0 2 ∷ hears 1 1 0 2 1 ∷ hears 3 3 0 2 1 ∷ hears 1 1 0 3 2 ∷ []
what_is_left = sym tells.rest.left

-- D keeps all, A and B restart at b, and C at e
d_keeps : KeepsAll lanes.net (reading lanes.rules lanes.front) (reading lanes.rules (lanes.front ++ lanes.back ∷ [])) 3
d_keeps = (headline.spares lanes.front lanes.rest 1 (record { 0 = 7 }) lanes.kept 4 refl 3 (omega arith)).spared (λ e. cc)

a_restarts : IsForeseen lanes.net (group_of lanes.rules 1) (durable lanes.rules (reading lanes.rules lanes.front)) (reading lanes.rules lanes.front).kept 0 2
a_restarts = (headline.spares lanes.front lanes.rest 1 (record { 0 = 7 }) lanes.kept 4 refl 0 (omega arith)).restarts _ refl

b_restarts : IsForeseen lanes.net (group_of lanes.rules 1) (durable lanes.rules (reading lanes.rules lanes.front)) (reading lanes.rules lanes.front).kept 1 2
b_restarts = (headline.spares lanes.front lanes.rest 1 (record { 0 = 7 }) lanes.kept 4 refl 1 (omega arith)).restarts _ refl

c_restarts : IsForeseen lanes.net (group_of lanes.rules 1) (durable lanes.rules (reading lanes.rules lanes.front)) (reading lanes.rules lanes.front).kept 2 4
c_restarts = (headline.spares lanes.front lanes.rest 1 (record { 0 = 7 }) lanes.kept 4 refl 2 (omega arith)).restarts _ refl

-- ---- the same of the session as the program has it: it completes, and some text is its journal's

text : (bytes : List ℕ) × IsWritten false view lanes.journal bytes
text = has_text false view lanes.journal (subst (λ (x : Rules). IsProper x.net x.roles) (sym same_rules) lanes.text_proper)

can : CanRun view
can = record { accepted = lawful; room = is_blind.room }

-- some two workers may write it
run : IsSessionRun 2 false view Completed text.0
run = record {
  journal = lanes.journal;
  is_journal = journals_are_legal view lanes.journal can is_done.legal (subst (λ (x : Rules). IsFinal x (reading x lanes.journal)) (sym same_rules) lanes.final);
  ends = all_done is_done.done;
  written = text.1;
  alone = λ one. absurd (omega (arith, one));
}

headline_then : IsHeadline (rules_of view) lanes.journal
unfolding run
headline_then = run.is_journal.headline

-- no script reads the attempt, so the crash leaves no trace in what is kept
no_trace : LeavesNoTrace view lanes.journal
unfolding run
no_trace = run.is_journal.traceless is_done.done is_blind.blind
