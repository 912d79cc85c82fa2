-- A session with a crash in a loop with a choice: B and D crash in it, all roles come to be done, and no trace is left.
use mathlib.Core.Path.{fun_ext}
use Rattle.std.proofs.Common.{◌≡◌, ℕ, zero, suc, List, [], ◌∷◌, ◌++◌, map, refl, sym, ◌∙◌, ap, subst, arith}
use Rattle.std.specs.Prelude.{pos}
use Rattle.rcv_tree.specs.declared.statement.Stmt.{Stmt}
use Rattle.rcv_tree.specs.declared.statement.Stmt.TheVariants as stmt
use Rattle.rcv_tree.specs.declared.statement.Block.{Block}
use Rattle.rcv_tree.specs.declared.statement.Blocks.{Blocks}
use Rattle.rcv_tree.specs.declared.entry.Entry.{Entry}
use Rattle.rcv_model.specs.Text.{Body, End, Single, Choose, Loop, Again, NoMore, Or, body_of, bodies_of}
use Rattle.rcv_model.specs.Form.{HasForm}
use Rattle.rcv_model.specs.Next.{IsAccepted}
use Rattle.rcv_model.specs.Places.{net_of}
use Rattle.rcv_model.specs.Plan.{EveryLine, LimitLine, RoomLine, session_rules}
use Rattle.rcv_model.specs.Script.{Line}
use Rattle.rcv_model.specs.Journal.{Rules, State, start, after, place, reading, IsLegalFrom, IsLegal}
use Rattle.rcv_model.specs.Final.{AreDone, IsCompleted}
use Rattle.rcv_model.specs.Transparent.{AreBlind}
use Rattle.rcv_model.proofs.Text.{stmt_body-Message, stmt_body-Choice, stmt_body-Rec, stmt_body-Continue}
use Rattle.rcv_model.proofs.Checked.{next_by}
use Rattle.rcv_model.specs.Run.{put}
use Rattle.rcv_model.specs.ThreadLaws.{OneJournal}
use Rattle.rcv_model.proofs.OneThread.{one_journal}
use Rattle.rcv_model.proofs.Session.{feed, net, feed_form, feed_accepted, feed_one, scripts, plan, rules, before, first_recover, meanwhile, rest, journal, s20, journal_legal}
use Rattle.rcv_session.specs.Session.{SessionView, lines_of, net_for, rules_of}
use Rattle.rcv_transparent.specs.Calm.{without_crash_lines, calm, IsBlindSession, IsDoneJournal}
use Rattle.rcv_transparent.specs.Traces.{AreBeginnings, said_by, KeepTheSame, LeavesNoTrace}
use Rattle.rcv_transparent.proofs.Blocks.{block_from, blocks_from, block_says, blocks_say, protocol_of}
use Rattle.rcv_transparent.proofs.Beginnings.{kept_is_a_beginning, plans_leave_no_trace}
use Rattle.rcv_transparent.proofs.Traceless.{crashes_leave_no_trace, calm_journals_complete}

-- ---- its text: rec X { choice at A { m to B; e from B to C; t to D; continue X; } or { s to B; l from B to C; h to D; } }

abbrev go_on : List Stmt
go_on = stmt.Message (109 ∷ []) [] 0 1 1 ∷ stmt.Message (101 ∷ []) [] 1 2 2 ∷ stmt.Message (116 ∷ []) [] 0 3 3 ∷ stmt.Continue (88 ∷ []) ∷ []

abbrev stop : List Stmt
stop = stmt.Message (115 ∷ []) [] 0 1 4 ∷ stmt.Message (108 ∷ []) [] 1 2 5 ∷ stmt.Message (104 ∷ []) [] 0 3 6 ∷ []

abbrev branches : Blocks
branches = blocks_from (block_from go_on (omega arith) ∷ block_from stop (omega arith) ∷ []) (omega arith)

abbrev choice : Block
choice = block_from (stmt.Choice 0 branches ∷ []) (omega arith)

abbrev pub whole : Block
whole = block_from (stmt.Rec (88 ∷ []) choice ∷ []) (omega arith)

abbrev go_on_body : Body
go_on_body = Single (109 ∷ []) [] 0 1 1 (Single (101 ∷ []) [] 1 2 2 (Single (116 ∷ []) [] 0 3 3 (Again (88 ∷ []) End)))

abbrev stop_body : Body
stop_body = Single (115 ∷ []) [] 0 1 4 (Single (108 ∷ []) [] 1 2 5 (Single (104 ∷ []) [] 0 3 6 End))

its_go_on : body_of (block_from go_on (omega arith)) ≡ go_on_body
its_go_on = block_says go_on (omega arith) ∙ simp (stmt_body-Message, stmt_body-Continue)

its_stop : body_of (block_from stop (omega arith)) ≡ stop_body
its_stop = block_says stop (omega arith) ∙ simp (stmt_body-Message)

its_branches : bodies_of branches ≡ Or go_on_body (Or stop_body NoMore)
its_branches =
    blocks_say (block_from go_on (omega arith) ∷ block_from stop (omega arith) ∷ []) (omega arith)
    ∙ ap (λ b. Or b (Or (body_of (block_from stop (omega arith))) NoMore)) its_go_on
    ∙ ap (λ b. Or go_on_body (Or b NoMore)) its_stop

its_choice : body_of choice ≡ Choose 0 (Or go_on_body (Or stop_body NoMore)) End
its_choice = block_says (stmt.Choice 0 branches ∷ []) (omega arith) ∙ stmt_body-Choice 0 branches End ∙ ap (λ bs. Choose 0 bs End) its_branches

pub its_body : body_of whole ≡ feed
its_body = block_says (stmt.Rec (88 ∷ []) choice ∷ []) (omega arith) ∙ stmt_body-Rec (88 ∷ []) choice End ∙ ap (λ b. Loop (88 ∷ []) b End) its_choice

-- ---- the session: A counts and stops, B and D crash

abbrev pub view : SessionView
view = record {
  protocol = protocol_of ((65 ∷ []) ∷ (66 ∷ []) ∷ (67 ∷ []) ∷ (68 ∷ []) ∷ []) whole;
  scripts = scripts 0 ∷ scripts 1 ∷ [] ∷ [] ∷ [];
  plan = plan;
}

same_lines : (r : ℕ) → lines_of view r ≡ scripts r
same_lines zero = refl
same_lines (suc zero) = refl
same_lines (suc (suc zero)) = refl
same_lines (suc (suc (suc zero))) = refl
same_lines (suc (suc (suc (suc r)))) = refl

same_rules : rules_of view ≡ rules
same_rules = ap (λ b. session_rules b 4 (lines_of view) plan) its_body ∙ ap (λ (x : ℕ → List Line). session_rules feed 4 x plan) (fun_ext same_lines)

blind : (r : ℕ) → AreBlind (scripts r)
blind zero = ((tt, tt), (tt, tt, tt))
blind (suc zero) = ((tt, tt), tt)
blind (suc (suc r)) = tt

pub is_blind : IsBlindSession view
is_blind = record {
  of_text = record { net = refl; form = subst (λ b. HasForm b 4) (sym its_body) feed_form; accepted = subst (λ b. IsAccepted (net_of b) 4) (sym its_body) feed_accepted };
  room = omega arith;
  blind = λ r. subst AreBlind (sym (same_lines r)) (blind r);
}

-- nothing is next for any role at the end
done : AreDone rules (reading rules journal)
done zero lt z n = (next_by net feed_one 0 (place s20 0) refl).complete z n
done (suc zero) lt z n = (next_by net feed_one 1 (place s20 1) refl).complete z n
done (suc (suc zero)) lt z n = (next_by net feed_one 2 (place s20 2) refl).complete z n
done (suc (suc (suc zero))) lt z n = (next_by net feed_one 3 (place s20 3) refl).complete z n
done (suc (suc (suc (suc r)))) lt z n = omega arith

pub is_done : IsDoneJournal view journal
is_done = record {
  legal = subst (λ (x : Rules). IsLegal x journal) (sym same_rules) journal_legal;
  done = subst (λ (x : Rules). AreDone x (reading x journal)) (sym same_rules) done;
}

-- its two crashes leave no trace
pub no_trace : LeavesNoTrace view journal
no_trace = crashes_leave_no_trace view journal is_blind is_done

-- that journal without crashes is a journal of the session under another plan, and final: the other laws speak of it too
calm_is_done : IsDoneJournal (calm view) no_trace.calm_journal
calm_is_done =
    let law : OneJournal (rules_of (calm view)) no_trace.calm_journal no_trace.calm_journal = one_journal (rules_of (calm view)) no_trace.calm_journal no_trace.calm_journal in
    record { legal = law.legal no_trace.alone; done = no_trace.completed.1 }

under_two_plans : KeepTheSame (net_for view) (reading (rules_of view) journal) (reading (rules_of (calm view)) no_trace.calm_journal)
under_two_plans = plans_leave_no_trace view (without_crash_lines view.plan) journal no_trace.calm_journal is_blind is_done calm_is_done

complete : IsCompleted (rules_of (calm view)) (reading (rules_of (calm view)) no_trace.calm_journal) × KeepTheSame (net_for view) (reading (rules_of view) journal) (reading (rules_of (calm view)) no_trace.calm_journal)
complete = calm_journals_complete view journal no_trace.calm_journal is_blind is_done calm_is_done.legal no_trace.completed.0

-- where B is crashed, each role has kept a beginning of that already
front_legal : (x : Rules) (s : State) (front back : List Entry) → IsLegalFrom x s (front ++ back) → IsLegalFrom x s front
front_legal x s [] back legal = tt
front_legal x s (e ∷ front) back legal = (legal.0, front_legal x (after x s e) front back legal.1)

begun : AreBeginnings (reading (rules_of view) before) (reading (rules_of (calm view)) no_trace.calm_journal)
begun = kept_is_a_beginning view (without_crash_lines view.plan) before no_trace.calm_journal is_blind (front_legal (rules_of view) (start 4) before (first_recover ∷ meanwhile ++ rest) is_done.legal) calm_is_done

-- so A sent 10 and then 0 to B without the crashes too
sent_to_b : map said_by (put (net_for view) 0 1 (reading (rules_of (calm view)) no_trace.calm_journal).kept) ≡ (1, pos 10) ∷ (4, pos 0) ∷ []
sent_to_b =
    sym (no_trace.alike.channels 0 1).puts
    ∙ ap (λ (x : Rules). map said_by (put x.net 0 1 (reading x journal).kept)) same_rules

-- its plan without their lines
calm_plan : without_crash_lines view.plan ≡ EveryLine 1 100 ∷ EveryLine 3 2 ∷ LimitLine 50 ∷ RoomLine 2 ∷ []
calm_plan = refl
