-- The crash of the worked session with lanes leaves no trace: no script reads the attempt, and all roles come to be done.
use mathlib.Core.Path.{fun_ext}
use Rattle.std.proofs.Common.{◌≡◌, ℕ, zero, suc, List, [], ◌∷◌, map, refl, sym, ◌∙◌, ap, subst, arith}
use Rattle.std.specs.Prelude.{pos}
use Rattle.rcv_tree.specs.declared.statement.Stmt.{Stmt}
use Rattle.rcv_tree.specs.declared.statement.Stmt.TheVariants as stmt
use Rattle.rcv_tree.specs.declared.statement.Block.{Block}
use Rattle.rcv_tree.specs.declared.statement.Blocks.{Blocks}
use Rattle.rcv_model.specs.Text.{Body, End, Single, Choose, Loop, Again, Parallel, Bodies, NoMore, Or, stmt_body, body_of, bodies_of}
use Rattle.rcv_model.specs.Form.{HasForm}
use Rattle.rcv_model.specs.Next.{IsAccepted}
use Rattle.rcv_model.specs.Places.{net_of}
use Rattle.rcv_model.specs.Plan.{EveryLine, HostLine, session_rules}
use Rattle.rcv_model.specs.Run.{put}
use Rattle.rcv_model.specs.Script.{Line}
use Rattle.rcv_model.specs.ThreadLaws.{OneJournal}
use Rattle.rcv_model.specs.Journal.{Rules, reading, IsLegal}
use Rattle.rcv_model.specs.Final.{AreDone, IsCompleted}
use Rattle.rcv_model.specs.Transparent.{AreBlind}
use Rattle.rcv_model.proofs.OneThread.{one_journal}
use Rattle.rcv_model.proofs.Text.{stmt_body-Message, stmt_body-Choice, stmt_body-Rec, stmt_body-Continue, stmt_body-Par}
use Rattle.rcv_theory.proofs.BesideRounds.{legal_front}
use Rattle.rcv_session.specs.Session.{SessionView, lines_of, net_for, rules_of}
use Rattle.rcv_transparent.specs.Calm.{without_crash_lines, calm, IsBlindSession, IsDoneJournal}
use Rattle.rcv_transparent.specs.Traces.{AreBeginnings, said_by, KeepTheSame, LeavesNoTrace}
use Rattle.rcv_transparent.proofs.Beginnings.{kept_is_a_beginning, plans_leave_no_trace}
use Rattle.rcv_transparent.proofs.Blocks.{block_from, blocks_from, block_says, blocks_say, protocol_of}
use Rattle.rcv_transparent.proofs.Traceless.{crashes_leave_no_trace, calm_journals_complete}
use Rattle.rcv_parallel.proofs.LaneSession.{a_or_b, text, text_form, text_accepted, scripts, plan, rules, until_crash, c_receives, back, rest, journal, s0, legal, done}

-- ---- its text, as statements

abbrev say_a : List Stmt
say_a = stmt.Message (97 ∷ []) [] 0 1 1 ∷ stmt.Continue (76 ∷ []) ∷ []

abbrev say_b : List Stmt
say_b = stmt.Message (98 ∷ []) [] 0 1 2 ∷ []

abbrev say_c : List Stmt
say_c = stmt.Message (99 ∷ []) [] 2 3 3 ∷ []

abbrev branches : Blocks
branches = blocks_from (block_from say_a (omega arith) ∷ block_from say_b (omega arith) ∷ []) (omega arith)

abbrev choice : Block
choice = block_from (stmt.Choice 0 branches ∷ []) (omega arith)

abbrev loop : Block
loop = block_from (stmt.Rec (76 ∷ []) choice ∷ []) (omega arith)

abbrev lanes : Blocks
lanes = blocks_from (loop ∷ block_from say_c (omega arith) ∷ []) (omega arith)

abbrev pub whole : Block
whole = block_from (stmt.Par lanes ∷ stmt.Message (101 ∷ []) [] 1 2 4 ∷ []) (omega arith)

abbrev a_body : Body
a_body = Single (97 ∷ []) [] 0 1 1 (Again (76 ∷ []) End)

abbrev b_body : Body
b_body = Single (98 ∷ []) [] 0 1 2 End

abbrev c_body : Body
c_body = Single (99 ∷ []) [] 2 3 3 End

its_a : body_of (block_from say_a (omega arith)) ≡ a_body
its_a = block_says say_a (omega arith) ∙ simp (stmt_body-Message, stmt_body-Continue)

its_b : body_of (block_from say_b (omega arith)) ≡ b_body
its_b = block_says say_b (omega arith) ∙ simp (stmt_body-Message)

its_c : body_of (block_from say_c (omega arith)) ≡ c_body
its_c = block_says say_c (omega arith) ∙ simp (stmt_body-Message)

its_branches : bodies_of branches ≡ Or a_body (Or b_body NoMore)
its_branches =
    blocks_say (block_from say_a (omega arith) ∷ block_from say_b (omega arith) ∷ []) (omega arith)
    ∙ ap (λ b. Or b (Or (body_of (block_from say_b (omega arith))) NoMore)) its_a
    ∙ ap (λ b. Or a_body (Or b NoMore)) its_b

its_choice : body_of choice ≡ a_or_b
its_choice = block_says (stmt.Choice 0 branches ∷ []) (omega arith) ∙ stmt_body-Choice 0 branches End ∙ ap (λ bs. Choose 0 bs End) its_branches

its_loop : body_of loop ≡ Loop (76 ∷ []) a_or_b End
its_loop = block_says (stmt.Rec (76 ∷ []) choice ∷ []) (omega arith) ∙ stmt_body-Rec (76 ∷ []) choice End ∙ ap (λ b. Loop (76 ∷ []) b End) its_choice

abbrev its_lanes_say : Bodies
its_lanes_say = Or (Loop (76 ∷ []) a_or_b End) (Or c_body NoMore)

its_lanes : bodies_of lanes ≡ its_lanes_say
its_lanes =
    blocks_say (loop ∷ block_from say_c (omega arith) ∷ []) (omega arith)
    ∙ ap (λ b. Or b (Or (body_of (block_from say_c (omega arith))) NoMore)) its_loop
    ∙ ap (λ b. Or (Loop (76 ∷ []) a_or_b End) (Or b NoMore)) its_c

pub its_body : body_of whole ≡ text
its_body =
    block_says (stmt.Par lanes ∷ stmt.Message (101 ∷ []) [] 1 2 4 ∷ []) (omega arith)
    ∙ stmt_body-Par lanes (stmt_body (stmt.Message (101 ∷ []) [] 1 2 4) End)
    ∙ ap (λ bs. Parallel bs (stmt_body (stmt.Message (101 ∷ []) [] 1 2 4) End)) its_lanes
    ∙ ap (λ b. Parallel its_lanes_say b) (stmt_body-Message (101 ∷ []) [] 1 2 4 End)

-- ---- the session

abbrev pub view : SessionView
view = record {
  protocol = protocol_of ((65 ∷ []) ∷ (66 ∷ []) ∷ (67 ∷ []) ∷ (68 ∷ []) ∷ []) whole;
  scripts = scripts 0 ∷ [] ∷ [] ∷ [] ∷ [];
  plan = plan;
}

same_lines : (r : ℕ) → lines_of view r ≡ scripts r
same_lines zero = refl
same_lines (suc zero) = refl
same_lines (suc (suc zero)) = refl
same_lines (suc (suc (suc zero))) = refl
same_lines (suc (suc (suc (suc r)))) = refl

pub same_rules : rules_of view ≡ rules
same_rules = ap (λ b. session_rules b 4 (lines_of view) plan) its_body ∙ ap (λ (x : ℕ → List Line). session_rules text 4 x plan) (fun_ext same_lines)

blind : (r : ℕ) → AreBlind (scripts r)
blind zero = (tt, tt, tt)
blind (suc r) = tt

pub is_blind : IsBlindSession view
is_blind = record {
  of_text = record { net = refl; form = subst (λ b. HasForm b 4) (sym its_body) text_form; accepted = subst (λ b. IsAccepted (net_of b) 4) (sym its_body) text_accepted };
  room = omega arith;
  blind = λ r. subst AreBlind (sym (same_lines r)) (blind r);
}

pub is_done : IsDoneJournal view journal
is_done = record {
  legal = subst (λ (x : Rules). IsLegal x journal) (sym same_rules) legal;
  done = subst (λ (x : Rules). AreDone x (reading x journal)) (sym same_rules) done;
}

-- ---- no trace is left

pub no_trace : LeavesNoTrace view journal
no_trace = crashes_leave_no_trace view journal is_blind is_done

-- the journal without the crash is one of the session under the plan without its crash line: the other laws speak of it too
calm_is_done : IsDoneJournal (calm view) no_trace.calm_journal
calm_is_done =
    let law : OneJournal (rules_of (calm view)) no_trace.calm_journal no_trace.calm_journal = one_journal (rules_of (calm view)) no_trace.calm_journal no_trace.calm_journal in
    record { legal = law.legal no_trace.alone; done = no_trace.completed.1 }

under_two_plans : KeepTheSame (net_for view) (reading (rules_of view) journal) (reading (rules_of (calm view)) no_trace.calm_journal)
under_two_plans = plans_leave_no_trace view (without_crash_lines view.plan) journal no_trace.calm_journal is_blind is_done calm_is_done

complete : IsCompleted (rules_of (calm view)) (reading (rules_of (calm view)) no_trace.calm_journal) × KeepTheSame (net_for view) (reading (rules_of view) journal) (reading (rules_of (calm view)) no_trace.calm_journal)
complete = calm_journals_complete view journal no_trace.calm_journal is_blind is_done calm_is_done.legal no_trace.completed.0

-- where B is crashed, each role has kept a beginning of that already
begun : AreBeginnings (reading (rules_of view) until_crash) (reading (rules_of (calm view)) no_trace.calm_journal)
begun = kept_is_a_beginning view (without_crash_lines view.plan) until_crash no_trace.calm_journal is_blind (legal_front (rules_of view) s0 until_crash (c_receives ∷ back ∷ rest) is_done.legal) calm_is_done

-- so without the crash, too, A sent a twice and then b, and B sent e once
sent_to_b : map said_by (put (net_for view) 0 1 (reading (rules_of (calm view)) no_trace.calm_journal).kept) ≡ (1, pos 0) ∷ (1, pos 0) ∷ (2, pos 0) ∷ []
sent_to_b =
    sym (no_trace.alike.channels 0 1).puts
    ∙ ap (λ (x : Rules). map said_by (put x.net 0 1 (reading x journal).kept)) same_rules

sent_to_c : map said_by (put (net_for view) 1 2 (reading (rules_of (calm view)) no_trace.calm_journal).kept) ≡ (4, pos 0) ∷ []
sent_to_c =
    sym (no_trace.alike.channels 1 2).puts
    ∙ ap (λ (x : Rules). map said_by (put x.net 1 2 (reading x journal).kept)) same_rules

-- its plan without the crash line
calm_plan : without_crash_lines view.plan ≡ HostLine (0 ∷ 1 ∷ []) ∷ EveryLine 0 2 ∷ EveryLine 1 2 ∷ []
calm_plan = refl
