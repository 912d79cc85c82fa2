-- What is answered to a told journal, from what its parts are.
use Rattle.std.proofs.Common.{◌≡◌, ℕ, ◌+◌, ◌<◌, ◌≤◌, List, [], map, length, Some, None, sym, ◌∙◌, ap, subst}
use Rattle.std.specs.Prelude.{Result, IfOk}
use Rattle.rcv_tree.specs.declared.entry.Entry.{Entry}
use Rattle.rcv_tree.specs.declared.protocol.Protocol.{Protocol}
use Rattle.rcv_model.specs.Plan.{PlanLine}
use Rattle.rcv_session.specs.Session.{SessionView}
use Rattle.rcv_input.specs.declared.refused.Refused as refusals
use Rattle.rcv_input.specs.declared.refused.InputError.{InputError}
use Rattle.rcv_input.specs.declared.refused.InputError.TheVariants as causes
use Rattle.rcv_input.specs.Input.{IsTaken}
use Rattle.rcv_input.specs.Refusals.{IsRefused}
use Rattle.rcv_input.specs.Line.{refusal_line}
use Rattle.rcv_input.proofs.Once.{one_answer}
use Rattle.rcv_guide.specs.Guide.{GuideView, opened}
use Rattle.rcv_told.specs.Told.{told}
use Rattle.rcv_retold.specs.Retold.{terms_for, HasSameText}
use Rattle.rcv_retold.specs.Text.{IsToldText, IsFirstWrong}
use Rattle.rcv_replay.specs.declared.cut.Cut.{Cut}
use Rattle.rcv_replay.specs.Cutting.{cut_of, bundle_of, journal_of, feeds_before, line_of_end}
use Rattle.rcv_fates.specs.Record.{RecordView}
use Rattle.rcv_look.specs.declared.output.Output.{Output}
use Rattle.rcv_look.specs.declared.status.Status.TheVariants as statuses
use Rattle.rcv_model.specs.Text.{Body, body_of}
use Rattle.rcv_model.specs.Net.{Net}
use Rattle.rcv_model.specs.Places.{net_of}
use Rattle.rcv_retold.specs.Closing.{AreStates}
use Rattle.rcv_look.specs.Drawing.{IsDrawing, told_end}
use Rattle.rcv_look.specs.Guided.{IsPictureOf}
use Rattle.rcv_look.specs.Outcome.{IsToldTextAnswer, IsToldBundleAnswer, IsToldAnswer, no_journal_line, illegal_line, uncut, long, parted, wrong, drawn}
use Rattle.rcv_look.specs.Outcome as outcomes
use Rattle.rcv_look.proofs.Making.{Makes, made, widen, refused}

module _ {E : Type 0} (result : Result Output E) where
  -- no separator
  pub uncut_said : (input : List ℕ) (line : ℕ) → cut_of input ≡ None → line ≡ line_of_end input
      → IfOk result (λ output. output.status ≡ statuses.Refused) → IfOk result (λ output. output.bytes.items ≡ no_journal_line line) → Makes (IsToldAnswer input) result
  uncut_said input line none is status bytes =
      made (IsToldAnswer input) result statuses.Refused (no_journal_line line) status bytes
      (subst (λ (n : ℕ). IsToldAnswer input statuses.Refused (no_journal_line n)) (sym is) (uncut none))

  -- a bundle with its text
  pub parted_said : (input : List ℕ) (cut : Cut) (bundle text : List ℕ) (feeds : ℕ) → cut_of input ≡ Some cut → cut.end ≤ 1048576
      → bundle ≡ bundle_of input cut → text ≡ journal_of input cut → feeds ≡ feeds_before input cut
      → Makes (IsToldBundleAnswer bundle text feeds) result → Makes (IsToldAnswer input) result
  parted_said input cut bundle text feeds is few same_bundle same_text same_feeds makes =
      widen (IsToldBundleAnswer bundle text feeds) (IsToldAnswer input) result
      (λ s b answer. parted cut is few (subst (λ (n : ℕ). IsToldBundleAnswer (bundle_of input cut) (journal_of input cut) n s b) same_feeds
      (subst (λ (t : List ℕ). IsToldBundleAnswer (bundle_of input cut) t feeds s b) same_text (subst (λ (u : List ℕ). IsToldBundleAnswer u text feeds s b) same_bundle answer)))) makes

  -- a bundle that is taken, or refused
  pub taken_said : (bundle text : List ℕ) (session setup : SessionView) (feeds : ℕ) → setup ≡ session → IsTaken bundle session
      → Makes (IsToldTextAnswer setup text feeds) result → Makes (IsToldBundleAnswer bundle text feeds) result
  taken_said bundle text session setup feeds same is_taken makes =
      widen (IsToldTextAnswer setup text feeds) (IsToldBundleAnswer bundle text feeds) result
      (λ s b answer. outcomes.taken session is_taken (subst (λ (v : SessionView). IsToldTextAnswer v text feeds s b) same answer)) makes

  pub refused_said : (bundle text : List ℕ) (feeds : ℕ) (error : InputError) → IsRefused bundle error
      → IfOk result (λ output. (refusal : refusals.Refused) × (error ≡ causes.Refused refusal) × (output.status ≡ statuses.Refused) × (output.bytes.items ≡ refusal_line refusal))
      → Makes (IsToldBundleAnswer bundle text feeds) result
  refused_said bundle text feeds error is said =
      refused (IsToldBundleAnswer bundle text feeds) error result said (λ refusal same. outcomes.refused refusal (subst (IsRefused bundle) same is))

  -- a wrong line
  pub wrong_said : (session : SessionView) (text : List ℕ) (feeds k sum : ℕ) → IsFirstWrong session text k → sum ≡ feeds + k
      → IfOk result (λ output. output.status ≡ statuses.Illegal) → IfOk result (λ output. output.bytes.items ≡ illegal_line sum) → Makes (IsToldTextAnswer session text feeds) result
  wrong_said session text feeds k sum first is status bytes =
      made (IsToldTextAnswer session text feeds) result statuses.Illegal (illegal_line sum) status bytes
      (subst (λ (n : ℕ). IsToldTextAnswer session text feeds statuses.Illegal (illegal_line n)) (sym is) (wrong k first))

-- a bundle that is too long
pub long_said : (input : List ℕ) (cut : Cut) (bytes : List ℕ) → cut_of input ≡ Some cut → 1048576 < cut.end → bytes ≡ [] → IsToldAnswer input statuses.TooLong bytes
long_said input cut bytes is more empty = subst (IsToldAnswer input statuses.TooLong) (sym empty) (long cut is more)

-- a told journal that is drawn
pub drawn_said : (session : SessionView) (text : List ℕ) (feeds : ℕ) (entries : List Entry) (g : GuideView) (r : RecordView) (bytes : List ℕ) → IsToldText session text entries
    → r.setup ≡ session → r.entries ≡ entries → HasSameText g.protocol session.protocol
    → IsPictureOf g (told (terms_for session) entries) r (told (terms_for session) entries).held bytes → IsToldTextAnswer session text feeds statuses.Drawn bytes
drawn_said session text feeds entries g r bytes is setup same one of =
    let m = told (terms_for session) entries in
    drawn entries is (record {
      states = of.states;
      are_states = subst (λ (n : Net). AreStates n (length session.protocol.roles) m of.states) (ap (λ (b : Body). net_of b) one.bodies)
          (subst (λ (n : ℕ). AreStates (net_of (body_of g.protocol.body)) n m of.states) (ap length one.names) of.are_states);
      drawing = subst (λ (es : List Entry). IsDrawing session es m.held (map told_end of.states) bytes) same
          (subst (λ (s : SessionView). IsDrawing s r.entries m.held (map told_end of.states) bytes) setup of.drawing);
    })

-- A guide of another reading of a session's bundle is one of the session.
module _ (bundle : List ℕ) (setup other : SessionView) (is_taken : IsTaken bundle setup) (also : IsTaken bundle other) (room : ℕ) (g : GuideView) (is : g ≡ opened other.protocol other.plan room) where
  pub fresh : g ≡ opened g.protocol setup.plan room
  fresh =
      is ∙ ap (λ (plan : List PlanLine). opened other.protocol plan room) (sym (one_answer.sessions bundle setup other is_taken also).plans)
      ∙ ap (λ (p : Protocol). opened p setup.plan room) (sym (ap (λ (v : GuideView). v.protocol) is))

  pub same : HasSameText g.protocol setup.protocol
  same =
      let say = (one_answer.sessions bundle setup other is_taken also).protocols in
      subst (λ (p : Protocol). HasSameText p setup.protocol) (sym (ap (λ (v : GuideView). v.protocol) is)) (record { names = sym say.role_names; bodies = sym say.bodies })
