-- What is said of a journal, from what its parts are.
use Rattle.std.proofs.Common.{◌≡◌, ℕ, ◌+◌, ◌≤◌, List, [], ◌∷◌, ◌++◌, length, map, Some, None, inr, ◌∙◌, ap, subst, ⊎_elim, arith, length-append}
use Rattle.std.specs.Prelude.{◌≢◌, ◌↔◌, Bool, true, Result, Ok, Err, Option, IfOk, IfSome, IfNone}
use Rattle.std.proofs.lemmas.List.{length-map}
use Rattle.rcv_tree.specs.declared.entry.Entry.{Entry}
use Rattle.rcv_tree.specs.declared.protocol.Protocol.{Protocol}
use Rattle.rcv_model.specs.Journal.{reading, IsLegal}
use Rattle.rcv_session.specs.Session.{SessionView, rules_of}
use Rattle.rcv_input.specs.Input.{IsTaken}
use Rattle.rcv_journal.specs.JournalText.{entry_line, role_line}
use Rattle.rcv_journal.specs.Form.{IsFirstWrong, Spells, journal_lines, lines_of, end_line}
use Rattle.rcv_journal.specs.Recorded.{JournalView, bare}
use Rattle.rcv_judge.specs.Closing.{ClosesRight, IsFirstWrongClosing}
use Rattle.rcv_judge.proofs.Closings.{one_closing}
use Rattle.rcv_replay.specs.declared.cut.Cut.{Cut}
use Rattle.rcv_replay.specs.declared.replayed.Replayed.{Replayed}
use Rattle.rcv_replay.specs.declared.replayed.Replayed.TheVariants as said
use Rattle.rcv_replay.specs.Cutting.{cut_of, bundle_of, journal_of, feeds_before}
use Rattle.rcv_replay.specs.Replaying.{IsVerdict, IsOfText, IsOfBundle, IsReplay}
use Rattle.rcv_replay.proofs.LineCount.{few_lines}

-- A text has at least as many bytes as its journal has entries.
pub few_entries : (setup : SessionView) (text : List ℕ) (j : JournalView) → Spells setup text j → length j.entries ≤ length text
few_entries setup text j spells =
    let lines : length (lines_of text) ≤ length text = few_lines text in
    let same : length (lines_of text) ≡ length (journal_lines setup j) = ap length spells.1 in
    let entries = length-map j.entries (entry_line setup) in
    let all : length (journal_lines setup j) ≡ length (map (entry_line setup) j.entries ++ map (role_line setup) j.roles) + 1
    = length-append (map (entry_line setup) j.entries ++ map (role_line setup) j.roles) (end_line setup j.limited ∷ []) in
    let front = length-append (map (entry_line setup) j.entries) (map (role_line setup) j.roles) in
    omega (arith, lines, same, entries, all, front)

-- Its first wrong line is one of so many, too, or the one behind them.
pub few_wrong : (setup : SessionView) (text : List ℕ) (k : ℕ) → IsFirstWrong setup text k → k ≤ length text + 1
few_wrong setup text k first =
    let lines : length (lines_of text) ≤ length text = few_lines text in
    ⊎_elim (λ within. omega (arith, lines, within.0)) (λ behind. omega (arith, lines, behind.0)) first.wrong

-- a closing line was found, or none
pub at_some : {A : Type 0} (P : A → Type 0) (found : Option A) (a : A) → found ≡ Some a → IfSome found P → P a
at_some {A = A} P found a some holds = subst (λ (o : Option A). IfSome o P) some holds

pub at_none : {A P : Type 0} (found : Option A) → found ≡ None → IfNone found P → P
at_none {A = A} {P = P} found none holds = subst (λ (o : Option A). IfNone o P) none holds

widen : {E : Type 0} (P Q : Replayed → Type 0) (result : Result Replayed E) → ((x : Replayed) → P x → Q x) → IfOk result P → IfOk result Q
widen P Q (Ok x) into is = into x is
widen P Q (Err e) into is = tt

module _ {E : Type 0} (result : Result Replayed E) where
  -- a bundle with its text
  pub parted_said : (input : List ℕ) (cut : Cut) (bundle text : List ℕ) (feeds : ℕ) → cut_of input ≡ Some cut
      → bundle ≡ bundle_of input cut → text ≡ journal_of input cut → feeds ≡ feeds_before input cut
      → IfOk result (IsOfBundle bundle text feeds) → IfOk result (IsReplay input)
  parted_said input cut bundle text feeds is same_bundle same_text same_feeds says =
      widen (IsOfBundle bundle text feeds) (IsReplay input) result
      (λ x of. inr (
        cut,
        is,
        subst (λ (n : ℕ). IsOfBundle (bundle_of input cut) (journal_of input cut) n x) same_feeds
            (subst (λ (t : List ℕ). IsOfBundle (bundle_of input cut) t feeds x) same_text (subst (λ (u : List ℕ). IsOfBundle u text feeds x) same_bundle of)),
      )) says

  -- a bundle that is taken
  pub taken_said : (bundle text : List ℕ) (session : SessionView) (feeds : ℕ) → IsTaken bundle session
      → IfOk result (IsOfText session text feeds) → IfOk result (IsOfBundle bundle text feeds)
  taken_said bundle text session feeds taken says =
      widen (IsOfText session text feeds) (IsOfBundle bundle text feeds) result (λ x of. inr (session, taken, of)) says

  -- a text of the form
  pub formed_said : (session setup : SessionView) (protocol : Protocol) (text : List ℕ) (feeds : ℕ) (j : JournalView) → setup ≡ session → protocol ≡ setup.protocol
      → Spells (bare protocol) text j → IfOk result (IsVerdict setup j) → IfOk result (IsOfText session text feeds)
  formed_said session setup protocol text feeds j same_setup same spells says =
      widen (IsVerdict setup j) (IsOfText session text feeds) result
      (λ x verdict. inr (
        j,
        subst (λ (p : Protocol). Spells (bare p) text j) (same ∙ ap (λ (v : SessionView). v.protocol) same_setup) spells,
        subst (λ (v : SessionView). IsVerdict v j x) same_setup verdict,
      )) says

-- a text with a wrong line
pub malformed_said : (session setup : SessionView) (protocol : Protocol) (text : List ℕ) (number : ℕ) → setup ≡ session → protocol ≡ setup.protocol
    → IsFirstWrong (bare protocol) text number → IsFirstWrong (bare session.protocol) text number
malformed_said session setup protocol text number same_setup same wrong =
    subst (λ (p : Protocol). IsFirstWrong (bare p) text number) (same ∙ ap (λ (v : SessionView). v.protocol) same_setup) wrong

-- a closing line that isn't what the entries leave
pub misclosed_said : (session : SessionView) (j : JournalView) (entries : List Entry) (k : ℕ) → entries ≡ j.entries → IsLegal (rules_of session) entries
    → IsFirstWrongClosing (rules_of session) (reading (rules_of session) entries) j.roles j.limited k → IsVerdict session j said.WrongEnd
misclosed_said session j entries k same legal wrong = (
  subst (IsLegal (rules_of session)) same legal,
  λ closes. (one_closing (rules_of session) (reading (rules_of session) j.entries) j.roles j.limited k k).none closes
      (subst (λ (es : List Entry). IsFirstWrongClosing (rules_of session) (reading (rules_of session) es) j.roles j.limited k) same wrong),
)

-- a journal that is legal and whole
pub legal_said : (session : SessionView) (j : JournalView) (entries : List Entry) (count : ℕ) (limited : Bool) → entries ≡ j.entries → IsLegal (rules_of session) entries
    → ClosesRight session entries j.roles j.limited → count ≡ length entries → (limited ≡ true) ↔ (j.limited ≢ []) → IsVerdict session j (said.Legal count limited)
legal_said session j entries count limited same legal closes many says = (
  subst (IsLegal (rules_of session)) same legal,
  subst (λ (es : List Entry). ClosesRight session es j.roles j.limited) same closes,
  many ∙ ap length same,
  says,
)
