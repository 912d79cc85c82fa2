-- A text says one journal, and the lines of a journal, joined, say it.
use Rattle.std.proofs.Common.{◌≡◌, ◌∙◌, ℕ, List, [], ◌∷◌, ◌++◌, All, map, flat_map, refl, sym, ap, subst, append_assoc}
use Rattle.std.proofs.lemmas.List.Elements.{All-nil, All-cons, All-head, All-tail}
use Rattle.rcv_tree.specs.declared.entry.Entry.{Entry}
use Rattle.rcv_session.specs.Session.{SessionView}
use Rattle.rcv_journal.specs.declared.line.RoleLine.{RoleLine}
use Rattle.rcv_journal.specs.Recorded.{JournalView}
use Rattle.rcv_journal.specs.Form.{IsFormed, Spells, journal_lines}
use Rattle.rcv_lines.specs.Line.{LineView, EntryLine, RoleLineOf, EndLine, IsFormedLine, line_text}
use Rattle.rcv_lines.proofs.Views.{SaysOne, same_said}
use Rattle.rcv_lines.proofs.Progress.{whole_said, whole_formed, whole_texts}
use Rattle.rcv_lines.proofs.Splitting.{IsLine, lines_of_joined}

abbrev journal : List Entry → List RoleLine → List ℕ → JournalView
journal entries roles limited = record { entries = entries; roles = roles; limited = limited }

-- the journal that lines say
abbrev with_said : LineView → JournalView → JournalView
with_said (EntryLine e) j = journal (e ∷ j.entries) j.roles j.limited
with_said (RoleLineOf line) j = journal j.entries (line ∷ j.roles) j.limited
with_said (EndLine limited) j = journal j.entries j.roles limited

abbrev journal_of : List LineView → JournalView
journal_of [] = journal [] [] []
journal_of (v ∷ vs) = with_said v (journal_of vs)

roles_back : (roles : List RoleLine) (limited : List ℕ) → journal_of (map RoleLineOf roles ++ EndLine limited ∷ []) ≡ journal [] roles limited
roles_back [] limited = refl
roles_back (line ∷ roles) limited = ap (with_said (RoleLineOf line)) (roles_back roles limited)

entries_back : (entries : List Entry) (roles : List RoleLine) (limited : List ℕ) → journal_of (map EntryLine entries ++ (map RoleLineOf roles ++ EndLine limited ∷ [])) ≡ journal entries roles limited
entries_back [] roles limited = roles_back roles limited
entries_back (e ∷ entries) roles limited = ap (with_said (EntryLine e)) (entries_back entries roles limited)

said_back : (j : JournalView) → journal_of (whole_said j) ≡ j
said_back j =
    ap journal_of (append_assoc (map EntryLine j.entries) (map RoleLineOf j.roles) (EndLine j.limited ∷ [])) ∙ entries_back j.entries j.roles j.limited

pub one_journal : (setup : SessionView) (text : List ℕ) (a b : JournalView) → SaysOne setup → Spells setup text a → Spells setup text b → a ≡ b
one_journal setup text a b one says_a says_b =
    let same = whole_texts setup a ∙ sym says_a.1 ∙ says_b.1 ∙ sym (whole_texts setup b) in
    sym (said_back a) ∙ ap journal_of (same_said setup one (whole_said a) (whole_said b) (whole_formed setup a says_a.0) (whole_formed setup b says_b.0) same) ∙ said_back b

-- each line of the form ends with its one line feed
abbrev pub AreLines : SessionView → Type 0
AreLines setup = (v : LineView) → IsFormedLine setup v → IsLine (line_text setup v)

texts_are_lines : (setup : SessionView) → AreLines setup → (vs : List LineView) → All (IsFormedLine setup) vs → All IsLine (map (line_text setup) vs)
texts_are_lines setup lines [] are = All-nil IsLine
texts_are_lines setup lines (v ∷ vs) are =
    All-cons IsLine (line_text setup v) (map (line_text setup) vs) (lines v (All-head (IsFormedLine setup) v vs are)) (texts_are_lines setup lines vs (All-tail (IsFormedLine setup) v vs are))

pub lines_spell : (setup : SessionView) (j : JournalView) → AreLines setup → IsFormed setup j → Spells setup (flat_map (λ line. line) (journal_lines setup j)) j
lines_spell setup j lines is =
    (is, lines_of_joined (journal_lines setup j) (subst (All IsLine) (whole_texts setup j) (texts_are_lines setup lines (whole_said j) (whole_formed setup j is))))
