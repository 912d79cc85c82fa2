-- Rows and arrows say something each.
use Rattle.std.proofs.Common.{◌≡◌, ◌≤◌, ℕ, Bool, List, [], ◌∷◌, ◌++◌, length, refl, ap, ap₂, subst, ◌∙◌}
use Rattle.std.specs.List.{All}
use Rattle.std.proofs.lemmas.List.Elements.{All-head, All-tail, filter-append}
use Rattle.rcv_tree.specs.declared.event.Event.{Event}
use Rattle.rcv_tree.specs.declared.entry.Entry.{Entry}
use Rattle.rcv_model.specs.Net.{Net}
use Rattle.rcv_session.specs.Session.{SessionView, rules_of}
use Rattle.rcv_core.specs.Book.{BookView, state_of}
use Rattle.rcv_fates.specs.Record.{RecordView, HasKept, journal_of}
use Rattle.rcv_journal.specs.declared.line.RoleLine.{RoleLine}
use Rattle.rcv_story.specs.declared.story.Story.{Story}
use Rattle.rcv_story.specs.Story.{IsStory}
use Rattle.rcv_story.specs.Shown.{AreShown}
use Rattle.rcv_scene.specs.declared.ends.RoleEnd.{RoleEnd}
use Rattle.rcv_scene.specs.Ends.{ends_in}
use Rattle.rcv_scene.specs.Drawn.{IsDrawnOnGrid}
use Rattle.rcv_picture.specs.declared.group.Says.{Says}
use Rattle.rcv_picture.specs.declared.group.Says.TheVariants as says
use Rattle.rcv_rows.specs.Told.{ArePieces, IsWireIn, Tells, ShowMarked}
use Rattle.rcv_picture.specs.declared.picture.Picture.{Picture}
use Rattle.rcv_scene.specs.Told.{told, said, says_something, AreTitled}
use Rattle.rcv_look.specs.Drawing.{IsDrawing, IsJournalDrawing, IsTextOf, most_drawn}

rows_say : (from to : ℕ) (rows : List Says) → ArePieces from to rows → said rows ≡ rows
rows_say from to [] pieces = refl
rows_say from to (says.Entry place undone ∷ rows) pieces = ap (λ (l : List Says). says.Entry place undone ∷ l) (rows_say _ to rows pieces.1)
rows_say from to (says.Fold first end counts ∷ rows) pieces = ap (λ (l : List Says). says.Fold first end counts ∷ l) (rows_say end to rows pieces.3)
rows_say from to (says.Nothing ∷ rows) pieces = absurd pieces
rows_say from to (says.Arrow send receive undone ∷ rows) pieces = absurd pieces

wires_say : (net : Net) (kept : List Event) (entries : List Entry) (shows : ℕ → Type 0) (wires : List Says) → All (IsWireIn net kept entries shows) wires → said wires ≡ wires
wires_say net kept entries shows [] all = refl
wires_say net kept entries shows (says.Arrow send receive undone ∷ wires) all = ap (λ (l : List Says). says.Arrow send receive undone ∷ l) (wires_say net kept entries shows wires (All-tail (IsWireIn net kept entries shows) (says.Arrow send receive undone) wires all))
wires_say net kept entries shows (says.Entry place undone ∷ wires) all = absurd (All-head (IsWireIn net kept entries shows) (says.Entry place undone) wires all)
wires_say net kept entries shows (says.Fold first end counts ∷ wires) all = absurd (All-head (IsWireIn net kept entries shows) (says.Fold first end counts) wires all)
wires_say net kept entries shows (says.Nothing ∷ wires) all = absurd (All-head (IsWireIn net kept entries shows) says.Nothing wires all)

-- So nothing of them is left out.
pub all_say : (net : Net) (kept : List Event) (entries : List Entry) (rows wires : List Says) → Tells net kept entries rows wires → said (wires ++ rows) ≡ wires ++ rows
all_say net kept entries rows wires tells =
    filter-append says_something wires rows
    ∙ ap₂ (λ (a b : List Says). a ++ b) (wires_say _ _ entries _ wires tells.in_wires.right) (rows_say 0 _ rows tells.in_rows.pieces)

-- A picture that says these tells of the entries.
pub drawn_so : (r : RecordView) (kept : List Event) (ends : List RoleEnd) (story : Story) (shown marks : List Bool) (picture : Picture) (rows wires said_rows said_wires : List Says) (bytes : List ℕ)
    → HasKept r kept → IsStory r story → AreShown (length r.entries) story.recoveries.items shown → marks ≡ shown → ShowMarked marks rows → said_rows ≡ rows → said_wires ≡ wires
    → Tells (rules_of r.setup).net kept r.entries rows wires → told picture.groups.items ≡ said (said_wires ++ said_rows) → AreTitled (journal_of r) picture.groups.items
    → IsDrawnOnGrid r story ends said_rows picture.groups.items
    → IsTextOf picture bytes → length bytes ≤ most_drawn (length r.entries) → IsDrawing r.setup r.entries kept ends bytes
drawn_so r kept ends story shown marks picture rows wires said_rows said_wires bytes has is_story are_shown same_marks marked same_rows same_wires tells says titled on_grid text few = record {
  journal = r;
  same_setup = refl;
  same_entries = refl;
  keeps = has;
  story = story;
  is_story = is_story;
  picture = picture;
  rows = rows;
  arrows = wires;
  shown = shown;
  are_shown = are_shown;
  marked = subst (λ (m : List Bool). ShowMarked m rows) same_marks marked;
  tells = tells;
  told_so = says ∙ ap₂ (λ (a b : List Says). said (a ++ b)) same_wires same_rows ∙ all_say (rules_of r.setup).net kept r.entries rows wires tells;
  titled = titled;
  on_grid = subst (λ (l : List Says). IsDrawnOnGrid r story ends l picture.groups.items) same_rows on_grid;
  is_text = text;
  short = few;
}

-- One of a record of a book's journal is one of the journal.
pub of_book : (book : BookView) (r : RecordView) (lines : List RoleLine) (ends : List RoleEnd) (bytes : List ℕ) → r.setup ≡ book.setup → r.entries ≡ book.entries → ends ≡ ends_in lines
    → IsDrawing r.setup r.entries (state_of book).kept ends bytes → IsJournalDrawing book.setup book.entries lines bytes
of_book book r lines ends bytes setup entries same drawing =
    subst (λ (x : List RoleEnd). IsDrawing book.setup book.entries (state_of book).kept x bytes) same
    (subst (λ (es : List Entry). IsDrawing book.setup es (state_of book).kept ends bytes) entries
    (subst (λ (s : SessionView). IsDrawing s r.entries (state_of book).kept ends bytes) setup drawing))
