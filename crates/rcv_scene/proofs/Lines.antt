-- The line of the entry at a place of a journal.
use Rattle.std.proofs.Common.{◌≡◌, ℕ, ◌+◌, List, ◌++◌, Some, None, slice_get, length, ◌≤◌, codes, flat_map, refl, sym, ◌∙◌, ap, subst, inl, inr, append_assoc}
use Rattle.std.specs.List.{range_with_len}
use Rattle.std.proofs.lemmas.Option.{slice_get_past}
use Rattle.rcv_tree.specs.declared.entry.Entry.{Entry}
use Rattle.rcv_tree.specs.declared.entry.Entry.TheVariants.{Send, Recv, Crash, Recover}
use Rattle.rcv_session.specs.Session.{SessionView}
use Rattle.rcv_core.specs.Book.{BookView}
use Rattle.rcv_journal.specs.JournalText.{entry_line}
use Rattle.rcv_journal.proofs.Lists.{said_of_one_more}
use Rattle.rcv_scene.specs.Told.{bare_line, IsLineAt}

-- a line is what is written of it, and a line feed
bare : (setup : SessionView) (e : Entry) → entry_line setup e ≡ bare_line setup e ++ codes "\n"
bare setup (Send e) = refl
bare setup (Recv e) = refl
bare setup (Crash p) = refl
bare setup (Recover p concerned kept undone) = refl

-- what is written of the entry at a place is its line
pub is_line : (book : BookView) (at : ℕ) (e : Entry) (text : List ℕ) → slice_get book.entries at ≡ Some e → text ≡ bare_line book.setup e → IsLineAt book at text
is_line book at e text is line other there =
    let found : Some e ≡ Some other = sym is ∙ there in
    let same : e ≡ other = cc in
    ap (entry_line book.setup) (sym same) ∙ bare book.setup e ∙ ap (λ (t : List ℕ). t ++ codes "\n") (sym line)

-- where there is no entry, any text will do
pub no_line : (book : BookView) (at : ℕ) (text : List ℕ) → slice_get book.entries at ≡ None → IsLineAt book at text
no_line book at text none other there =
    let wrong : None ≡ Some other = sym none ∙ there in
    absurd cc

-- behind the last there is none
pub past_end : (read entries : List Entry) (at : ℕ) → read ≡ entries → length read ≤ at → slice_get entries at ≡ None
past_end read entries at same past = subst (λ (l : List Entry). slice_get l at ≡ None) same (slice_get_past read at past)

-- what is said of each role so far, and of one more
pub role_added : (said : ℕ → List ℕ) (n : ℕ) (before old new : List ℕ) → old ≡ before ++ flat_map said (range_with_len 0 n) → new ≡ old ++ said n → new ≡ before ++ flat_map said (range_with_len 0 (n + 1))
role_added said n before old new so_far one =
    one ∙ ap (λ (t : List ℕ). t ++ said n) so_far
    ∙ append_assoc before (flat_map said (range_with_len 0 n)) (said n)
    ∙ ap (λ (t : List ℕ). before ++ t) (said_of_one_more said n)
