-- What the lines of a journal say: texts that agree say the same.
use Rattle.std.proofs.Common.{◌≡◌, ◌∙◌, ℕ, Bool, true, false, List, [], ◌∷◌, ◌++◌, All, map, refl, sym, ap, ap₂}
use Rattle.std.proofs.lemmas.List.{map-append}
use Rattle.std.proofs.lemmas.List.Elements.{All-nil, All-cons, All-head, All-tail}
use Rattle.std.specs.Prelude.{if◌then◌else◌}
use Rattle.rcv_tree.specs.declared.entry.Entry.{Entry}
use Rattle.rcv_session.specs.Session.{SessionView}
use Rattle.rcv_journal.specs.declared.line.RoleLine.{RoleLine}
use Rattle.rcv_journal.specs.JournalText.{entry_line, role_line}
use Rattle.rcv_journal.specs.Form.{IsFormedEntry}
use Rattle.rcv_lines.specs.Line.{LineView, EntryLine, RoleLineOf, EndLine, IsFormedLine, IsFormedRoleLine, line_text}
use Rattle.rcv_lines.specs.Reading.{end_read}

-- no line says two things
abbrev pub SaysOne : SessionView → Type 0
SaysOne setup =
    (a b : LineView) → IsFormedLine setup a → IsFormedLine setup b → line_text setup a ≡ line_text setup b → a ≡ b

abbrev pub end_said : Bool → List ℕ → List LineView
end_said over limited = if over then EndLine limited ∷ [] else []

-- what entries, lines of roles, and the last line where it was read, say
abbrev pub said : List Entry → List RoleLine → Bool → List ℕ → List LineView
said entries roles over limited = map EntryLine entries ++ map RoleLineOf roles ++ end_said over limited

entry_texts : (setup : SessionView) (entries : List Entry) → map (line_text setup) (map EntryLine entries) ≡ map (entry_line setup) entries
entry_texts setup [] = refl
entry_texts setup (e ∷ entries) = ap (λ xs. entry_line setup e ∷ xs) (entry_texts setup entries)

role_texts : (setup : SessionView) (roles : List RoleLine) → map (line_text setup) (map RoleLineOf roles) ≡ map (role_line setup) roles
role_texts setup [] = refl
role_texts setup (line ∷ roles) = ap (λ xs. role_line setup line ∷ xs) (role_texts setup roles)

end_texts : (setup : SessionView) (over : Bool) (limited : List ℕ) → map (line_text setup) (end_said over limited) ≡ end_read setup over limited
end_texts setup true limited = refl
end_texts setup false limited = refl

pub texts : (setup : SessionView) (entries : List Entry) (roles : List RoleLine) (over : Bool) (limited : List ℕ) → map (line_text setup) (said entries roles over limited) ≡ map (entry_line setup) entries ++ map (role_line setup) roles ++ end_read setup over limited
texts setup entries roles over limited =
    map-append (line_text setup) (map EntryLine entries ++ map RoleLineOf roles) (end_said over limited)
    ∙ ap (λ xs. xs ++ map (line_text setup) (end_said over limited)) (map-append (line_text setup) (map EntryLine entries) (map RoleLineOf roles) ∙ ap₂ (λ xs ys. xs ++ ys) (entry_texts setup entries) (role_texts setup roles))
    ∙ ap (λ xs. map (entry_line setup) entries ++ map (role_line setup) roles ++ xs) (end_texts setup over limited)

pub entries_formed : (setup : SessionView) (entries : List Entry) → All (IsFormedEntry setup) entries → All (IsFormedLine setup) (map EntryLine entries)
entries_formed setup [] all = All-nil (IsFormedLine setup)
entries_formed setup (e ∷ entries) all =
    All-cons (IsFormedLine setup) (EntryLine e) (map EntryLine entries) (All-head (IsFormedEntry setup) e entries all) (entries_formed setup entries (All-tail (IsFormedEntry setup) e entries all))

pub roles_formed : (setup : SessionView) (roles : List RoleLine) → All (IsFormedRoleLine setup) roles → All (IsFormedLine setup) (map RoleLineOf roles)
roles_formed setup [] all = All-nil (IsFormedLine setup)
roles_formed setup (line ∷ roles) all =
    All-cons (IsFormedLine setup) (RoleLineOf line) (map RoleLineOf roles) (All-head (IsFormedRoleLine setup) line roles all) (roles_formed setup roles (All-tail (IsFormedRoleLine setup) line roles all))

-- a longer list of texts says more
pub record Goes (setup : SessionView) (whole begun : List LineView) (text : List ℕ) : Type 0 where
  pub next : LineView
  pub rest : List LineView
  pub formed : IsFormedLine setup next
  pub is_text : text ≡ line_text setup next
  pub is_whole : whole ≡ begun ++ next ∷ rest

one_more : (setup : SessionView) (v w : LineView) (vs ws : List LineView) (text : List ℕ) → v ≡ w → Goes setup vs ws text → Goes setup (v ∷ vs) (w ∷ ws) text
one_more setup v w vs ws text same goes =
    record { next = goes.next; rest = goes.rest; formed = goes.formed; is_text = goes.is_text; is_whole = ap₂ (λ x xs. x ∷ xs) same goes.is_whole }

module _ (setup : SessionView) (one : SaysOne setup) where
  pub aligned : (vs ws : List LineView) (text : List ℕ) (more : List (List ℕ)) → All (IsFormedLine setup) vs → All (IsFormedLine setup) ws → map (line_text setup) vs ≡ map (line_text setup) ws ++ text ∷ more → Goes setup vs ws text
  aligned [] [] text more are begun is = absurd (cc)
  aligned [] (w ∷ ws) text more are begun is = absurd (cc)
  aligned (v ∷ vs) [] text more are begun is =
      let here : line_text setup v ≡ text = cc in
      record { next = v; rest = vs; formed = All-head (IsFormedLine setup) v vs are; is_text = sym here; is_whole = refl }
  aligned (v ∷ vs) (w ∷ ws) text more are begun is =
      let here : line_text setup v ≡ line_text setup w = cc in
      let behind : map (line_text setup) vs ≡ map (line_text setup) ws ++ text ∷ more = cc in
      one_more setup v w vs ws text (one v w (All-head (IsFormedLine setup) v vs are) (All-head (IsFormedLine setup) w ws begun) here) (aligned vs ws text more (All-tail (IsFormedLine setup) v vs are) (All-tail (IsFormedLine setup) w ws begun) behind)

  pub same_said : (vs ws : List LineView) → All (IsFormedLine setup) vs → All (IsFormedLine setup) ws → map (line_text setup) vs ≡ map (line_text setup) ws → vs ≡ ws
  same_said [] [] are begun is = refl
  same_said [] (w ∷ ws) are begun is = absurd (cc)
  same_said (v ∷ vs) [] are begun is = absurd (cc)
  same_said (v ∷ vs) (w ∷ ws) are begun is =
      let here : line_text setup v ≡ line_text setup w = cc in
      let behind : map (line_text setup) vs ≡ map (line_text setup) ws = cc in
      ap₂ (λ x xs. x ∷ xs) (one v w (All-head (IsFormedLine setup) v vs are) (All-head (IsFormedLine setup) w ws begun) here) (same_said vs ws (All-tail (IsFormedLine setup) v vs are) (All-tail (IsFormedLine setup) w ws begun) behind)
