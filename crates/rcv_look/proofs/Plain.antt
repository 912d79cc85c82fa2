-- A journal's text is whole lines, none of which begins `session `.
use Rattle.std.proofs.Common.{◌≡◌, ℕ, zero, suc, Bool, true, false, List, [], ◌∷◌, ◌++◌, drop, map, get_or, refl, sym, ap, ◌∙◌, subst, append_assoc, append-nil}
use Rattle.std.specs.Prelude.{◌==◌, if◌then◌else◌, codes, decimal, flat_map}
use Rattle.std.specs.List.{range_with_len}
use Rattle.std.proofs.lemmas.Bool.Decides.{Decides-eqb}
use Rattle.rcv_tree.specs.declared.entry.Entry.{Entry}
use Rattle.rcv_tree.specs.declared.entry.Entry.TheVariants.{Send, Recv, Crash, Recover}
use Rattle.rcv_session.specs.Session.{SessionView, roles_of}
use Rattle.rcv_journal.specs.declared.line.RoleLine.{RoleLine}
use Rattle.rcv_journal.specs.JournalText.{entry_line, event_text, kept_text, name_of, role_line, word_text}
use Rattle.rcv_journal.specs.Form.{Spells, end_line, journal_lines, lines_from}
use Rattle.rcv_journal.specs.Recorded.{JournalView}
use Rattle.rcv_section.specs.Lines.{IsWhole, LineAt}
use Rattle.rcv_section.specs.Sections.{IsHeading, heading_word}
use Rattle.rcv_section.specs.Laws.{IsPlain}
use Rattle.rcv_section.proofs.Places.{NoFeed}
use Rattle.rcv_section.proofs.Titles.{fits, heading_has_no_feed, started, starts}

-- The fact holds of each of these lines.
abbrev Each : (List ℕ → Type 0) → List (List ℕ) → Type 0
Each P [] = Unit {0}
Each P (line ∷ lines) = P line × Each P lines

-- A line that ends with a line feed, and doesn't begin `session `.
record IsQuietLine (line : List ℕ) : Type 0 where
  pub front : List ℕ
  pub fed : line ≡ front ++ 10 ∷ []
  pub quiet : IsHeading line → ⊥

-- The first line of a text of which some has been read already: it begins as that and the text do.
first_line : (begun text more : List ℕ) → (begun ≡ [] → text ≡ [] → ⊥) → begun ++ text ≡ heading_word ++ more → (line : List ℕ) × (rest : List (List ℕ)) × (lines_from begun text ≡ line ∷ rest) × IsHeading line
first_line [] [] more some e = absurd (some refl refl)
first_line (b ∷ begun) [] more some e = (b ∷ begun, [], refl, starts (b ∷ begun) heading_word more (sym (append-nil (b ∷ begun)) ∙ e))
first_line begun (b ∷ text) more some e = go (b == 10) refl (first_line (begun ++ b ∷ []) text more)
  where
    shape : (begun ++ b ∷ []) ++ text ≡ heading_word ++ more
    shape = append_assoc begun (b ∷ []) text ∙ e

    not_empty : (xs : List ℕ) → xs ++ b ∷ [] ≡ [] → ⊥
    not_empty [] e = cc
    not_empty (x ∷ xs) e = cc

    within : (xs : List ℕ) → (b == 10) ≡ true → xs ++ text ≡ heading_word ++ more → xs ≡ begun ++ b ∷ [] → IsHeading xs
    within [] ten is same = absurd (not_empty begun (sym same))
    within (x ∷ xs) ten is same = let it = fits heading_word x xs text more heading_has_no_feed (whole (x ∷ xs) same ten) is in starts (x ∷ xs) heading_word it.0 it.1
      where
        whole : (xs : List ℕ) → xs ≡ begun ++ b ∷ [] → (b == 10) ≡ true → IsWhole true xs
        whole xs same ten = subst (IsWhole true) (sym same) (fed begun true)
          where
            fed : (ys : List ℕ) (fresh : Bool) → IsWhole fresh (ys ++ b ∷ [])
            fed [] fresh = ten
            fed (y ∷ ys) fresh = fed ys (y == 10)

    go : (ends : Bool) → (b == 10) ≡ ends → ((begun ++ b ∷ [] ≡ [] → text ≡ [] → ⊥) → (begun ++ b ∷ []) ++ text ≡ heading_word ++ more
        → (line : List ℕ) × (rest : List (List ℕ)) × (lines_from (begun ++ b ∷ []) text ≡ line ∷ rest) × IsHeading line)
        → (line : List ℕ) × (rest : List (List ℕ)) × ((if ends then (begun ++ b ∷ []) ∷ lines_from [] text else lines_from (begun ++ b ∷ []) text) ≡ line ∷ rest) × IsHeading line
    go true ten later = (begun ++ b ∷ [], lines_from [] text, refl, within (begun ++ b ∷ []) ten shape refl)
    go false not later = later (λ none e. not_empty begun none) shape

-- Where no line of a text begins so, none does that is read as the text goes.
no_heading : (begun text : List ℕ) (fresh : Bool) → (fresh ≡ true → begun ≡ []) → Each IsQuietLine (lines_from begun text) → (p : ℕ) → LineAt IsHeading fresh text p → ⊥
no_heading begun text fresh front quiet zero at = at_front (started text heading_word at.1)
  where
    at_front : text ≡ heading_word ++ drop 8 text → ⊥
    at_front e = found (first_line [] text (drop 8 text) (λ none empty. let bad : [] ≡ heading_word ++ drop 8 text = sym empty ∙ e in cc) e)
      where
        found : (line : List ℕ) × (rest : List (List ℕ)) × (lines_from [] text ≡ line ∷ rest) × IsHeading line → ⊥
        found (line, rest, are, is) = (subst (Each IsQuietLine) (ap (λ (b : List ℕ). lines_from b text) (front at.0) ∙ are) quiet).0.quiet is
no_heading begun [] fresh front quiet (suc p) at = at
no_heading begun (b ∷ text) fresh front quiet (suc p) at = go (b == 10) refl quiet (λ each. no_heading [] text (b == 10) (λ e. refl) each p at) (λ not each. no_heading (begun ++ b ∷ []) text (b == 10) (λ ten. let bad : true ≡ false = sym ten ∙ not in cc) each p at)
  where
    go : (ends : Bool) → (b == 10) ≡ ends → Each IsQuietLine (if ends then (begun ++ b ∷ []) ∷ lines_from [] text else lines_from (begun ++ b ∷ []) text)
        → (Each IsQuietLine (lines_from [] text) → ⊥) → ((b == 10) ≡ false → Each IsQuietLine (lines_from (begun ++ b ∷ []) text) → ⊥) → ⊥
    go true ten each ended later = ended each.1
    go false not each ended later = later not each

-- A line that has no line feed doesn't end with one.
not_fed : (xs front : List ℕ) → NoFeed xs → xs ≡ front ++ 10 ∷ [] → ⊥
not_fed [] [] quiet e = cc
not_fed [] (f ∷ front) quiet e = cc
not_fed (x ∷ xs) [] quiet e = let same : x ≡ 10 = ap (λ l. get_or l 0 0) e in let is = (Decides-eqb x 10).1 same in let not = quiet.0 in cc
not_fed (x ∷ xs) (f ∷ front) quiet e = not_fed xs front quiet.1 (ap (drop 1) e)

one_more : (xs : List ℕ) (b : ℕ) → NoFeed xs → (b == 10) ≡ false → NoFeed (xs ++ b ∷ [])
one_more [] b quiet not = (not, tt)
one_more (x ∷ xs) b quiet not = (quiet.0, one_more xs b quiet.1 not)

-- Where each line ends with a line feed, the text is whole lines.
all_whole : (begun text : List ℕ) (fresh : Bool) → (begun ≡ [] → fresh ≡ true) → NoFeed begun → Each IsQuietLine (lines_from begun text) → IsWhole fresh text
all_whole [] [] fresh front none each = front refl
all_whole (c ∷ begun) [] fresh front none each = absurd (not_fed (c ∷ begun) each.0.front none each.0.fed)
all_whole begun (b ∷ text) fresh front none each = go (b == 10) refl each (λ ten more. all_whole [] text (b == 10) (λ e. ten) tt more) (λ not more. all_whole (begun ++ b ∷ []) text (b == 10) (λ e. absurd (not_empty begun e)) (one_more begun b none not) more)
  where
    not_empty : (xs : List ℕ) → xs ++ b ∷ [] ≡ [] → ⊥
    not_empty [] e = cc
    not_empty (x ∷ xs) e = cc

    go : (ends : Bool) → (b == 10) ≡ ends → Each IsQuietLine (if ends then (begun ++ b ∷ []) ∷ lines_from [] text else lines_from (begun ++ b ∷ []) text)
        → ((b == 10) ≡ true → Each IsQuietLine (lines_from [] text) → IsWhole (b == 10) text) → ((b == 10) ≡ false → Each IsQuietLine (lines_from (begun ++ b ∷ []) text) → IsWhole (b == 10) text) → IsWhole (b == 10) text
    go true ten each ended later = ended ten each.1
    go false not each ended later = later not each

-- The lines of a journal.
quiet_entry : (session : SessionView) (e : Entry) → IsQuietLine (entry_line session e)
quiet_entry session (Send e) = record { front = codes "send " ++ event_text session e; fed = refl; quiet = λ h. cc }
quiet_entry session (Recv e) = record { front = codes "recv " ++ event_text session e ++ codes " <" ++ decimal e.sent; fed = refl; quiet = λ h. cc }
quiet_entry session (Crash p) = record { front = codes "crash " ++ name_of session p; fed = refl; quiet = λ h. cc }
quiet_entry session (Recover p concerned kept undone) = record {
  front = codes "recover " ++ name_of session p ++ codes " undone " ++ decimal undone ++ codes ":" ++ flat_map (kept_text session concerned.0 kept) (range_with_len 0 (roles_of session));
  fed = refl;
  quiet = λ h. cc;
}

quiet_role : (session : SessionView) (line : RoleLine) → IsQuietLine (role_line session line)
quiet_role session line = record {
  front = codes "role " ++ name_of session line.role ++ codes " kept " ++ decimal line.kept ++ codes " raw " ++ decimal line.raw ++ codes " " ++ word_text line.word;
  fed = refl;
  quiet = λ h. cc;
}

quiet_end : (session : SessionView) (limited : List ℕ) → IsQuietLine (end_line session limited)
quiet_end session [] = record { front = codes "completed"; fed = refl; quiet = λ h. cc }
quiet_end session (r ∷ rest) = record { front = codes "limited" ++ flat_map (λ q. codes " " ++ name_of session q) (r ∷ rest); fed = refl; quiet = λ h. cc }

each_map : {X : Type 0} (P : List ℕ → Type 0) (f : X → List ℕ) → ((x : X) → P (f x)) → (xs : List X) → Each P (map f xs)
each_map P f is [] = tt
each_map P f is (x ∷ xs) = (is x, each_map P f is xs)

each_both : (P : List ℕ → Type 0) (xs ys : List (List ℕ)) → Each P xs → Each P ys → Each P (xs ++ ys)
each_both P [] ys x y = y
each_both P (l ∷ xs) ys x y = (x.0, each_both P xs ys x.1 y)

quiet_lines : (session : SessionView) (j : JournalView) → Each IsQuietLine (journal_lines session j)
quiet_lines session j =
    each_both IsQuietLine (map (entry_line session) j.entries ++ map (role_line session) j.roles) (end_line session j.limited ∷ [])
    (each_both IsQuietLine (map (entry_line session) j.entries) (map (role_line session) j.roles)
    (each_map IsQuietLine (entry_line session) (quiet_entry session) j.entries) (each_map IsQuietLine (role_line session) (quiet_role session) j.roles))
    (quiet_end session j.limited, tt)

pub journals_are_plain : (session : SessionView) (text : List ℕ) (j : JournalView) → Spells session text j → IsPlain text
journals_are_plain session text j spells =
    let each : Each IsQuietLine (lines_from [] text) = subst (Each IsQuietLine) (sym spells.1) (quiet_lines session j) in
    record { whole = all_whole [] text true (λ e. refl) tt each; quiet = no_heading [] text true (λ e. refl) each }
