-- What was read of the first lines of a text: some text of the form begins with them; and what one line more does.
use Rattle.std.proofs.Common.{◌≡◌, ◌∙◌, ◌<◌, ◌≤◌, ◌+◌, ◌-◌, ◌^◌, ℕ, zero, suc, Bool, true, false, true≢false, List, [], ◌∷◌, ◌++◌, All, length, map, slice_get, Some, refl, sym, ap, ap₂, subst, inr, arith, append_assoc, append-nil, length-append, Result, Ok, Err, IfOk}
use Rattle.std.proofs.lemmas.Option.{none-some}
use Rattle.std.proofs.lemmas.List.{map-append}
use Rattle.std.proofs.lemmas.List.Elements.{All-nil, All-cons, All-append, All-push}
use Rattle.rcv_tree.specs.declared.entry.Entry.{Entry}
use Rattle.rcv_session.specs.Session.{SessionView, roles_of}
use Rattle.rcv_journal.specs.declared.line.RoleLine.{RoleLine}
use Rattle.rcv_journal.specs.declared.line.RoleWord.TheVariants.{Waits}
use Rattle.rcv_journal.specs.JournalText.{entry_line, role_line}
use Rattle.rcv_journal.specs.Recorded.{JournalView}
use Rattle.rcv_journal.specs.Form.{IsFormed, IsFormedEntry, MayBegin, Spells, journal_lines, lines_of, end_line, AreLimited, FitsLine}
use Rattle.rcv_lines.specs.Line.{LineView, EntryLine, RoleLineOf, EndLine, IsFormedLine, IsFormedRoleLine, SaysLine, line_text}
use Rattle.rcv_lines.specs.Reading.{ReadingView, MayCome, Follows, IsRead, nothing_read, with_line, Takes, TakesText}
use Rattle.rcv_lines.proofs.Order.{Ordered, ordered, at_places, ordered_more}
use Rattle.rcv_lines.proofs.Views.{SaysOne, said, end_said, texts, aligned, same_said, entries_formed, roles_formed}
use Rattle.rcv_lines.proofs.Places.{AreFrom, may_come, ends, whole_from, counted}

abbrev journal : List Entry → List RoleLine → List ℕ → JournalView
journal entries roles limited = record { entries = entries; roles = roles; limited = limited }

abbrev reading : List Entry → List RoleLine → List ℕ → Bool → ReadingView
reading entries roles limited over = record { journal = journal entries roles limited; over = over }

-- the order of lines from role 0 on, as it is stated
abbrev InOrder : List RoleLine → Type 0
InOrder lines = (q : ℕ) (line : RoleLine) → slice_get lines q ≡ Some line → line.role ≡ q

from_0 : (lines : List RoleLine) → InOrder lines → Ordered 0 lines
from_0 lines are = ordered 0 lines (λ q line at. are q line at ∙ omega arith)

to_order : (lines : List RoleLine) → Ordered 0 lines → InOrder lines
to_order lines are q line at = at_places 0 lines are q line at ∙ omega arith

-- lines in order are those of declared roles
lines_formed : (setup : SessionView) (n : ℕ) (lines : List RoleLine) → Ordered n lines → length lines + n ≤ roles_of setup → All FitsLine lines → All (IsFormedRoleLine setup) lines
lines_formed setup n [] are few fit = All-nil (IsFormedRoleLine setup)
lines_formed setup n (line ∷ lines) are few fit =
    let own = fit 0 line (omega arith) in
    let here : line.role < roles_of setup = omega (arith, are.0, few) in
    let rest : All FitsLine lines = λ k d lt. fit (suc k) d (omega (arith, lt)) in
    All-cons (IsFormedRoleLine setup) line lines (record { role = here; kept = own.0; raw = own.1 }) (lines_formed setup (suc n) lines are.1 (omega (arith, few)) rest)

end_formed : (setup : SessionView) (over : Bool) (limited : List ℕ) → AreLimited setup limited → All (IsFormedLine setup) (end_said over limited)
end_formed setup true limited are = All-cons (IsFormedLine setup) (EndLine limited) [] are (All-nil (IsFormedLine setup))
end_formed setup false limited are = All-nil (IsFormedLine setup)

all_formed : (setup : SessionView) (entries : List Entry) (lines : List RoleLine) (over : Bool) (limited : List ℕ) → All (IsFormedEntry setup) entries → InOrder lines → length lines ≤ roles_of setup → All FitsLine lines → AreLimited setup limited → All (IsFormedLine setup) (said entries lines over limited)
all_formed setup entries lines over limited formed order few fit are =
    All-append (IsFormedLine setup) (map EntryLine entries ++ map RoleLineOf lines) (end_said over limited) (All-append (IsFormedLine setup) (map EntryLine entries) (map RoleLineOf lines) (entries_formed setup entries formed) (roles_formed setup lines (lines_formed setup 0 lines (from_0 lines order) (omega (arith, few)) fit))) (end_formed setup over limited are)

abbrev pub said_by : ReadingView → List LineView
said_by r = said r.journal.entries r.journal.roles r.over r.journal.limited

abbrev pub whole_said : JournalView → List LineView
whole_said j = said j.entries j.roles true j.limited

pub whole_formed : (setup : SessionView) (j : JournalView) → IsFormed setup j → All (IsFormedLine setup) (whole_said j)
whole_formed setup j is =
    all_formed setup j.entries j.roles true j.limited is.entries is.in_order (omega (arith, is.all)) is.fit is.limited

pub whole_texts : (setup : SessionView) (j : JournalView) → map (line_text setup) (whole_said j) ≡ journal_lines setup j
whole_texts setup j = texts setup j.entries j.roles true j.limited

read_formed : (setup : SessionView) (lines : List (List ℕ)) (r : ReadingView) → IsRead setup lines r → All (IsFormedLine setup) (said_by r)
read_formed setup lines r is =
    all_formed setup r.journal.entries r.journal.roles r.over r.journal.limited is.entries is.in_order is.few is.fit is.limited

read_texts : (setup : SessionView) (lines : List (List ℕ)) (r : ReadingView) → IsRead setup lines r → lines ≡ map (line_text setup) (said_by r)
read_texts setup lines r is = is.are_lines ∙ sym (texts setup r.journal.entries r.journal.roles r.over r.journal.limited)

-- nothing is read of no lines
pub begun : (setup : SessionView) → IsRead setup [] nothing_read
begun setup =
    record {
      entries = All-nil (IsFormedEntry setup);
      in_order = to_order [] tt;
      fit = All-nil FitsLine;
      few = omega arith;
      limited = record { declared = All-nil (λ r. r < roles_of setup); ascending = λ k a b at next. absurd (none-some a at) };
      all = λ is. absurd (cc);
      are_lines = refl;
    }

-- the lines of roles that complete a journal
abbrev filler : ℕ → RoleLine
filler n = record { role = n; kept = 0; raw = 0; word = Waits }

fill : ℕ → ℕ → List RoleLine
fill n zero = []
fill n (suc k) = filler n ∷ fill (suc n) k

fill_ordered : (n k : ℕ) → Ordered n (fill n k)
unfolding fill
fill_ordered n zero = tt
fill_ordered n (suc k) = (refl, fill_ordered (suc n) k)

fill_fits : (n k : ℕ) → All FitsLine (fill n k)
unfolding fill
fill_fits n zero = All-nil FitsLine
fill_fits n (suc k) = All-cons FitsLine (filler n) (fill (suc n) k) (omega arith, omega arith) (fill_fits (suc n) k)

fill_length : (n k : ℕ) → length (fill n k) ≡ k
unfolding fill
fill_length n zero = refl
fill_length n (suc k) = ap suc (fill_length (suc n) k)

no_limited : (setup : SessionView) → AreLimited setup []
no_limited setup =
    record { declared = All-nil (λ r. r < roles_of setup); ascending = λ k a b at next. absurd (none-some a at) }

-- what was read can be completed
pub completed : (setup : SessionView) (lines : List (List ℕ)) (entries : List Entry) (roles : List RoleLine) (limited : List ℕ) (over : Bool) → IsRead setup lines (reading entries roles limited over) → MayBegin setup lines
completed setup lines entries roles limited true is = (
  journal entries roles limited,
  record { entries = is.entries; all = is.all refl; in_order = is.in_order; fit = is.fit; limited = is.limited },
  [],
  sym is.are_lines ∙ sym (append-nil lines),
)
completed setup lines entries roles limited false is = (
  journal entries whole [],
  record {
    entries = is.entries;
    all = length-append roles more ∙ ap (λ n. length roles + n) (fill_length (length roles) left) ∙ omega (arith, is.few);
    in_order = to_order whole (ordered_more 0 roles more (from_0 roles is.in_order) (subst (λ n. Ordered n more) here (fill_ordered (length roles) left)));
    fit = All-append FitsLine roles more is.fit (fill_fits (length roles) left);
    limited = no_limited setup;
  },
  map (role_line setup) more ++ end_line setup [] ∷ [],
  ap (λ xs. map (entry_line setup) entries ++ xs ++ end_line setup [] ∷ []) (map-append (role_line setup) roles more)
      ∙ ap (λ xs. xs ++ end_line setup [] ∷ []) (sym (append_assoc (map (entry_line setup) entries) (map (role_line setup) roles) (map (role_line setup) more)))
      ∙ append_assoc (map (entry_line setup) entries ++ map (role_line setup) roles) (map (role_line setup) more) (end_line setup [] ∷ [])
      ∙ ap (λ xs. xs ++ (map (role_line setup) more ++ end_line setup [] ∷ [])) (sym (append-nil (map (entry_line setup) entries ++ map (role_line setup) roles)) ∙ sym is.are_lines),
)
  where
    left : ℕ
    left = roles_of setup - length roles

    more : List RoleLine
    more = fill (length roles) left

    whole : List RoleLine
    whole = roles ++ more

    here : length roles ≡ length roles + 0
    here = omega arith

-- one line more of the form, where it may come
roles_small : (setup : SessionView) (line : RoleLine) (n : ℕ) → line.role < roles_of setup → line.role ≡ n → n + 1 ≤ roles_of setup
roles_small setup line n lt is = omega (arith, lt, is)

pub more : (setup : SessionView) (lines : List (List ℕ)) (entries : List Entry) (roles : List RoleLine) (limited : List ℕ) (over : Bool) (text : List ℕ) (v : LineView) → IsRead setup lines (reading entries roles limited over) → SaysLine setup text v → Follows (roles_of setup) (reading entries roles limited over) v → IsRead setup (lines ++ text ∷ []) (with_line (reading entries roles limited over) v)
more setup lines entries roles limited true text v is says follows = absurd (true≢false follows.0)
more setup lines entries [] limited false text (EntryLine e) is says follows =
    record {
      entries = All-push (IsFormedEntry setup) entries e is.entries says.0;
      in_order = is.in_order;
      fit = is.fit;
      few = is.few;
      limited = is.limited;
      all = is.all;
      are_lines = ap₂ (λ xs t. xs ++ t ∷ []) (is.are_lines ∙ append-nil (map (entry_line setup) entries ++ []) ∙ append-nil (map (entry_line setup) entries)) says.1 ∙ sym (map-append (entry_line setup) entries (e ∷ [])) ∙ sym (append-nil (map (entry_line setup) (entries ++ e ∷ []))) ∙ sym (append-nil (map (entry_line setup) (entries ++ e ∷ []) ++ []));
    }
more setup lines entries (line ∷ roles) limited false text (EntryLine e) is says follows =
    let none : suc (length roles) ≡ 0 = follows.1 in
    absurd (omega (arith, none))
more setup lines entries roles limited false text (RoleLineOf line) is says follows =
    let next : length roles + 1 ≡ length (roles ++ line ∷ []) = sym (length-append roles (line ∷ [])) in
    let zero_more : length roles + 0 ≡ length roles = omega arith in
    let tail : Ordered (length roles + 0) (line ∷ []) = (follows.1 ∙ sym zero_more, tt) in
    record {
      entries = is.entries;
      in_order = to_order (roles ++ line ∷ []) (ordered_more 0 roles (line ∷ []) (from_0 roles is.in_order) tail);
      fit = All-push FitsLine roles line is.fit (says.0.kept, says.0.raw);
      few = subst (λ n. n ≤ roles_of setup) next (roles_small setup line (length roles) says.0.role follows.1);
      limited = is.limited;
      all = λ over. absurd (true≢false (sym over));
      are_lines =
          ap₂ (λ xs t. xs ++ t ∷ []) (is.are_lines ∙ append-nil (map (entry_line setup) entries ++ map (role_line setup) roles)) says.1
          ∙ append_assoc (map (entry_line setup) entries) (map (role_line setup) roles) (role_line setup line ∷ [])
          ∙ ap (λ xs. map (entry_line setup) entries ++ xs) (sym (map-append (role_line setup) roles (line ∷ [])))
          ∙ sym (append-nil (map (entry_line setup) entries ++ map (role_line setup) (roles ++ line ∷ [])));
    }
more setup lines entries roles limited false text (EndLine ends) is says follows =
    record {
      entries = is.entries;
      in_order = is.in_order;
      fit = is.fit;
      few = is.few;
      limited = says.0;
      all = λ over. follows.1;
      are_lines = ap₂ (λ xs t. xs ++ t ∷ []) (is.are_lines ∙ append-nil (map (entry_line setup) entries ++ map (role_line setup) roles)) says.1;
    }

-- the whole text was read
pub spelled : (setup : SessionView) (text : List ℕ) (entries : List Entry) (roles : List RoleLine) (limited : List ℕ) → IsRead setup (lines_of text) (reading entries roles limited true) → Spells setup text (journal entries roles limited)
spelled setup text entries roles limited is =
    (record { entries = is.entries; all = is.all refl; in_order = is.in_order; fit = is.fit; limited = is.limited }, is.are_lines)

module _ (setup : SessionView) (one : SaysOne setup) where
  -- what stands next in a journal may come next
  pub next_follows : (lines : List (List ℕ)) (r : ReadingView) (text : List ℕ) → IsRead setup lines r → MayBegin setup (lines ++ text ∷ []) → (v : LineView) × SaysLine setup text v × Follows (roles_of setup) r v
  next_follows lines r text is begins =
      let j = begins.0 in
      let same : map (line_text setup) (whole_said j) ≡ map (line_text setup) (said_by r) ++ text ∷ begins.2 =
      whole_texts setup j ∙ begins.3 ∙ ap (λ xs. xs ++ text ∷ [] ++ begins.2) (read_texts setup lines r is) ∙ append_assoc (map (line_text setup) (said_by r)) (text ∷ []) begins.2 in
      let goes = aligned setup one (whole_said j) (said_by r) text begins.2 (whole_formed setup j begins.1) (read_formed setup lines r is) same in
      let from = whole_from (roles_of setup) j.entries j.roles j.limited (from_0 j.roles begins.1.in_order) begins.1.all in
      let come = may_come (roles_of setup) 0 (said_by r) goes.next goes.rest (subst (AreFrom (roles_of setup) 0) goes.is_whole from) in
      let counts = counted r.journal.entries r.journal.roles r.over r.journal.limited in (
        goes.next,
        (goes.formed, goes.is_text),
        (sym counts.1 ∙ come.0, subst (λ n. MayCome (roles_of setup) n goes.next) counts.0 come.1),
      )

  -- a text that stops before its last line is none
  pub stops_early : (text : List ℕ) (r : ReadingView) (j : JournalView) → IsRead setup (lines_of text) r → r.over ≡ false → Spells setup text j → ⊥
  stops_early text r j is over spells =
      let same : map (line_text setup) (whole_said j) ≡ map (line_text setup) (said_by r) =
      whole_texts setup j ∙ sym spells.1 ∙ read_texts setup (lines_of text) r is in
      let all = same_said setup one (whole_said j) (said_by r) (whole_formed setup j spells.0) (read_formed setup (lines_of text) r is) same in
      let from = whole_from (roles_of setup) j.entries j.roles j.limited (from_0 j.roles spells.0.in_order) spells.0.all in
      let counts = counted r.journal.entries r.journal.roles r.over r.journal.limited in
      true≢false (sym (ends (roles_of setup) 0 (said_by r) (subst (AreFrom (roles_of setup) 0) all from)) ∙ counts.1 ∙ over)

-- the first lines of a text, which were read, and the line that stands behind them
pub record HasRead (setup : SessionView) (text rest : List ℕ) (number : ℕ) (r : ReadingView) : Type 0 where
  pub done : List (List ℕ)
  pub whole : lines_of text ≡ done ++ lines_of rest
  pub read : IsRead setup done r
  pub counted : number ≡ length done + 1
  pub short : length done + length rest ≤ length text

pub starts : (setup : SessionView) (text : List ℕ) → HasRead setup text text 1 nothing_read
starts setup text = record { done = []; whole = refl; read = begun setup; counted = refl; short = omega arith }

pub goes_on : (setup : SessionView) (text rest line behind : List ℕ) (number : ℕ) (old new : ReadingView) → HasRead setup text rest number old → lines_of rest ≡ line ∷ lines_of behind → length behind < length rest → (said : LineView) × SaysLine setup line said × Follows (roles_of setup) old said × (new ≡ with_line old said) → HasRead setup text behind (number + 1) new
goes_on setup text rest line behind number old new was is shorter took =
    let long = length-append was.done (line ∷ []) in
    let before = was.short in
    let counts = was.counted in
    record {
      done = was.done ++ line ∷ [];
      whole = was.whole ∙ ap (λ xs. was.done ++ xs) is ∙ sym (append_assoc was.done (line ∷ []) (lines_of behind));
      read = subst (IsRead setup (was.done ++ line ∷ [])) (sym took.3) (more setup was.done old.journal.entries old.journal.roles old.journal.limited old.over line took.0 was.read took.1 took.2);
      counted = omega (arith, long, counts);
      short = omega (arith, long, before, shorter);
    }

pub number_fits : (setup : SessionView) (text rest : List ℕ) (number : ℕ) (r : ReadingView) → HasRead setup text rest number r → 0 < length rest → length text < 2 ^ 32 - 1 → number + 1 < 2 ^ 32
number_fits setup text rest number r is some few =
    let short = is.short in
    let counts = is.counted in
    omega (arith, short, counts, some, few)

-- what is read of a line's text, by what the line says
pub takes_text : {E : Type 0} (setup : SessionView) (text : List ℕ) (old new : ReadingView) (v : LineView) (r : Result Bool E) → SaysLine setup text v → IfOk r (λ taken. Takes (roles_of setup) old v taken new) → IfOk r (λ taken. TakesText setup old text taken new)
takes_text setup text old new v (Ok true) says took = (v, says, took.0, took.1)
takes_text setup text old new v (Ok false) says took = inr (v, says, took)
takes_text setup text old new v (Err e) says took = tt
