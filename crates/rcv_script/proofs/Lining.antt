-- The machine goes through the lines and scripts of the grammar.
use Rattle.std.proofs.Common.{◌≡◌, ℕ, Bool, true, false, codes, List, [], ◌∷◌, ◌++◌, length, refl, sym, ap, subst}
use Rattle.std.proofs.Common.{◌∙◌, arith, append_assoc, append-nil, length-append, ◌||◌, ◌==◌, not, Option, Some}
use Rattle.std.proofs.Common.{None, is_some, unwrap_or, bytes_eq}
use Rattle.std.proofs.lemmas.Bool.Decides.{nat_tests}
use Rattle.std.proofs.lemmas.List.Folds.{list_any-append}
use Rattle.rcv_model.specs.Script.{Condition, Expr, Test, Less, Line, VarLine, SendLine, PickLine}
use Rattle.rcv_script.specs.declared.sign.Sign.TheVariants as signs
use Rattle.rcv_script.specs.declared.fault.Fault.TheVariants as faults
use Rattle.rcv_script.specs.declared.words.LineKind.{LineKind}
use Rattle.rcv_script.specs.declared.words.LineKind.TheVariants as kinds
use Rattle.rcv_script.specs.Symbols.{Symbol, Is, Word, Number}
use Rattle.rcv_script.specs.Grammar.{WrittenLine, VarText, SendText, PickText, WhenText, OnText, WrittenScript}
use Rattle.rcv_script.specs.Grammar.{test_mark, number_text, line_text, lines_text, scripts_text, sum_text}
use Rattle.rcv_script.specs.Meaning.{sum_says, line_says, names_behind, lines_say, scripts_say}
use Rattle.rcv_script.specs.Machine.{Writing, Known, Item, Scripts, Lines, This, ASigned, ATest, a_sum, line_behind}
use Rattle.rcv_script.specs.Machine.{line_fault, label_fault, deciding, remembering, with_line, with_script, begun}
use Rattle.rcv_script.specs.Machine.{fault_if, role_fault, new_role, place_of, place_in, is_listed, Taken, has_send}
use Rattle.rcv_script.specs.Machine.{is_send_of}
use Rattle.rcv_script.specs.Table.{is_among, line_so_far, variables, labels_sent, lines_over, given, role_name}
use Rattle.rcv_script.specs.Table.{begins_an_atom, parentheses, minuses, role_of}
use Rattle.rcv_script.proofs.Deriving.{AllLines}
use Rattle.rcv_script.proofs.Agreeing.{first_word}
use Rattle.rcv_script.proofs.Least.{Frame, Speaks}
use Rattle.rcv_script.proofs.Viewing.{View, view, Joins, stays}
use Rattle.rcv_script.proofs.Knowing.{Told, tell, along, Computes}
use Rattle.rcv_script.proofs.Named.{some_name, swapped, same_place}
use Rattle.rcv_script.proofs.Wording.{sum_told, ends_sum}

-- a script is being written, and a line begins
pub record Writes (frame : Frame) (s : Writing) (back : List Symbol) : Type 0 where
  pub messages_are : s.messages ≡ frame.messages
  pub role : s.role ≡ role_of frame.roles back
  pub names : s.names ≡ variables back
  pub sent : (l : List ℕ) → has_send l s.lines ≡ is_among l (labels_sent back)
  pub over : length s.lines ≡ lines_over back
  pub fresh : line_so_far back ≡ []
  pub closed : parentheses back ≡ []

-- between scripts
pub record Between (frame : Frame) (known : Known) (back : List Symbol) : Type 0 where
  pub roles_are : known.roles ≡ frame.roles
  pub messages_are : known.messages ≡ frame.messages
  pub has : (n : List ℕ) (r : ℕ) → place_of frame.roles n ≡ Some r → is_listed r known.given ≡ is_among n (given back)
  pub fresh : line_so_far back ≡ []
  pub none : lines_over back ≡ 0
  pub closed : parentheses back ≡ []

abbrev Row : Type 0
Row = List (List ℕ) × Line

abbrev row : Writing → WrittenLine → Row
row s l = (names_behind s.names l, line_says s.names l)

-- the label of a line that sends
abbrev sends_of : Line → List (List ℕ)
sends_of (SendLine label e) = label ∷ []
sends_of _ = []

is_send : (label : List ℕ) (x : Line) → (is_send_of label x || false) ≡ is_among label (sends_of x)
is_send label (SendLine other e) = ap (λ (b : Bool). b || false) (swapped other label)
is_send label _ = refl

-- a mark that compares belongs to its line, and an atom begins behind it
test_joins : (t : Test) (back us : List Symbol) → Joins back (Is (test_mark t)) × (begins_an_atom (Is (test_mark t) ∷ back) ≡ true)
    × (minuses (Is (test_mark t) ∷ back) ≡ 0) × (parentheses (Is (test_mark t) ∷ back) ≡ parentheses back)
    × ends_sum (Is (test_mark t) ∷ us)
test_joins Less back us = (refl, refl, refl, refl, tt)
test_joins _ back us = (refl, refl, refl, refl, tt)

test_told : (frame : Frame) (ss : AllLines) (t : Test) (k : Test → Item) (back us : List Symbol)
    → Told frame (k t) (Is (test_mark t) ∷ back) us ss → Told frame (ATest k) back (Is (test_mark t) ∷ us) ss
test_told frame ss Less k back us h = (refl, h)
test_told frame ss _ k back us h = (refl, h)

module _ (frame : Frame) (ss : AllLines) where
  module _ (s : Writing) (k : List Line → Item) (back us : List Symbol) (w : Writes frame s back) where
    first_speaks : (c : LineKind) → Speaks frame (line_fault s.names s.lines c) back (Word (first_word c))
    first_speaks kinds.Var = rw (w.fresh, w.over, w.names) (grind (arith, nat_tests))
    first_speaks _ = rw (w.fresh, w.over) (grind (arith, nat_tests))

    label_speaks : (c : LineKind) (n : List ℕ) → Speaks frame (label_fault c s n) (Word (first_word c) ∷ back) (Word n)
    label_speaks kinds.Var n = rw (w.names, some_name n (variables back), w.fresh) (grind (arith, nat_tests))
    label_speaks kinds.Send n = rw (w.messages_are, w.role, w.sent n, w.fresh) (grind (arith, nat_tests))
    label_speaks _ n = rw (w.messages_are, w.role, w.fresh) (grind (arith, nat_tests))

    set_speaks : (l n : List ℕ) → Speaks frame (fault_if (not (is_some (place_of s.names n))) faults.Variable)
        (Word (codes "set") ∷ Word l ∷ Word (codes "on") ∷ back) (Word n)
    set_speaks l n = rw (w.names, some_name n (variables back), w.fresh) (grind (arith, nat_tests))

    -- the lines behind this one
    abbrev behind : Row → Item
    behind x = Lines (with_line s x) k

    abbrev Next : Row → Type 0
    Next x = (last : List Symbol) → Writes frame (with_line s x) last → given last ≡ given back → Told frame (behind x) last us ss

    -- these symbols of the line declare and send what it does
    abbrev Whole : Row → List Symbol → Type 0
    Whole x start = (role_name start ≡ role_name back) × (lines_over start ≡ lines_over back) × (given start ≡ given back)
        × (x.0 ≡ variables start) × (labels_sent start ≡ labels_sent back ++ sends_of x.1)

    ends : (x : Row) (start next : List Symbol) → Next x → Whole x start → view next ≡ view start → parentheses next ≡ parentheses back
        → Told frame (This (Is signs.Semicolon) (behind x)) next (Is signs.Semicolon ∷ us) ss
    ends x start next f h same closed = along refl (f (Is signs.Semicolon ∷ next) (record {
      messages_are = w.messages_are;
      role = w.role ∙ sym (ap (place_in frame.roles) (ap (λ (v : View). v.role) same ∙ h.0));
      names = h.3 ∙ sym (ap (λ (v : View). v.names) same);
      sent = λ l. list_any-append (is_send_of l) s.lines (x.1 ∷ [])
          ∙ rw (w.sent l, is_send l x.1) (sym (list_any-append (bytes_eq l) (labels_sent back) (sends_of x.1)))
          ∙ sym (ap (λ (v : View). is_among l v.sent) same ∙ ap (is_among l) h.4);
      over = let over = ap (λ (v : View). v.over) same in
          omega (arith, length-append s.lines (x.1 ∷ []), w.over, over, h.1);
      fresh = refl;
      closed = closed ∙ w.closed;
    }) (ap (λ (v : View). v.given) same ∙ h.2))

    line_told : (l : WrittenLine) → Next (row s l) → Told frame (Lines s k) back (line_text l us) ss
    line_told (VarText n below m) f =
        tell frame _ (line_behind s kinds.Var behind) back (Word (codes "var")) _ (first_speaks kinds.Var) (λ ok.
        tell frame _ _ (Word (codes "var") ∷ back) (Word n) _ (label_speaks kinds.Var n) (λ ok. (refl, number below f)))
      where
        at : List Symbol
        at = Is signs.Equals ∷ Word n ∷ Word (codes "var") ∷ back

        whole : (b : Bool) → Whole (row s (VarText n b m)) at
        whole b = rw (w.fresh, w.names) (refl, refl, refl, refl, sym (append-nil _))

        number : (b : Bool) → Next (row s (VarText n b m))
            → Told frame (ASigned (λ z. This (Is signs.Semicolon) (behind (s.names ++ n ∷ [], VarLine z)))) at
            (number_text b m (Is signs.Semicolon ∷ us)) ss
        number false g =
            (refl, ends (row s (VarText n false m)) at (Number m ∷ at) g (whole false) (rw w.fresh refl) refl)
        number true g = let next = Number m ∷ Is signs.Minus ∷ at in
            (rw w.fresh refl, (refl, ends (row s (VarText n true m)) at next g (whole true) (rw w.fresh refl) refl))
    line_told (SendText n t) f = let start = Is signs.Equals ∷ Word n ∷ Word (codes "send") ∷ back in
        tell frame _ (line_behind s kinds.Send behind) back (Word (codes "send")) _ (first_speaks kinds.Send) (λ ok.
        tell frame _ _ (Word (codes "send") ∷ back) (Word n) _ (label_speaks kinds.Send n) (λ ok.
        along refl (sum_told frame ss t (deciding s.names) _ start (Is signs.Semicolon ∷ us)
        (rw w.fresh (refl, w.names, refl, refl), refl, refl, rw w.closed refl) tt (λ next o.
        ends (row s (SendText n t)) start next f (rw w.fresh (refl, refl, refl, w.names, refl)) o.same o.braces))))
    line_told (PickText n) f = let start = Word n ∷ Word (codes "pick") ∷ back in
        tell frame _ (line_behind s kinds.Pick behind) back (Word (codes "pick")) _ (first_speaks kinds.Pick) (λ ok.
        tell frame _ _ (Word (codes "pick") ∷ back) (Word n) _ (label_speaks kinds.Pick n) (λ ok.
        ends (row s (PickText n)) start start f (rw w.fresh (refl, refl, refl, w.names, sym (append-nil _))) refl refl))
    line_told (WhenText n left t right) f = let start = Word (codes "when") ∷ Word n ∷ Word (codes "pick") ∷ back in
        let computes : Computes frame (deciding s.names) (view start) = rw w.fresh (refl, w.names, refl, refl) in
        let last : Condition → Item = λ c. This (Is signs.Semicolon) (behind (s.names, PickLine n (Some c))) in
        let with : Test → Expr → Item = λ x e. last (record { left = sum_says s.names left; test = x; right = e }) in
        let rest = sum_text right (Is signs.Semicolon ∷ us) in
        tell frame _ (line_behind s kinds.Pick behind) back (Word (codes "pick")) _ (first_speaks kinds.Pick) (λ ok.
        tell frame _ _ (Word (codes "pick") ∷ back) (Word n) _ (label_speaks kinds.Pick n) (λ ok.
        along (rw w.fresh refl) (sum_told frame ss left (deciding s.names) _ start (Is (test_mark t) ∷ rest)
        (computes, rw w.fresh refl, refl, rw w.closed refl) (test_joins t [] rest).4 (λ next o.
        let c = subst (Computes frame (deciding s.names)) (sym o.same) computes in let m = test_joins t next us in
        let same = stays next (Is (test_mark t)) m.0 c.0 in let braces = m.3 ∙ o.braces in
        test_told frame ss t (λ x. a_sum (deciding s.names) (with x)) next rest
        (sum_told frame ss right (deciding s.names) (with t) (Is (test_mark t) ∷ next) (Is signs.Semicolon ∷ us)
        (subst (Computes frame (deciding s.names)) (sym same) c, m.1, m.2, rw (braces, w.closed) refl) tt (λ over o'.
        ends (row s (WhenText n left t right)) start over f (rw w.fresh (refl, refl, refl, w.names, sym (append-nil _)))
        (o'.same ∙ same ∙ o.same) (o'.braces ∙ braces)))))))
    line_told (OnText n v t) f =
        let start = Is signs.Equals ∷ Word v ∷ Word (codes "set") ∷ Word n ∷ Word (codes "on") ∷ back in
        tell frame _ (line_behind s kinds.On behind) back (Word (codes "on")) _ (first_speaks kinds.On) (λ ok.
        tell frame _ _ (Word (codes "on") ∷ back) (Word n) _ (label_speaks kinds.On n) (λ ok.
        along (rw w.fresh refl)
        (tell frame _ _ (Word (codes "set") ∷ Word n ∷ Word (codes "on") ∷ back) (Word v) _ (set_speaks n v) (λ ok.
        along refl (sum_told frame ss t (remembering s n) _ start (Is signs.Semicolon ∷ us)
        (rw (w.fresh, w.messages_are, w.role) (refl, w.names, refl, refl), refl, refl, rw w.closed refl) tt (λ next o.
        ends (row s (OnText n v t)) start next f (rw w.fresh (refl, refl, refl, w.names, sym (append-nil _)))
        o.same o.braces))))))

  lines_told : (ls : List WrittenLine) (s : Writing) (k : List Line → Item) (back us : List Symbol) → Writes frame s back
      → ((last : List Symbol) → given last ≡ given back → parentheses last ≡ []
      → Told frame (k (s.lines ++ lines_say s.names ls)) (Is signs.Close ∷ last) us ss)
      → Told frame (Lines s k) back (lines_text ls us) ss
  lines_told [] s k back us w f =
      (refl, subst (λ (z : List Line). Told frame (k z) (Is signs.Close ∷ back) us ss) (append-nil s.lines) (f back refl w.closed))
  lines_told (l ∷ ls) s k back us w f = line_told s k back (lines_text ls us) w l (λ next w' g.
      let gathered = append_assoc s.lines (line_says s.names l ∷ []) (lines_say (names_behind s.names l) ls) in
      lines_told ls (with_line s (row s l)) k next us w' (λ last g' c.
      subst (λ (z : List Line). Told frame (k z) (Is signs.Close ∷ last) us ss) (sym gathered) (f last (g' ∙ g) c)))

  role_speaks : (known : Known) (back : List Symbol) (n : List ℕ) → Between frame known back
      → Speaks frame (role_fault known.roles known.given n) (Word (codes "role") ∷ back) (Word n)
  role_speaks known back n h = rw h.roles_are (go (place_of frame.roles n) refl (sym (some_name n frame.roles)))
    where
      go : (o : Option ℕ) → place_of frame.roles n ≡ o → is_among n frame.roles ≡ is_some o
          → Speaks frame (new_role known.given o) (Word (codes "role") ∷ back) (Word n)
      go None e declared = rw (h.fresh, declared) refl
      go (Some r) e declared = rw (h.fresh, declared, h.has n r e) (grind (arith, nat_tests))

  has_more : (known : Known) (back : List Symbol) (n : List ℕ) → Between frame known back → role_fault known.roles known.given n ≡ None
      → (next : List Symbol) → given next ≡ given back ++ n ∷ [] → (m : List ℕ) (q : ℕ)
      → place_of frame.roles m ≡ Some q
      → is_listed q (known.given ++ place_in known.roles n ∷ []) ≡ is_among m (given next)
  has_more known back n h ok next more m q e =
      rw (h.roles_are, more) (go (place_of frame.roles n) refl (rw h.roles_are at ok))
    where
      go : (o : Option ℕ) → place_of frame.roles n ≡ o → new_role known.given o ≡ None
          → is_listed q (known.given ++ unwrap_or o 0 ∷ []) ≡ is_among m (given back ++ n ∷ [])
      go None f g = absurd cc
      go (Some r) f g = list_any-append (λ other. other == q) known.given (r ∷ [])
          ∙ rw (h.has m q e, same_place frame.roles m n q r e f) (sym (list_any-append (bytes_eq m) (given back) (n ∷ [])))

  pub scripts_told : (ws : List WrittenScript) (known : Known) (back : List Symbol) → Between frame known back
      → ss ≡ scripts_say known.roles known.scripts ws → Told frame (Scripts known) back (scripts_text ws) ss
  scripts_told [] known back h e = ap Taken (sym e)
  scripts_told (x ∷ xs) known back h e =
      let r = place_in known.roles x.role in let ms = h.messages_are in
      let role = ap (λ (z : List (List ℕ)). place_in z x.role) h.roles_are in
      along (rw (h.fresh, h.none) refl)
      (tell frame _ _ (Word (codes "role") ∷ back) (Word x.role) _ (role_speaks known back x.role h) (λ ok.
      along refl (lines_told x.lines (begun known.messages r) (λ ls. Scripts (with_script known r ls))
      (Is signs.Open ∷ Word x.role ∷ Word (codes "role") ∷ back) (scripts_text xs)
      (record { messages_are = ms; role = role; names = refl; sent = λ l. refl; over = refl; fresh = refl; closed = h.closed })
      (λ next g p. let has = has_more known back x.role h ok next g in
      scripts_told xs (with_script known r (lines_say [] x.lines)) (Is signs.Close ∷ next)
      (record { roles_are = h.roles_are; messages_are = ms; has = has; fresh = refl; none = refl; closed = p }) e))))
