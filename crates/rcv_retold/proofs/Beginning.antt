-- Told texts: their lines, and the first at which a text is none.
use Rattle.std.proofs.Common.{◌≡◌, ℕ, zero, suc, ◌+◌, ◌-◌, ◌<◌, ◌≤◌, Some, List, [], ◌∷◌, ◌++◌, All, length, map, take, drop, get_or, refl, sym, ◌∙◌, ap, ap₂, subst, inl, inr, ⊎_elim, arith, append_assoc, append-nil, length-append, length-take-le}
use Rattle.std.specs.Prelude.{slice_get}
use Rattle.std.proofs.Math.Seq.{take-append-add, take-append_seam}
use Rattle.std.proofs.lemmas.List.{map-append, length-map, take-append-drop}
use Rattle.std.proofs.lemmas.List.Elements.{All-head, All-tail, All-take}
use Rattle.rcv_tree.specs.declared.entry.Entry.{Entry}
use Rattle.rcv_tree.specs.declared.entry.Entry.TheVariants.{Send, Recv, Crash, Recover}
use Rattle.rcv_model.proofs.Forms.{proper}
use Rattle.rcv_accept.specs.Accepted.{IsAcceptedProtocol}
use Rattle.rcv_session.specs.Session.{SessionView, text_of, roles_of}
use Rattle.rcv_dialogue.specs.declared.answer.RoleState.{RoleState}
use Rattle.rcv_journal.specs.Recorded.{bare}
use Rattle.rcv_journal.specs.Form.{IsFormedEntry, lines_of}
use Rattle.rcv_lines.specs.Line.{EntryLine}
use Rattle.rcv_lines.proofs.Splitting.{line_then}
use Rattle.rcv_lines.proofs.Accepting.{all_end, says_one}
use Rattle.rcv_told.specs.Told.{Terms, Remembered, nothing_told, told, told_from, told_after}
use Rattle.rcv_retold.specs.Retold.{terms_for, MayBeRetold, IsRetoldFrom, IsRetold, IsFirstUntold}
use Rattle.rcv_retold.specs.Closing.{states_text, IsClosing}
use Rattle.rcv_retold.specs.Text.{AreFormed, line_of, entries_text, IsToldText, MayBegin, IsFirstWrong, IsFirstOther, BeginOtherwise}
use Rattle.rcv_retold.proofs.Sounding.{sized}
use Rattle.rcv_retold.proofs.Ending.{one_closing, closing_exists}
use Rattle.rcv_retold.proofs.Comparing.{joined, joined_lines, same_text}

-- ---- the second byte tells an entry's line from those behind the entries

abbrev second : List ℕ → ℕ
second text = get_or text 1 0

closing_second : (setup : SessionView) (states : List RoleState) → second (states_text setup.protocol states) ≡ 111
closing_second setup [] = refl
closing_second setup (s ∷ states) = refl

entry_second : (setup : SessionView) (e : Entry) (rest : List ℕ) → second (line_of setup.protocol e ++ rest) ≡ 111 → ⊥
entry_second setup (Send e) rest is = let f : 101 ≡ 111 = is in omega (arith, f)
entry_second setup (Recv e) rest is = let f : 101 ≡ 111 = is in omega (arith, f)
entry_second setup (Crash p) rest is = let f : 114 ≡ 111 = is in omega (arith, f)
entry_second setup (Recover p concerned kept undone) rest is = let f : 101 ≡ 111 = is in omega (arith, f)

pub closing_otherwise : (setup : SessionView) (m : Remembered) (text : List ℕ) → IsClosing setup.protocol m text → BeginOtherwise setup.protocol (lines_of text)
closing_otherwise setup m text closes e more formed is =
    entry_second setup e (joined more)
    (ap second (sym (sym (joined_lines text) ∙ ap joined is)) ∙ ap second closes.is ∙ closing_second setup closes.states)

-- ---- parts of lists

record IsCut {A : Type 0} (xs : List A) (k : ℕ) : Type 0 where
  pub here : A
  pub rest : List A
  pub there : slice_get xs k ≡ Some here
  pub whole : xs ≡ take k xs ++ here ∷ rest

cut_at : {A : Type 0} (xs : List A) (k : ℕ) → k < length xs → IsCut xs k
cut_at [] k low = absurd (omega (arith, low))
cut_at (x ∷ xs) zero low = record { here = x; rest = xs; there = refl; whole = refl }
cut_at (x ∷ xs) (suc k) low =
    let rest = cut_at xs k (omega (arith, low)) in
    record { here = rest.here; rest = rest.rest; there = rest.there; whole = ap (λ l. x ∷ l) rest.whole }

all_front : {A : Type 0} (P : A → Type 0) (xs ys : List A) → All P (xs ++ ys) → All P xs
all_front P xs ys all = subst (All P) (take-append_seam xs ys) (All-take P (length xs) (xs ++ ys) all)

all_at : {A : Type 0} (P : A → Type 0) (xs : List A) (y : A) (ys : List A) → All P (xs ++ y ∷ ys) → P y
all_at P [] y ys all = All-head P y ys all
all_at P (x ∷ xs) y ys all = all_at P xs y ys (All-tail P x (xs ++ y ∷ ys) all)

retold_front : (terms : Terms) (m : Remembered) (xs ys : List Entry) → IsRetoldFrom terms m (xs ++ ys) → IsRetoldFrom terms m xs
retold_front terms m [] ys is = tt
retold_front terms m (x ∷ xs) ys is = (is.0, retold_front terms (told_after terms m x) xs ys is.1)

retold_at : (terms : Terms) (m : Remembered) (xs : List Entry) (y : Entry) (ys : List Entry) → IsRetoldFrom terms m (xs ++ y ∷ ys) → MayBeRetold terms (told_from terms m xs) y
retold_at terms m [] y ys is = is.0
retold_at terms m (x ∷ xs) y ys is = retold_at terms (told_after terms m x) xs y ys is.1

front_take : (j : ℕ) (xs more all : List (List ℕ)) → j ≤ length xs → all ≡ take j xs ++ more → take j xs ≡ take j all
front_take zero xs more all low is = refl
front_take (suc j) [] more all low is = absurd (omega (arith, low))
front_take (suc j) (x ∷ xs) more [] low is = absurd cc
front_take (suc j) (x ∷ xs) more (y ∷ all) low is =
    let heads : y ≡ x = cc in
    let tails : all ≡ take j xs ++ more = cc in
    ap₂ (λ z zs. z ∷ zs) (sym heads) (front_take j xs more all (omega (arith, low)) tails)

no_entry : (setup : SessionView) (x : Entry) (tail : List (List ℕ)) (j : ℕ) (rest more : List (List ℕ)) → 1 ≤ j → j ≤ length rest → IsFormedEntry (bare setup.protocol) x → BeginOtherwise setup.protocol rest
    → line_of setup.protocol x ∷ tail ≡ take j rest ++ more → ⊥
no_entry setup x tail zero rest more first low formed otherwise same = absurd (omega (arith, first))
no_entry setup x tail (suc j) [] more first low formed otherwise same = absurd (omega (arith, low))
no_entry setup x tail (suc j) (r ∷ rest) more first low formed otherwise same =
    let heads : r ≡ line_of setup.protocol x = cc in otherwise x rest formed (ap (λ l. l ∷ rest) heads)

-- ---- a text with a first wrong line is no told one

pub told_none : (setup : SessionView) (text : List ℕ) (k : ℕ) (entries : List Entry) → IsFirstWrong setup text k → IsToldText setup text entries → ⊥
told_none setup text k entries wrong is = ⊎_elim
    (λ w. w.1 (record { text = text; entries = entries; is_told = is; more = drop k (lines_of text); begins = sym (take-append-drop k (lines_of text)) }))
    (λ w. w.1 entries is)
    wrong.wrong

module _ (setup : SessionView) (accepted : IsAcceptedProtocol setup.protocol) where
  -- ---- the lines of entries

  one_entry : (d e : Entry) → IsFormedEntry (bare setup.protocol) d → IsFormedEntry (bare setup.protocol) e → line_of setup.protocol d ≡ line_of setup.protocol e → d ≡ e
  one_entry d e first second same =
      let one : EntryLine d ≡ EntryLine e = says_one setup.protocol accepted (EntryLine d) (EntryLine e) first second same in cc

  pub entry_then : (e : Entry) (rest : List ℕ) → IsFormedEntry (bare setup.protocol) e → lines_of (line_of setup.protocol e ++ rest) ≡ line_of setup.protocol e ∷ lines_of rest
  entry_then e rest formed = line_then (line_of setup.protocol e) rest (all_end setup.protocol accepted (EntryLine e) formed)

  pub text_lines : (entries : List Entry) (rest : List ℕ) → AreFormed setup.protocol entries → lines_of (entries_text setup.protocol entries ++ rest) ≡ map (line_of setup.protocol) entries ++ lines_of rest
  text_lines [] rest formed = refl
  text_lines (e ∷ entries) rest formed =
      ap lines_of (append_assoc (line_of setup.protocol e) (entries_text setup.protocol entries) rest)
      ∙ entry_then e (entries_text setup.protocol entries ++ rest) (All-head (IsFormedEntry (bare setup.protocol)) e entries formed)
      ∙ ap (λ l. line_of setup.protocol e ∷ l) (text_lines entries rest (All-tail (IsFormedEntry (bare setup.protocol)) e entries formed))

  told_lines : (text : List ℕ) (entries : List Entry) (is : IsToldText setup text entries) → lines_of text ≡ map (line_of setup.protocol) entries ++ lines_of is.closing
  told_lines text entries is = ap lines_of is.is_text ∙ text_lines entries is.closing is.formed

  -- entries whose lines begin with those of others begin with these
  record GoOn (fronts entries : List Entry) (closing more : List (List ℕ)) : Type 0 where
    pub rest : List Entry
    pub whole : entries ≡ fronts ++ rest
    pub lines : map (line_of setup.protocol) rest ++ closing ≡ more

  go_on : (fronts entries : List Entry) (closing more : List (List ℕ)) → AreFormed setup.protocol fronts → AreFormed setup.protocol entries → BeginOtherwise setup.protocol closing
      → map (line_of setup.protocol) entries ++ closing ≡ map (line_of setup.protocol) fronts ++ more → GoOn fronts entries closing more
  go_on [] entries closing more first second otherwise same = record { rest = entries; whole = refl; lines = same }
  go_on (f ∷ fronts) [] closing more first second otherwise same =
      absurd (otherwise f (map (line_of setup.protocol) fronts ++ more) (All-head (IsFormedEntry (bare setup.protocol)) f fronts first) same)
  go_on (f ∷ fronts) (e ∷ entries) closing more first second otherwise same =
      let heads : line_of setup.protocol e ≡ line_of setup.protocol f = cc in
      let tails : map (line_of setup.protocol) entries ++ closing ≡ map (line_of setup.protocol) fronts ++ more = cc in
      let one = one_entry e f (All-head (IsFormedEntry (bare setup.protocol)) e entries second) (All-head (IsFormedEntry (bare setup.protocol)) f fronts first) heads in
      let on = go_on fronts entries closing more (All-tail (IsFormedEntry (bare setup.protocol)) f fronts first) (All-tail (IsFormedEntry (bare setup.protocol)) e entries second) otherwise tails in
      record { rest = on.rest; whole = ap₂ (λ x xs. x ∷ xs) one on.whole; lines = on.lines }

  -- ---- told entries have a text

  abbrev told_by : List Entry → Remembered
  told_by entries = told (terms_for setup) entries

  closed : (entries : List Entry) → (text : List ℕ) × IsClosing setup.protocol (told_by entries) text
  closed entries = closing_exists setup.protocol (told_by entries) (proper (text_of setup) (roles_of setup) accepted.form) (sized (terms_for setup) entries)

  begins_by : (entries : List Entry) (closing : List ℕ) (lines more : List (List ℕ)) → AreFormed setup.protocol entries → IsRetold (terms_for setup) entries → IsClosing setup.protocol (told_by entries) closing
      → map (line_of setup.protocol) entries ++ lines_of closing ≡ lines ++ more → MayBegin setup lines
  begins_by entries closing lines more formed retold closes same = record {
    text = entries_text setup.protocol entries ++ closing;
    entries = entries;
    is_told = record { formed = formed; retold = retold; closing = closing; closes = closes; is_text = refl };
    more = more;
    begins = text_lines entries closing formed ∙ same;
  }

  pub has_text : (entries : List Entry) → AreFormed setup.protocol entries → IsRetold (terms_for setup) entries → (text : List ℕ) × IsToldText setup text entries
  has_text entries formed retold =
      let end = closed entries in
      (entries_text setup.protocol entries ++ end.0, record { formed = formed; retold = retold; closing = end.0; closes = end.1; is_text = refl })

  -- a text has one list of entries
  pub one_list : (text : List ℕ) (a b : List Entry) → IsToldText setup text a → IsToldText setup text b → a ≡ b
  one_list text a b x y = by_rest on.rest refl
    where
      on : GoOn b a (lines_of x.closing) (lines_of y.closing)
      on = go_on b a (lines_of x.closing) (lines_of y.closing) y.formed x.formed (closing_otherwise setup (told_by a) x.closing x.closes) (sym (told_lines text a x) ∙ told_lines text b y)

      by_rest : (more : List Entry) → on.rest ≡ more → a ≡ b
      by_rest [] none = on.whole ∙ ap (λ l. b ++ l) none ∙ append-nil b
      by_rest (e ∷ more) some = absurd (closing_otherwise setup (told_by b) y.closing y.closes e (map (line_of setup.protocol) more ++ lines_of x.closing)
          (all_at (IsFormedEntry (bare setup.protocol)) b e more (subst (AreFormed setup.protocol) (on.whole ∙ ap (λ l. b ++ l) some) x.formed))
          (sym (ap (λ l. map (line_of setup.protocol) l ++ lines_of x.closing) (sym some) ∙ on.lines)))

  module _ (text : List ℕ) (entries : List Entry) (rest : List ℕ) (formed : AreFormed setup.protocol entries) (is_text : text ≡ entries_text setup.protocol entries ++ rest) where
    abbrev lines : List Entry → List (List ℕ)
    lines es = map (line_of setup.protocol) es

    all_lines : lines_of text ≡ lines entries ++ lines_of rest
    all_lines = ap lines_of is_text ∙ text_lines entries rest formed

    count : length (lines_of text) ≡ length entries + length (lines_of rest)
    count = ap length all_lines ∙ length-append (lines entries) (lines_of rest) ∙ ap (λ n. n + length (lines_of rest)) (length-map entries (line_of setup.protocol))

    past : (i : ℕ) → take (length entries + i) (lines_of text) ≡ lines entries ++ take i (lines_of rest)
    past i =
        ap (take (length entries + i)) all_lines
        ∙ ap (λ n. take (n + i) (lines entries ++ lines_of rest)) (sym (length-map entries (line_of setup.protocol)))
        ∙ take-append-add (lines entries) (lines_of rest) i

    -- ---- an entry that may not be told

    module _ (k : ℕ) (untold : IsFirstUntold (terms_for setup) entries k) where
      cut : IsCut entries k
      cut = cut_at entries k untold.inside

      abbrev before : List Entry
      before = take k entries

      before_formed : AreFormed setup.protocol before
      before_formed = All-take (IsFormedEntry (bare setup.protocol)) k entries formed

      many : length before ≡ k
      many = length-take-le k entries (let low = untold.inside in omega (arith, low))

      -- the lines up to it
      upto : take (k + 1) (lines_of text) ≡ lines (before ++ cut.here ∷ [])
      upto =
          ap (take (k + 1)) (all_lines ∙ ap (λ es. lines es ++ lines_of rest) (cut.whole ∙ sym (append_assoc before (cut.here ∷ []) cut.rest)) ∙ ap (λ l. l ++ lines_of rest) (map-append (line_of setup.protocol) (before ++ cut.here ∷ []) cut.rest) ∙ append_assoc (lines (before ++ cut.here ∷ [])) (lines cut.rest) (lines_of rest))
          ∙ ap (λ n. take n (lines (before ++ cut.here ∷ []) ++ (lines cut.rest ++ lines_of rest))) (sym long)
          ∙ take-append-add (lines (before ++ cut.here ∷ [])) (lines cut.rest ++ lines_of rest) 0
          ∙ append-nil (lines (before ++ cut.here ∷ []))
        where
          long : length (lines (before ++ cut.here ∷ [])) + 0 ≡ k + 1
          long = omega (arith, many, length-map (before ++ cut.here ∷ []) (line_of setup.protocol), length-append before (cut.here ∷ []))

      upto_formed : AreFormed setup.protocol (before ++ cut.here ∷ [])
      upto_formed = all_front (IsFormedEntry (bare setup.protocol)) (before ++ cut.here ∷ []) cut.rest
          (subst (AreFormed setup.protocol) (cut.whole ∙ sym (append_assoc before (cut.here ∷ []) cut.rest)) formed)

      lines_before : take k (lines_of text) ≡ lines before
      lines_before =
          ap (take k) (all_lines ∙ ap (λ es. lines es ++ lines_of rest) cut.whole ∙ ap (λ l. l ++ lines_of rest) (map-append (line_of setup.protocol) before (cut.here ∷ cut.rest)) ∙ append_assoc (lines before) (lines (cut.here ∷ cut.rest)) (lines_of rest))
          ∙ ap (λ n. take n (lines before ++ (lines (cut.here ∷ cut.rest) ++ lines_of rest))) (sym long)
          ∙ take-append-add (lines before) (lines (cut.here ∷ cut.rest) ++ lines_of rest) 0
          ∙ append-nil (lines before)
        where
          long : length (lines before) + 0 ≡ k
          long = omega (arith, many, length-map before (line_of setup.protocol))

      no_told : MayBegin setup (take (k + 1) (lines_of text)) → ⊥
      no_told begins =
          let is = begins.is_told in
          let same : lines begins.entries ++ lines_of is.closing ≡ lines (before ++ cut.here ∷ []) ++ begins.more = sym (told_lines begins.text begins.entries is) ∙ begins.begins ∙ ap (λ l. l ++ begins.more) upto in
          let on = go_on (before ++ cut.here ∷ []) begins.entries (lines_of is.closing) begins.more upto_formed is.formed (closing_otherwise setup _ is.closing is.closes) same in
          untold.wrong cut.here cut.there
          (retold_at (terms_for setup) (nothing_told (terms_for setup).roles) before cut.here on.rest
          (subst (IsRetold (terms_for setup)) (on.whole ∙ append_assoc before (cut.here ∷ []) on.rest) is.retold))

      pub wrong_entry : IsFirstWrong setup text (k + 1)
      wrong_entry = record {
        first = omega arith;
        before =
            let back : k + 1 - 1 ≡ k = omega arith in
            let end = closed before in
            subst (MayBegin setup) (sym (ap (λ n. take n (lines_of text)) back ∙ lines_before))
            (begins_by before end.0 (lines before) (lines_of end.0) before_formed untold.before end.1 refl);
        wrong = inl (let low = untold.inside in omega (arith, low, count), no_told);
      }

    -- ---- a closing that isn't the right one

    module _ (retold : IsRetold (terms_for setup) entries) (otherwise : BeginOtherwise setup.protocol (lines_of rest)) (closing : List ℕ) (closes : IsClosing setup.protocol (told_by entries) closing) where
      -- a told text whose lines go on so is that of these entries
      same_closing : (other : List ℕ) (more : List Entry) (es : List Entry) → es ≡ entries ++ more → more ≡ [] → IsClosing setup.protocol (told_by es) other → other ≡ closing
      same_closing other more es whole none is =
          one_closing setup.protocol (told_by entries) other closing
          (subst (λ l. IsClosing setup.protocol (told_by l) other) (whole ∙ ap (λ l. entries ++ l) none ∙ append-nil entries) is) closes

      pub right : rest ≡ closing → IsToldText setup text entries
      right same = record { formed = formed; retold = retold; closing = closing; closes = closes; is_text = is_text ∙ ap (λ l. entries_text setup.protocol entries ++ l) same }

      module _ (j : ℕ) (differs : IsFirstOther rest closing j) where
        -- no told text has the same lines up to the one that differs
        module _ (low : j ≤ length (lines_of rest)) (other : take j (lines_of rest) ≡ take j (lines_of closing) → ⊥) (begins : MayBegin setup (take (length entries + j) (lines_of text))) where
          begun_same : lines begins.entries ++ lines_of begins.is_told.closing ≡ lines entries ++ (take j (lines_of rest) ++ begins.more)
          begun_same =
              sym (told_lines begins.text begins.entries begins.is_told) ∙ begins.begins ∙ ap (λ l. l ++ begins.more) (past j)
              ∙ append_assoc (lines entries) (take j (lines_of rest)) begins.more

          begun : GoOn entries begins.entries (lines_of begins.is_told.closing) (take j (lines_of rest) ++ begins.more)
          begun = go_on entries begins.entries (lines_of begins.is_told.closing) (take j (lines_of rest) ++ begins.more) formed begins.is_told.formed
              (closing_otherwise setup _ begins.is_told.closing begins.is_told.closes) begun_same

          begun_by : (more : List Entry) → begun.rest ≡ more → ⊥
          begun_by [] none = other (front_take j (lines_of rest) begins.more (lines_of closing) low
              (ap lines_of (sym (same_closing begins.is_told.closing begun.rest begins.entries begun.whole none begins.is_told.closes))
              ∙ ap (λ es. lines es ++ lines_of begins.is_told.closing) (sym none) ∙ begun.lines))
          begun_by (x ∷ xs) some = no_entry setup x (lines xs ++ lines_of begins.is_told.closing) j (lines_of rest) begins.more differs.first low
              (all_at (IsFormedEntry (bare setup.protocol)) entries x xs (subst (AreFormed setup.protocol) (begun.whole ∙ ap (λ l. entries ++ l) some) begins.is_told.formed))
              otherwise (ap (λ es. lines es ++ lines_of begins.is_told.closing) (sym some) ∙ begun.lines)

          none_begins : ⊥
          none_begins = begun_by begun.rest refl

        -- nor is this one told
        module _ (other : rest ≡ closing → ⊥) (es : List Entry) (is : IsToldText setup text es) where
          whole_same : lines es ++ lines_of is.closing ≡ lines entries ++ lines_of rest
          whole_same = sym (told_lines text es is) ∙ all_lines

          whole_on : GoOn entries es (lines_of is.closing) (lines_of rest)
          whole_on = go_on entries es (lines_of is.closing) (lines_of rest) formed is.formed (closing_otherwise setup _ is.closing is.closes) whole_same

          whole_by : (more : List Entry) → whole_on.rest ≡ more → ⊥
          whole_by [] none = other (same_text rest closing (sym
              (ap lines_of (sym (same_closing is.closing whole_on.rest es whole_on.whole none is.closes))
              ∙ ap (λ l. lines l ++ lines_of is.closing) (sym none) ∙ whole_on.lines)))
          whole_by (x ∷ xs) some = otherwise x (lines xs ++ lines_of is.closing)
              (all_at (IsFormedEntry (bare setup.protocol)) entries x xs (subst (AreFormed setup.protocol) (whole_on.whole ∙ ap (λ l. entries ++ l) some) is.formed))
              (sym (ap (λ l. lines l ++ lines_of is.closing) (sym some) ∙ whole_on.lines))

          none_whole : ⊥
          none_whole = whole_by whole_on.rest refl

        pub wrong_rest : IsFirstWrong setup text (length entries + j)
        wrong_rest = record {
          first = let a = differs.first in omega (arith, a);
          before =
              let back : length entries + j - 1 ≡ length entries + (j - 1) = (let a = differs.first in omega (arith, a)) in
              subst (MayBegin setup) (sym (ap (λ n. take n (lines_of text)) back ∙ past (j - 1)))
              (begins_by entries closing (lines entries ++ take (j - 1) (lines_of rest)) (drop (j - 1) (lines_of closing)) formed retold closes
              (ap (λ l. lines entries ++ l) (sym (take-append-drop (j - 1) (lines_of closing)) ∙ ap (λ l. l ++ drop (j - 1) (lines_of closing)) (sym differs.before))
              ∙ sym (append_assoc (lines entries) (take (j - 1) (lines_of rest)) (drop (j - 1) (lines_of closing)))));
          wrong = ⊎_elim
              (λ w. inl (let low = w.0 in omega (arith, low, count), λ begins. none_begins w.0 w.1 begins))
              (λ w. inr (let end = w.0 in omega (arith, end, count), λ es is. none_whole w.1 es is))
              differs.other;
        }
