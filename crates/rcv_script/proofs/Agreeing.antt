-- A step goes on, or stops with a code, only where the grammar has the symbol.
use Rattle.std.proofs.Common.{◌≡◌, ℕ, Bool, true, false, cond, codes, List, [], ◌∷◌, refl, sym, ap, subst, ◌∙◌}
use Rattle.std.proofs.Common.{append_assoc, append-nil, inl, inr, arith, Option, Some, None, bytes_eq}
use Rattle.std.proofs.lemmas.Bool.Decides.{nat_tests}
use Rattle.std.proofs.lemmas.Slice.Eq.{bytes_eq-Decides}
use Rattle.rcv_tree.specs.Names.{place_of}
use Rattle.rcv_model.specs.Script.{Expr, TheValue, TheAttempt, Variable, Less, AtMost, Same, Differ, More, AtLeast, Line}
use Rattle.rcv_script.specs.declared.sign.Sign.TheVariants as signs
use Rattle.rcv_script.specs.declared.fault.Fault.{Fault}
use Rattle.rcv_script.specs.declared.fault.Fault.TheVariants as faults
use Rattle.rcv_script.specs.declared.words.LineKind.{LineKind}
use Rattle.rcv_script.specs.declared.words.LineKind.TheVariants as kinds
use Rattle.rcv_script.specs.Symbols.{Symbol, Is, Word, Number}
use Rattle.rcv_script.specs.Grammar.{Digits, Named, Signed, Inside, NoAtom, TimesAtom, NoProduct, PlusProduct}
use Rattle.rcv_script.specs.Grammar.{MinusProduct, SumOf, VarText, SendText, PickText, WhenText, OnText, line_text}
use Rattle.rcv_script.specs.Meaning.{word_says, line_says, names_behind, lines_say}
use Rattle.rcv_script.specs.Machine.{Place, Writing, Item, Scripts, Lines, ALine, This, AWord, ASigned, ANumber}
use Rattle.rcv_script.specs.Machine.{AnEnd, ATest, AnAtom, Factors, Terms, Outcome, On, Wrong, unless, line_fault}
use Rattle.rcv_script.specs.Machine.{line_behind, line_by, line, kind_of, with_line, script_of, word_atom, variable}
use Rattle.rcv_script.specs.Machine.{meets, step}
use Rattle.rcv_script.proofs.Deriving.{AllLines, Derives, completion}
use Rattle.rcv_script.proofs.Stops.{meets_only}

-- what is awaited behind the symbol derives what was awaited derives behind it
abbrev pub Agrees : Outcome → Item → Symbol → Type 0
Agrees (On j) i t = (ts : List Symbol) (ss : AllLines) → Derives j ts ss → Derives i (t ∷ ts) ss
Agrees (Wrong faults.Token) i t = Unit {0}
Agrees (Wrong f) i t = (ts : List Symbol) × (ss : AllLines) × Derives i (t ∷ ts) ss

unless_agrees : (o : Option Fault) (j i : Item) (t : Symbol) → Agrees (On j) i t → Agrees (unless o (On j)) i t
unless_agrees None j i t a = a
unless_agrees (Some faults.Token) j i t a = tt
unless_agrees (Some _) j i t a = let r = completion j in (r.0, r.1, a r.0 r.1 r.2)

cond_agrees : (b : Bool) (j i : Item) (t : Symbol) → (b ≡ true → Agrees (On j) i t) → Agrees (cond b (On j) (Wrong faults.Token)) i t
cond_agrees true j i t a = a refl
cond_agrees false j i t a = tt

-- what is said of one item holds of one that derives more
through : (o : Outcome) (i j : Item) (t : Symbol) → ((ts : List Symbol) (ss : AllLines) → Derives j ts ss → Derives i ts ss)
    → Agrees o j t → Agrees o i t
through (On n) i j t e a = λ ts ss d. e (t ∷ ts) ss (a ts ss d)
through (Wrong faults.Token) i j t e a = tt
through (Wrong _) i j t e a = (a.0, a.1, e (t ∷ a.0) a.1 a.2)

-- ---- expressions

word_agrees : (p : Place) (w : List ℕ) (k : Expr → Item) → Agrees (word_atom p w k) (AnAtom p k) (Word w)
word_agrees p w k = go (bytes_eq w (codes "value")) (bytes_eq w (codes "attempt")) (place_of p.names w) refl refl refl
  where
    said : (e : Expr) → word_says p.names w ≡ e → Agrees (On (k e)) (AnAtom p k) (Word w)
    said e is = λ ts ss d. (Named w, ts, refl, subst (λ (x : Expr). Derives (k x) ts ss) (sym is) d)

    go : (v a : Bool) (o : Option ℕ) → bytes_eq w (codes "value") ≡ v → bytes_eq w (codes "attempt") ≡ a → place_of p.names w ≡ o
        → Agrees (cond v (unless p.value (On (k TheValue))) (cond a (unless p.attempt (On (k TheAttempt))) (variable o k)))
        (AnAtom p k) (Word w)
    go true a o ev ea eo = unless_agrees p.value (k TheValue) (AnAtom p k) (Word w) (said TheValue (rw ev refl))
    go false true o ev ea eo = unless_agrees p.attempt (k TheAttempt) (AnAtom p k) (Word w) (said TheAttempt (rw (ev, ea) refl))
    go false false None ev ea eo = let r = completion (k (word_says p.names w)) in (r.0, r.1, (Named w, r.0, refl, r.2))
    go false false (Some n) ev ea eo = said (Variable n) (rw (ev, ea, eo) refl)

-- ---- lines and scripts

abbrev pub first_word : LineKind → List ℕ
first_word kinds.Var = codes "var"
first_word kinds.Send = codes "send"
first_word kinds.Pick = codes "pick"
first_word kinds.On = codes "on"

word_of_kind : (w : List ℕ) (c : LineKind) → kind_of w ≡ Some c → first_word c ≡ w
word_of_kind w kinds.Var e = sym ((bytes_eq-Decides w _).0 (grind (arith, nat_tests)))
word_of_kind w _ e = sym ((bytes_eq-Decides w _).0 (grind (arith, nat_tests)))

behind_agrees : (s : Writing) (k : List (List ℕ) × Line → Item) (c : LineKind)
    → Agrees (On (line_behind s c k)) (ALine s k) (Word (first_word c))
behind_agrees s k kinds.Var ts ss (n, us, e, (vs, f, (below, m, ws, g, (xs, h, d)))) = (VarText n below m, xs, cc, d)
behind_agrees s k kinds.Send ts ss (l, us, e, (vs, f, (a, ws, g, (atoms, xs, h, (more, ys, i, (zs, j, d)))))) =
    (SendText l (SumOf a atoms more), zs, cc, d)
behind_agrees s k kinds.Pick ts ss (l, us, e, inl (vs, f, d)) = (PickText l, vs, cc, d)
behind_agrees s k kinds.Pick ts ss
    (l, us, e, inr (vs, f, (a, ws, g, (b, xs, h, (c, ys, i, (t, zs, j, (x, ps, m, (y, qs, n, (z, rs, o, (us', q, d)))))))))) =
    (WhenText l (SumOf a b c) t (SumOf x y z), us', cc, d)
behind_agrees s k kinds.On ts ss (l, us, e, (vs, f, (n, ws, g, (xs, h, (a, ys, i, (atoms, zs, j, (more, ps, m, (qs, o, d)))))))) =
    (OnText l n (SumOf a atoms more), qs, cc, d)

line_agrees : (s : Writing) (t : Symbol) (k : List (List ℕ) × Line → Item) → Agrees (line s t k) (ALine s k) t
line_agrees s (Word w) k = go (kind_of w) refl
  where
    go : (o : Option LineKind) → kind_of w ≡ o → Agrees (line_by s o k) (ALine s k) (Word w)
    go None e = tt
    go (Some c) e = unless_agrees (line_fault s.names s.lines c) (line_behind s c k) (ALine s k) (Word w)
        (subst (λ (z : List ℕ). Agrees (On (line_behind s c k)) (ALine s k) (Word z)) (word_of_kind w c e) (behind_agrees s k c))
line_agrees s _ k = tt

one_more : (s : Writing) (k : List Line → Item) (ts : List Symbol) (ss : AllLines) → Derives (ALine s (λ x. Lines (with_line s x) k)) ts ss
    → Derives (Lines s k) ts ss
one_more s k ts ss (w, us, e, (ws, vs, f, d)) =
    let gathered = append_assoc s.lines (line_says s.names w ∷ []) (lines_say (names_behind s.names w) ws) in
    (w ∷ ws, vs, e ∙ ap (line_text w) f, subst (λ (z : List Line). Derives (k z) vs ss) gathered d)

pub agrees : (t : Symbol) (i : Item) → Agrees (step i t) i t
agrees (Word w) (Scripts known) = cond_agrees (bytes_eq w (codes "role")) (script_of known) (Scripts known) (Word w)
    (λ is ts ss (n, us, e, (vs, f, (ls, ws, g, (xs, h, said)))).
    let role = (bytes_eq-Decides w (codes "role")).0 is in (record { role = n; lines = ls } ∷ xs, cc, said))
agrees (Is signs.Close) (Lines s k) =
    λ ts ss d. ([], ts, refl, subst (λ (z : List Line). Derives (k z) ts ss) (sym (append-nil s.lines)) d)
agrees t (Lines s k) = through (line s t (λ x. Lines (with_line s x) k)) (Lines s k) (ALine s (λ x. Lines (with_line s x) k)) t
    (one_more s k) (line_agrees s t (λ x. Lines (with_line s x) k))
agrees t (ALine s k) = line_agrees s t k
agrees t (This m k) = cond_agrees (meets t m) k (This m k) t (λ is ts ss d. let same = meets_only t m is in (ts, cc, d))
agrees (Word w) (AWord fault k) = unless_agrees (fault w) (k w) (AWord fault k) (Word w) (λ ts ss d. (w, ts, refl, d))
agrees (Is signs.Minus) (ASigned k) = λ ts ss (n, us, e, d). (true, n, us, cc, d)
agrees (Number n) (ASigned k) = λ ts ss d. (false, n, ts, refl, d)
agrees (Number n) (ANumber k) = λ ts ss d. (n, ts, refl, d)
agrees (Is signs.Semicolon) (AnEnd plain when) = λ ts ss d. inl (ts, refl, d)
agrees (Word w) (AnEnd plain when) = cond_agrees (bytes_eq w (codes "when")) when (AnEnd plain when) (Word w)
    (λ is ts ss d. let same = (bytes_eq-Decides w (codes "when")).0 is in inr (ts, cc, d))
agrees (Is signs.Less) (ATest k) = λ ts ss d. (Less, ts, refl, d)
agrees (Is signs.AtMost) (ATest k) = λ ts ss d. (AtMost, ts, refl, d)
agrees (Is signs.Same) (ATest k) = λ ts ss d. (Same, ts, refl, d)
agrees (Is signs.Differ) (ATest k) = λ ts ss d. (Differ, ts, refl, d)
agrees (Is signs.More) (ATest k) = λ ts ss d. (More, ts, refl, d)
agrees (Is signs.AtLeast) (ATest k) = λ ts ss d. (AtLeast, ts, refl, d)
agrees (Number n) (AnAtom p k) = λ ts ss d. (Digits n, ts, refl, d)
agrees (Word w) (AnAtom p k) = word_agrees p w k
agrees (Is signs.Minus) (AnAtom p k) =
    unless_agrees _ _ (AnAtom p k) (Is signs.Minus) (λ ts ss (a, us, e, d). (Signed a, us, cc, d))
agrees (Is signs.Left) (AnAtom p k) = unless_agrees _ _ (AnAtom p k) (Is signs.Left)
    (λ ts ss (a, vs, e, (atoms, ws, f, (more, us, g, (xs, h, d)))). (Inside (SumOf a atoms more), xs, cc, d))
agrees (Is signs.Times) (Factors p left k) = λ ts ss (a, vs, e, (more, us, f, d)). (TimesAtom a more, us, cc, d)
agrees t (Factors p left k) =
    through (step (k left) t) (Factors p left k) (k left) t (λ ts ss d. (NoAtom, ts, refl, d)) (agrees t (k left))
agrees (Is signs.Plus) (Terms p left k) = λ ts ss (a, vs, e, (b, ws, f, (c, us, g, d))). (PlusProduct a b c, us, cc, d)
agrees (Is signs.Minus) (Terms p l k) = λ ts ss (a, vs, e, (b, ws, f, (c, us, g, d))). (MinusProduct a b c, us, cc, d)
agrees t (Terms p left k) =
    through (step (k left) t) (Terms p left k) (k left) t (λ ts ss d. (NoProduct, ts, refl, d)) (agrees t (k left))
agrees t i = tt
