-- A thing that the grammar has behind the tokens before a refusal goes on with them as some module does, and no other one.
use Rattle.std.proofs.Common.{◌≡◌, ℕ, suc, List, [], ◌∷◌, ◌++◌, length, take, drop, refl, sym, ◌∙◌, ap, subst, arith, length-append, append_assoc, append-nil, Option, Some, None}
use Rattle.std.specs.List.{All}
use Rattle.rcv_tree.specs.Words.{IsWord}
use Rattle.rcv_lexer.specs.declared.token.Kind.{Kind}
use Rattle.rcv_lexer.specs.declared.token.Kind.TheVariants as kinds
use Rattle.rcv_lexer.specs.declared.token.Token.{Token}
use Rattle.rcv_lexer.specs.Tokens.{AreTokens, IsOfKind, bytes_of}
use Rattle.rcv_lexer.specs.Parts.{parts_of}
use Rattle.rcv_lexer.proofs.TokenBytes.{words_are_words}
use Rattle.rcv_lexer.specs.Symbols as scan
use Rattle.rcv_syntax.specs.declared.sign.Sign.{Sign}
use Rattle.rcv_syntax.specs.declared.sign.Sign.TheVariants.{Open, Close, Continue}
use Rattle.rcv_syntax.specs.declared.fault.Fault.{Fault}
use Rattle.rcv_syntax.specs.declared.fault.Fault.TheVariants.{Token as WrongToken, Unguarded}
use Rattle.rcv_syntax.specs.Symbols.{Symbol, Is, Word, reserved, sign_or, symbol_by, symbols_of}
use Rattle.rcv_syntax.specs.Grammar.{IsDerived, IsBeginning}
use Rattle.rcv_syntax.specs.Codes.{IsUnguarded, open_braces, Comes, FromItsStart, IntoRec, IntoChoice, IntoBranch}
use Rattle.rcv_syntax.specs.Refusing.{backward, HoldsAt, IsFirst}
use Rattle.std.proofs.lemmas.List.{map-append, take-append-drop, length-drop}
use Rattle.rcv_syntax.specs.Codes.{code_of}
use Rattle.rcv_found.specs.Grammars.{OfProtocol}
use Rattle.rcv_found.specs.Stops.{IsFirstAt}
use Rattle.rcv_found.proofs.Numbering.{as_many_said}
use Rattle.rcv_listing.specs.Going.{IsTame, ListedGoOn}
use Rattle.rcv_machine.specs.Machine.{Answer, Taken, Refuses, reading}
use Rattle.rcv_machine.specs.Laws.{IsFair, IsFirstWrong, IsSoFar}
use Rattle.rcv_machine.proofs.Exactly.{codes_are_fair, refusal_is_first}

-- ---- the names of a text have letters

abbrev IsSome : Symbol → Type 0
IsSome (Word []) = ⊥
IsSome _ = Unit {0}

abbrev AreSome : List Symbol → Type 0
AreSome [] = Unit {0}
AreSome (s ∷ ss) = IsSome s × AreSome ss

word_some : (o : Option Sign) (bytes : List ℕ) → IsWord bytes → IsSome (sign_or o (Word bytes))
word_some (Some s) bytes w = tt
word_some None [] w = absurd w
word_some None (b ∷ bs) w = tt

some_by : (k : Kind) (bytes : List ℕ) → IsOfKind k bytes → IsSome (symbol_by k bytes)
some_by kinds.Word bytes w = word_some (reserved bytes) bytes w
some_by kinds.Number bytes w = tt
some_by kinds.Text bytes w = tt
some_by kinds.Mark bytes w = tt

all_some : (bundle : List ℕ) (ts : List Token) → All (λ (t : Token). IsOfKind t.kind (bytes_of bundle t)) ts → AreSome (symbols_of bundle ts)
all_some bundle [] h = tt
all_some bundle (t ∷ ts) h =
    (some_by t.kind (bytes_of bundle t) (h 0 t (omega arith)), all_some bundle ts (λ k d l. h (suc k) d (omega (arith, l))))

some_front : (front back : List Symbol) → AreSome (front ++ back) → AreSome front
some_front [] back some = tt
some_front (s ∷ front) back some = (some.0, some_front front back some.1)

some_backward : (front back : List Symbol) → AreSome front → AreSome back → AreSome (backward front back)
some_backward [] back some others = others
some_backward (s ∷ front) back some others = some_backward front (s ∷ back) some.1 (some.0, others)

-- ---- so no walk comes from a recursion whose name has none

abbrev AreAllSome : List (List Symbol) → Type 0
AreAllSome [] = Unit {0}
AreAllSome (ss ∷ others) = AreSome ss × AreAllSome others

others_some : (lists : List (List Symbol)) → AreAllSome lists → AreAllSome (drop 1 lists)
others_some [] some = some
others_some (ss ∷ lists) some = some.1

braces_some : (back : List Symbol) → AreSome back → AreAllSome (open_braces back)
braces_some [] some = tt
braces_some (Is Open ∷ back) some = (some.1, braces_some back some.1)
braces_some (Is Close ∷ back) some = others_some (open_braces back) (braces_some back some.1)
braces_some (_ ∷ back) some = braces_some back some.1

no_walk : (x : List ℕ) (back : List Symbol) → x ≡ [] → Comes x back → AreSome back → ⊥
no_walk x b e (FromItsStart y back) some = subst (λ (w : List ℕ). IsSome (Word w)) e some.1.0
no_walk x b e (IntoRec x' y back c) some = no_walk x back e c some.1.1.1
no_walk x b e (IntoChoice x' a back c) some = no_walk x back e c some.1.1.1.1
no_walk x b e (IntoBranch x' back first braces is c) some =
    no_walk x (Is Open ∷ first) e c (tt, (subst AreAllSome is (braces_some back some.1.1.1)).0)

-- ---- a code before a place doesn't depend on a symbol there that is no name with letters

no_tame_walk : (back : List Symbol) (t : Symbol) (ts : List Symbol) → AreSome back → IsTame t → IsUnguarded back (Is Continue) (t ∷ ts) → ⊥
no_tame_walk back (Word []) ts some tame h = no_walk [] back refl h some
no_tame_walk back (Word (b ∷ bs)) ts some tame h = absurd tame
no_tame_walk back _ ts some tame h = absurd h

walk_moved : (back : List Symbol) (u : Symbol) (others left : List Symbol) (t : Symbol) → AreSome back → IsTame t
    → IsUnguarded back u (others ++ t ∷ []) → IsUnguarded back u (others ++ left)
walk_moved back (Is Continue) (Word x ∷ others) left t some tame h = h
walk_moved back (Is Continue) [] left t some tame h = absurd (no_tame_walk back t [] some tame h)
walk_moved back (Is Continue) (_ ∷ others) left t some tame h = absurd h
walk_moved back _ others left t some tame h = absurd h

moved : (f : Fault) (front : List Symbol) (u : Symbol) (others left : List Symbol) (t : Symbol) → AreSome (backward front []) → IsTame t
    → (f ≡ WrongToken → ⊥) → HoldsAt f front (u ∷ others ++ t ∷ []) → HoldsAt f front (u ∷ others ++ left)
moved WrongToken front u others left t some tame differ h = absurd (differ refl)
moved Unguarded front u others left t some tame differ h = walk_moved (backward front []) u others left t some tame h
moved _ front u others left t some tame differ h = h

-- ---- a refusal before the last symbol

-- Where a cut stands before the last symbol, it cuts what stands before that.
cut_before : (S front : List Symbol) (t u v : Symbol) (vs : List Symbol) → S ++ t ∷ [] ≡ front ++ u ∷ v ∷ vs
    → (others : List Symbol) × (S ≡ front ++ u ∷ others) × (v ∷ vs ≡ others ++ t ∷ [])
cut_before [] front t u v vs e = let long = ap length e in absurd (omega (arith, long, length-append front (u ∷ v ∷ vs)))
cut_before (s ∷ S) [] t u v vs e = let one : s ≡ u = cc in let rest : S ++ t ∷ [] ≡ v ∷ vs = cc in (S, ap (λ (x : Symbol). x ∷ S) one, sym rest)
cut_before (s ∷ S) (x ∷ front) t u v vs e =
    let one : s ≡ x = cc in
    let rest : S ++ t ∷ [] ≡ front ++ u ∷ v ∷ vs = cc in
    let more = cut_before S front t u v vs rest in
    let is : S ≡ front ++ u ∷ more.0 = more.1 in
    (more.0, cc, more.2)

same_front : (xs ys us vs : List Symbol) → xs ++ ys ≡ us ++ vs → length ys ≡ length vs → (xs ≡ us) × (ys ≡ vs)
same_front [] ys [] vs e l = (refl, e)
same_front [] ys (u ∷ us) vs e l = let long = ap length e in absurd (omega (arith, long, length-append us vs, l))
same_front (x ∷ xs) ys [] vs e l = let long = ap length e in absurd (omega (arith, long, length-append xs ys, l))
same_front (x ∷ xs) ys (u ∷ us) vs e l =
    let one : x ≡ u = cc in
    let rest : xs ++ ys ≡ us ++ vs = cc in
    let more = same_front xs ys us vs rest l in
    let front : xs ≡ us = more.0 in
    (cc, more.1)

-- ---- the law

token_fault : (f : Fault) → 11 ≡ code_of f → f ≡ WrongToken
token_fault WrongToken e = refl
token_fault _ e = absurd (omega (arith, e))

-- before a wrong token, or a wrong end, stands a beginning
begun_at : (left front : List Symbol) → HoldsAt WrongToken front left → IsBeginning front
begun_at [] front h = h.0
begun_at (t ∷ ts) front h = h.0

pub goes_on : (S left : List Symbol) (t : Symbol) → AreSome S → IsTame t → IsFirst (S ++ left) WrongToken left
    → (IsFirst (S ++ t ∷ []) WrongToken (t ∷ []) → ⊥) → IsBeginning (S ++ t ∷ [])
goes_on S left t some tame h had = go (reading (S ++ t ∷ [])) refl (codes_are_fair (S ++ t ∷ []))
  where
    same : (S ≡ h.front)
    same = (same_front S left h.front left h.cut refl).0

    begun : IsBeginning S
    begun = subst IsBeginning (sym same) (begun_at left h.front h.holds)

    last : (front : List Symbol) (u : Symbol) → S ++ t ∷ [] ≡ front ++ u ∷ [] → (S ≡ front) × (t ∷ [] ≡ u ∷ [])
    last front u cut = same_front S (t ∷ []) front (u ∷ []) cut refl

    by_grammar : (us : List Symbol) → reading (S ++ t ∷ []) ≡ Refuses WrongToken us → IsFirstWrong (S ++ t ∷ []) us → IsBeginning (S ++ t ∷ [])
    by_grammar [] e w = w.0
    by_grammar (u ∷ []) e w =
        absurd (had (subst (IsFirst (S ++ t ∷ []) WrongToken) (sym (last w.0 u w.1).1) (refusal_is_first (S ++ t ∷ []) WrongToken (u ∷ []) e)))
    by_grammar (u ∷ v ∷ vs) e w =
        let c = cut_before S w.0 t u v vs w.1 in
        let is : S ++ begun.0 ≡ (w.0 ++ u ∷ []) ++ (c.0 ++ begun.0) = ap (λ (ss : List Symbol). ss ++ begun.0) c.1
        ∙ append_assoc w.0 (u ∷ c.0) begun.0 ∙ sym (append_assoc w.0 (u ∷ []) (c.0 ++ begun.0)) in
        absurd (w.3 (c.0 ++ begun.0, subst IsDerived is begun.1))

    by_code : (f : Fault) (us : List Symbol) → (f ≡ WrongToken → ⊥) → reading (S ++ t ∷ []) ≡ Refuses f us → IsSoFar (S ++ t ∷ []) us
        → IsBeginning (S ++ t ∷ [])
    by_code f [] differ e so = absurd so
    by_code f (u ∷ []) differ e so =
        let l = last so.0 u so.1 in
        subst IsBeginning (ap (λ (ss : List Symbol). ss ++ u ∷ []) (sym l.0) ∙ ap (λ (ss : List Symbol). S ++ ss) (sym l.1)) so.2
    by_code f (u ∷ v ∷ vs) differ e so =
        let front = so.0 in
        let c = cut_before S front t u v vs so.1 in
        let first = refusal_is_first (S ++ t ∷ []) f (u ∷ v ∷ vs) e in
        let there = (same_front first.front (u ∷ v ∷ vs) front (u ∷ v ∷ vs) (sym first.cut ∙ so.1) refl).0 in
        let holds : HoldsAt f front (u ∷ c.0 ++ t ∷ []) = subst (λ (ss : List Symbol). HoldsAt f front (u ∷ ss)) c.2
        (subst (λ (ss : List Symbol). HoldsAt f ss (u ∷ v ∷ vs)) there first.holds) in
        absurd (h.first f front u c.0 (sym same ∙ c.1)
        (moved f front u c.0 left t (some_backward front [] (some_front front (u ∷ c.0) (subst AreSome c.1 some)) tt) tame differ holds))

    go : (a : Answer) → reading (S ++ t ∷ []) ≡ a → IsFair (S ++ t ∷ []) a → IsBeginning (S ++ t ∷ [])
    go Taken e d = ([], subst IsDerived (sym (append-nil (S ++ t ∷ []))) d)
    go (Refuses WrongToken us) e w = by_grammar us e w
    go (Refuses f us) e so = by_code f us (λ is. absurd cc) e so

-- ---- the same of tokens

goes_on_said : (input : List ℕ) (tokens : List Token) (place : ℕ) (t : Symbol) → AreTokens input (parts_of input).protocol tokens → IsTame t
    → IsFirstAt OfProtocol input tokens 11 place
    → (IsFirst (symbols_of input (take place tokens) ++ t ∷ []) WrongToken (t ∷ []) → ⊥)
    → IsBeginning (symbols_of input (take place tokens) ++ t ∷ [])
goes_on_said input tokens place t are tame (f, left, first, code, there) had =
    let S = symbols_of input (take place tokens) in
    let is : f ≡ WrongToken = token_fault f code in
    let both : symbols_of input tokens ≡ S ++ symbols_of input (drop place tokens) =
    ap (λ (ts : List Token). symbols_of input ts) (sym (take-append-drop place tokens)) ∙ map-append (scan.symbol_of symbol_by input) (take place tokens) (drop place tokens) in
    let many = as_many_said symbol_by input (drop place tokens) in
    let dropped = length-drop {A = Token} place tokens in
    let rest = same_front first.front left S (symbols_of input (drop place tokens)) (sym first.cut ∙ both) (omega (arith, there, many, dropped)) in
    let cut : symbols_of input tokens ≡ S ++ left = both ∙ ap (λ (ss : List Symbol). S ++ ss) (sym rest.1) in
    let wrong : IsFirst (S ++ left) WrongToken left = subst (λ (ss : List Symbol). IsFirst ss WrongToken left) cut
    (subst (λ (g : Fault). IsFirst (symbols_of input tokens) g left) is first) in
    let some : AreSome S = some_front S (symbols_of input (drop place tokens)) (subst AreSome both (all_some input tokens (words_are_words input (parts_of input).protocol tokens are))) in
    goes_on S left t some tame wrong had

not_had_ends : (S : List Symbol) (t : Symbol) → IsFirst (S ++ t ∷ []) WrongToken (t ∷ []) → IsBeginning (S ++ t ∷ []) → ⊥
not_had_ends S t h on =
    let same = (same_front S (t ∷ []) h.front (t ∷ []) h.cut refl).0 in
    h.holds.1 (subst (λ (ss : List Symbol). IsBeginning (ss ++ t ∷ [])) same on)

pub listed_go_on : ListedGoOn
listed_go_on = record {
  some = λ input tokens place kind bytes are first tame had. goes_on_said input tokens place (symbol_by kind bytes) are tame first had;
  none = λ input front kind bytes not on. not_had_ends (symbols_of input front) (symbol_by kind bytes) not on;
}
