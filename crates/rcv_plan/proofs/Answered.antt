-- Each list of symbols is read as one list of lines, or a code holds in it.
use Rattle.std.proofs.Common.{◌≡◌, ℕ, zero, suc, ◌<◌, ◌≤◌, List, [], ◌∷◌, ◌++◌, length, arith, length-append, refl, sym, ap, ◌∙◌, inl, inr}
use Rattle.std.specs.Prelude.{codes, map, if◌then◌else◌}
use Rattle.std.specs.Str.{bytes_eq}
use Rattle.rcv_model.specs.Plan.{PlanLine}
use Rattle.rcv_plan.specs.declared.sign.Sign.{Sign}
use Rattle.rcv_plan.specs.declared.sign.Sign.TheVariants.{Comma}
use Rattle.rcv_plan.specs.Symbols.{Symbol, Word, Is}
use Rattle.rcv_plan.specs.Grammar.{Written, WrittenEvery, WrittenCrash, WrittenLimit, WrittenRoom, WrittenHost, more_roles, item_text, plan_text, said}
use Rattle.rcv_plan.specs.Items.{KnownView, Step, Takes, Stops, next_item}
use Rattle.rcv_plan.specs.Refusing.{IsRead}
use Rattle.rcv_plan.specs.Laws.{IsAnswered}
use Rattle.rcv_plan.proofs.Exactly.{SoFar, begin, one_more, item_taken, done, stop}

-- ---- some answer

some_text : (w : Written) → 1 ≤ length (item_text w)
some_text (WrittenEvery r n) = omega arith
some_text (WrittenCrash r n) = omega arith
some_text (WrittenLimit n) = omega arith
some_text (WrittenRoom n) = omega arith
some_text (WrittenHost h a b qs) = omega arith

shorter : (w : Written) (left new : List Symbol) → left ≡ item_text w ++ new → length new < length left
shorter w left new cut = let some = some_text w in let size = ap length cut in omega (arith, some, size, length-append (item_text w) new)

-- as many items as there are symbols are enough
reading : (enough : ℕ) (roles : List (List ℕ)) (symbols left : List Symbol) (k : KnownView) → length left ≤ enough → SoFar roles symbols left k → IsAnswered roles symbols
reading enough roles symbols [] k few h = inl (k.lines, done roles symbols [] k h refl)
reading zero roles symbols (t ∷ ts) k few h = absurd (omega (arith, few))
reading (suc enough) roles symbols (t ∷ ts) k few h = go (next_item roles k (t ∷ ts)) refl (reading enough roles symbols)
  where
    some : t ∷ ts ≡ [] → ⊥
    some e = cc

    go : (step : Step KnownView) → next_item roles k (t ∷ ts) ≡ step → ((left : List Symbol) (k' : KnownView) → length left ≤ enough → SoFar roles symbols left k' → IsAnswered roles symbols) → IsAnswered roles symbols
    go (Takes k' new) e others =
        let taken = item_taken roles symbols (t ∷ ts) new k k' h some e in
        let less = shorter taken.0 (t ∷ ts) new taken.1 in
        others new k' (omega (arith, less, few)) (one_more roles symbols (t ∷ ts) new k k' h some e)
    go (Stops f new) e others = inr (f, new, stop roles symbols (t ∷ ts) new k f h some e)

abbrev pub none : KnownView
none = record { lines = []; names = [] }

pub answered : (roles : List (List ℕ)) (symbols : List Symbol) → IsAnswered roles symbols
answered roles symbols = reading (length symbols) roles symbols symbols none (omega arith) (begin roles symbols none refl refl)

-- no symbols are the plan without lines
pub none_read : (roles : List (List ℕ)) → IsRead roles [] []
none_read roles = done roles [] [] none (begin roles [] none refl refl) refl

-- ---- one list of lines

-- these symbols begin with no mark
abbrev NoMark : List Symbol → Type 0
NoMark xs = (m : Sign) (ts : List Symbol) → xs ≡ Is m ∷ ts → ⊥

no_mark : (ws : List Written) → NoMark (plan_text ws)
no_mark [] m ts e = cc
no_mark (WrittenEvery r n ∷ ws) m ts e = cc
no_mark (WrittenCrash r n ∷ ws) m ts e = cc
no_mark (WrittenLimit n ∷ ws) m ts e = cc
no_mark (WrittenRoom n ∷ ws) m ts e = cc
no_mark (WrittenHost h a b qs ∷ ws) m ts e = cc

same_roles : (ps qs : List (List ℕ)) (xs ys : List Symbol) → NoMark xs → NoMark ys → more_roles ps ++ xs ≡ more_roles qs ++ ys → (ps ≡ qs) × (xs ≡ ys)
same_roles [] [] xs ys mine other e = (refl, e)
same_roles [] (q ∷ qs) xs ys mine other e = absurd (mine Comma (Word q ∷ more_roles qs ++ ys) e)
same_roles (p ∷ ps) [] xs ys mine other e = absurd (other Comma (Word p ∷ more_roles ps ++ xs) (sym e))
same_roles (p ∷ ps) (q ∷ qs) xs ys mine other e =
    let first : p ≡ q = cc in
    let rest = same_roles ps qs xs ys mine other cc in
    let others = rest.0 in
    (cc, rest.1)

-- which of the five words they begin with
word_at : List Symbol → ℕ
word_at (Word w ∷ ts) = if bytes_eq w (codes "every") then 1 else (if bytes_eq w (codes "crash") then 2 else (if bytes_eq w (codes "limit") then 3 else (if bytes_eq w (codes "room") then 4 else 5)))
word_at ts = 0

same_item : (w v : Written) (xs ys : List Symbol) → NoMark xs → NoMark ys → item_text w ++ xs ≡ item_text v ++ ys → (w ≡ v) × (xs ≡ ys)
unfolding word_at
same_item (WrittenEvery r n) (WrittenEvery s m) xs ys mine other e = (cc, cc)
same_item (WrittenCrash r n) (WrittenCrash s m) xs ys mine other e = (cc, cc)
same_item (WrittenLimit n) (WrittenLimit m) xs ys mine other e = (cc, cc)
same_item (WrittenRoom n) (WrittenRoom m) xs ys mine other e = (cc, cc)
same_item (WrittenHost h a b ps) (WrittenHost i c d qs) xs ys mine other e =
    let name : h ≡ i = cc in
    let first : a ≡ c = cc in
    let second : b ≡ d = cc in
    let rest = same_roles ps qs xs ys mine other cc in
    let others = rest.0 in
    (cc, rest.1)
same_item _ _ xs ys mine other e = let words = ap word_at e in absurd (omega (arith, words))

same_items : (ws vs : List Written) → plan_text ws ≡ plan_text vs → ws ≡ vs
same_items [] [] e = refl
same_items [] (v ∷ vs) e = let some = some_text v in let size = ap length e in absurd (omega (arith, some, size, length-append (item_text v) (plan_text vs)))
same_items (w ∷ ws) [] e = let some = some_text w in let size = ap length e in absurd (omega (arith, some, size, length-append (item_text w) (plan_text ws)))
same_items (w ∷ ws) (v ∷ vs) e =
    let first = same_item w v (plan_text ws) (plan_text vs) (no_mark ws) (no_mark vs) e in
    let others = same_items ws vs first.1 in
    let one = first.0 in
    cc

pub same_lines : (roles : List (List ℕ)) (symbols : List Symbol) (l m : List PlanLine) → IsRead roles symbols l → IsRead roles symbols m → l ≡ m
same_lines roles symbols l m a b = a.said_by ∙ ap (map (said roles)) (same_items a.items b.items (sym a.derived ∙ b.derived)) ∙ sym b.said_by
