-- The crash counts of a plan that was read are as they may be read. This goes by what the reader's steps keep.
use Prim.Native.Nat.{zero, suc}
use Rattle.std.proofs.Common.{◌≡◌, ℕ, ◌<◌, ◌≤◌, List, [], ◌∷◌, ◌++◌, length, arith, length-append, refl, ap, subst}
use Rattle.std.specs.List.{All}
use Rattle.rcv_model.specs.Plan.{PlanLine}
use Rattle.rcv_plan.specs.Symbols.{Symbol}
use Rattle.rcv_plan.specs.Grammar.{Written, WrittenEvery, WrittenCrash, WrittenLimit, WrittenRoom, WrittenHost, item_text}
use Rattle.rcv_plan.specs.Items.{KnownView, Step, Takes, Stops, next_item}
use Rattle.rcv_plan.specs.Lines.{HasReadCount}
use Rattle.rcv_plan.specs.Refusing.{IsRead}
use Rattle.rcv_plan.proofs.Answered.{none, same_lines}
use Rattle.rcv_plan.proofs.Exactly.{SoFar, begin, one_more, item_taken, done, stop, counted}
use Rattle.rcv_plan.proofs.Once.{plans_have_one_answer}

some_text : (w : Written) → 1 ≤ length (item_text w)
some_text (WrittenEvery r n) = omega arith
some_text (WrittenCrash r n) = omega arith
some_text (WrittenLimit n) = omega arith
some_text (WrittenRoom n) = omega arith
some_text (WrittenHost h a b others) = omega arith

shorter : (w : Written) (left new : List Symbol) → left ≡ item_text w ++ new → length new < length left
shorter w left new cut = let some = some_text w in let size = ap length cut in omega (arith, some, size, length-append (item_text w) new)

-- as many items as there are symbols are enough
reading : (enough : ℕ) (roles : List (List ℕ)) (symbols left : List Symbol) (lines : List PlanLine) (k : KnownView) → length left ≤ enough → IsRead roles symbols lines → SoFar roles symbols left k → All HasReadCount lines
reading enough roles symbols [] lines k few read h = subst (λ (l : List PlanLine). All HasReadCount l) (same_lines roles symbols k.lines lines (done roles symbols [] k h refl) read) (counted roles symbols [] k h)
reading zero roles symbols (t ∷ ts) lines k few read h = absurd (omega (arith, few))
reading (suc enough) roles symbols (t ∷ ts) lines k few read h = go (next_item roles k (t ∷ ts)) refl (λ left k' less so_far. reading enough roles symbols left lines k' less read so_far)
  where
    some : t ∷ ts ≡ [] → ⊥
    some e = cc

    go : (step : Step KnownView) → next_item roles k (t ∷ ts) ≡ step → ((left : List Symbol) (k' : KnownView) → length left ≤ enough → SoFar roles symbols left k' → All HasReadCount lines) → All HasReadCount lines
    go (Takes k' new) e others =
        let taken = item_taken roles symbols (t ∷ ts) new k k' h some e in
        let less = shorter taken.0 (t ∷ ts) new taken.1 in
        others new k' (omega (arith, less, few)) (one_more roles symbols (t ∷ ts) new k k' h some e)
    go (Stops f new) e others = absurd (plans_have_one_answer.either roles symbols lines f new read (stop roles symbols (t ∷ ts) new k f h some e))

pub read_is_counted : (roles : List (List ℕ)) (symbols : List Symbol) (lines : List PlanLine) → IsRead roles symbols lines → All HasReadCount lines
read_is_counted roles symbols lines read = reading (length symbols) roles symbols symbols lines none (omega arith) read (begin roles symbols none refl refl)
