-- How histories go on.
use Rattle.std.proofs.Common.{◌≡◌, ℕ, List, [], ◌∷◌, append-nil, sym, subst}
use Rattle.rcv_tree.specs.declared.entry.Entry.{Entry}
use Rattle.rcv_guide.specs.Guide.{terms_of, IsAfter, HasForgotten}
use Rattle.rcv_guide.specs.History.{HasHistory}
use Rattle.rcv_guide.proofs.Histories.{histories_go_on, histories_outlast_forgetting}
use Rattle.rcv_guided.specs.Session.{SessionView}
use Rattle.rcv_guided.specs.Histories.{GoesOnBy}

-- Nothing is added where the guide is the same.
pub on_same : (old new : SessionView) → new.guide ≡ old.guide → GoesOnBy old [] new
on_same old new same history has =
    subst (λ (h : List Entry). HasHistory new.guide h) (sym (append-nil history)) (subst (λ g. HasHistory g history) (sym same) has)

-- Something is added behind nothing.
pub on_behind : (old mid new : SessionView) (added : List Entry) → GoesOnBy old [] mid → GoesOnBy mid added new → GoesOnBy old added new
on_behind old mid new added before on history has =
    on history (subst (λ (h : List Entry). HasHistory mid.guide h) (append-nil history) (before history has))

-- One thing is told.
pub on_told : (old new : SessionView) (e : Entry) → IsAfter old.guide new.guide e → terms_of new.guide ≡ terms_of old.guide → GoesOnBy old (e ∷ []) new
on_told old new e after same history has = histories_go_on old.guide new.guide history e after same has

-- Something is forgotten.
pub on_forgotten : (old new : SessionView) (counts : List ℕ) (room : ℕ) → HasForgotten old.guide new.guide counts room → GoesOnBy old [] new
on_forgotten old new counts room forgot history has =
    subst (λ (h : List Entry). HasHistory new.guide h) (sym (append-nil history)) (histories_outlast_forgetting old.guide new.guide history counts room forgot has)
