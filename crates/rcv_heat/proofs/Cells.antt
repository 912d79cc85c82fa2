-- Cells, one after another.
use Rattle.std.proofs.Common.{◌≡◌, ℕ, ◌+◌, ◌<◌, true, cond, Option, List, [], ◌∷◌, ◌++◌, map, length, take, refl, sym, ◌∙◌, ap, subst}
use Rattle.std.specs.Prelude.{slice_index_or}
use Rattle.std.proofs.lemmas.List.{take_more}
use Rattle.rcv_picture.specs.declared.group.Group.{Group}
use Rattle.rcv_session.specs.Session.{SessionView}
use Rattle.rcv_costs.specs.declared.numbers.Cost.{Cost}
use Rattle.rcv_losses.specs.LossText.{cost_text}
use Rattle.rcv_heat.specs.declared.grid.Grid.{Grid}
use Rattle.rcv_heat.specs.Heat.{IsCell, AreCells, is_titled, titled_in, title_of}

-- a cell at the end
at_end : (session : SessionView) (grid : Grid) (worst : Option Cost) (costs : List Cost) (cells : List Group) (cost : Cost) (cell : Group) → AreCells session grid worst costs cells → IsCell session grid worst cost cell → AreCells session grid worst (costs ++ cost ∷ []) (cells ++ cell ∷ [])
at_end session grid worst [] [] cost cell are here = (here, tt)
at_end session grid worst [] (g ∷ gs) cost cell are here = absurd are
at_end session grid worst (x ∷ xs) [] cost cell are here = absurd are
at_end session grid worst (x ∷ xs) (g ∷ gs) cost cell are here = (are.0, at_end session grid worst xs gs cost cell are.1 here)

pub one_more : (session : SessionView) (grid : Grid) (worst : Option Cost) (costs : List Cost) (i : ℕ) (cost : Cost) (cell : Group) (cells : List Group) → i < length costs → cost ≡ slice_index_or costs i cost → AreCells session grid worst (take i costs) cells → IsCell session grid worst cost cell → AreCells session grid worst (take (i + 1) costs) (cells ++ cell ∷ [])
one_more session grid worst costs i cost cell cells lt e are here =
    subst (λ l. AreCells session grid worst l (cells ++ cell ∷ [])) (sym (take_more costs i cost lt ∙ ap (λ (y : Cost). take i costs ++ y ∷ []) (sym e)))
    (at_end session grid worst (take i costs) cells cost cell are here)

says_something : (session : SessionView) (cost : Cost) → is_titled (cost_text session cost) ≡ true
unfolding Rattle.rcv_losses.specs.LossText.cost_text
says_something session cost = refl

-- each cell has a title: the line of its cost
pub all_titled : (session : SessionView) (grid : Grid) (worst : Option Cost) (costs : List Cost) (cells : List Group) → AreCells session grid worst costs cells → titled_in cells ≡ cells
all_titled session grid worst [] [] are = refl
all_titled session grid worst [] (g ∷ gs) are = absurd are
all_titled session grid worst (x ∷ xs) [] are = absurd are
all_titled session grid worst (x ∷ xs) (g ∷ gs) are =
    let says : is_titled g.title.items ≡ true = ap is_titled are.0.title_is ∙ says_something session x in
    ap (λ b. cond b (g ∷ titled_in gs) (titled_in gs)) says ∙ ap (λ (l : List Group). g ∷ l) (all_titled session grid worst xs gs are.1)

pub their_titles : (session : SessionView) (grid : Grid) (worst : Option Cost) (costs : List Cost) (cells : List Group) → AreCells session grid worst costs cells → map title_of cells ≡ map (cost_text session) costs
their_titles session grid worst [] [] are = refl
their_titles session grid worst [] (g ∷ gs) are = absurd are
their_titles session grid worst (x ∷ xs) [] are = absurd are
their_titles session grid worst (x ∷ xs) (g ∷ gs) are =
    ap (λ (t : List ℕ). t ∷ map title_of gs) are.0.title_is ∙ ap (λ (l : List (List ℕ)). cost_text session x ∷ l) (their_titles session grid worst xs gs are.1)
