-- The picture of what crashes cost: a row for each role, and in it a cell for each of its crashes with a bar.
use Rattle.std.specs.Prelude.{◌≡◌, ℕ, ◌+◌, ◌-◌, ◌*◌, ◌/◌, ◌<◌, ◌≤◌, ◌==◌, ◌&&◌, min, Bool, true, false, if◌then◌else◌, Option, None, Some, List, [], ◌∷◌, ◌++◌, map}
use Rattle.std.specs.List.{filter}
use Rattle.rcv_picture.specs.declared.look.Look.{Look}
use Rattle.rcv_picture.specs.declared.look.Look.TheVariants.{Box, Zone, BarUndone, Cut}
use Rattle.rcv_picture.specs.declared.shape.Shape.{Shape}
use Rattle.rcv_picture.specs.declared.shape.Shape.TheVariants.{Rect}
use Rattle.rcv_picture.specs.declared.group.Group.{Group}
use Rattle.rcv_picture.specs.declared.picture.Picture.{Picture}
use Rattle.rcv_session.specs.Session.{SessionView}
use Rattle.rcv_costs.specs.declared.numbers.Cost.{Cost}
use Rattle.rcv_costs.specs.declared.numbers.Costs.{Costs}
use Rattle.rcv_losses.specs.Totals.{worst_of}
use Rattle.rcv_losses.specs.LossText.{cost_text}
use Rattle.rcv_heat.specs.declared.grid.Grid.{Grid}

-- The first column isn't far from the left edge, a column is 8 to 40 pixels wide, and the step isn't 0.
pub record IsGrid (grid : Grid) : Type 0 where
  pub near : grid.left ≤ 1000
  pub seen : 8 ≤ grid.wide
  pub narrow : grid.wide ≤ 40
  pub steps : 0 < grid.step

-- The left edge of the column of a count: there is a column for each multiple of the step. A role makes at most 100,000 events.
abbrev pub column_of : Grid → ℕ → ℕ
column_of grid count = grid.left + min (count / grid.step) 100000 * grid.wide

-- The upper edge of the cells of a role, and how high they are.
abbrev pub row_of : ℕ → ℕ
row_of r = 80 + r * 84

abbrev pub cell_height : ℕ
cell_height = 48

-- How high a bar is: so much of the cell as so many are of the kept events.
abbrev pub bar_height : ℕ → ℕ → ℕ
bar_height undone kept = if kept == 0 then 0 else min (undone * cell_height / kept) cell_height

-- A rectangle by its left and its upper edge, its width and its height.
abbrev pub rect : ℕ → ℕ → ℕ → ℕ → Look → Shape
rect x y wide high look =
    Rect (record { x = record { 0 = x }; y = record { 0 = y } }) (record { 0 = wide }) (record { 0 = high }) (record { 0 = 0 }) look

-- The cell of a cost; its tint, within its outline; and the bar, which stands on its bottom.
abbrev pub box_of : Grid → Cost → Shape
box_of grid cost = rect (column_of grid cost.count) (row_of cost.role) grid.wide cell_height Box

abbrev pub tint_of : Grid → Cost → Shape
tint_of grid cost =
    rect (column_of grid cost.count + 1) (row_of cost.role + 1) (grid.wide - 2) (cell_height - 2) Zone

abbrev pub bar_of : Grid → Cost → Shape
bar_of grid cost =
    rect (column_of grid cost.count) (row_of cost.role + (cell_height - bar_height cost.undone cost.kept)) grid.wide
    (bar_height cost.undone cost.kept) BarUndone

-- The mark is a frame around the cell.
abbrev pub mark_of : Grid → Cost → Shape
mark_of grid cost = rect (column_of grid cost.count) (row_of cost.role) grid.wide cell_height Cut

-- The cost is at the worst one's role and count.
abbrev pub is_worst : Option Cost → Cost → Bool
is_worst None cost = false
is_worst (Some worst) cost = (cost.role == worst.role) && (cost.count == worst.count)

-- The tint is there if the crash undoes events, the mark if the cost is the worst.
abbrev pub tints_of : Grid → Cost → List Shape
tints_of grid cost = if cost.undone == 0 then [] else tint_of grid cost ∷ []

abbrev pub marks_of : Grid → Bool → Cost → List Shape
marks_of grid marked cost = if marked then mark_of grid cost ∷ [] else []

abbrev pub shapes_of : Grid → Bool → Cost → List Shape
shapes_of grid marked cost = box_of grid cost ∷ tints_of grid cost ++ bar_of grid cost ∷ marks_of grid marked cost

-- The group is the cell of a cost: its title is the line of the cost, and it has the mark if the cost is the worst.
pub record IsCell (session : SessionView) (grid : Grid) (worst : Option Cost) (cost : Cost) (group : Group) : Type 0 where
  pub title_is : group.title.items ≡ cost_text session cost
  pub shapes_are : group.shapes.items ≡ shapes_of grid (is_worst worst cost) cost

-- There is a cell for each of these costs, in order.
abbrev pub AreCells : SessionView → Grid → Option Cost → List Cost → List Group → Type 0
AreCells session grid worst [] [] = Unit {0}
AreCells session grid worst [] (group ∷ groups) = ⊥
AreCells session grid worst (cost ∷ costs) [] = ⊥
AreCells session grid worst (cost ∷ costs) (group ∷ groups) =
    IsCell session grid worst cost group × AreCells session grid worst costs groups

-- The title says something.
abbrev pub is_titled : List ℕ → Bool
is_titled [] = false
is_titled (b ∷ bs) = true

-- The groups that have a title, in order, and their titles.
abbrev pub titled_in : List Group → List Group
titled_in groups = filter (λ (group : Group). is_titled group.title.items) groups

abbrev pub title_of : Group → List ℕ
title_of group = group.title.items

abbrev pub titles_of : Picture → List (List ℕ)
titles_of picture = map title_of (titled_in picture.groups.items)

-- The picture has a cell for each cost, all on one grid; exactly the cell of the worst cost has the mark.
pub record ShowsCosts (session : SessionView) (costs : Costs) (picture : Picture) : Type 0 where
  pub grid : Grid
  pub is_grid : IsGrid grid
  pub step_is : grid.step ≡ costs.step
  pub cells : AreCells session grid (worst_of costs.list.items) costs.list.items (titled_in picture.groups.items)
