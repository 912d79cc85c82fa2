-- The picture of what a session's crashes cost.
use Rattle.std.specs.Prelude.{◌≡◌, List, ◌∷◌, map}
use Rattle.rcv_picture.specs.declared.shape.Shape.{Shape}
use Rattle.rcv_picture.specs.declared.group.Group.{Group}
use Rattle.rcv_picture.specs.declared.picture.Picture.{Picture}
use Rattle.rcv_session.specs.Session.{SessionView}
use Rattle.rcv_costs.specs.declared.numbers.Costs.{Costs}
use Rattle.rcv_costs.specs.Costs.{AreCosts}
use Rattle.rcv_losses.specs.LossText.{cost_text}
use Rattle.rcv_heat.specs.Heat.{titles_of, ShowsCosts}
use Rattle.rcv_heat.specs.Words.{SaysCosts}

-- The first group has these shapes.
pub record HasWordsFirst (shapes : List Shape) (groups : List Group) : Type 0 where
  pub words : Group
  pub others : List Group
  pub first : groups ≡ words ∷ others
  pub are : words.shapes.items ≡ shapes

-- The picture shows what the session's crashes cost: a cell for each, with the line of its cost as its title, and in words what the
-- crashes of each role come to and what restarting everybody would cost.
pub record IsFailuresPicture (session : SessionView) (picture : Picture) : Type 0 where
  pub costs : Costs
  pub are : AreCosts session costs
  pub titles : titles_of picture ≡ map (cost_text session) costs.list.items
  pub cells : ShowsCosts session costs picture
  pub words : SaysCosts session costs picture
