-- The picture of a protocol: where its statements stand.
use Rattle.std.specs.Prelude.{◌≡◌, ◌≤◌, ◌<◌, ◌⊎◌, ℕ, List, [], ◌∷◌, ◌++◌, codes}
use Rattle.rcv_picture.specs.declared.shape.Shape.{Shape}
use Rattle.rcv_picture.specs.declared.shape.Shape.TheVariants.{Line, Rect, Circle, Path, Text}
use Rattle.rcv_picture.specs.declared.group.Group.{Group}
use Rattle.rcv_picture.specs.declared.picture.Picture.{Picture}
use Rattle.rcv_model.specs.Text.{Body, End, Single, Choose, Loop, Again, Parallel, Call, Bodies, NoMore, Or}
use Rattle.rcv_charts.specs.MessageTitles.{message_title}
use Rattle.rcv_charts.specs.Statements.{choice_title, rec_title, continue_title, par_title, block_title}
use Rattle.rcv_charts.specs.Titles.{titled_of}
use Rattle.rcv_charts.specs.Drawn.{DrawingView, further}

-- From which height to which height shapes go. The first of them counts, which is a line downwards, a rectangle or a text.
abbrev pub first_upper : List Shape → ℕ
first_upper [] = 0
first_upper (Line from to look ∷ shapes) = from.y.0
first_upper (Rect corner width height round look ∷ shapes) = corner.y.0
first_upper (Circle center radius look ∷ shapes) = 0
first_upper (Path places look ∷ shapes) = 0
first_upper (Text place anchor look text ∷ shapes) = place.y.0

abbrev pub first_lower : List Shape → ℕ
first_lower [] = 0
first_lower (Line from to look ∷ shapes) = to.y.0
first_lower (Rect corner width height round look ∷ shapes) = further corner.y.0 height.0
first_lower (Circle center radius look ∷ shapes) = 0
first_lower (Path places look ∷ shapes) = 0
first_lower (Text place anchor look text ∷ shapes) = place.y.0

abbrev pub upper : Group → ℕ
upper group = first_upper group.shapes.items

abbrev pub lower : Group → ℕ
lower group = first_lower group.shapes.items

-- A height is further down than another, or as far down as there are pixels.
abbrev pub IsBelow : ℕ → ℕ → Type 0
IsBelow top y = (top ≤ y) × ((top < y) ⊎ (4294967295 ≤ y))

-- The group has the title, and stands further down than this.
pub record Stands (title : List ℕ) (top : ℕ) (group : Group) : Type 0 where
  pub titled : group.title.items ≡ title
  pub below : IsBelow top (upper group)
  pub down : upper group ≤ lower group

-- These groups draw the statements of a body between two heights: each once, in order, and each further down than the one
-- before it. What stands in a frame stands between its upper and its lower edge.
abbrev mutual
  pub Draws : List (List ℕ) → Body → ℕ → List Group → ℕ → Type 0
  Draws roles End top gs bottom = (gs ≡ []) × (top ≤ bottom)
  Draws roles (Single label sorts s r p rest) top gs bottom =
      (g : Group) × (more : List Group) × (gs ≡ g ∷ more)
      × Stands (message_title roles (p, record { label = label; sorts = sorts; sender = s; receiver = r })) top g
      × Draws roles rest (lower g) more bottom
  Draws roles (Choose s bs rest) top gs bottom =
      (g : Group) × (inside : List Group) × (more : List Group) × (gs ≡ g ∷ (inside ++ more)) × Stands (choice_title roles s bs) top g
      × DrawsBlocks roles (codes "or") bs (upper g) inside (lower g) × Draws roles rest (lower g) more bottom
  Draws roles (Loop name body rest) top gs bottom =
      (g : Group) × (inside : List Group) × (more : List Group) × (gs ≡ g ∷ (inside ++ more)) × Stands (rec_title name body) top g
      × Draws roles body (upper g) inside (lower g) × Draws roles rest (lower g) more bottom
  Draws roles (Again name rest) top gs bottom =
      (g : Group) × (more : List Group) × (gs ≡ g ∷ more) × Stands (continue_title name) top g × Draws roles rest (lower g) more bottom
  Draws roles (Parallel bs rest) top gs bottom =
      (g : Group) × (inside : List Group) × (more : List Group) × (gs ≡ g ∷ (inside ++ more)) × Stands (par_title bs) top g
      × (DrawsBlocks roles (codes "and") bs (upper g) inside (lower g) ⊎ DrawsLanes roles bs (upper g) inside (lower g))
      × Draws roles rest (lower g) more bottom
  Draws roles (Call name called rest) top gs bottom = Draws roles rest top gs bottom

  -- blocks, one below the other, with a word above each but the first
  pub DrawsBlocks : List (List ℕ) → List ℕ → Bodies → ℕ → List Group → ℕ → Type 0
  DrawsBlocks roles word NoMore top gs bottom = (gs ≡ []) × (top ≤ bottom)
  DrawsBlocks roles word (Or b bs) top gs bottom =
      (first : List Group) × (others : List Group) × (middle : ℕ) × (gs ≡ first ++ others)
      × Draws roles b top first middle × DrawsBehind roles word bs middle others bottom

  pub DrawsBehind : List (List ℕ) → List ℕ → Bodies → ℕ → List Group → ℕ → Type 0
  DrawsBehind roles word NoMore top gs bottom = (gs ≡ []) × (top ≤ bottom)
  DrawsBehind roles word (Or b bs) top gs bottom =
      (g : Group) × (inside : List Group) × (more : List Group) × (middle : ℕ) × (gs ≡ g ∷ (inside ++ more))
      × Stands (block_title word b) top g × Draws roles b (lower g) inside middle × DrawsBehind roles word bs middle more bottom

  -- lanes beside each other, each between these heights, with a word beside each but the first
  pub DrawsLanes : List (List ℕ) → Bodies → ℕ → List Group → ℕ → Type 0
  DrawsLanes roles NoMore top gs bottom = (gs ≡ []) × (top ≤ bottom)
  DrawsLanes roles (Or b bs) top gs bottom =
      (first : List Group) × (others : List Group) × (middle : ℕ) × (gs ≡ first ++ others)
      × Draws roles b top first middle × (middle ≤ bottom) × DrawsBeside roles bs top others bottom

  pub DrawsBeside : List (List ℕ) → Bodies → ℕ → List Group → ℕ → Type 0
  DrawsBeside roles NoMore top gs bottom = (gs ≡ []) × (top ≤ bottom)
  DrawsBeside roles (Or b bs) top gs bottom =
      (g : Group) × (inside : List Group) × (more : List Group) × (middle : ℕ) × (gs ≡ g ∷ (inside ++ more))
      × Stands (block_title (codes "and") b) top g × (lower g ≤ bottom)
      × Draws roles b top inside middle × (middle ≤ bottom) × DrawsBeside roles bs top more bottom

-- The groups of the picture that have a title draw the statements of the body.
pub record IsChart (roles : List (List ℕ)) (body : Body) (picture : Picture) : Type 0 where
  pub top : ℕ
  pub bottom : ℕ
  pub drawn : Draws roles body top (titled_of picture) bottom
  pub inside : bottom ≤ picture.height.0

-- The groups of a drawing draw the statements of the body.
pub record DrawsAll (roles : List (List ℕ)) (body : Body) (drawing : DrawingView) : Type 0 where
  pub top : ℕ
  pub bottom : ℕ
  pub drawn : Draws roles body top drawing.groups bottom
  pub inside : bottom ≤ drawing.down

-- While it is drawn: the drawing goes on without a new group.
pub record Moves (before after : DrawingView) : Type 0 where
  pub same : after.groups ≡ before.groups
  pub down : before.down ≤ after.down

-- It goes on by a group of this title.
pub record AddsOne (title : List ℕ) (before after : DrawingView) : Type 0 where
  pub group : Group
  pub grown : after.groups ≡ before.groups ++ group ∷ []
  pub stands : Stands title before.down group
  pub down : lower group ≤ after.down

-- It goes on by a frame of this title, in which inner stands.
pub record AddsFrame (title : List ℕ) (inner before after : DrawingView) : Type 0 where
  pub group : Group
  pub grown : after.groups ≡ before.groups ++ group ∷ inner.groups
  pub titled : group.title.items ≡ title
  pub top : upper group ≡ before.down
  pub bottom : lower group ≡ after.down
  pub around : inner.down ≤ after.down

-- It goes on by the statements of a body.
pub record AddsBody (roles : List (List ℕ)) (body : Body) (before after : DrawingView) : Type 0 where
  pub added : List Group
  pub grown : after.groups ≡ before.groups ++ added
  pub drawn : Draws roles body before.down added after.down

-- It goes on by a statement: groups that draw the statements after it then draw all of them, together with its groups.
pub record AddsStatement (roles : List (List ℕ)) (statement : Body → Body) (before after : DrawingView) : Type 0 where
  pub added : List Group
  pub grown : after.groups ≡ before.groups ++ added
  pub drawn :
      (rest : Body) (more : List Group) (bottom : ℕ) → Draws roles rest after.down more bottom
      → Draws roles (statement rest) before.down (added ++ more) bottom

-- It goes on by blocks.
pub record AddsBlocks (roles : List (List ℕ)) (word : List ℕ) (blocks : Bodies) (before after : DrawingView) : Type 0 where
  pub added : List Group
  pub grown : after.groups ≡ before.groups ++ added
  pub drawn : DrawsBlocks roles word blocks before.down added after.down

-- It goes on by a lane from here on, and then goes back up. The lane goes down to that height or less far. The height isn't above another.
pub record AddsLane (roles : List (List ℕ)) (lane : Body) (least bottom : ℕ) (before after : DrawingView) : Type 0 where
  pub added : List Group
  pub grown : after.groups ≡ before.groups ++ added
  pub back : after.down ≡ before.down
  pub middle : ℕ
  pub drawn : Draws roles lane before.down added middle
  pub inside : middle ≤ bottom
  pub further : least ≤ bottom

-- It goes on by lanes beside each other.
pub record AddsBeside (roles : List (List ℕ)) (blocks : Bodies) (before after : DrawingView) : Type 0 where
  pub added : List Group
  pub grown : after.groups ≡ before.groups ++ added
  pub drawn : DrawsLanes roles blocks before.down added after.down

-- It goes on by lanes, one below the other or beside each other.
pub record AddsLanes (roles : List (List ℕ)) (blocks : Bodies) (before after : DrawingView) : Type 0 where
  pub added : List Group
  pub grown : after.groups ≡ before.groups ++ added
  pub drawn :
      DrawsBlocks roles (codes "and") blocks before.down added after.down ⊎ DrawsLanes roles blocks before.down added after.down

-- While blocks are drawn: groups that draw the rest of the blocks further down then draw the whole, together with the groups so far.
pub record SoFar (Whole Rest : ℕ → List Group → ℕ → Type 0) (before after : DrawingView) : Type 0 where
  pub added : List Group
  pub grown : after.groups ≡ before.groups ++ added
  pub drawn : (more : List Group) (bottom : ℕ) → Rest after.down more bottom → Whole before.down (added ++ more) bottom

-- The same of lanes beside each other, which go down to this height so far.
pub record LanesSoFar (roles : List (List ℕ)) (whole rest : Bodies) (end : ℕ) (before after : DrawingView) : Type 0 where
  pub added : List Group
  pub grown : after.groups ≡ before.groups ++ added
  pub back : after.down ≡ before.down
  pub drawn :
      (more : List Group) (bottom : ℕ) → end ≤ bottom → DrawsBeside roles rest before.down more bottom
      → DrawsLanes roles whole before.down (added ++ more) bottom
  pub down : before.down ≤ end
