-- The statements of a protocol's picture: what each is called, in text order.
use Rattle.std.specs.Prelude.{ℕ, ◌==◌, if◌then◌else◌, List, [], ◌∷◌, ◌++◌, map, codes, decimal}
use Rattle.rcv_tree.specs.Names.{name_at}
use Rattle.rcv_model.specs.Text.{Body, End, Single, Choose, Loop, Again, Parallel, Call, Bodies, NoMore, Or}
use Rattle.rcv_model.specs.Places.{SingleMessage, singles, singles_of}
use Rattle.rcv_charts.specs.declared.reach.Reach.{Reach}
use Rattle.rcv_charts.specs.declared.reach.Reach.TheVariants.{Nothing, From}
use Rattle.rcv_charts.specs.MessageTitles.{message_title}

-- The points of a body, and of bodies beside each other, in text order.
abbrev pub message_point : ℕ × SingleMessage → ℕ
message_point m = m.0

abbrev pub points_of : Body → List ℕ
points_of body = map message_point (singles body)

abbrev pub points_beside : Bodies → List ℕ
points_beside bodies = map message_point (singles_of bodies)

-- The first and the last of some points, with one more, and with more.
abbrev pub with_point : Reach → ℕ → Reach
with_point Nothing p = From p p
with_point (From first last) p = From first p

abbrev pub reached : Reach → List ℕ → Reach
reached reach [] = reach
reached reach (p ∷ ps) = reached (with_point reach p) ps

-- `points 2 to 5`, `point 3` or `no point`
abbrev pub reach_text : Reach → List ℕ
reach_text Nothing = codes "no point"
reach_text (From first last) =
    if first == last then codes "point " ++ decimal first else codes "points " ++ decimal first ++ codes " to " ++ decimal last

abbrev pub points_text : List ℕ → List ℕ
points_text points = reach_text (reached Nothing points)

-- `choice at B: points 2 to 5`
abbrev pub choice_title : List (List ℕ) → ℕ → Bodies → List ℕ
choice_title roles subject branches =
    codes "choice at " ++ name_at roles subject ++ codes ": " ++ points_text (points_beside branches)

-- `rec Try: points 1 to 7`, and `continue Try`
abbrev pub rec_title : List ℕ → Body → List ℕ
rec_title name body = codes "rec " ++ name ++ codes ": " ++ points_text (points_of body)

abbrev pub continue_title : List ℕ → List ℕ
continue_title name = codes "continue " ++ name

-- `par: points 4 to 9`
abbrev pub par_title : Bodies → List ℕ
par_title blocks = codes "par: " ++ points_text (points_beside blocks)

-- A block after another: `or: points 4 to 5`, or `and: points 6 to 9`
abbrev pub block_title : List ℕ → Body → List ℕ
block_title word body = word ++ codes ": " ++ points_text (points_of body)

-- The titles of the statements of a body. The title of a frame comes before those of what is in it. An expansion has no calls.
abbrev mutual
  pub statement_titles : List (List ℕ) → Body → List (List ℕ)
  statement_titles roles End = []
  statement_titles roles (Single label sorts s r p rest) =
      message_title roles (p, record { label = label; sorts = sorts; sender = s; receiver = r }) ∷ statement_titles roles rest
  statement_titles roles (Choose s bs rest) = choice_title roles s bs ∷ titles_beside roles (codes "or") bs ++ statement_titles roles rest
  statement_titles roles (Loop name body rest) = rec_title name body ∷ statement_titles roles body ++ statement_titles roles rest
  statement_titles roles (Again name rest) = continue_title name ∷ statement_titles roles rest
  statement_titles roles (Parallel bs rest) = par_title bs ∷ titles_beside roles (codes "and") bs ++ statement_titles roles rest
  statement_titles roles (Call name called rest) = statement_titles roles rest

  -- those of blocks in one frame, with a word in front of each but the first
  pub titles_beside : List (List ℕ) → List ℕ → Bodies → List (List ℕ)
  titles_beside roles word NoMore = []
  titles_beside roles word (Or b bs) = statement_titles roles b ++ titles_behind roles word bs

  pub titles_behind : List (List ℕ) → List ℕ → Bodies → List (List ℕ)
  titles_behind roles word NoMore = []
  titles_behind roles word (Or b bs) = block_title word b ∷ statement_titles roles b ++ titles_behind roles word bs
