-- What the boxes of a machine's picture are called, and what stands in them.
use Rattle.std.specs.Prelude.{◌≡◌, ℕ, ◌-◌, nat_lt, if◌then◌else◌, List, [], ◌∷◌, ◌++◌, map, length, take, drop, codes, decimal}
use Rattle.std.specs.List.{join_by}
use Rattle.rcv_tree.specs.Names.{name_at}
use Rattle.rcv_picture.specs.declared.group.Group.{Group}
use Rattle.rcv_picture.specs.Names.{ellipsis}
use Rattle.rcv_model.specs.Net.{Net}
use Rattle.rcv_project.specs.Act.{ActView, Sending, Receiving, Ended}
use Rattle.rcv_charts.specs.States.{StateView, next_in}
use Rattle.rcv_charts.specs.Titles.{texts_in}

-- A state, by its places: `places 0, 5`
abbrev pub places_title : List ℕ → List ℕ
places_title places = codes "places " ++ join_by decimal (codes ", ") places

-- What the role does in it, in a word.
abbrev pub act_word : ActView → List ℕ
act_word (Sending points) = codes "sends"
act_word (Receiving from points) = codes "waits"
act_word Ended = codes "done"

-- A label as it is shown: a long one by its first ten bytes, three dots and its last five.
abbrev pub shown_label : List ℕ → List ℕ
shown_label label = if nat_lt 16 (length label) then take 10 label ++ ellipsis ++ drop (length label - 5) label else label

-- A step of a state: `3 ! pack to Store`, or `2 ? order from Buyer`.
abbrev pub step_text : List (List ℕ) → Net → ActView → ℕ → List ℕ
step_text names net (Sending points) z =
    decimal z ++ codes " ! " ++ shown_label (net.label z) ++ codes " to " ++ name_at names (net.receiver z)
step_text names net (Receiving from points) z =
    decimal z ++ codes " ? " ++ shown_label (net.label z) ++ codes " from " ++ name_at names from
step_text names net Ended z = []

-- The steps of a state, one for each next point, in order.
abbrev pub step_texts : List (List ℕ) → Net → ActView → List (List ℕ)
step_texts names net act = map (step_text names net act) (next_in act)

-- The group is the box of the state: its places are its title, and in it stand what the role does, a head, and the steps.
pub record IsBox (names : List (List ℕ)) (net : Net) (state : StateView) (group : Group) : Type 0 where
  pub titled : group.title.items ≡ places_title state.places
  pub head : List ℕ
  pub words : texts_in group.shapes.items ≡ act_word state.act ∷ head ∷ step_texts names net state.act
