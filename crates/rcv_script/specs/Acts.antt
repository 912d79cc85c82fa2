-- Which lines of a script are for a label: their places in text order, the first line's place being 0.
use Rattle.std.specs.Prelude.{◌≡◌, ℕ, suc, Option, Some, List, [], ◌∷◌, ℤ, pos, map, if◌then◌else◌, slice_get, slice_set, bytes_eq}
use Rattle.rcv_model.specs.Script.{Line, SendLine, OnLine, calculate}
use Rattle.rcv_points.specs.Follow.{PointView}

-- For a label: the places of the lines that set a variable, and that of the line that says which number is sent.
pub record ActsView : Type 0 where
  pub on : List ℕ
  pub send : ℕ

-- The places of the lines that set a variable on a label, if the first of all lines stands at this place.
abbrev pub on_places : List ℕ → ℕ → List Line → List ℕ
on_places label place [] = []
on_places label place (OnLine other to expr ∷ lines) =
    if bytes_eq other label then place ∷ on_places label (suc place) lines else on_places label (suc place) lines
on_places label place (_ ∷ lines) = on_places label (suc place) lines

-- The place of the first line that sends with a label; if none does, that after the last line.
abbrev pub send_place : List ℕ → ℕ → List Line → ℕ
send_place label place [] = place
send_place label place (SendLine other expr ∷ lines) = if bytes_eq other label then place else send_place label (suc place) lines
send_place label place (_ ∷ lines) = send_place label (suc place) lines

-- The lines of a script that are for a label.
abbrev pub acts_on : List ℕ → List Line → ActsView
acts_on label lines = record { on = on_places label 0 lines; send = send_place label 0 lines }

-- The lines of a script that are for each point.
abbrev pub acts_by_point : List PointView → List Line → List ActsView
acts_by_point messages lines = map (λ (message : PointView). acts_on message.label lines) messages

-- By role and point: the lines of the role's script that are for the point's label.
pub record IsIndex (scripts : List (List Line)) (messages : List PointView) (acts : List (List ActsView)) : Type 0 where
  pub found : acts ≡ map (acts_by_point messages) scripts

-- The variables after a line that sets one; other lines, or none, set nothing.
abbrev pub set_by : Option Line → ℤ → List ℤ → List ℤ
set_by (Some (OnLine label place expr)) value vars = slice_set vars place (calculate expr vars value 0)
set_by _ value vars = vars

-- The variables after the lines at these places, each seeing the changes of the earlier ones.
abbrev pub set_by_all : List Line → List ℕ → ℤ → List ℤ → List ℤ
set_by_all lines [] value vars = vars
set_by_all lines (place ∷ places) value vars = set_by_all lines places value (set_by (slice_get lines place) value vars)

-- The number that a line sends; 0 for other lines, and for none.
abbrev pub sent_by : Option Line → List ℤ → ℕ → ℤ
sent_by (Some (SendLine label expr)) vars attempt = calculate expr vars (pos 0) attempt
sent_by _ vars attempt = pos 0
