-- The lines that are for a label do what all lines do on it.
use Rattle.std.proofs.Common.{◌≡◌, ℕ, suc, ◌-◌, ◌<◌, List, [], ◌∷◌, ℤ, pos, length, get_or, refl, sym, ap, ◌∙◌, slice_get, Some, arith}
use Rattle.std.proofs.lemmas.List.{get_or-map, length-map}
use Rattle.std.proofs.lemmas.Option.{get_or_from_slice_get}
use Rattle.std.proofs.lemmas.Bool.Decides.{nat_tests}
use Rattle.rcv_model.specs.Script.{Line, SendLine, OnLine, carry_out, number_for, Literal, TheValue, Variable, Plus}
use Rattle.rcv_points.specs.Follow.{PointView, message_at, no_message}
use Rattle.rcv_script.specs.Lines.{lines_at}
use Rattle.rcv_script.specs.Scripts.{net_by, HasPoint}
use Rattle.rcv_script.specs.Acts.{ActsView, IsIndex, acts_on, acts_by_point, on_places, send_place, set_by_all, sent_by}

-- ---- the lines that set a variable

-- a line in front moves all places on by one
moved : (label : List ℕ) (front : Line) (all : List Line) (place : ℕ) (lines : List Line) (value : ℤ) (vars : List ℤ)
    → set_by_all (front ∷ all) (on_places label (suc place) lines) value vars ≡ set_by_all all (on_places label place lines) value vars
moved label front all place [] value vars = refl
moved label front all place (OnLine other to expr ∷ lines) value vars =
    let later = moved label front all (suc place) lines value in grind (arith, nat_tests, later)
moved label front all place (_ ∷ lines) value vars = moved label front all (suc place) lines value vars

-- the lines of a label do what all lines do
pub do_all : (label : List ℕ) (lines : List Line) (value : ℤ) (vars : List ℤ)
    → set_by_all lines (on_places label 0 lines) value vars ≡ carry_out label value lines vars
do_all label [] value vars = refl
do_all label (OnLine other to expr ∷ lines) value vars =
    let here = moved label (OnLine other to expr) lines 0 lines value in let later = do_all label lines value in
    grind (arith, nat_tests, here, later)
do_all label (x ∷ lines) value vars = moved label x lines 0 lines value vars ∙ do_all label lines value vars

-- ---- the line that sends

moved_send : (label : List ℕ) (place : ℕ) (lines : List Line) → send_place label (suc place) lines ≡ suc (send_place label place lines)
moved_send label place [] = refl
moved_send label place (SendLine other expr ∷ lines) = let later = moved_send label (suc place) lines in grind (arith, nat_tests, later)
moved_send label place (_ ∷ lines) = moved_send label (suc place) lines

pub send_all : (label : List ℕ) (lines : List Line) (vars : List ℤ) (attempt : ℕ)
    → sent_by (slice_get lines (send_place label 0 lines)) vars attempt ≡ number_for label lines vars attempt
send_all label [] vars attempt = refl
send_all label (SendLine other expr ∷ lines) vars attempt =
    let behind = moved_send label 0 lines in let later = send_all label lines vars attempt in grind (arith, nat_tests, behind, later)
send_all label (x ∷ lines) vars attempt =
    ap (λ (n : ℕ). sent_by (slice_get (x ∷ lines) n) vars attempt) (moved_send label 0 lines) ∙ send_all label lines vars attempt

-- ---- what is filed for a role and a point

module _ (scripts : List (List Line)) (messages : List PointView) (acts : List (List ActsView)) (r : ℕ)
    (row : List ActsView) (index : IsIndex scripts messages acts) (within : r < length scripts)
    (there : row ≡ get_or acts r row) where
  filed_row : row ≡ acts_by_point messages (lines_at scripts r)
  filed_row = there ∙ rw index.found (get_or-map (acts_by_point messages) scripts r [] row within)

  pub filed_points : length row ≡ length messages
  filed_points =
      ap length filed_row ∙ length-map messages (λ (message : PointView). acts_on message.label (lines_at scripts r))

  pub filed : (p : ℕ) (a : ActsView) → HasPoint messages p → slice_get row (p - 1) ≡ Some a
      → a ≡ acts_on ((net_by messages).label p) (lines_at scripts r)
  filed p a (first, last) found =
      let f : PointView → ActsView = λ (message : PointView). acts_on message.label (lines_at scripts r) in
      let at : get_or messages (p - 1) no_message ≡ message_at (record { places = []; messages = messages; choices = []; lanes = []; lane_numbers = [] }) p
      = grind (arith, nat_tests, first) in
      sym (get_or_from_slice_get row (p - 1) a a found) ∙ ap (λ (xs : List ActsView). get_or xs (p - 1) a) filed_row
      ∙ get_or-map f messages (p - 1) no_message a (omega (arith, first, last)) ∙ ap f at

-- ---- worked: three lines on the label 7, of which one sends; the line between them is for another label

abbrev seven : List ℕ
seven = 7 ∷ []

abbrev some_lines : List Line
some_lines =
    OnLine seven 0 (Literal 3) ∷ OnLine (8 ∷ []) 0 (Literal 4) ∷ SendLine seven (Variable 0)
    ∷ OnLine seven 1 (Plus (Variable 0) TheValue) ∷ []

worked :
    (acts_on seven some_lines ≡ record { on = 0 ∷ 3 ∷ []; send = 2 })
    × (acts_on (8 ∷ []) some_lines ≡ record { on = 1 ∷ []; send = 4 })
    × (set_by_all some_lines (0 ∷ 3 ∷ []) (pos 5) (pos 0 ∷ pos 0 ∷ []) ≡ pos 3 ∷ pos 8 ∷ [])
worked = (refl, refl, refl)

one_is_not_all : acts_on seven some_lines ≡ record { on = 0 ∷ []; send = 2 } → ⊥
one_is_not_all e = let places : ◌≡◌ {A = List ℕ} (0 ∷ 3 ∷ []) (0 ∷ []) = ap (λ (a : ActsView). a.on) e in absurd cc
