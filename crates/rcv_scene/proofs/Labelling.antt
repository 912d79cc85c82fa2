-- The labels of events, and where they stand.
use Rattle.std.proofs.Common.{◌≡◌, ℕ, zero, suc, ◌+◌, ◌-◌, ◌<◌, ◌≤◌, ◌==◌, cond, Bool, true, false, Option, Some, None, List, [], ◌∷◌, ◌++◌, length, slice_index_or, codes, refl, sym, ◌∙◌, ap, subst, arith, append_assoc, append-nil}
use Rattle.std.specs.Fmt.{signed_decimal}
use Rattle.rcv_tree.specs.declared.event.Event.{Event}
use Rattle.rcv_tree.specs.declared.event.Dir.{Dir}
use Rattle.rcv_points.specs.Follow.{PointView, PointsView, message_at, no_message}
use Rattle.rcv_picture.specs.Names.{IsShortened}
use Rattle.rcv_picture.specs.declared.pixels.Pixels.{Pixels}
use Rattle.rcv_picture.specs.declared.pixels.At.{At}
use Rattle.rcv_picture.specs.declared.look.Look.{Look}
use Rattle.rcv_picture.specs.declared.look.Look.TheVariants as looks
use Rattle.rcv_picture.specs.declared.shape.Anchor.{Anchor}
use Rattle.rcv_picture.specs.declared.shape.Anchor.TheVariants.{Start, End}
use Rattle.rcv_scene.specs.Seen.{Seen, Stroke, Words, at, further, back, strike_seen}
use Rattle.rcv_scene.specs.Grid.{Scene, column}
use Rattle.rcv_scene.specs.Wires.{again_at}
use Rattle.rcv_scene.specs.Labels.{value_words, IsLabelText, again_words, send_label_look, recv_label_look, IsBeside, to_right, to_left, IsStrike, struck, not_struck, IsTextBeside}
use Rattle.rcv_scene.specs.Labels.{IsSendLabel, IsNote, IsRecvLabel, no_label, labelled}
use Rattle.rcv_scene.specs.Marks.{event_disc, IsLabel, AddsEvent}

-- after the last message there is none
past_messages : (messages : List PointView) (n : ℕ) → length messages ≤ n → slice_index_or messages n no_message ≡ no_message
past_messages [] n past = refl
past_messages (m ∷ messages) zero past = absurd (omega (arith, past))
past_messages (m ∷ messages) (suc n) past = past_messages messages n (omega (arith, past))

either_way : (b : Bool) → cond b no_message no_message ≡ no_message
either_way true = refl
either_way false = refl

-- a point that the text doesn't have
pub none_at_start : (points : PointsView) (p : ℕ) → p ≡ 0 → message_at points p ≡ no_message
none_at_start points p start = ap (message_at points) start

pub none_past_end : (points : PointsView) (p : ℕ) → length points.messages < p → message_at points p ≡ no_message
none_past_end points p past =
    ap (λ (m : PointView). cond (p == 0) no_message m) (past_messages points.messages (p - 1) (omega (arith, past))) ∙ either_way (p == 0)

pub text_alone : (points : PointsView) (event : Event) (value : Bool) (label : List ℕ) → value ≡ (message_at points event.point).payload → value ≡ false
    → IsShortened 16 (message_at points event.point).label label → IsLabelText points event label
text_alone points event value label known none fits =
    record {
      label = label;
      fits = fits;
      is = sym (ap (λ (b : Bool). label ++ value_words b event.value) (sym known ∙ none) ∙ append-nil label);
    }

pub text_with_value : (points : PointsView) (event : Event) (value : Bool) (label text : List ℕ) → value ≡ (message_at points event.point).payload → value ≡ true
    → IsShortened 16 (message_at points event.point).label label → text ≡ label ++ (codes " " ++ signed_decimal event.value)
    → IsLabelText points event text
text_with_value points event value label text known has fits is =
    record {
      label = label;
      fits = fits;
      is = is ∙ sym (ap (λ (b : Bool). label ++ value_words b event.value) (sym known ∙ has));
    }

-- at either side of a column
pub left_of : (x place : Pixels) (anchor : Anchor) (far : ℕ) → 14 ≤ far → place ≡ back x far → anchor ≡ End → IsBeside x place anchor
left_of x place anchor far near is ends = to_left far near is ends

pub right_of : (x place : Pixels) (anchor : Anchor) (far : ℕ) → 14 ≤ far → place ≡ further x far → anchor ≡ Start → IsBeside x place anchor
right_of x place anchor far near is starts = to_right far near is starts

-- a line through a text, or none
pub is_struck : (undone : Bool) (x y end : Pixels) (from to : At) → undone ≡ true → from ≡ at x y → to ≡ at end y
    → IsStrike undone x y (strike_seen (Some (from, to)))
is_struck undone x y end from to so begins ends =
    struck end so (ap (λ (p : At). Stroke p to looks.Strike ∷ []) begins ∙ ap (λ (p : At). Stroke (at x y) p looks.Strike ∷ []) ends)

pub is_not_struck : (undone : Bool) (x y : Pixels) → undone ≡ false → IsStrike undone x y (strike_seen None)
is_not_struck undone x y kept = not_struck kept refl

-- a label at a spot
pub text_is_beside : (x y line start : Pixels) (anchor : Anchor) (place : At) (look : Look) (text : List ℕ) (undone : Bool) (strike : Option (At × At))
    → IsBeside x start anchor → place ≡ at start y → IsStrike undone start line (strike_seen strike)
    → IsTextBeside x y line look text undone (Words place anchor look text ∷ strike_seen strike)
text_is_beside x y line start anchor place look text undone strike beside there through =
    record {
      place = start;
      anchor = anchor;
      strike = strike_seen strike;
      beside = beside;
      through = through;
      is = ap (λ (p : At). Words p anchor look text ∷ strike_seen strike) there;
    }

-- the label of a Send
pub send_labelled : (scene : Scene) (y x high line : Pixels) (event : Event) (undone : Bool) (look : Look) (text : List ℕ) (drawn : List Seen)
    → x ≡ column scene.grid event.role → high ≡ back y 3 → line ≡ back y 7 → look ≡ send_label_look undone
    → IsLabelText scene.points event text → IsTextBeside x high line look text undone drawn → IsSendLabel scene y event undone drawn
send_labelled scene y x high line event undone look text drawn here height through looks_so says there =
    record {
      text = text;
      says = says;
      there =
          subst (λ (p : Pixels). IsTextBeside p (back y 3) (back y 7) (send_label_look undone) text undone drawn) here
          (subst (λ (p : Pixels). IsTextBeside x p (back y 7) (send_label_look undone) text undone drawn) height
          (subst (λ (p : Pixels). IsTextBeside x high p (send_label_look undone) text undone drawn) through
          (subst (λ (l : Look). IsTextBeside x high line l text undone drawn) looks_so there)));
    }

-- the label of a Recv
pub recv_noted : (scene : Scene) (y x high line : Pixels) (event : Event) (undone again : Bool) (look : Look) (label text : List ℕ) (drawn : List Seen)
    → x ≡ column scene.grid event.role → high ≡ further y 4 → line ≡ further y 1 → look ≡ recv_label_look undone again
    → IsLabelText scene.points event label → text ≡ label ++ again_words again
    → IsTextBeside x high line look text undone drawn → IsNote scene y event undone again drawn
recv_noted scene y x high line event undone again look label text drawn here height through looks_so says longer there =
    record {
      text = label;
      says = says;
      there =
          subst (λ (p : Pixels). IsTextBeside p (further y 4) (further y 1) (recv_label_look undone again) (label ++ again_words again) undone drawn) here
          (subst (λ (p : Pixels). IsTextBeside x p (further y 1) (recv_label_look undone again) (label ++ again_words again) undone drawn) height
          (subst (λ (p : Pixels). IsTextBeside x high p (recv_label_look undone again) (label ++ again_words again) undone drawn) through
          (subst (λ (l : Look). IsTextBeside x high line l (label ++ again_words again) undone drawn) looks_so
          (subst (λ (t : List ℕ). IsTextBeside x high line look t undone drawn) longer there))));
    }

pub is_labelled : (scene : Scene) (place : ℕ) (y : Pixels) (event : Event) (undone again : Bool) (drawn : List Seen) → again ≡ again_at scene place
    → IsNote scene y event undone again drawn → IsRecvLabel scene place y event undone drawn
is_labelled scene place y event undone again drawn known note =
    labelled (subst (λ (a : Bool). IsNote scene y event undone a drawn) known note)

pub is_unlabelled : (scene : Scene) (place : ℕ) (y : Pixels) (event : Event) (undone again : Bool) → again ≡ again_at scene place → again ≡ false
    → IsRecvLabel scene place y event undone []
is_unlabelled scene place y event undone again known none = no_label (sym known ∙ none) refl

-- ` again`, or nothing
pub no_again : (text : List ℕ) (again : Bool) → again ≡ false → text ≡ text ++ again_words again
no_again text again none = sym (ap (λ (a : Bool). text ++ again_words a) none ∙ append-nil text)

-- the mark of an event, and its label
pub event_added : (scene : Scene) (place : ℕ) (y : Pixels) (event : Event) (dir : Dir) (undone : Bool) (words old mid new : List Seen)
    → mid ≡ old ++ event_disc scene.grid y event dir undone → IsLabel scene place y event dir undone words → new ≡ mid ++ words
    → AddsEvent scene place y event dir undone old new
event_added scene place y event dir undone words old mid new disc label more =
    record {
      words = words;
      label = label;
      is = more ∙ ap (λ (d : List Seen). d ++ words) disc ∙ append_assoc old (event_disc scene.grid y event dir undone) words;
    }
