-- Worked examples: what is drawn so, and what isn't.
use Rattle.std.proofs.Common.{◌≡◌, ℕ, pos, ◌+◌, ◌-◌, ◌^◌, min, ◌<◌, ◌≤◌, lit≤, Bool, true, false, List, [], ◌∷◌, ◌++◌, length, slice_index_or, codes, decimal, refl, sym, ◌∙◌, ap, arith, append-nil, flat_map}
use Rattle.std.proofs.lemmas.List.Concat.{flat_map-append}
use Rattle.std.specs.Fmt.{signed_decimal}
use Rattle.rcv_tree.specs.declared.event.Event.{Event}
use Rattle.rcv_tree.specs.declared.event.Dir.{Dir}
use Rattle.rcv_tree.specs.declared.event.Dir.TheVariants.{Sent}
use Rattle.rcv_points.specs.Follow.{PointView, PointsView}
use Rattle.rcv_session.specs.Session.{SessionView}
use Rattle.rcv_picture.specs.declared.pixels.Pixels.{Pixels}
use Rattle.rcv_picture.specs.declared.look.Look.TheVariants as looks
use Rattle.rcv_picture.specs.declared.shape.Anchor.TheVariants.{Start, Middle}
use Rattle.rcv_scene.specs.Seen.{Seen, Stroke, Frame, Disc, Way, Words, pixels, at, is_mark, marks, cross}
use Rattle.rcv_picture.specs.Names.{IsShortened, as_it_is, too_long}
use Rattle.rcv_scene.specs.Grid.{Scene}
use Rattle.rcv_scene.specs.Heads.{AreLines, NoLine, NextLine, IsHost, no_host, on_host}
use Rattle.rcv_scene.specs.Labels.{IsLabelText, IsBeside, to_right, to_left, IsStrike, struck, not_struck}
use Rattle.rcv_scene.specs.Marks.{IsEventDrawn, IsCrashDrawn}
use Rattle.rcv_scene.specs.Recoveries.{IsReturnText, to_start, to_event, to_number, NamesAll, Begins, Goes, IsNextText, nothing_left}

-- A blank group draws no event, and no crash.
blank_is_no_event : (scene : Scene) (place : ℕ) (event : Event) (dir : Dir) (undone : Bool) → IsEventDrawn scene place event dir undone [] → ⊥
blank_is_no_event scene place event dir undone drawn = let is = drawn.is in cc

blank_is_no_crash : (scene : Scene) (place role : ℕ) → IsCrashDrawn scene place role [] → ⊥
blank_is_no_crash scene place role drawn = let is = drawn.is in cc

-- A line through a label is no mark; a disc is one, and so are both strokes of a cross.
strike_is_plain : is_mark (Stroke (at (pixels 1) (pixels 2)) (at (pixels 3) (pixels 2)) looks.Strike) ≡ false
strike_is_plain = refl

disc_is_mark : is_mark (Disc (at (pixels 1) (pixels 2)) (pixels 8) looks.Send) ≡ true
disc_is_mark = refl

cross_is_mark : marks (cross (at (pixels 20) (pixels 30)) 8) ≡ cross (at (pixels 20) (pixels 30)) 8
cross_is_mark = refl

-- The first letter of a text.
abbrev initial : List ℕ → ℕ
initial text = slice_index_or text 0 0

-- A role that loses events goes back; that it stays is refused.
goes_back : IsReturnText true 3 (codes "back to event " ++ decimal 3)
goes_back = to_event refl

stays_is_refused : IsReturnText true 3 (codes "stays at event 3") → ⊥
stays_is_refused (to_start none is) = absurd (let h : 115 ≡ 98 = ap initial is in omega (arith, h))
stays_is_refused (to_event is) = absurd (let h : 115 ≡ 98 = ap initial is in omega (arith, h))
stays_is_refused (to_number is) = absurd (let h : 115 ≡ 98 = ap initial is in omega (arith, h))

-- Two points are named; without points nothing is left.
abbrev one_more_point : List ℕ → List ℕ → ℕ → List ℕ
one_more_point text words point = text ++ (words ++ decimal point ++ [])

two_named : NamesAll (3 ∷ 5 ∷ []) (one_more_point (one_more_point (codes "next") (codes " ") 3) (codes " or ") 5)
two_named =
    let one : List ℕ = one_more_point (codes "next") (codes " ") 3 in
    Goes (3 ∷ []) (3 ∷ 5 ∷ []) 5 one (codes " or ") [] (one_more_point one (codes " or ") 5)
    (Goes [] (3 ∷ []) 3 (codes "next") (codes " ") [] one Begins refl refl) refl refl

none_left : IsNextText [] (codes "nothing left")
none_left = nothing_left refl refl

-- A name in two lines, one under the other.
two_lines : AreLines (pixels 118) (pixels 62) (codes "storefront") (pixels 92)
    (Words (at (pixels 118) (pixels 62)) Middle looks.Head (codes "store") ∷ Words (at (pixels 118) (pixels 77)) Middle looks.Head (codes "front") ∷ [])
two_lines =
    let first : Seen = Words (at (pixels 118) (pixels 62)) Middle looks.Head (codes "store") in
    let second : Seen = Words (at (pixels 118) (pixels 77)) Middle looks.Head (codes "front") in
    NextLine (pixels 77) (pixels 92) (codes "store") (codes "storefront") (codes "front") (first ∷ []) (first ∷ second ∷ [])
    (NextLine (pixels 62) (pixels 77) [] (codes "store") (codes "store") [] (first ∷ []) NoLine refl refl refl) refl refl refl

-- What is written in lines is the name: the head of another role is refused.
abbrev written : Seen → List ℕ
written (Stroke from to look) = []
written (Frame corner width height round look) = []
written (Disc center radius look) = []
written (Way places look) = []
written (Words place anchor look text) = text

lines_are_written : {x top under : Pixels} {name : List ℕ} {drawn : List Seen} → AreLines x top name under drawn → name ≡ flat_map written drawn
lines_are_written NoLine = refl
lines_are_written (NextLine y next name more line before all so_far longer lower is) =
    let w : Seen = Words (at _ y) Middle looks.Head line in
    longer ∙ ap (λ (n : List ℕ). n ++ line) (lines_are_written so_far)
    ∙ sym (ap (flat_map written) is ∙ flat_map-append written before (w ∷ []) ∙ ap (λ (t : List ℕ). flat_map written before ++ t) (append-nil line))

another_name : (x top under : Pixels) → AreLines x top (codes "bob") under (Words (at x top) Middle looks.Head (codes "ann") ∷ []) → ⊥
another_name x top under are = let e : codes "bob" ≡ codes "ann" ++ [] = lines_are_written are in
    absurd (let h : 98 ≡ 97 = ap initial e in omega (arith, h))

-- No host is another word than `on`.
not_at_host : (setup : SessionView) (role : ℕ) (x under : Pixels) → IsHost setup role x under (Words (at x under) Middle looks.Note (codes "at left") ∷ []) → ⊥
not_at_host setup role x under (no_host none is) = absurd cc
not_at_host setup role x under (on_host host is) =
    absurd (let h : 97 ≡ 111 = ap (λ (d : List Seen). initial (flat_map written d)) is in omega (arith, h))

-- A label with its value; another label, and one without the value, are refused.
abbrev one_point : Bool → PointsView
one_point value =
    record {
      places = [];
      messages = record { label = codes "pay"; sender = 0; receiver = 1; payload = value } ∷ [];
      choices = [];
      lanes = [];
      lane_numbers = [];
    }

abbrev payment : Event
payment = record { role = 0; dir = Sent; point = 1; value = pos 7; stamp = 1; sent = 1 }

label_with_value : IsLabelText (one_point true) payment (codes "pay" ++ (codes " " ++ signed_decimal (pos 7)))
label_with_value = record { label = codes "pay"; fits = as_it_is (lit≤ tt) refl; is = refl }

label_alone : IsLabelText (one_point false) payment (codes "pay")
label_alone = record { label = codes "pay"; fits = as_it_is (lit≤ tt) refl; is = refl }

its_label : (label : List ℕ) → IsShortened 16 (codes "pay") label → label ≡ codes "pay"
its_label label (as_it_is few is) = is
its_label label (too_long long cut) = absurd (omega (arith, long))

other_label : IsLabelText (one_point false) payment (codes "buy") → ⊥
other_label says =
    let e : codes "buy" ≡ codes "pay" ++ [] = says.is ∙ ap (λ (l : List ℕ). l ++ []) (its_label says.label says.fits) in
    absurd (let h : 98 ≡ 112 = ap initial e in omega (arith, h))

label_without_value : IsLabelText (one_point true) payment (codes "pay") → ⊥
label_without_value says =
    let value : List ℕ = codes " " ++ signed_decimal (pos 7) in
    let e : codes "pay" ≡ codes "pay" ++ value = says.is ∙ ap (λ (l : List ℕ). l ++ value) (its_label says.label says.fits) in
    absurd (let h : 0 ≡ 32 = ap (λ (l : List ℕ). slice_index_or l 3 0) e in omega (arith, h))

-- A text stands beside a mark, to its right; one on the mark's middle is refused.
beside_mark : IsBeside (pixels 118) (pixels 132) Start
beside_mark = to_right 14 (lit≤ tt) refl refl

on_the_mark : IsBeside (pixels 118) (pixels 118) Start → ⊥
on_the_mark (to_right far near is starts) =
    let e : 118 ≡ min (118 + far) (2 ^ 32 - 1) = ap (λ (p : Pixels). p.0) is in
    absurd (omega (arith, e, near))
on_the_mark (to_left far near is ends) = absurd cc

-- A text of an event that is kept isn't struck out.
kept_is_not_struck : (x y end : Pixels) → IsStrike false x y (Stroke (at x y) (at end y) looks.Strike ∷ []) → ⊥
kept_is_not_struck x y end (struck to undone is) = absurd cc
kept_is_not_struck x y end (not_struck kept is) = absurd cc
