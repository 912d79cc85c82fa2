-- Titles of worked examples.
use Rattle.std.proofs.Common.{◌≡◌, ℕ, List, false, [], ◌∷◌, codes, ◌++◌, refl, inl, inr}
use Rattle.std.specs.Prelude.{◌⊎◌}
use Rattle.std.specs.Fmt.{digits}
use Rattle.rcv_charts.specs.MessageTitles.{message_title}
use Rattle.rcv_charts.specs.RowTitles.{row_title}
use Rattle.rcv_picture.specs.declared.group.Group.{Group}
use Rattle.rcv_model.specs.Text.{End, Single, Choose, Loop, Again, NoMore, Or}
use Rattle.rcv_model.specs.Net.{Net}
use Rattle.rcv_model.specs.Next.{IsPlaceOf}
use Rattle.rcv_project.specs.Act.{Sending, Receiving, Ended}
use Rattle.rcv_charts.specs.States.{StateView, StandTogether, DoesTheSame, AreStatesOf, same_act, times_in, alone, with_place}
use Rattle.rcv_charts.specs.StateTitles.{places_title, shown_label}
use Rattle.rcv_charts.specs.Statements.{points_text, statement_titles}
use Rattle.rcv_charts.specs.Wires.{steps_from}
use Rattle.rcv_charts.specs.Chart.{Draws}
use Rattle.rcv_charts.proofs.Growth.{titled}

-- a message with two sorts
a_message : message_title (codes "A" ∷ codes "B" ∷ []) (7, record { label = codes "quote"; sorts = codes "Int" ∷ codes "Day" ∷ []; sender = 1; receiver = 0 }) ≡ codes "point 7: quote(Int, Day) from B to A"
unfolding digits
a_message = refl

-- a row that concerns two of three roles
a_row : row_title (codes "A" ∷ codes "B" ∷ codes "S" ∷ []) 0 2 (record { concerned = 5; restarts = (2 ∷ []) ∷ [] ∷ (6 ∷ 10 ∷ []) ∷ [] }) ≡ codes "fail A 2: A=2 S=6,10"
unfolding digits
a_row = refl

-- a state of two places, and one that stands in two states
a_state : places_title (0 ∷ 5 ∷ []) ≡ codes "places 0, 5"
unfolding digits
a_state = refl

-- a long label
a_label : shown_label (codes "abcdefghijklmnopqrst") ≡ codes "abcdefghij" ++ (226 ∷ 128 ∷ 166 ∷ []) ++ codes "pqrst"
a_label = refl

-- who sends the points that are received makes a difference
other_sender : same_act (Receiving 1 (2 ∷ [])) (Receiving 0 (2 ∷ [])) ≡ false
other_sender = refl

-- three places, at two of which the role does the same
two_states : with_place (Sending (1 ∷ [])) 5 (alone (Sending (1 ∷ [])) 0 ∷ alone Ended 1 ∷ []) ≡ record { act = Sending (1 ∷ []); places = 0 ∷ 5 ∷ [] } ∷ alone Ended 1 ∷ []
two_states = refl

twice : times_in 5 (alone Ended 5 ∷ alone Ended 5 ∷ []) ≡ 2
twice = refl

stand_together : StandTogether (record { act = Ended; places = 0 ∷ 5 ∷ [] } ∷ []) 5 0
stand_together = inl (inr (inl refl), inl refl)

stand_apart : StandTogether (alone Ended 0 ∷ alone Ended 5 ∷ []) 0 5 → ⊥
stand_apart (inl both) = absurd (not_five both.1)
  where
    not_five : (◌≡◌ {A = ℕ} 5 0 ⊎ ⊥) → ⊥
    not_five (inl e) = absurd (cc)
    not_five (inr none) = none
stand_apart (inr (inl both)) = absurd (not_none both.0)
  where
    not_none : (◌≡◌ {A = ℕ} 0 5 ⊎ ⊥) → ⊥
    not_none (inl e) = absurd (cc)
    not_none (inr none) = none
stand_apart (inr (inr none)) = none

-- no box holds two places at which the role does something else
one_box : (net : Net) (r k l : ℕ) (states : List StateView) → AreStatesOf net r states → IsPlaceOf net r k → IsPlaceOf net r l → (DoesTheSame net r k l → ⊥) → StandTogether states k l → ⊥
one_box net r k l states are at_k at_l other together = other ((are.together k l at_k at_l).0 together)

-- two states with three steps
steps : steps_from 0 (alone (Sending (1 ∷ 3 ∷ [])) 0 ∷ alone (Receiving 1 (2 ∷ [])) 1 ∷ []) ≡ (0, 1) ∷ (0, 3) ∷ (1, 2) ∷ []
steps = refl

-- points, and the statements of a loop with a choice
some_points : points_text (2 ∷ 3 ∷ 5 ∷ []) ≡ codes "points 2 to 5"
unfolding digits
some_points = refl

one_point : points_text (3 ∷ []) ≡ codes "point 3"
unfolding digits
one_point = refl

a_loop :
    statement_titles (codes "A" ∷ codes "B" ∷ [])
    (Loop (codes "X") (Single (codes "m") [] 0 1 1 (Choose 1 (Or (Single (codes "n") [] 1 0 2 (Again (codes "X") End)) (Or (Single (codes "o") [] 1 0 3 End) NoMore)) End)) End)
    ≡ codes "rec X: points 1 to 3" ∷ codes "point 1: m() from A to B" ∷ codes "choice at B: points 2 to 3" ∷ codes "point 2: n() from B to A"
    ∷ codes "continue X" ∷ codes "or: point 3" ∷ codes "point 3: o() from B to A" ∷ []
unfolding digits
a_loop = refl

-- no statement is left out, and none is drawn twice
left_out : (roles sorts : List (List ℕ)) (name label : List ℕ) (s r p top bottom : ℕ) (g : Group) → Draws roles (Loop name (Single label sorts s r p End) End) top (g ∷ []) bottom → ⊥
left_out roles sorts name label s r p top bottom g drawn = let e = titled roles (Loop name (Single label sorts s r p End) End) top bottom (g ∷ []) drawn in absurd (cc)

drawn_twice : (roles sorts : List (List ℕ)) (label : List ℕ) (s r p top bottom : ℕ) (g h : Group) → Draws roles (Single label sorts s r p End) top (g ∷ h ∷ []) bottom → ⊥
drawn_twice roles sorts label s r p top bottom g h drawn = let e = titled roles (Single label sorts s r p End) top bottom (g ∷ h ∷ []) drawn in absurd (cc)
