-- The line: the lanes of a net one after the other, in text order, as one lane.
use Rattle.std.specs.Prelude.{◌≡◌, ℕ, ◌+◌, ◌-◌, ◌≤◌, ◌↔◌, Bool, ◌==◌, if◌then◌else◌, List, [], ◌∷◌, ◌++◌}
use Rattle.std.specs.List.{range_with_len}
use Rattle.rcv_model.specs.Net.{Net, IsIn, IsLaneWalk}
use Rattle.rcv_model.specs.Next.{IsOf, LanesEnd, IsProper}
use Rattle.rcv_model.specs.Places.{union}
use Rattle.rcv_model.specs.Table.{marks, IsMarkedAt}

-- Lanes are numbered in text order.
abbrev pub LanesRise : Net → Type 0
LanesRise net = (p q : ℕ) → 1 ≤ p → p ≤ q → q ≤ net.count → net.lane p ≤ net.lane q

-- They are so numbered, and each lane that a later stage follows can be brought to its end.
pub record HasLine (net : Net) : Type 0 where
  pub rises : LanesRise net
  pub ends : LanesEnd net

-- The lane is of the last stage that has a point.
abbrev pub is_last : Net → ℕ → Bool
is_last net l = net.stage l == net.stage (net.lane net.count)

-- The first list, or the second if the first is empty.
abbrev pub or_else : List ℕ → List ℕ → List ℕ
or_else [] ys = ys
or_else (x ∷ xs) ys = x ∷ xs

-- What the line offers at the start of the first of these lanes: what the lane begins with, or, if it begins with nothing, what
-- the line offers at the start of the next one. In the last stage each lane may be the next, so the line offers what any of
-- them begins with.
abbrev pub offered_from : Net → List ℕ → List ℕ
offered_from net [] = []
offered_from net (l ∷ ls) =
    if is_last net l then union (net.begins l) (offered_from net ls) else or_else (net.begins l) (offered_from net ls)

-- The lanes after a lane, up to that of the last point.
abbrev pub lanes_after : Net → ℕ → List ℕ
lanes_after net l = range_with_len (l + 1) (net.lane net.count - l)

-- What the line offers at the end of a lane: nothing in the last stage.
abbrev pub offered_after : Net → ℕ → List ℕ
offered_after net l = if is_last net l then [] else offered_from net (lanes_after net l)

-- The line offers at a place what is offered there in its lane, and at the lane's end what it offers after the lane.
abbrev pub offered_on : Net → ℕ → List ℕ
offered_on net k = or_else (net.offers k) (offered_after net (net.lane k))

abbrev pub line : Net → Net
line net =
    record {
      count = net.count;
      offers = offered_on net;
      sender = net.sender;
      receiver = net.receiver;
      label = net.label;
      lane = λ p. 0;
      stage = λ l. 0;
      begins = λ l. if l == 0 then offered_on net 0 else [];
    }

-- On some walk within the lane of the point n of p, role q is first marked at the point z.
pub record IsLaneMarkedAt (net : Net) (p n q z : ℕ) : Type 0 where
  pub before : List ℕ
  pub after : List ℕ
  pub walk : (w : List ℕ) × IsLaneWalk net n w × (before ++ z ∷ after ≡ n ∷ w)
  pub not_yet : IsIn q (marks net (p ∷ []) before) → ⊥
  pub now : IsIn q (marks net (p ∷ []) (before ++ z ∷ []))

-- If p is rolled back to its point n, another role is first marked at a point on some walk exactly if it is first marked there
-- on some way through the line.
abbrev pub MarksAreInLine : Type 0
MarksAreInLine =
    (net : Net) (roles p n q z : ℕ) → IsProper net roles → HasLine net → 1 ≤ n → n ≤ net.count → IsOf net p n → (q ≡ p → ⊥)
    → IsMarkedAt net p n q z ↔ IsLaneMarkedAt (line net) p n q z
