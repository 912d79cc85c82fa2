-- The search from the ends of lanes backwards has found each point behind which a lane can be brought to its end.
use Rattle.std.proofs.Common.{◌≡◌, ℕ, ◌≤◌, true, List, [], ◌∷◌, length, arith}
use Rattle.std.specs.Prelude.{◌↔◌}
use Rattle.rcv_tree.specs.Bits.{has_point, IsPoint}
use Rattle.rcv_model.specs.Net.{Net, IsIn, IsLaneWalk, IsLaneEnded}
use Rattle.rcv_model.specs.Next.{CanEnd, IsProper}
use Rattle.rcv_points.specs.Found.{IsInText, IsEndPoint, LeadsTo}
use Rattle.rcv_points.proofs.Searching.{SoFar, all_visited}

-- a point of the text behind which the lane can be brought to its end
abbrev pub Finishes : Net → ℕ → Type 0
Finishes net k = IsInText net k × CanEnd net k

module _ (net : Net) where
  pub end_finishes : (k : ℕ) → IsEndPoint net k → Finishes net k
  end_finishes k a = (a.0, ([], tt, a.1))

  pub lead_finishes : (k j : ℕ) → Finishes net k → LeadsTo net k j → Finishes net j
  lead_finishes k j f a = (a.0, (k ∷ f.1.0, (a.1, f.1.1), f.1.2))

  all_finish : (roles : ℕ) (places : List ℕ) → IsProper net roles → ((s : ℕ) → IsEndPoint net s → IsIn s places) → ((j p : ℕ) → IsIn j places → LeadsTo net j p → IsIn p places) → (w : List ℕ) (k : ℕ) → IsInText net k → IsLaneWalk net k w → IsLaneEnded net k w → IsIn k places
  all_finish roles places proper start closed [] k text walk end = start k (text, end)
  all_finish roles places proper start closed (p ∷ w) k text walk end = closed p k (all_finish roles places proper start closed w p (proper.in_text k p walk.0) walk.1 end) (text, walk.0)

  pub finished : (roles : ℕ) (places words : List ℕ) (done : ℕ) → IsProper net roles → net.count ≤ 256 → SoFar (IsEndPoint net) (Finishes net) (LeadsTo net) places done → length places ≤ done → ((p : ℕ) → IsPoint p → (has_point words p ≡ true) ↔ IsIn p places) → (p : ℕ) → 1 ≤ p → p ≤ net.count → (has_point words p ≡ true) ↔ CanEnd net p
  finished roles places words done proper few s le marked p low high =
      let point : IsPoint p = record { first = low; last = omega (arith, high, few) } in
      let closed = all_visited (IsEndPoint net) (Finishes net) (LeadsTo net) places done s le in (
        λ t. (s.sound p ((marked p point).0 t)).1,
        λ c. (marked p point).1 (all_finish roles places proper s.start closed c.0 p (low, high) c.1 c.2),
      )
