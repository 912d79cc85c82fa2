-- What a walk from a place has in each lane, as ways from what the place opens there.
use Rattle.std.proofs.Common.{◌≡◌, ℕ, ◌<◌, ◌≤◌, List, [], ◌∷◌, refl, sym, ◌∙◌, ap, subst, ◌⊎◌, inl, inr, arith}
use Rattle.std.proofs.lemmas.Bool.{cases_eq}
use Rattle.rcv_model.specs.Net.{Net, IsIn, opened, moved, ComeFrom, left_by, IsLaneWalk, last_of}
use Rattle.rcv_model.specs.Next.{IsProper}
use Rattle.rcv_model.proofs.Walks.{Ahead, moved_here, moved_else, opened_here, opened_later, opened_none}
use Rattle.rcv_model.proofs.Lanes.{IsLaned, Opens, at_own, at_later, at_shut, opens}
use Rattle.rcv_model.proofs.Parted.{IsFrom, left_from}
use Rattle.rcv_parallel.specs.TextOrder.{HasLanesInOrder, IsWalkFromStart, IsEndedFromStart, IsEndedIn, AreLaneWalks, in_lane}
use Rattle.rcv_parallel.proofs.InLane.{lane_yes, lane_no, AllIn}

-- a walk within a lane from a place, and from the lane's start, as ways from what is offered there
pub of_place : (net : Net) (k : ℕ) (u : List ℕ) → IsLaneWalk net k u → IsFrom net (net.offers k) u
of_place net k [] w = tt
of_place net k (x ∷ u) w = w

pub to_place : (net : Net) (k : ℕ) (u : List ℕ) → IsFrom net (net.offers k) u → IsLaneWalk net k u
to_place net k [] f = tt
to_place net k (x ∷ u) f = f

pub left_place : (net : Net) (k : ℕ) (u : List ℕ) → left_from net (net.offers k) u ≡ net.offers (last_of k u)
left_place net k [] = refl
left_place net k (x ∷ u) = refl

of_start : (net : Net) (l : ℕ) (u : List ℕ) → IsWalkFromStart net l u → IsFrom net (net.begins l) u
of_start net l [] w = tt
of_start net l (x ∷ u) w = w

to_start : (net : Net) (l : ℕ) (u : List ℕ) → IsFrom net (net.begins l) u → IsWalkFromStart net l u
to_start net l [] f = tt
to_start net l (x ∷ u) f = f

of_start_end : (net : Net) (l : ℕ) (u : List ℕ) → IsEndedFromStart net l u → left_from net (net.begins l) u ≡ []
of_start_end net l [] e = e
of_start_end net l (x ∷ u) e = e

to_start_end : (net : Net) (l : ℕ) (u : List ℕ) → left_from net (net.begins l) u ≡ [] → IsEndedFromStart net l u
to_start_end net l [] e = e
to_start_end net l (x ∷ u) e = e

-- from a lane that is shut no way goes on
from_none : (net : Net) (u : List ℕ) → IsFrom net [] u → u ≡ []
from_none net [] f = refl
from_none net (x ∷ u) f = absurd f.0

-- the points of a way are in its lane
pub all_in : (net : Net) (roles l : ℕ) (ps u : List ℕ) → IsProper net roles → ((x : ℕ) → IsIn x ps → net.lane x ≡ l) → IsFrom net ps u → AllIn net l u
all_in net roles l ps [] proper lane f = tt
all_in net roles l ps (x ∷ u) proper lane f =
    let e : net.lane x ≡ l = lane x f.0 in
    (e, all_in net roles l (net.offers x) u proper (λ y i. proper.lanes.kept x y i ∙ e) (of_place net x u f.1))

-- no lane has a number from the count on
pub none_beyond : (net : Net) (roles lanes : ℕ) (ahead : Ahead) (l : ℕ) → HasLanesInOrder net roles lanes → IsLaned net ahead → lanes ≤ l → ahead l ≡ []
none_beyond net roles lanes ahead l has laned le = go (ahead l) refl
  where
    go : (ps : List ℕ) → ahead l ≡ ps → ahead l ≡ []
    go [] e = e
    go (x ∷ ps) e =
        let f : net.lane x ≡ l = laned.lane l x (subst (IsIn x) (sym e) (inl refl)) in
        let lt = has.has_lane x in
        absurd (omega (arith, f, lt, le))

-- what a walk from place k has in a lane is a way from what k opens there
pub opened_way : (net : Net) (lanes k l : ℕ) (walks : ℕ → List ℕ) → AreLaneWalks net lanes k walks → l < lanes → IsFrom net (opened net k l) (walks l)
opened_way net lanes k l walks are lt = go (opens net k l)
  where
    go : Opens net k l → IsFrom net (opened net k l) (walks l)
    go (at_own e f) = subst (λ ps. IsFrom net ps (walks l)) (sym f) (of_place net k (walks l) (subst (λ m. IsLaneWalk net k (walks m)) (sym e) are.own))
    go (at_later n less f) = subst (λ ps. IsFrom net ps (walks l)) (sym f) (of_start net l (walks l) (are.later l lt less))
    go (at_shut n m f) = subst (IsFrom net (opened net k l)) (sym (are.shut l lt n (omega (arith, m)))) tt

-- where it is ended, its lane offers nothing behind it, and the other way round
pub ended_way : (net : Net) (lanes k l : ℕ) (walks : ℕ → List ℕ) → AreLaneWalks net lanes k walks → l < lanes → IsEndedIn net k l (walks l) → left_from net (opened net k l) (walks l) ≡ []
ended_way net lanes k l walks are lt end = go (opens net k l)
  where
    go : Opens net k l → left_from net (opened net k l) (walks l) ≡ []
    go (at_own e f) = ap (λ ps. left_from net ps (walks l)) f ∙ left_place net k (walks l) ∙ end.own e
    go (at_later n less f) = ap (λ ps. left_from net ps (walks l)) f ∙ of_start_end net l (walks l) (end.later less)
    go (at_shut n m f) = ap (λ ps. left_from net ps (walks l)) f ∙ ap (left_from net []) (are.shut l lt n (omega (arith, m)))

pub way_ended : (net : Net) (k l : ℕ) (u : List ℕ) → left_from net (opened net k l) u ≡ [] → IsEndedIn net k l u
way_ended net k l u none = record {
  own = λ e. sym (left_place net k u) ∙ ap (λ ps. left_from net ps u) (sym (opened_here net k l e)) ∙ none;
  later = λ lt. to_start_end net l u (ap (λ ps. left_from net ps u) (sym (opened_later net k l (λ e. omega (arith, lt, ap net.stage e)) lt)) ∙ none);
}

-- such ways are what a walk from k has in its lanes, if lanes are entered in turn
pub lane_walks : (net : Net) (lanes k : ℕ) (walks : ℕ → List ℕ) → ((l : ℕ) → IsFrom net (opened net k l) (walks l)) → ((l m : ℕ) → net.stage l < net.stage m → (walks m ≡ [] → ⊥) → left_from net (opened net k l) (walks l) ≡ []) → AreLaneWalks net lanes k walks
lane_walks net lanes k walks from turn = record {
  own = to_place net k (walks (net.lane k)) (subst (λ ps. IsFrom net ps (walks (net.lane k))) (opened_here net k (net.lane k) refl) (from (net.lane k)));
  later = λ l lt less. to_start net l (walks l) (subst (λ ps. IsFrom net ps (walks l)) (opened_later net k l (λ e. omega (arith, less, ap net.stage e)) less) (from l));
  shut = λ l lt n le. from_none net (walks l) (subst (λ ps. IsFrom net ps (walks l)) (opened_none net k l n (λ less. omega (arith, le, less))) (from l));
  in_turn = λ l m lt_l lt_m less some. way_ended net k l (walks l) (turn l m less some);
}

-- a walk, as one of its lanes has it
pub record GoesInLane (net : Net) (ahead : Ahead) (l : ℕ) (w : List ℕ) : Type 0 where
  pub from : IsFrom net (ahead l) (in_lane net w l)
  pub left : left_by net ahead w l ≡ left_from net (ahead l) (in_lane net w l)

pub goes_in_lane : (net : Net) (ahead : Ahead) (l : ℕ) (w : List ℕ) → ComeFrom net ahead w → GoesInLane net ahead l w
goes_in_lane net ahead l [] c = record { from = tt; left = refl }
goes_in_lane net ahead l (x ∷ w) c = go (goes_in_lane net (moved net ahead x) l w c.1) (cases_eq (net.lane x) l)
  where
    go : GoesInLane net (moved net ahead x) l w → (net.lane x ≡ l) ⊎ (net.lane x ≡ l → ⊥) → GoesInLane net ahead l (x ∷ w)
    go g (inl e) =
        let f = moved_here net ahead x l (sym e) in
        record {
          from = subst (IsFrom net (ahead l)) (sym (lane_yes net l x w e)) (subst (λ m. IsIn x (ahead m)) e c.0.offered, to_place net x (in_lane net w l) (subst (λ ps. IsFrom net ps (in_lane net w l)) f g.from));
          left = g.left ∙ ap (λ ps. left_from net ps (in_lane net w l)) f ∙ left_place net x (in_lane net w l) ∙ ap (left_from net (ahead l)) (sym (lane_yes net l x w e));
        }
    go g (inr n) =
        let f = moved_else net ahead x l (λ e. n (sym e)) in
        record {
          from = subst (IsFrom net (ahead l)) (sym (lane_no net l x w n)) (subst (λ ps. IsFrom net ps (in_lane net w l)) f g.from);
          left = g.left ∙ ap (λ ps. left_from net ps (in_lane net w l)) f ∙ ap (left_from net (ahead l)) (sym (lane_no net l x w n));
        }
