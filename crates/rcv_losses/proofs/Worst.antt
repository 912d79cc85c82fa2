-- The worst cost is found, and names what each cost names.
use Rattle.std.proofs.Common.{◌≡◌, ℕ, ◌<◌, ◌≤◌, Bool, true, false, cond, Option, None, Some, List, [], ◌∷◌, ◌++◌, refl, sym, ◌∙◌, ap, subst, append_assoc, append-nil, arith}
use Rattle.std.specs.Prelude.{nat_lt, MatchOption}
use Rattle.std.specs.List.{All}
use Rattle.std.proofs.lemmas.Bool.Decides.{nat_tests}
use Rattle.std.proofs.lemmas.List.Elements.{All-nil, All-cons, All-head, All-tail}
use Rattle.rcv_session.specs.Session.{SessionView}
use Rattle.rcv_costs.specs.declared.numbers.Cost.{Cost}
use Rattle.rcv_costs.specs.Named.{IsNamedCost, AreNamedCosts}
use Rattle.rcv_losses.specs.Totals.{worse, worst_after, worst_of, IsWorst, IsNamedWorst, TheWorstIsFound}

all_joined : (P : Cost → Type 0) (xs ys : List Cost) → All P xs → All P ys → All P (xs ++ ys)
all_joined P [] ys a b = b
all_joined P (x ∷ xs) ys a b = All-cons P x (xs ++ ys) (All-head P x xs a) (all_joined P xs ys (All-tail P x xs a) b)

all_imp : (P Q : Cost → Type 0) (xs : List Cost) → ((x : Cost) → P x → Q x) → All P xs → All Q xs
all_imp P Q [] f all = All-nil Q
all_imp P Q (x ∷ xs) f all = All-cons Q x xs (f x (All-head P x xs all)) (all_imp P Q xs f (All-tail P x xs all))

one : (P : Cost → Type 0) (x : Cost) → P x → All P (x ∷ [])
one P x here = All-cons P x [] here (All-nil P)

less_of : (a b : ℕ) → true ≡ nat_lt a b → a < b
less_of a b e = let f = sym e in grind (arith, nat_tests)

most_of : (a b : ℕ) → false ≡ nat_lt a b → b ≤ a
most_of a b e = let f = sym e in grind (arith, nat_tests)

-- the worst of the costs so far, and of one more
grows : (costs : List Cost) (best cost : Cost) → IsWorst costs best → (b : Bool) → b ≡ nat_lt best.undone cost.undone → MatchOption (cond b (Some cost) (Some best)) (costs ++ cost ∷ [] ≡ []) (IsWorst (costs ++ cost ∷ []))
grows costs best cost so true e =
    let lt : best.undone < cost.undone = less_of best.undone cost.undone e in
    let whole = subst (λ l. All (λ (c : Cost). c.undone < cost.undone) l) (sym so.among)
    (all_joined (λ (c : Cost). c.undone < cost.undone) so.front (best ∷ so.back)
    (all_imp (λ (c : Cost). c.undone < best.undone) (λ (c : Cost). c.undone < cost.undone) so.front (λ c x. omega (arith, x, lt)) so.less)
    (All-cons (λ (c : Cost). c.undone < cost.undone) best so.back lt (all_imp (λ (c : Cost). c.undone ≤ best.undone) (λ (c : Cost). c.undone < cost.undone) so.back (λ c x. omega (arith, x, lt)) so.most))) in
    record { front = costs; back = []; among = refl; less = whole; most = All-nil (λ (c : Cost). c.undone ≤ cost.undone) }
grows costs best cost so false e =
    let le : cost.undone ≤ best.undone = most_of best.undone cost.undone e in
    record {
      front = so.front;
      back = so.back ++ cost ∷ [];
      among = ap (λ l. l ++ cost ∷ []) so.among ∙ append_assoc so.front (best ∷ so.back) (cost ∷ []);
      less = so.less;
      most = all_joined (λ (c : Cost). c.undone ≤ best.undone) so.back (cost ∷ []) so.most (one (λ (c : Cost). c.undone ≤ best.undone) cost le);
    }

from_there : (front : List Cost) (best : Option Cost) (costs : List Cost) → MatchOption best (front ≡ []) (IsWorst front) → MatchOption (worst_after best costs) (front ++ costs ≡ []) (IsWorst (front ++ costs))
from_there front best [] so = subst (λ l. MatchOption best (l ≡ []) (IsWorst l)) (sym (append-nil front)) so
from_there front None (cost ∷ costs) so =
    subst (λ l. MatchOption (worst_after (Some cost) costs) (l ≡ []) (IsWorst l)) (append_assoc front (cost ∷ []) costs)
    (from_there (front ++ cost ∷ []) (Some cost) costs (record { front = front; back = []; among = refl; less = subst (All (λ (c : Cost). c.undone < cost.undone)) (sym so) (All-nil (λ (c : Cost). c.undone < cost.undone)); most = All-nil (λ (c : Cost). c.undone ≤ cost.undone) }))
from_there front (Some best) (cost ∷ costs) so =
    subst (λ l. MatchOption (worst_after (worse (Some best) cost) costs) (l ≡ []) (IsWorst l)) (append_assoc front (cost ∷ []) costs)
    (from_there (front ++ cost ∷ []) (worse (Some best) cost) costs (grows front best cost so (nat_lt best.undone cost.undone) refl))

pub found : TheWorstIsFound
found costs = from_there [] None costs refl

-- what each names, the worst names
named_after : (session : SessionView) (best : Option Cost) (costs : List Cost) → IsNamedWorst session best → AreNamedCosts session costs → IsNamedWorst session (worst_after best costs)
named_after session best [] so all = so
named_after session None (cost ∷ costs) so all = named_after session (Some cost) costs (All-head (IsNamedCost session) cost costs all) (All-tail (IsNamedCost session) cost costs all)
named_after session (Some best) (cost ∷ costs) so all =
    named_after session (worse (Some best) cost) costs (go (nat_lt best.undone cost.undone)) (All-tail (IsNamedCost session) cost costs all)
  where
    go : (b : Bool) → IsNamedWorst session (cond b (Some cost) (Some best))
    go true = All-head (IsNamedCost session) cost costs all
    go false = so

pub named_worst : (session : SessionView) (costs : List Cost) → AreNamedCosts session costs → IsNamedWorst session (worst_of costs)
named_worst session costs all = named_after session None costs tt all
