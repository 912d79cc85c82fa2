-- Whether a role of an accepted protocol has a point.
use Rattle.std.proofs.Common.{◌≡◌, ℕ, ◌<◌, ◌≤◌, Bool, false, length, sym, ap, subst, ⊎_elim, arith}
use Rattle.std.specs.Prelude.{◌↔◌, IsTrue}
use Rattle.rcv_model.specs.Net.{Net}
use Rattle.rcv_model.specs.Next.{IsOf, IsProper}
use Rattle.rcv_model.proofs.Forms.{proper}
use Rattle.rcv_points.specs.Follow.{PointsView, ArePointsOf, net_in}
use Rattle.rcv_points.proofs.Whole.{same_net}
use Rattle.rcv_accept.specs.Accepted.{AcceptedView, IsAcceptedProtocol, text_of, roles_of, net_for}
use Rattle.rcv_tables.specs.Starts.{IsOwnPoint}

module _ (a : AcceptedView) (accepted : IsAcceptedProtocol a.protocol) (r n : ℕ) where
  known : IsProper (net_for a) (roles_of a)
  known = proper (text_of a) (roles_of a) accepted.form

  -- then the protocol declares it
  pub is_declared : IsOwnPoint (net_for a) r n → r < roles_of a
  is_declared own = ⊎_elim
      (λ f. subst (λ p. p < roles_of a) f (known.senders n own.0 own.1))
      (λ f. subst (λ p. p < roles_of a) f (known.receivers n own.0 own.1))
      own.2

  module _ (points : PointsView) (found : ArePointsOf (text_of a) points) where
    same : net_in points ≡ net_for a
    same = same_net (text_of a) (roles_of a) points accepted.form found

    -- the point is in the text
    pub has_it : (b : Bool) → 1 ≤ n → n ≤ length points.messages → IsTrue b ↔ IsOf (net_in points) r n → IsTrue b ↔ IsOwnPoint (net_for a) r n
    has_it b first last of =
        let c = ap (λ (net : Net). net.count) same in (
          (λ t. (first, omega (arith, c, last), subst (λ (net : Net). IsOf net r n) same (of.0 t))),
          λ own. of.1 (subst (λ (net : Net). IsOf net r n) (sym same) own.2),
        )

    -- or it isn't
    pub has_none : ((1 ≤ n) × (n ≤ length points.messages) → ⊥) → IsTrue false ↔ IsOwnPoint (net_for a) r n
    has_none none =
        let c = ap (λ (net : Net). net.count) same in (
          (λ t. absurd (cc)),
          λ own. absurd (none (own.0, (let le = own.1 in omega (arith, c, le)))),
        )
