-- Whom a failure reaches, as the table and the plan tell it.
use Rattle.std.proofs.Common.{◌≡◌, ℕ, ◌<◌, ◌≤◌, Bool, true, false, [], length, refl, sym, ◌∙◌, ap, subst, ◌⊎◌, inl, inr, ⊎_elim, arith}
use Rattle.std.specs.Prelude.{◌↔◌, IsTrue}
use Rattle.std.proofs.lemmas.Option.{get_or_from_slice_get}
use Rattle.rcv_tree.specs.Bits.{has_bit}
use Rattle.rcv_model.specs.Net.{Net}
use Rattle.rcv_model.specs.Next.{IsProper}
use Rattle.rcv_model.specs.Table.{IsConcerned}
use Rattle.rcv_model.proofs.Forms.{proper}
use Rattle.rcv_model.proofs.Located.{item}
use Rattle.rcv_accept.specs.Accepted.{IsAcceptedProtocol}
use Rattle.rcv_plan.specs.Plans.{IsGroup}
use Rattle.rcv_points.specs.Follow.{PointsView, net_in}
use Rattle.rcv_session.specs.Session.{SessionView, text_of, roles_of, net_for}
use Rattle.rcv_tables.specs.Rows.{TableView, rows_at, IsTable}
use Rattle.rcv_tables.specs.Starts.{IsOwnPoint}
use Rattle.rcv_tables.specs.Told.{TellsConcerned}
use Rattle.rcv_role.specs.Part.{ReachesRole}

-- the ends of each point of the text are declared
module _ (setup : SessionView) (accepted : IsAcceptedProtocol setup.protocol) (n : ℕ) where
  known : IsProper (net_for setup) (roles_of setup)
  known = proper (text_of setup) (roles_of setup) accepted.form

  ends : 1 ≤ n → n ≤ (net_for setup).count → ((net_for setup).sender n < roles_of setup) × ((net_for setup).receiver n < roles_of setup)
  ends first last = (known.senders n first last, known.receivers n first last)

  pub owner : (q : ℕ) → IsOwnPoint (net_for setup) q n → q < roles_of setup
  owner q own = ⊎_elim
      (λ f. subst (λ r. r < roles_of setup) f (ends own.0 own.1).0)
      (λ f. subst (λ r. r < roles_of setup) f (ends own.0 own.1).1)
      own.2

-- the table has a row for it
pub has_row : (net : Net) (roles : ℕ) (table : TableView) (q n : ℕ) → IsTable net roles table → q < roles → n ≤ net.count → n < length (rows_at table q)
has_row net roles table q n is lt le =
    let at = item table.rows q (let a = is.all in omega (arith, a, lt)) in
    let same : rows_at table q ≡ at.0 = get_or_from_slice_get table.rows q at.0 [] at.1 in
    let all = (is.each q at.0 at.1).all in
    let size = ap length same in
    omega (arith, all, size, le)

-- a point beyond the text is none of a role
pub not_own : (setup : SessionView) (points : PointsView) (q n : ℕ) → net_in points ≡ net_for setup → length points.messages < n → IsTrue false ↔ IsOwnPoint (net_for setup) q n
not_own setup points q n same more = (
  (λ t. absurd (cc)),
  λ own. absurd (let c = ap (λ (net : Net). net.count) same in let le = own.1 in omega (arith, c, le, more)),
)

pub own_if : (setup : SessionView) (points : PointsView) (q n : ℕ) (b : Bool) → net_in points ≡ net_for setup → 1 ≤ n → n ≤ length points.messages → IsTrue b ↔ (((net_in points).sender n ≡ q) ⊎ ((net_in points).receiver n ≡ q)) → IsTrue b ↔ IsOwnPoint (net_for setup) q n
own_if setup points q n b same first last of =
    let c = ap (λ (net : Net). net.count) same in (
      (λ t. (first, omega (arith, c, last), subst (λ (net : Net). (net.sender n ≡ q) ⊎ (net.receiver n ≡ q)) same (of.0 t))),
      λ own. of.1 (subst (λ (net : Net). (net.sender n ≡ q) ⊎ (net.receiver n ≡ q)) (sym same) own.2),
    )

-- the bit of the table's set
pub concerned_if : (setup : SessionView) (table : TableView) (q n r bits : ℕ) (b : Bool) → IsTable (net_for setup) (roles_of setup) table → IsOwnPoint (net_for setup) q n → r < 8 → TellsConcerned table q n bits → b ≡ has_bit bits r → IsTrue b ↔ (IsOwnPoint (net_for setup) q n × IsConcerned (net_for setup) q n r)
concerned_if setup table q n r bits b is own low tells e =
    let told = tells (net_for setup) (roles_of setup) is own r low in (
      (λ t. (own, told.0 (sym e ∙ t))),
      λ c. e ∙ told.1 c.1,
    )

pub none_if : (setup : SessionView) (q n r : ℕ) (b : Bool) → IsTrue b ↔ IsOwnPoint (net_for setup) q n → b ≡ false → IsTrue false ↔ (IsOwnPoint (net_for setup) q n × IsConcerned (net_for setup) q n r)
none_if setup q n r b own f = ((λ t. absurd (cc)), λ c. absurd (let t = own.1 c.0 in cc))

-- the bit of the plan's set
pub of_group : (setup : SessionView) (q n r set : ℕ) (b : Bool) → IsGroup setup.plan q set → r < 8 → b ≡ has_bit set r → b ≡ true → IsTrue true ↔ ReachesRole setup q n r
of_group setup q n r set b group low e t = ((λ u. inl (sym (group r low) ∙ sym e ∙ t)), λ x. refl)

pub else_concerned : (setup : SessionView) (q n r set : ℕ) (b c : Bool) → IsGroup setup.plan q set → r < 8 → b ≡ has_bit set r → b ≡ false → IsTrue c ↔ (IsOwnPoint (net_for setup) q n × IsConcerned (net_for setup) q n r) → IsTrue c ↔ ReachesRole setup q n r
else_concerned setup q n r set b c group low e f is = (
  (λ t. inr (is.0 t)),
  λ x. ⊎_elim (λ g. absurd (let h = sym f ∙ e ∙ group r low ∙ g in cc)) (λ y. is.1 y) x,
)
