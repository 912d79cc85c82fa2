-- Where something is left to do, some role can make an entry.
use Rattle.std.proofs.Common.{◌≡◌, ℕ, ◌<◌, List, sym, refl, ◌∙◌, subst, ⊎_elim}
use Rattle.rcv_tree.specs.declared.entry.Entry.{Entry}
use Rattle.rcv_tree.specs.declared.entry.Entry.TheVariants.{Send, Recv, Crash, Recover}
use Rattle.rcv_model.specs.Next.{IsProper}
use Rattle.rcv_model.specs.Journal.{May, MayRecover}
use Rattle.rcv_model.specs.Final.{IsFinal, IsActOf}
use Rattle.rcv_model.proofs.Forms.{proper}
use Rattle.rcv_model.proofs.Recovering.{recovery}
use Rattle.rcv_theory.specs.Round.{role_of}
use Rattle.rcv_accept.specs.Accepted.{IsAcceptedProtocol}
use Rattle.rcv_session.specs.Session.{text_of, roles_of, net_for, rules_of}
use Rattle.rcv_core.specs.Book.{BookView, state_of, HasMore}
use Rattle.rcv_judge.specs.Could.{IsOneOf, NoneMay}
use Rattle.rcv_judge.proofs.Unique.{one_of_role, two_ends}
use Rattle.rcv_diagnosis.specs.Making.{CanMake, IsLeastMade}

pub none_made : (book : BookView) (r : ℕ) → NoneMay book r → CanMake book r → ⊥
none_made book r none can = none can.0 can.1.role can.1.may

pub same_role : (book : BookView) (r q : ℕ) (e : Entry) → r ≡ q → IsOneOf book r e → IsOneOf book q e
same_role book r q e same is = subst (λ t. IsOneOf book t e) same is

-- the least role that can make an entry
pub least_made : (book : BookView) (r : ℕ) (e : Entry) → IsOneOf book r e → ((q : ℕ) → q < r → CanMake book q → ⊥) → IsLeastMade book e
least_made book r e is none =
    let own = same_role book r (role_of e) e (sym is.role) is in
    (((e, own), λ q lt. none q (subst (λ n. q < n) is.role lt)), own)

module _ (book : BookView) (plain : IsAcceptedProtocol book.setup.protocol) where
  known : IsProper (net_for book.setup) (roles_of book.setup)
  known = proper (text_of book.setup) (roles_of book.setup) plain.form

  makes : (r : ℕ) (e : Entry) → role_of e ≡ r → May (rules_of book.setup) (state_of book) e → CanMake book r
  makes r e own may = (
    e,
    record {
      role = own;
      may = may;
      one = λ d same also. one_of_role (rules_of book.setup) (state_of book) d e (two_ends book.setup plain) (same ∙ sym own) also may;
    },
  )

  acts : (r : ℕ) (e : Entry) → IsActOf (rules_of book.setup) (state_of book) r e → CanMake book r
  acts r (Send e) is = makes r (Send e) is.0 is.1
  acts r (Recv e) is = makes r (Recv e) is.0 is.1
  acts r (Crash p) is = absurd is
  acts r (Recover p concerned kept undone) is = absurd is

  recovers : (r set undone : ℕ) (kept : List ℕ) → MayRecover (rules_of book.setup) (state_of book) r set kept undone → CanMake book r
  recovers r set undone kept may = makes r (Recover r (record { 0 = set }) kept undone) refl may

  pub has_maker : HasMore book → (r : ℕ) × (r < roles_of book.setup) × CanMake book r
  has_maker more = ⊎_elim
      (λ crashed. (crashed.0, crashed.1, recovers crashed.0 _ _ _ (recovery (rules_of book.setup) (state_of book) crashed.0 known plain.accepted.lanes_end crashed.2)))
      (λ later. ⊎_elim
      (λ due. (due.0, due.1, makes due.0 (Crash due.0) refl (due.1, due.2)))
      (λ able. (able.0, able.1, acts able.0 able.2.0 able.2.1))
      later)
      more

-- such a session isn't over
pub not_over : (book : BookView) → HasMore book → IsFinal (rules_of book.setup) (state_of book) → ⊥
not_over book more final = ⊎_elim
    (λ crashed. final.none_crashed crashed.0 crashed.2)
    (λ later. ⊎_elim (λ due. final.none_due due.0 due.1 due.2) (λ able. final.none_acts able.0 able.1 able.2) later)
    more
