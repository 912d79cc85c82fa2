-- Worked texts of told journals: before the first entry, and closing lines.
use Rattle.std.proofs.Common.{◌≡◌, ℕ, zero, suc, Some, List, [], ◌∷◌, length, codes, refl, sym, ap, subst}
use Rattle.std.specs.Fmt.{digits}
use Rattle.std.specs.Prelude.{slice_get}
use Rattle.std.proofs.lemmas.List.Elements.{All-nil}
use Rattle.rcv_tree.specs.declared.protocol.Protocol.{Protocol}
use Rattle.rcv_model.specs.Next.{IsNext}
use Rattle.rcv_model.proofs.Lists.{some_same}
use Rattle.rcv_session.specs.Session.{SessionView, net_for, roles_of}
use Rattle.rcv_journal.specs.Recorded.{bare}
use Rattle.rcv_journal.specs.Form.{IsFormedEntry}
use Rattle.rcv_told.specs.Told.{nothing_told}
use Rattle.rcv_dialogue.specs.declared.answer.RoleState.{RoleState}
use Rattle.rcv_dialogue.specs.declared.answer.State.{State}
use Rattle.rcv_dialogue.specs.declared.answer.State.TheVariants.{Done, Waits, Down}
use Rattle.rcv_retold.specs.Closing.{states_text, IsStateOf, AreStates, IsClosing}
use Rattle.rcv_retold.specs.Text.{IsToldText}
use Rattle.rcv_retold.proofs.Ending.{one_closing}

stands : ℕ → ℕ → ℕ → State → RoleState
stands role kept raw word = record { role = role; kept = kept; raw = raw; state = word }

-- two roles
abbrev AreTwo : Protocol → Type 0
AreTwo p = p.roles ≡ codes "A" ∷ codes "B" ∷ []

open_end : (p : Protocol) → AreTwo p → states_text p (stands 0 2 3 Done ∷ stands 1 10 12 Down ∷ []) ≡ codes "role A kept 2 raw 3 done\nrole B kept 10 raw 12 down\nopen\n"
unfolding stands digits
open_end p two = rw two refl

completed_end : (p : Protocol) → AreTwo p → states_text p (stands 0 2 2 Done ∷ stands 1 2 2 Done ∷ []) ≡ codes "role A kept 2 raw 2 done\nrole B kept 2 raw 2 done\ncompleted\n"
unfolding stands digits
completed_end p two = rw two refl

-- both have a first point
record HaveFirst (s : SessionView) : Type 0 where
  pub roles : AreTwo s.protocol
  pub first : ℕ
  pub a : IsNext (net_for s) 0 0 first
  pub b : IsNext (net_for s) 1 0 first

begun : List RoleState
begun = stands 0 0 0 Waits ∷ stands 1 0 0 Waits ∷ []

text : List ℕ
text = codes "role A kept 0 raw 0 waits\nrole B kept 0 raw 0 waits\nopen\n"

its_text : (p : Protocol) → AreTwo p → text ≡ states_text p begun
unfolding text begun stands digits
its_text p two = rw two refl

module _ (s : SessionView) (is : HaveFirst s) where
  two : roles_of s ≡ 2
  two = ap length is.roles

  waits_a : IsStateOf (net_for s) (nothing_told 2) 0 (stands 0 0 0 Waits)
  unfolding stands
  waits_a = record { role = refl; kept = refl; raw = refl; stands = (refl, λ over. over is.first is.a) }

  waits_b : IsStateOf (net_for s) (nothing_told 2) 1 (stands 1 0 0 Waits)
  unfolding stands
  waits_b = record { role = refl; kept = refl; raw = refl; stands = (refl, λ over. over is.first is.b) }

  each : (r : ℕ) (own : RoleState) → slice_get begun r ≡ Some own → IsStateOf (net_for s) (nothing_told 2) r own
  unfolding begun
  each zero own there = subst (IsStateOf (net_for s) (nothing_told 2) 0) (some_same there) waits_a
  each (suc zero) own there = subst (IsStateOf (net_for s) (nothing_told 2) 1) (some_same there) waits_b
  each (suc (suc r)) own there = absurd cc

  many : length begun ≡ 2
  unfolding begun
  many = refl

  closes : IsClosing s.protocol (nothing_told (roles_of s)) text
  closes = record {
    states = begun;
    are = subst (λ n. AreStates (net_for s) n (nothing_told n) begun) (sym two) (record { all = many; each = each });
    is = its_text s.protocol is.roles;
  }

  -- the text before the first entry
  told_before : IsToldText s text []
  told_before = record { formed = All-nil (IsFormedEntry (bare s.protocol)); retold = tt; closing = text; closes = closes; is_text = refl }

  -- and no other text
  nothing_else : (other : List ℕ) → IsClosing s.protocol (nothing_told (roles_of s)) other → other ≡ text
  nothing_else other is_other = one_closing s.protocol (nothing_told (roles_of s)) other text is_other closes
