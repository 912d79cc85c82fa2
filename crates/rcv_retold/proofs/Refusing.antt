-- What a guide refuses may not be told to any of its memories.
use Rattle.std.proofs.Common.{◌≡◌, ℕ, ◌<◌, ◌≤◌, true, false, Some, List, [], ◌∷◌, refl, sym, ◌∙◌, ap, subst, ◌⊎◌, inl, inr, Bool, arith}
use Rattle.std.specs.Prelude.{slice_index}
use Rattle.std.proofs.lemmas.Bool.{cases_lt}
use Rattle.rcv_ledger.proofs.Lists.{none_there}
use Rattle.rcv_tree.specs.declared.event.Event.{Event}
use Rattle.rcv_tree.specs.declared.role.RoleSet.{RoleSet}
use Rattle.rcv_tree.specs.Events.{message_got}
use Rattle.rcv_model.specs.Next.{IsNext}
use Rattle.rcv_model.proofs.Lists.{some_same}
use Rattle.rcv_told.specs.Told.{Remembered, down_at, standpoint, IsSend, IsRecv, HasFailed}
use Rattle.rcv_told.proofs.Telling.{down_there as down_told}
use Rattle.rcv_guide.specs.declared.cause.Cause.{Cause}
use Rattle.rcv_guide.specs.declared.cause.Cause.TheVariants.{Undeclared, Down, Up, Stale, Full, NotNext, Empty, NotFront, Forgotten}
use Rattle.rcv_guide.specs.declared.numbers.Numbers.{Numbers}
use Rattle.rcv_guide.specs.Numbers.{at_start, numbers_at}
use Rattle.rcv_guide.specs.Guide.{GuideView, net_for, roles_of, terms_of, stand, in_channel, HasRoom, IsAble, IsTurnToSend, IsTurnToReceive, IsMemory}
use Rattle.rcv_guide.specs.Causes.{IsCauseNotToSend, IsCauseNotToReceive, IsCauseNotToCrash, IsCauseNotToRecover}
use Rattle.rcv_guide.proofs.Memories.{down_here, place_at, forgotten_at, lies}
use Rattle.rcv_retold.specs.Retold.{news_for}

module _ (g : GuideView) (m : Remembered) (is : IsMemory g m) where
  -- a role that a memory knows is declared, and up or down as the guide says
  pub known : (r : ℕ) (b : Bool) → down_at m r ≡ Some b → r < roles_of g
  known r b at = let w = (down_told m.roles r b at).0 in let d = is.numbers_are.have.numbers in omega (arith, w, d)

  pub stands : (r : ℕ) (b : Bool) → down_at m r ≡ Some b → (stand g r).down ≡ Some b
  stands r b at =
      let lt = known r b at in
      down_here g.numbers r (let a = is.numbers_are.all in omega (arith, lt, a)) ∙ ap Some (sym (is.numbers_are.each r lt).down ∙ (down_told m.roles r b at).1)

  able : (e : Event) → down_at m e.role ≡ Some false → HasRoom g → IsAble g (news_for g e)
  able e up room = record { up = stands e.role false up; attempt = refl; room = room }

  turn_send : (e : Event) → IsSend (net_for g) (standpoint (net_for g) m e.role) e → IsTurnToSend g (news_for g e)
  turn_send e may = (subst (λ k. IsNext (net_for g) e.role k e.point) (place_at g m is e.role (known e.role false may.up)) may.next, may.sends)

  turn_recv : (e : Event) → IsRecv (net_for g) (standpoint (net_for g) m e.role) e → IsTurnToReceive g (news_for g e)
  turn_recv e may = (subst (λ k. IsNext (net_for g) e.role k e.point) (place_at g m is e.role (known e.role false may.up)) may.next, may.receives)

  not_both : (r : ℕ) → (stand g r).down ≡ Some true → (stand g r).down ≡ Some false → ⊥
  not_both r a b = let f : true ≡ false = some_same (sym a ∙ b) in absurd cc

  pub no_send : (e : Event) (cause : Cause) → HasRoom g → IsCauseNotToSend g (news_for g e) cause → IsSend (net_for g) (standpoint (net_for g) m e.role) e → ⊥
  no_send e Undeclared room why may = let lt = known e.role false may.up in omega (arith, lt, why)
  no_send e Down room why may = not_both e.role why (stands e.role false may.up)
  no_send e Stale room why may = why.other refl
  no_send e Full room why may = why.full room
  no_send e NotNext room why may = why.turn (turn_send e may)
  no_send e Up room why may = why
  no_send e Empty room why may = why
  no_send e NotFront room why may = why
  no_send e Forgotten room why may = why

  in_front : (e : Event) → (may : IsRecv (net_for g) (standpoint (net_for g) m e.role) e) → in_channel g ((net_for g).sender e.point) e.role ≡ message_got e ∷ may.front.0
  in_front e may = sym (lies g m is ((net_for g).sender e.point) e.role) ∙ may.front.1

  pub no_recv : (e : Event) (cause : Cause) → HasRoom g → IsCauseNotToReceive g (news_for g e) e.sent cause → IsRecv (net_for g) (standpoint (net_for g) m e.role) e → ⊥
  no_recv e Undeclared room why may = let lt = known e.role false may.up in omega (arith, lt, why)
  no_recv e Down room why may = not_both e.role why (stands e.role false may.up)
  no_recv e Stale room why may = why.other refl
  no_recv e Full room why may = why.full room
  no_recv e NotNext room why may = why.turn (turn_recv e may)
  no_recv e Empty room why may = let f : [] ≡ message_got e ∷ may.front.0 = sym why.nothing ∙ in_front e may in absurd cc
  no_recv e NotFront room why may = let f : why.front ∷ why.rest ≡ message_got e ∷ may.front.0 = sym why.there ∙ in_front e may in why.other cc
  no_recv e Up room why may = why
  no_recv e Forgotten room why may = why

  pub no_crash : (p : ℕ) (cause : Cause) → HasRoom g → IsCauseNotToCrash g p cause → down_at m p ≡ Some false → ⊥
  no_crash p Undeclared room why up = let lt = known p false up in omega (arith, lt, why)
  no_crash p Down room why up = not_both p why (stands p false up)
  no_crash p Full room why up = let a = why.1 in let b = room.1 in omega (arith, a, b)
  no_crash p Up room why up = why
  no_crash p Stale room why up = why
  no_crash p NotNext room why up = why
  no_crash p Empty room why up = why
  no_crash p NotFront room why up = why
  no_crash p Forgotten room why up = why

  pub no_recover : (p : ℕ) (saved : List ℕ) (concerned : RoleSet) (kept : List ℕ) (undone : ℕ) (cause : Cause) → HasRoom g → IsCauseNotToRecover g p saved cause → down_at m p ≡ Some true → HasFailed (terms_of g) m p (slice_index saved) concerned kept undone → ⊥
  no_recover p saved concerned kept undone Undeclared room why down failed = let lt = known p true down in omega (arith, lt, why)
  no_recover p saved concerned kept undone Up room why down failed = not_both p (stands p true down) why
  no_recover p saved concerned kept undone Full room why down failed = let a = why.1 in let b = room.1 in omega (arith, a, b)
  no_recover p saved concerned kept undone Forgotten room why down failed = why.2 (λ q lt listed. enough q (cases_lt q (roles_of g)) (failed.above q listed))
    where
      enough : (q : ℕ) → (q < roles_of g) ⊎ (roles_of g ≤ q) → slice_index m.forgotten q ≤ slice_index saved q → (numbers_at g.numbers q).forgotten ≤ slice_index saved q
      enough q (inl lt) le = let a = forgotten_at g m is q lt in omega (arith, a, le)
      enough q (inr ge) le =
          let none : numbers_at g.numbers q ≡ at_start = none_there g.numbers q at_start (let a = is.numbers_are.all in omega (arith, a, ge)) in
          subst (λ (x : Numbers). x.forgotten ≤ slice_index saved q) (sym none) (omega arith)
  no_recover p saved concerned kept undone Down room why down failed = why
  no_recover p saved concerned kept undone Stale room why down failed = why
  no_recover p saved concerned kept undone NotNext room why down failed = why
  no_recover p saved concerned kept undone Empty room why down failed = why
  no_recover p saved concerned kept undone NotFront room why down failed = why
