-- Events that are told as numbers.
use Rattle.std.proofs.Common.{◌≡◌, ◌∙◌, ℕ, ℤ, Bool, true, false, true≢false, Option, Some, FitsSigned, w64, refl, sym, subst}
use Rattle.std.specs.Prelude.{IsTrue}
use Rattle.rcv_accept.specs.Accepted.{AcceptedView}
use Rattle.rcv_dialogue.specs.declared.line.Line.{Line}
use Rattle.rcv_dialogue.specs.declared.line.Line.TheVariants as line
use Rattle.rcv_dialogue.specs.declared.line.ToldSend.{ToldSend}
use Rattle.rcv_dialogue.specs.declared.line.ToldRecv.{ToldRecv}
use Rattle.rcv_dialogue.specs.declared.line.ToldSave.{ToldSave}
use Rattle.rcv_dialogue.specs.Lines.{IsLine, IsMessage, IsRole, Fits, MayFit}
use Rattle.rcv_guided.specs.declared.typed.Heard.{Heard}
use Rattle.rcv_guided.specs.declared.typed.Heard.TheVariants as heard
use Rattle.rcv_guided.specs.Hearing.{accepted_of}
use Rattle.rcv_guided.specs.Typed.{IsHeardAs}
use Rattle.rcv_c.specs.declared.held.Held.{Held}
use Rattle.rcv_c.specs.declared.status.Status.{Status}
use Rattle.rcv_c.specs.declared.status.Status.TheVariants as statuses
use Rattle.rcv_c.specs.Telling.{status_of, stamp_over, Hears, IsOutside, IsPointOf, TellsEvent}

-- ---- which lines a protocol has

-- A role is declared where a call says so, which is asked of the same protocol; and a role and a point.
module _ (a b : AcceptedView) (same : a ≡ b) (r p : ℕ) (has : Bool) where
  pub no_role : (IsRole a r → IsTrue has) → has ≡ false → IsRole b r → ⊥
  no_role tells isnt is = true≢false (sym (tells (subst (λ (x : AcceptedView). IsRole x r) (sym same) is)) ∙ isnt)

  pub a_role : (IsTrue has → IsRole a r) → has ≡ true → IsRole b r
  a_role tells so = subst (λ (x : AcceptedView). IsRole x r) same (tells so)

  no_both : (IsRole a r × IsPointOf a p → IsTrue has) → has ≡ false → IsRole b r × IsPointOf b p → ⊥
  no_both tells isnt is =
      true≢false (sym (tells (subst (λ (x : AcceptedView). IsRole x r × IsPointOf x p) (sym same) is)) ∙ isnt)

  pub no_message : (IsRole a r × IsPointOf a p → IsTrue has) → has ≡ false → (value : ℤ) → IsRole b r → IsMessage b p value → ⊥
  no_message tells isnt value role m = no_both tells isnt (role, record { first = m.first; last = m.last })

  both : (IsTrue has → IsRole a r × IsPointOf a p) → has ≡ true → IsRole b r × IsPointOf b p
  both tells so = subst (λ (x : AcceptedView). IsRole x r × IsPointOf x p) same (tells so)

  message : (IsTrue has → IsRole a r × IsPointOf a p) → has ≡ true → (value : ℤ) → FitsSigned w64 value → IsMessage b p value
  message tells so value fits = record { first = (both tells so).1.first; last = (both tells so).1.last; value_fits = fits }

module _ (a b : AcceptedView) (same : a ≡ b) (has : Bool) where
  pub send_formed : (told : ToldSend) → (IsTrue has → IsRole a told.role × IsPointOf a told.point) → has ≡ true → FitsSigned w64 told.value
      → MayFit told.stamp → MayFit told.incarnation → IsLine b (line.Send told)
  send_formed told tells so value stamp incarnation = (
    (both a b same told.role told.point has tells so).0,
    message a b same told.role told.point has tells so told.value value,
    stamp,
    incarnation,
  )

  pub recv_formed : (told : ToldRecv) → (IsTrue has → IsRole a told.role × IsPointOf a told.point) → has ≡ true → FitsSigned w64 told.value
      → MayFit told.stamp → MayFit told.sent → MayFit told.incarnation → IsLine b (line.Recv told)
  recv_formed told tells so value stamp sent incarnation = (
    (both a b same told.role told.point has tells so).0,
    message a b same told.role told.point has tells so told.value value,
    stamp,
    sent,
    incarnation,
  )

  pub save_formed : (told : ToldSave) → (IsTrue has → IsRole a told.role) → has ≡ true → Fits told.count → MayFit told.incarnation
      → IsLine b (line.Save told)
  save_formed told tells so count incarnation = (a_role a b same told.role 0 has tells so, count, incarnation)

-- ---- what a call answers

module _ (told : Line) (before after : Option Held) (old new : ℕ) (status : Status) where
  -- What holds of this status holds of that of the call, which is the same.
  of_this : (s : Status) → status ≡ s → (Hears told before after old new s → TellsEvent told before after old new s)
      → Hears told before after old new status → TellsEvent told before after old new status
  of_this s is to h =
      subst (λ (x : Status). TellsEvent told before after old new x) (sym is) (to (subst (λ (x : Status). Hears told before after old new x) is h))

  -- What was heard has one of four statuses.
  by_kind : (kind : Heard) → status ≡ status_of kind → Hears told before after old new status → TellsEvent told before after old new status
  by_kind (heard.Done stamp) is h = of_this statuses.Done is (λ x. x) h
  by_kind heard.Illegal is h = of_this statuses.Illegal is (λ x. x) h
  by_kind heard.Stale is h = of_this statuses.Stale is (λ x. x) h
  by_kind heard.Memory is h = of_this statuses.Memory is (λ x. x) h

  pub tells_event : Hears told before after old new status → TellsEvent told before after old new status
  tells_event h = by_kind h.kind h.status_is h

-- The session has no such line.
pub outside : (told : Line) (before after : Option Held) (old : ℕ) (held : Held) → Some held ≡ before → after ≡ Some held
    → (IsLine (accepted_of held.session) told → ⊥) → IsOutside told before after old old
outside told before after old held is same none = record {
  held = held;
  before_is = sym is;
  none = none;
  same = same ∙ is;
  stamp_same = refl;
}

-- It heard the line.
module _ (told : Line) (before after : Option Held) (old new : ℕ) (status : Status) (held next : Held) (kind : Heard) where
  pub told_so : Some held ≡ before → after ≡ Some next → next.answer ≡ held.answer → IsLine (accepted_of held.session) told
      → IsHeardAs held.session told next.session kind → status ≡ status_of kind → new ≡ stamp_over old kind
      → TellsEvent told before after old new status
  told_so is then answer formed hears status_is stamp_is =
      tells_event told before after old new status (record {
        held = held;
        before_is = sym is;
        formed = formed;
        next = next;
        after_is = then;
        kind = kind;
        hears = hears;
        status_is = status_is;
        stamp_is = stamp_is;
        answer = answer;
      })
