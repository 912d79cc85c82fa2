-- The roles of a sound journal are below eight.
use Rattle.std.proofs.Common.{◌≡◌, ℕ, ◌<◌, ◌≤◌, Option, Some, List, sym, subst, ⊎_elim, arith}
use Rattle.std.specs.Prelude.{slice_get}
use Rattle.rcv_tree.specs.declared.event.Event.{Event}
use Rattle.rcv_tree.specs.declared.role.RoleSet.{RoleSet}
use Rattle.rcv_tree.specs.declared.entry.Entry.{Entry}
use Rattle.rcv_tree.specs.declared.entry.Entry.TheVariants.{Send, Recv, Crash, Recover}
use Rattle.rcv_session.specs.Session.{SessionView, roles_of}
use Rattle.rcv_fates.specs.Fates.{IsEventAt}
use Rattle.rcv_fates.specs.Record.{IsSound}
use Rattle.rcv_story.specs.declared.story.Recovery.{Recovery}
use Rattle.rcv_story.proofs.Passing.{AreFew, IsPass}

module _ (setup : SessionView) (entries : List Entry) (sound : IsSound setup entries) where
  few_roles : roles_of setup ≤ 8
  few_roles = sound.accepted.form.few_roles

  pub event_low : (k : ℕ) (e : Event) → IsEventAt entries k e → e.role < 8
  event_low k e there = ⊎_elim
      (λ at. let a = (sound.named k (Send e) at).0.role in let b = few_roles in omega (arith, a, b))
      (λ at. let a = (sound.named k (Recv e) at).0.role in let b = few_roles in omega (arith, a, b))
      there

  pub crash_low : (k p : ℕ) → slice_get entries k ≡ Some (Crash p) → p < 8
  crash_low k p at = let a = sound.named k (Crash p) at in let b = few_roles in omega (arith, a, b)

  pub recover_low : (k p : ℕ) (concerned : RoleSet) (keeps : List ℕ) (n : ℕ) → slice_get entries k ≡ Some (Recover p concerned keeps n) → p < 8
  recover_low k p concerned keeps n at = let a = sound.named k (Recover p concerned keeps n) at in let b = few_roles in omega (arith, a, b)

  pub roles_are_few : AreFew entries
  roles_are_few r p e = subst (λ (m : ℕ). m < 8) e.role (event_low p e.event e.there)

pub pass_as : (entries : List Entry) (k : ℕ) (l m : List (List ℕ)) (c d u v : List (Option ℕ)) (x y : List Recovery) → l ≡ m → c ≡ d → u ≡ v → x ≡ y → IsPass entries k m d v y → IsPass entries k l c u x
pass_as entries k l m c d u v x y f g h i pass =
    subst (λ (z : List (List ℕ)). IsPass entries k z c u x) (sym f)
    (subst (λ (z : List (Option ℕ)). IsPass entries k m z u x) (sym g)
    (subst (λ (z : List (Option ℕ)). IsPass entries k m d z x) (sym h)
    (subst (λ (z : List Recovery). IsPass entries k m d v z) (sym i) pass)))

abbrev pub recovery_of : ℕ → Option ℕ → List (Option ℕ) → List (Option ℕ) → Recovery
recovery_of place crash firsts lasts = record { place = place; crash = crash; firsts = firsts; lasts = lasts }
