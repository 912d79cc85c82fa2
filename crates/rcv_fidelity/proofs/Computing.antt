-- Steps of machines of a concrete text, found by computing: for worked examples.
use Rattle.std.proofs.Common.{◌≡◌, ℕ, Bool, true, ◌&&◌, List, [], ◌∷◌, ◌++◌, sym, ◌∙◌, ap, subst, inl, inr, append_assoc, append-nil, arith}
use Rattle.std.specs.Prelude.{◌==◌}
use Rattle.std.proofs.lemmas.Bool.Decides.{nat_tests}
use Rattle.rcv_tree.specs.Bits.{is_listed}
use Rattle.rcv_tree.specs.declared.event.Event.{Event}
use Rattle.rcv_tree.specs.declared.event.Dir.TheVariants.{Sent, Got}
use Rattle.rcv_model.specs.Net.{Net, IsIn, HasOneLane, HasTwoEnds}
use Rattle.rcv_model.proofs.Checked.{all_of, both_true, of_all, checked, nexts, next_by}
use Rattle.rcv_model.proofs.Lists.{not_empty}
use Rattle.rcv_model.proofs.Scanning.{is_member as of_listed}
use Rattle.rcv_project.specs.Act.{ActView, Sending, Receiving, AreSentBy, AreReceivedBy, IsActAt}
use Rattle.rcv_project.proofs.Acting.{one_act}
use Rattle.rcv_fidelity.specs.Machines.{place_after, TakesFront, CanMake, IsMachineStep, AreMachineSteps}

-- what a machine sends and receives at a place
abbrev pub is_sending : Net → ℕ → ℕ → Bool
is_sending net r k = checked net r k && all_of (λ z. net.sender z == r) (nexts net r k)

abbrev pub is_receiving : Net → ℕ → ℕ → ℕ → Bool
is_receiving net r k from = checked net r k && all_of (λ z. net.receiver z == r && net.sender z == from) (nexts net r k)

pub sending : (net : Net) (one : HasOneLane net) (r k z : ℕ) → is_sending net r k ≡ true → IsIn z (nexts net r k) → IsActAt net r k (Sending (nexts net r k))
sending net one r k z ok i = (next_by net one r k tests.0, not_empty z (nexts net r k) i, sent)
  where
    tests : (checked net r k ≡ true) × (all_of (λ z. net.sender z == r) (nexts net r k) ≡ true)
    tests = both_true (checked net r k) (all_of (λ z. net.sender z == r) (nexts net r k)) ok

    sent : AreSentBy net r (nexts net r k)
    sent z j = let t = of_all (λ z. net.sender z == r) z (nexts net r k) tests.1 j in grind (arith, nat_tests)

pub receiving : (net : Net) (one : HasOneLane net) (r k from z : ℕ) → is_receiving net r k from ≡ true → IsIn z (nexts net r k) → IsActAt net r k (Receiving from (nexts net r k))
receiving net one r k from z ok i = (next_by net one r k tests.0, not_empty z (nexts net r k) i, received)
  where
    tests : (checked net r k ≡ true) × (all_of (λ z. net.receiver z == r && net.sender z == from) (nexts net r k) ≡ true)
    tests = both_true (checked net r k) (all_of (λ z. net.receiver z == r && net.sender z == from) (nexts net r k)) ok

    received : AreReceivedBy net r from (nexts net r k)
    received z j =
        let t = both_true (net.receiver z == r) (net.sender z == from) (of_all (λ z. net.receiver z == r && net.sender z == from) z (nexts net r k) tests.1 j) in
        ((let x = t.0 in grind (arith, nat_tests)), (let x = t.1 in grind (arith, nat_tests)))

-- a step
module _ (net : Net) (one : HasOneLane net) (h : List Event) (e : Event) where
  pub sends : e.dir ≡ Sent → is_sending net e.role (place_after e.role h) ≡ true → is_listed (nexts net e.role (place_after e.role h)) e.point ≡ true → IsMachineStep net h e
  sends d ok listed =
      let i = of_listed e.point (nexts net e.role (place_after e.role h)) listed in
      record { act = Sending (nexts net e.role (place_after e.role h)); does = sending net one e.role (place_after e.role h) e.point ok i; makes = (d, i) }

  pub hears : (from : ℕ) → e.dir ≡ Got → is_receiving net e.role (place_after e.role h) from ≡ true → is_listed (nexts net e.role (place_after e.role h)) e.point ≡ true → TakesFront net from h e → IsMachineStep net h e
  hears from d ok listed takes =
      let i = of_listed e.point (nexts net e.role (place_after e.role h)) listed in
      record { act = Receiving from (nexts net e.role (place_after e.role h)); does = receiving net one e.role (place_after e.role h) from e.point ok i; makes = (d, i, takes) }

-- one step after another
abbrev pub AreStepsFrom : Net → List Event → List Event → Type 0
AreStepsFrom n g [] = Unit {0}
AreStepsFrom n g (e ∷ rest) = IsMachineStep n g e × AreStepsFrom n (g ++ e ∷ []) rest

each_step : (net : Net) (g rest : List Event) → AreStepsFrom net g rest → (before after : List Event) (e : Event) → before ++ e ∷ after ≡ rest → IsMachineStep net (g ++ before) e
each_step net g [] steps [] after e eq = absurd (cc)
each_step net g [] steps (x ∷ before) after e eq = absurd (cc)
each_step net g (y ∷ rest) steps [] after e eq = let same : y ≡ e = cc in subst (λ h. IsMachineStep net h e) (sym (append-nil g)) (subst (IsMachineStep net g) same steps.0)
each_step net g (y ∷ rest) steps (x ∷ before) after e eq =
    let same : y ≡ x = cc in
    let others : before ++ e ∷ after ≡ rest = cc in
    subst (λ h. IsMachineStep net h e) (append_assoc g (y ∷ []) before ∙ ap (λ z. g ++ z ∷ before) same) (each_step net (g ++ y ∷ []) rest steps.1 before after e others)

pub are_steps : (net : Net) (h : List Event) → AreStepsFrom net [] h → AreMachineSteps net h
are_steps net h steps before after e eq = each_step net [] h steps before after e eq

-- what a machine can make if it does this at its role's place
pub can_make : (net : Net) (h : List Event) (e : Event) (act : ActView) → HasTwoEnds net → IsActAt net e.role (place_after e.role h) act → IsMachineStep net h e → CanMake act net h e
can_make net h e act two does step = subst (λ a. CanMake a net h e) (one_act net e.role (place_after e.role h) two step.act act step.does does) step.makes

-- what isn't in a list of one or two
pub not_it : (x y : ℕ) → (x ≡ y → ⊥) → IsIn x (y ∷ []) → ⊥
not_it x y n (inl e) = n e
not_it x y n (inr i) = i

pub neither : (x y z : ℕ) → (x ≡ y → ⊥) → (x ≡ z → ⊥) → IsIn x (y ∷ z ∷ []) → ⊥
neither x y z m n (inl e) = m e
neither x y z m n (inr (inl e)) = n e
neither x y z m n (inr (inr i)) = i
