-- Texts that a loop writes, and what they say of sessions with one protocol.
use Rattle.std.proofs.Common.{◌≡◌, ℕ, zero, suc, ◌+◌, ◌<◌, ◌≤◌, false, Option, None, Some, List, [], ◌∷◌, ◌++◌, length, sym, ◌∙◌, ap, subst, append_assoc, append-nil, arith}
use Rattle.std.specs.Prelude.{◌==◌, if◌then◌else◌, flat_map}
use Rattle.std.specs.List.{range_with_len}
use Rattle.std.proofs.lemmas.Grind.{flat_map-append}
use Rattle.std.proofs.lemmas.List.Elements.{All-nil, All-cons, All-head, All-tail}
use Rattle.rcv_tree.specs.declared.protocol.Protocol.{Protocol}
use Rattle.rcv_session.specs.Session.{SessionView, net_for}
use Rattle.rcv_costs.specs.declared.numbers.Cost.{Cost}
use Rattle.rcv_costs.specs.Named.{IsNamedPoint, IsNamedCost, AreNamedCosts}
use Rattle.rcv_losses.specs.LossText.{sampled_line, step_line, losses_text}

range_more : (a n : ℕ) → range_with_len a (n + 1) ≡ range_with_len a n ++ (a + n) ∷ []
range_more a zero = ap (λ k. k ∷ []) (omega arith)
range_more a (suc n) =
    let one : suc n + 1 ≡ suc (n + 1) = omega arith in
    ap (range_with_len a) one
    ∙ ap (λ l. a ∷ l) (range_more (a + 1) n)
    ∙ ap (λ k. a ∷ (range_with_len (a + 1) n ++ k ∷ [])) (omega arith)

pub said_one_more : {A : Type 0} (f : ℕ → List A) (old now new : List A) (n : ℕ) → now ≡ old ++ flat_map f (range_with_len 0 n) → new ≡ now ++ f n → new ≡ old ++ flat_map f (range_with_len 0 (n + 1))
said_one_more f old now new n so is =
    is
    ∙ ap (λ l. l ++ f n) so
    ∙ append_assoc old (flat_map f (range_with_len 0 n)) (f n)
    ∙ ap (λ l. old ++ (flat_map f (range_with_len 0 n) ++ l)) (sym (append-nil (f n)))
    ∙ ap (λ l. old ++ l) (sym (flat_map-append f (range_with_len 0 n) (n ∷ [])))
    ∙ ap (λ l. old ++ flat_map f l) (ap (λ k. range_with_len 0 n ++ k ∷ []) (omega arith) ∙ sym (range_more 0 n))

pub sampled : (step : ℕ) → (step == 1) ≡ false → step_line step ≡ sampled_line step
sampled step e = ap (λ b. if b then [] else sampled_line step) e

-- names depend on the protocol alone
module _ (old new : SessionView) (same : new.protocol ≡ old.protocol) where
  point_there : (o : Option ℕ) → IsNamedPoint old o → IsNamedPoint new o
  point_there None is = tt
  point_there (Some p) is = subst (λ (x : Protocol). (1 ≤ p) × (p ≤ (net_for (record old { protocol = x })).count)) (sym same) is

  pub named_there : (costs : List Cost) → AreNamedCosts old costs → AreNamedCosts new costs
  named_there [] all = All-nil (IsNamedCost new)
  named_there (cost ∷ costs) all =
      let here = All-head (IsNamedCost old) cost costs all in
      All-cons (IsNamedCost new) cost costs
      (record {
        role = subst (λ (x : Protocol). cost.role < length x.roles) (sym same) here.role;
        before = point_there cost.before here.before;
        after = point_there cost.after here.after;
      })
      (named_there costs (All-tail (IsNamedCost old) cost costs all))

  pub text_there : (step : ℕ) (costs : List Cost) → losses_text new step costs ≡ losses_text old step costs
  unfolding Rattle.rcv_losses.specs.LossText.cost_text Rattle.rcv_losses.specs.LossText.names_text
  text_there step costs = ap (λ (x : Protocol). losses_text (record old { protocol = x }) step costs) same

-- a piece more goes in front of the rest
pub push_right : (old now piece rest : List ℕ) → now ≡ old ++ piece → now ++ rest ≡ old ++ (piece ++ rest)
push_right old now piece rest e = ap (λ l. l ++ rest) e ∙ append_assoc old piece rest
