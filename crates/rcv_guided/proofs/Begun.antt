-- A session before its first line.
use Rattle.std.proofs.Common.{◌≡◌, ℕ, ◌≤◌, List, [], None, length, replicate, sym, subst, arith}
use Rattle.std.specs.Prelude.{All}
use Rattle.std.proofs.lemmas.List.Elements.{All-nil}
use Rattle.rcv_guide.proofs.Renewing.{each_same}
use Rattle.std.proofs.lemmas.List.{length-replicate}
use Rattle.rcv_tree.specs.declared.protocol.Protocol.{Protocol}
use Rattle.rcv_model.specs.Plan.{PlanLine}
use Rattle.rcv_saves.specs.Saves.{SavesView}
use Rattle.rcv_saves.specs.Saves as saves
use Rattle.rcv_guide.specs.Guide.{GuideView, opened}
use Rattle.rcv_guided.specs.Session.{SessionView, made_in, IsSession, begun}
use Rattle.rcv_guided.proofs.Forgotten.{zero_at}

abbrev pub session_of : GuideView → SavesView → List ℕ → SessionView
session_of g s n = record { guide = g; saves = s; incarnations = n; restored = None }

-- Its parts make it.
pub begun_of : (protocol : Protocol) (plan : List PlanLine) (room : ℕ) (steps : List ℕ) (g : GuideView) (s : SavesView) (n : List ℕ) → g ≡ opened protocol plan room → s ≡ saves.opened steps → n ≡ replicate (length protocol.roles) 0
    → session_of g s n ≡ begun protocol plan room steps
begun_of protocol plan room steps g s n guide saved none = λ i. record { guide = guide i; saves = saved i; incarnations = none i; restored = None }

-- It is one.
pub begun_session : (protocol : Protocol) (plan : List PlanLine) (room : ℕ) (steps : List ℕ) → 1 ≤ room → length steps ≡ length protocol.roles → IsSession (begun protocol plan room steps)
begun_session protocol plan room steps some all = record {
  steps = all;
  incarnations = length-replicate (length protocol.roles) 0;
  few = λ r. (let e = zero_at (length protocol.roles) r in omega (arith, e));
  room = some;
  saved = λ r lt. subst (All (λ count. count ≤ made_in (opened protocol plan room) r)) (sym (each_same (length steps) r [])) (All-nil (λ count. count ≤ made_in (opened protocol plan room) r));
}
