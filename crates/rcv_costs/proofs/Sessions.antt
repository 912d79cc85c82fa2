-- Sessions that differ in crash lines alone: without those they are one, and with one crash each has the same.
use Rattle.std.proofs.Common.{◌≡◌, ℕ, List, [], ◌∷◌, ◌++◌, refl, sym, ◌∙◌, ap, subst}
use Rattle.std.specs.Prelude.{◌==◌, if◌then◌else◌}
use Rattle.rcv_tree.specs.declared.protocol.Protocol.{Protocol}
use Rattle.rcv_tree.specs.declared.entry.Entry.{Entry}
use Rattle.rcv_model.specs.Plan.{PlanLine, EveryLine, CrashLine, LimitLine, RoomLine, HostLine}
use Rattle.rcv_model.specs.Script.{Line}
use Rattle.rcv_model.specs.Journal.{reading}
use Rattle.rcv_model.specs.Final.{IsOneThread}
use Rattle.rcv_model.specs.Transparent.{without_crashes}
use Rattle.rcv_session.specs.Session.{SessionView, rules_of}
use Rattle.rcv_transparent.specs.Calm.{without_crash_lines, calm}
use Rattle.rcv_transparent.proofs.CalmRules.{calm_rules}
use Rattle.rcv_plan.specs.OneCrash.{calm_lines, with_one_crash}
use Rattle.rcv_plan.proofs.Alone.{alone}
use Rattle.rcv_costs.specs.Rehearsal.{crash_session, DiffersInCrashes}
use Rattle.rcv_costs.specs.Costs.{points_of, AreOwnPoints}

-- both name the same lines
calm_same : (plan : List PlanLine) → without_crash_lines plan ≡ calm_lines plan
calm_same [] = refl
calm_same (EveryLine q n ∷ plan) = ap (λ l. EveryLine q n ∷ l) (calm_same plan)
calm_same (CrashLine q n ∷ plan) = calm_same plan
calm_same (LimitLine n ∷ plan) = ap (λ l. LimitLine n ∷ l) (calm_same plan)
calm_same (RoomLine n ∷ plan) = ap (λ l. RoomLine n ∷ l) (calm_same plan)
calm_same (HostLine qs ∷ plan) = ap (λ l. HostLine qs ∷ l) (calm_same plan)

-- the one crash line is a crash line
calm_one : (r n : ℕ) (plan : List PlanLine) → calm_lines (with_one_crash r n plan) ≡ calm_lines plan
calm_one r n [] = refl
calm_one r n (EveryLine q c ∷ plan) = ap (λ l. EveryLine q c ∷ l) (calm_one r n plan)
calm_one r n (CrashLine q c ∷ plan) = calm_one r n plan
calm_one r n (LimitLine c ∷ plan) = ap (λ l. LimitLine c ∷ l) (calm_one r n plan)
calm_one r n (RoomLine c ∷ plan) = ap (λ l. RoomLine c ∷ l) (calm_one r n plan)
calm_one r n (HostLine qs ∷ plan) = ap (λ l. HostLine qs ∷ l) (calm_one r n plan)

abbrev made : Protocol → List (List Line) → List PlanLine → SessionView
made protocol scripts plan = record { protocol = protocol; scripts = scripts; plan = plan }

pub differs_self : (a : SessionView) → DiffersInCrashes a a
differs_self a = record { protocol = refl; scripts = refl; plan = refl }

pub differs_crash : (a : SessionView) (r n : ℕ) → DiffersInCrashes a (crash_session a r n)
differs_crash a r n = record { protocol = refl; scripts = refl; plan = calm_one r n a.plan }

pub differs_same : (a b : SessionView) → b ≡ a → DiffersInCrashes a b
differs_same a b e = subst (DiffersInCrashes a) (sym e) (differs_self a)

pub differs_joined : (a b c : SessionView) → DiffersInCrashes a b → DiffersInCrashes b c → DiffersInCrashes a c
differs_joined a b c x y = record { protocol = y.protocol ∙ x.protocol; scripts = y.scripts ∙ x.scripts; plan = y.plan ∙ x.plan }

pub differs_turned : (a b : SessionView) → DiffersInCrashes a b → DiffersInCrashes b a
differs_turned a b x = record { protocol = sym x.protocol; scripts = sym x.scripts; plan = sym x.plan }

module _ (a b : SessionView) (differs : DiffersInCrashes a b) where
  pub calm_is : calm b ≡ calm a
  calm_is =
      ap (λ (p : Protocol). made p b.scripts (without_crash_lines b.plan)) differs.protocol
      ∙ ap (λ (s : List (List Line)). made a.protocol s (without_crash_lines b.plan)) differs.scripts
      ∙ ap (λ (l : List PlanLine). made a.protocol a.scripts l) (calm_same b.plan ∙ differs.plan ∙ sym (calm_same a.plan))

  pub crash_is : (r n : ℕ) → crash_session b r n ≡ crash_session a r n
  crash_is r n =
      ap (λ (p : Protocol). made p b.scripts (with_one_crash r n b.plan)) differs.protocol
      ∙ ap (λ (s : List (List Line)). made a.protocol s (with_one_crash r n b.plan)) differs.scripts
      ∙ ap (λ (l : List PlanLine). made a.protocol a.scripts (l ++ CrashLine r n ∷ [])) differs.plan

  pub own_is : (r : ℕ) (points : List ℕ) → AreOwnPoints b r points → AreOwnPoints a r points
  own_is r points are = subst (λ (x : SessionView). (run : List Entry) → IsOneThread (rules_of x) run → points ≡ points_of r (reading (rules_of x) run).kept) calm_is are

-- a plan that has the one crash has it once more
pub crash_again : (a b : SessionView) (r n : ℕ) → b ≡ crash_session a r n → b ≡ crash_session b r n
crash_again a b r n e = e ∙ sym (crash_is a b (subst (DiffersInCrashes a) (sym e) (differs_crash a r n)) r n)

-- the rules of the session without crashes, by those of the one with one crash
pub rules_crash : (a : SessionView) (r n : ℕ) → without_crashes (rules_of (crash_session a r n)) ≡ rules_of (calm a)
rules_crash a r n = sym (calm_rules (crash_session a r n)) ∙ ap rules_of (calm_is a (crash_session a r n) (differs_crash a r n))

-- whose crash line it is
pub line_of : (a : SessionView) (r n q : ℕ) → (rules_of (crash_session a r n)).crash_lines q ≡ (if r == q then n ∷ [] else [])
line_of a r n q = alone.crashes r n a.plan q
