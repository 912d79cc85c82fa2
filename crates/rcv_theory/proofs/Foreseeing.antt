-- In a legal journal each recovery spares whom it doesn't name, and each role that loses restarts where the table says.
use Rattle.std.proofs.Common.{◌≡◌, ℕ, ◌<◌, Some, List, [], ◌∷◌, ◌++◌, length, refl, sym, subst}
use Rattle.std.specs.Prelude.{slice_get}
use Rattle.rcv_tree.specs.declared.role.RoleSet.{RoleSet}
use Rattle.rcv_tree.specs.declared.entry.Entry.{Entry}
use Rattle.rcv_tree.specs.declared.entry.Entry.TheVariants.{Recover}
use Rattle.rcv_model.specs.Run.{acts}
use Rattle.rcv_model.specs.Premises.{IsSession}
use Rattle.rcv_model.specs.Journal.{Rules, State, start, durable, group_of, after, reading, IsLegal}
use Rattle.rcv_model.proofs.Groups.{foreseen}
use Rattle.rcv_model.proofs.Legal.{accepted_runs}
use Rattle.rcv_model.proofs.StableLines.{reading_join}
use Rattle.rcv_model.proofs.Telling.{may_at}
use Rattle.rcv_theory.specs.Bystander.{KeepsAll}
use Rattle.rcv_theory.specs.Foreseen.{IsSparedOrForeseen}
use Rattle.rcv_theory.proofs.Besides.{keeps}

pub recoveries_are_foreseen : (rules : Rules) (front back : List Entry) (p : ℕ) (concerned : RoleSet) (kept : List ℕ) (undone : ℕ) → IsSession rules → IsLegal rules (front ++ Recover p concerned kept undone ∷ back) → (q : ℕ) → q < 8 → IsSparedOrForeseen rules (reading rules front) (reading rules (front ++ Recover p concerned kept undone ∷ [])) p concerned q
recoveries_are_foreseen rules front back p concerned kept undone session legal q few =
    let recover : Entry = Recover p concerned kept undone in
    let run = accepted_runs rules (front ++ recover ∷ back) session.proper session.accepted legal front (recover ∷ back) refl in
    let may = may_at rules (start rules.roles) front back recover legal in
    let same : reading rules (front ++ recover ∷ []) ≡ after rules (reading rules front) recover = reading_join rules (start rules.roles) front (recover ∷ []) in
    record {
      spared = λ none. subst (λ (s : State). KeepsAll rules.net (reading rules front) s q) (sym same) (keeps rules (reading rules front) p q concerned kept undone session.proper session.accepted.lanes_end run may few none);
      restarts = λ own e. foreseen rules.net (group_of rules p) (durable rules (reading rules front)) q (reading rules front).kept own (rules.roles, session.proper) run
          (subst (λ (s : State). slice_get (acts q (reading rules front).kept) (length (acts q s.kept)) ≡ Some own) same e);
    }
