-- What a book's recovery does is what its line tells and the table foresees.
use Rattle.std.proofs.Common.{ℕ, List, []}
use Rattle.rcv_tree.specs.declared.entry.Entry.{Entry}
use Rattle.rcv_tree.specs.declared.entry.Entry.TheVariants.{Send, Recv, Crash, Recover}
use Rattle.rcv_model.specs.Journal.{start}
use Rattle.rcv_model.proofs.Legal.{legal_more}
use Rattle.rcv_model.proofs.Telling.{tells_right}
use Rattle.rcv_theory.proofs.Foreseeing.{recoveries_are_foreseen}
use Rattle.rcv_session.specs.Session.{SessionView, roles_of, rules_of}
use Rattle.rcv_ledger.specs.Ledger.{LedgerView}
use Rattle.rcv_tree.specs.declared.numbers.Numbers.{Numbers}
use Rattle.rcv_core.specs.Book.{IsBook, IsRecoveryOf, IsForeseenRecovery}
use Rattle.rcv_core.proofs.Books.{whole, is_proper}

module _ (setup : SessionView) (entries : List Entry) (numbers : List Numbers) (ledger : LedgerView) (kept : IsBook setup entries numbers ledger) where
  pub foreseen_recovery : (p : ℕ) (e : Entry) → IsRecoveryOf (whole setup entries) p e → IsForeseenRecovery (whole setup entries) e
  foreseen_recovery p (Recover q concerned counts undone) may =
      let legal = legal_more (rules_of setup) (start (roles_of setup)) entries (Recover q concerned counts undone) kept.legal may.1 in
      record {
        tells = tells_right (rules_of setup) entries [] q concerned counts undone legal;
        spares = recoveries_are_foreseen (rules_of setup) entries [] q concerned counts undone (record { proper = is_proper setup entries numbers ledger kept; accepted = kept.protocol.accepted }) legal;
      }
  foreseen_recovery p (Send e) may = absurd may
  foreseen_recovery p (Recv e) may = absurd may
  foreseen_recovery p (Crash q) may = absurd may
