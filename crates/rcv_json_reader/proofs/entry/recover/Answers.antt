-- Item by item.
use Rattle.std.proofs.Common.{◌∙◌, [], ◌∷◌, ℕ, ap, arith, codes, sym, subst, List}
use Rattle.serde_json.specs.Data.{Data, string}
use Rattle.serde_json.specs.View.{view}
use Rattle.rcv_session.specs.Session.{roles_of}
use Rattle.rcv_journal.specs.Recorded.{bare}
use Rattle.rcv_journal.specs.Json.{count, cuts_data, list_of, role_data}
use Rattle.rcv_json_reader.specs.Parts.{SaysRecovery}
use Rattle.rcv_json_reader.proofs.Items.{item_at, none_from}
use Rattle.rcv_json_reader.proofs.entry.recover.Goals as goal

pub returns-clause-none : goal.returns-clause-none
returns-clause-none c =
    let parts = c.args.parts.now in
    let setup = bare c.args.accepted.now.protocol in
    let four : ℕ → ℕ → List ℕ → ℕ → List Data
    = λ p concerned kept undone. string (codes "recover") ∷ role_data setup p ∷ count undone ∷ list_of (cuts_data setup concerned kept (roles_of setup)) ∷ [] in
    none_from c.read_recovery.result (λ none r says. none r
    (subst (λ protocol. SaysRecovery (bare protocol) (view c.index-parts-1.result) (view c.index-parts-2.result) (view c.index-parts-3.result) r) (sym c.protocol.ensures.value) (record {
      declared = says.formed.role;
      fits = says.formed.undone_fits;
      role = ap view c.index-parts-1.is ∙ item_at parts (four r.role r.cuts.concerned.0 r.cuts.kept r.undone) 1 c.index-parts-1.result (omega (arith, c.requires)) says.is;
      number = ap view c.index-parts-2.is ∙ item_at parts (four r.role r.cuts.concerned.0 r.cuts.kept r.undone) 2 c.index-parts-2.result (omega (arith, c.requires)) says.is;
      cuts = record {
        cuts = says.formed.cuts;
        is = ap view c.index-parts-3.is ∙ item_at parts (four r.role r.cuts.concerned.0 r.cuts.kept r.undone) 3 c.index-parts-3.result (omega (arith, c.requires)) says.is;
      };
    }))) c.read_recovery.ensures.none
