-- A pair has two items.
use Rattle.std.proofs.Common.{[], ◌∷◌, ◌∙◌, sym, arith}
use Rattle.rcv_journal.specs.Recorded.{bare}
use Rattle.rcv_journal.specs.Json.{count, role_data}
use Rattle.rcv_json_reader.proofs.Items.{same_length}
use Rattle.rcv_json_reader.proofs.cuts.cut.Goals as goal

pub returns-then-parts-ne2-clause-none : goal.returns-then-parts-ne2-clause-none
returns-then-parts-ne2-clause-none c = λ n fits is.
    let long = same_length c.in_ok-parts.parts.now (role_data (bare c.args.protocol.now) c.args.role ∷ count n ∷ []) (sym c.in_ok-parts.ensures.some ∙ is) in
    omega (arith, c.if-parts-ne2.true)
