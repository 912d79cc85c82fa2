-- Item by item.
use Rattle.std.proofs.Common.{[], ◌∷◌, ◌∙◌, List, ap, sym, arith}
use Rattle.serde_json.specs.Data.{Data, string}
use Rattle.serde_json.specs.View.{view}
use Rattle.rcv_journal.specs.declared.line.RoleLine.{RoleLine}
use Rattle.rcv_journal.specs.JournalText.{word_text}
use Rattle.rcv_journal.specs.Recorded.{bare}
use Rattle.rcv_journal.specs.Json.{count, role_data}
use Rattle.rcv_json_reader.proofs.Items.{item_at, none_from, same_length}
use Rattle.rcv_json_reader.proofs.lines.read_line.Goals as goal

pub returns-then-parts-ne4-clause-none : goal.returns-then-parts-ne4-clause-none
returns-then-parts-ne4-clause-none c = λ line says.
    let long = same_length c.in_ok-parts.parts.now
    (role_data (bare c.args.protocol.now) line.role ∷ count line.kept ∷ count line.raw ∷ string (word_text line.word) ∷ [])
    (sym c.in_ok-parts.ensures.some ∙ says.is) in
    omega (arith, c.if-parts-ne4.true)

pub returns-clause-none : goal.returns-clause-none
returns-clause-none c =
    let parts = c.in_ok-parts.parts.now in
    let four : RoleLine → List Data = λ line. role_data (bare c.args.protocol.now) line.role ∷ count line.kept ∷ count line.raw ∷ string (word_text line.word) ∷ [] in
    none_from c.numbers.result (λ none line says. let is = sym c.in_ok-parts.ensures.some ∙ says.is in none line says.formed (record {
      kept = ap view c.index-parts-1.is ∙ item_at parts (four line) 1 c.index-parts-1.result (omega (arith, c.if-parts-ne4.false)) is;
      raw = ap view c.index-parts-2.is ∙ item_at parts (four line) 2 c.index-parts-2.result (omega (arith, c.if-parts-ne4.false)) is;
      word = ap view c.index-parts-3.is ∙ item_at parts (four line) 3 c.index-parts-3.result (omega (arith, c.if-parts-ne4.false)) is;
    })) c.numbers.ensures.none
