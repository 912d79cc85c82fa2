-- Item by item.
use Rattle.std.proofs.Common.{◌∙◌, [], ap, arith, codes, sym, List}
use Rattle.serde_json.specs.Data.{Data}
use Rattle.serde_json.specs.View.{view}
use Rattle.rcv_tree.specs.declared.event.Event.{Event}
use Rattle.rcv_journal.specs.Recorded.{bare}
use Rattle.rcv_journal.specs.Json.{count, event_items}
use Rattle.rcv_json_reader.proofs.Items.{item_at, none_from}
use Rattle.rcv_json_reader.proofs.event.send.Goals as goal

pub returns-clause-none : goal.returns-clause-none
returns-clause-none c =
    let parts = c.args.parts.now in
    let six : Event → List Data = λ e. event_items (bare c.args.accepted.now.protocol) (codes "send") e [] in
    none_from c.event.result (λ none e says. none e (record {
      formed = says.formed.0;
      role = ap view c.index-parts-1.is ∙ item_at parts (six e) 1 c.index-parts-1.result (omega (arith, c.requires)) says.is;
      point = ap view c.index-parts-2.is ∙ item_at parts (six e) 2 c.index-parts-2.result (omega (arith, c.requires)) says.is;
      label = ap view c.index-parts-3.is ∙ item_at parts (six e) 3 c.index-parts-3.result (omega (arith, c.requires)) says.is;
      value = ap view c.index-parts-4.is ∙ item_at parts (six e) 4 c.index-parts-4.result (omega (arith, c.requires)) says.is;
      stamp = ap view c.index-parts-5.is ∙ item_at parts (six e) 5 c.index-parts-5.result (omega (arith, c.requires)) says.is;
      sent = ap view c.index-parts-5-2.is ∙ item_at parts (six e) 5 c.index-parts-5-2.result (omega (arith, c.requires)) says.is ∙ ap count (sym says.formed.1);
    })) c.event.ensures.none
