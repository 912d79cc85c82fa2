-- The names so far.
use Rattle.std.specs.Prelude.{◌≡◌, map, take}
use Rattle.serde_json.specs.View.{view}
use Rattle.rcv_export.specs.Pieces.{word_data}
use Rattle.rcv_export.proofs.words.words_value.Given as goal

abbrev pub invariant-loop-name : goal.invariant-loop-name
invariant-loop-name l = map view l.list.items ≡ map word_data (take l.name-index l.names)
