-- The pieces one behind the other; the lists of roles have no float.
use Rattle.std.proofs.Common.{◌≡◌, ◌∙◌, false, sym, subst}
use Rattle.serde_json.specs.Data.{Data}
use Rattle.serde_json.specs.View.{view}
use Rattle.serde_json.specs.Written.{has_float}
use Rattle.rcv_json.specs.Pieces.{opening, limited_key, roles_key, closing}
use Rattle.rcv_json.proofs.Floats.{in_limited, in_lines}
use Rattle.rcv_json.proofs.Pieces.{in_order}
use Rattle.rcv_json.proofs.journal.write_journal.Goals as goal

pub write_value-requires : goal.write_value-requires
write_value-requires c =
    subst (λ (d : Data). has_float d ≡ false) (sym c.in_ok-limited_value.ensures) (in_limited c.args.setup.now c.args.lines.now)

pub write_value-requires-2 : goal.write_value-requires-2
write_value-requires-2 c =
    subst (λ (d : Data). has_float d ≡ false) (sym c.in_ok-lines_value.ensures) (in_lines c.args.setup.now c.args.lines.now)

pub returns : goal.returns
unfolding opening limited_key roles_key closing
returns c =
    c.finish.ensures
    ∙ in_order c.args.setup.now c.args.entries.now c.args.lines.now (view c.in_ok-limited_value.field-0) (view c.in_ok-lines_value.field-0)
    c.in_ok-text.text c.word.new.self c.write_entries.new.text c.word-2.new.self c.write_value.new.text c.word-3.new.self c.write_value-2.new.text c.word-4.new.self
    c.in_ok-text.ensures c.in_ok-word.ensures.ok c.in_ok-write_entries.ensures c.in_ok-word-2.ensures.ok c.in_ok-limited_value.ensures
    c.in_ok-write_value.ensures c.in_ok-word-3.ensures.ok c.in_ok-lines_value.ensures c.in_ok-write_value-2.ensures c.in_ok-word-4.ensures.ok
