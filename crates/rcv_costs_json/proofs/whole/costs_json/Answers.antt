-- The value has no float, and its line is read as the value.
use Rattle.std.proofs.Common.{◌≡◌, false, List, ℕ, sym, ◌∙◌, ap, subst}
use Rattle.serde_json.specs.Data.{Data}
use Rattle.serde_json.specs.Written.{has_float}
use Rattle.rcv_export.specs.Pieces.{line_of}
use Rattle.rcv_export.specs.ReadBack.{IsReadAs}
use Rattle.rcv_export.proofs.Plain.{value_whole}
use Rattle.rcv_costs_json.specs.CostsJson.{costs_data}
use Rattle.rcv_costs_json.proofs.ReadBack.{plain_costs, costs_are_read_back}
use Rattle.rcv_costs_json.proofs.whole.costs_json.Goals as goal

pub line_of-requires : goal.line_of-requires
line_of-requires c = subst (λ (d : Data). has_float d ≡ false) (sym c.in_ok-value.ensures.value) (value_whole 100 (costs_data c.args.setup.now c.args.costs.now) (plain_costs c.args.setup.now c.args.costs.now c.in_ok-value.ensures.fit))

pub returns-clause-json : goal.returns-clause-json
returns-clause-json c = c.in_ok-text.ensures ∙ ap line_of c.in_ok-value.ensures.value

pub returns-clause-read : goal.returns-clause-read
returns-clause-read c =
    subst (λ (t : List ℕ). IsReadAs t (costs_data c.args.setup.now c.args.costs.now)) (sym (c.in_ok-text.ensures ∙ ap line_of c.in_ok-value.ensures.value))
    (costs_are_read_back c.args.setup.now c.args.costs.now c.in_ok-value.ensures.fit)
