-- What the statement says.
use Rattle.std.proofs.Common.{[], ◌∙◌, ap}
use Rattle.rcv_model.specs.Text.{Single}
use Rattle.rcv_model.proofs.Text.{stmt_body-Message}
use Rattle.rcv_depend.proofs.tests.message.Goals as goal

pub returns : goal.returns
returns c rest =
    stmt_body-Message c.new.result c.new-2.result c.args.sender c.args.receiver c.args.point rest
    ∙ ap (λ l. Single l c.new-2.result c.args.sender c.args.receiver c.args.point rest) c.new.ensures
    ∙ ap (λ sorts. Single [] sorts c.args.sender c.args.receiver c.args.point rest) c.new-2.ensures
