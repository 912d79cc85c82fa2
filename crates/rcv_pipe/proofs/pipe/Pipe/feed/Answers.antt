-- What the search says.
use Rattle.std.proofs.Common.{◌==◌, ◌∙◌, ap, position}
use Rattle.rcv_pipe.proofs.Feeds.{some_feed, no_feed}
use Rattle.rcv_pipe.proofs.pipe.Pipe.feed.Goals as goal

pub returns-clause-some : goal.returns-clause-some
returns-clause-some c = some_feed c.args.self.now.held c.first_feed.result (c.first_feed.ensures ∙ ap (position (λ b. b == 10)) c.held.ensures.value)

pub returns-clause-none : goal.returns-clause-none
returns-clause-none c = no_feed c.args.self.now.held c.first_feed.result (c.first_feed.ensures ∙ ap (position (λ b. b == 10)) c.held.ensures.value)
