use Rattle.std.proofs.Common.{rules, ◌≡◌, ◌<◌, Some, length, get_or, ap, sym, subst, ◌∙◌}
use Rattle.std.specs.Prelude.{slice_get}
use Rattle.std.proofs.lemmas.Option.{slice_get-get_or}
use Rattle.rcv_mailbox.specs.Ends.{End}
use Rattle.rcv_mailbox.proofs.inbox.Inbox.again.Goals as goal

pub returns-clause-some : goal.returns-clause-some
returns-clause-some c =
    let same : c.args.self.now.got ≡ c.self.inside.got = ap (λ (e : End). e.got) (sym c.self.view_is) in
    let within : c.self.inside.got < length c.self.inside.taken.items = search rules in
    let found : get_or c.self.inside.taken.items c.self.inside.got c.index.result.now ≡ c.index.result.now = search rules in
    subst (λ n. slice_get c.self.inside.taken.items n ≡ Some c.index.result.now) (sym same) (slice_get-get_or c.self.inside.taken.items c.self.inside.got c.index.result.now within ∙ ap Some found)
