-- Only the stamp of the receipt may be wrong.
use Rattle.std.proofs.Common.{rules, w64, ◌≡◌, ◌+◌, max, ◌∙◌, ap, subst}
use mir.Val.{SFits}
use Rattle.std.proofs.lemmas.Int.{to_z-of_z}
use Rattle.rcv_guide.specs.declared.news.News.{News}
use Rattle.rcv_guide.specs.Guide.{stand, stamp_to_receive, MayBeReceived}
use Rattle.rcv_guided.specs.Session.{SessionView}
use Rattle.rcv_guided.specs.Hearing.{news_of}
use Rattle.rcv_guided.specs.Events.{news_of_recv, IsTimelyReceipt}
use Rattle.rcv_guided.proofs.Refusals.{stamp_of_receipt}
use Rattle.rcv_guided.proofs.session.GuidedSession.mistake_in_receipt.Goals as goal

pub returns-in-Ok-clause-why : goal.returns-in-Ok-clause-why
returns-in-Ok-clause-why c =
    let s = c.args.self.now in
    let told = c.args.told.now in
    let fits : SFits w64 told.value = search rules in
    let news : c.news-news.result ≡ news_of_recv s told = c.news-news.ensures ∙ ap (λ v. news_of s told.role told.point v) (to_z-of_z w64 told.value fits) in
    let may = subst (λ (n : News). MayBeReceived s.guide n c.stamp_told-sent.result) news (subst (λ (x : SessionView). MayBeReceived x.guide c.news-news.result c.stamp_told-sent.result) c.self.view_is c.in-Ok.ensures.ok) in
    let timely : IsTimelyReceipt s told = record { new = c.requires.new; turn = may.turn } in
    let right : c.max.result + 1 ≡ stamp_to_receive s.guide told.role c.stamp_told-sent.result =
    ap (λ n. n + 1) (c.max.ensures ∙ ap (λ k. max k c.stamp_told-sent.result) (c.clock.ensures.value ∙ ap (λ (x : SessionView). (stand x.guide told.role).clock) c.self.view_is)) in
    stamp_of_receipt s told c.stamp_told-sent.result c.stamp_told-sent.ensures (c.max.result + 1) c.refusal_of_stamp.result timely may right c.refusal_of_stamp.ensures.why
