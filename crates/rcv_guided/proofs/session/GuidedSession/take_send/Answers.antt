-- The send is told to the guide, or too much was told.
use Rattle.std.proofs.Common.{rules, w64, sym, ◌∙◌, ap, subst}
use mir.Val.{SFits}
use Rattle.std.proofs.lemmas.Int.{to_z-of_z}
use Rattle.rcv_guide.specs.Guide.{GuideView, sent}
use Rattle.rcv_dialogue.specs.declared.answer.Answer.{Answer}
use Rattle.rcv_dialogue.specs.declared.answer.Answer.TheVariants as answer
use Rattle.rcv_dialogue.specs.declared.line.Line.TheVariants as line
use Rattle.rcv_guided.specs.Session.{SessionView}
use Rattle.rcv_guided.specs.Hearing.{news_of}
use Rattle.rcv_guided.specs.Events.{news_of_send, MaySend}
use Rattle.rcv_guided.specs.Answers.{ComesBy}
use Rattle.rcv_guided.proofs.Told.{no_memory_to_send, sent_by}
use Rattle.rcv_guided.proofs.Sessions.{session_same, session_event}
use Rattle.rcv_guided.proofs.session.GuidedSession.take_send.Goals as goal
use Rattle.rcv_guided.proofs.session.GuidedSession.take_send.Goals.{in-Ok, in-Err}

pub returns-clause-comes : goal.returns-clause-comes
returns-clause-comes c =
    let s : SessionView = record { guide = c.self.inside.guide; saves = c.self.inside.saves; incarnations = c.self.inside.incarnations.items; restored = c.self.inside.restored } in
    let told = c.args.told.now in
    let fits : SFits w64 told.value = search rules in
    let same = to_z-of_z w64 told.value fits in
    subst (λ (x : SessionView). ComesBy x (line.Send told) (record s { guide = c.tell_sent.new.self }) c.match-tell_sent.result) c.self.view_is
    (elim c.match-tell_sent.branch [
      | in-Ok w ↦ subst (λ (said : Answer). ComesBy s (line.Send told) (record s { guide = c.tell_sent.new.self }) said) (sym w.result-is)
          (sent_by s told c.tell_sent.new.self c.news-news.result w.in-Ok.stamp (subst (λ (x : SessionView). MaySend x told) (sym c.self.view_is) c.requires.may)
          (c.news-news.ensures ∙ ap (λ v. news_of c.args.self.now told.role told.point v) same ∙ ap (λ (x : SessionView). news_of_send x told) (sym c.self.view_is)) w.in-Ok.ensures.stamp w.in-Ok.ensures.ok w.in-Ok.ensures.after)
      | in-Err w ↦ subst (λ (said : Answer). ComesBy s (line.Send told) (record s { guide = c.tell_sent.new.self }) said) (sym w.result-is)
          (subst (λ (g : GuideView). ComesBy s (line.Send told) (record s { guide = g }) answer.Memory) (sym w.in-Err.ensures.err) (no_memory_to_send s told))
    ])

pub invariant_of-self : goal.invariant_of-self
invariant_of-self c =
    let s : SessionView = record { guide = c.self.inside.guide; saves = c.self.inside.saves; incarnations = c.self.inside.incarnations.items; restored = c.self.inside.restored } in
    elim c.match-tell_sent.branch [
      | in-Ok w ↦ session_event s c.tell_sent.new.self (sent s.guide c.news-news.result) c.self.invariant w.in-Ok.ensures.ok
      | in-Err w ↦ session_same s c.tell_sent.new.self c.self.invariant w.in-Err.ensures.err
    ]
