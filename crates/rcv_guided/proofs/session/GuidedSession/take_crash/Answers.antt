-- The role is down, or crashes, or too much was told.
use Rattle.std.proofs.Common.{◌≡◌, ◌<◌, false, Some, sym, ◌∙◌, ap, subst}
use Rattle.rcv_dialogue.specs.declared.answer.Answer.{Answer}
use Rattle.rcv_dialogue.specs.declared.line.Line.TheVariants as line
use Rattle.rcv_guided.specs.Session.{SessionView, roles_in}
use Rattle.rcv_guided.specs.Hearing.{IsDown}
use Rattle.rcv_guided.specs.Answers.{ComesBy}
use Rattle.rcv_guided.proofs.Told.{crashed_by, full_by, down_by}
use Rattle.rcv_guided.proofs.Sessions.{session_same, session_crash}
use Rattle.rcv_guided.proofs.session.GuidedSession.take_crash.Goals as goal
use Rattle.rcv_guided.proofs.session.GuidedSession.take_crash.Goals.{in-Ok, in-Err}

pub returns-then-is_down-clause-comes : goal.returns-then-is_down-clause-comes
returns-then-is_down-clause-comes c = down_by c.args.self.now c.args.role (subst (λ (x : SessionView). IsDown x c.args.role) c.self.view_is (c.is_down.ensures ∙ ap Some c.if-is_down.true))

pub returns-clause-comes : goal.returns-clause-comes
returns-clause-comes c =
    let s : SessionView = record { guide = c.self.inside.guide; saves = c.self.inside.saves; incarnations = c.self.inside.incarnations.items; restored = c.self.inside.restored } in
    let calm : c.is_down.result ≡ false = (let f = c.if-is_down.false in cc) in
    let up = c.is_down.ensures ∙ ap Some calm in
    subst (λ (x : SessionView). ComesBy x (line.Crash c.args.role) (record s { guide = c.tell_crash.new.self }) c.match-tell_crash.result) c.self.view_is
    (elim c.match-tell_crash.branch [
      | in-Ok w ↦ subst (λ (said : Answer). ComesBy s (line.Crash c.args.role) (record s { guide = c.tell_crash.new.self }) said) (sym w.result-is)
          (crashed_by s c.args.role c.tell_crash.new.self up w.in-Ok.ensures.ok w.in-Ok.ensures.after)
      | in-Err w ↦ subst (λ (said : Answer). ComesBy s (line.Crash c.args.role) (record s { guide = c.tell_crash.new.self }) said) (sym w.result-is)
          (full_by s c.args.role c.tell_crash.new.self _ (subst (λ (x : SessionView). c.args.role < roles_in x) (sym c.self.view_is) c.requires) up w.in-Err.ensures.err w.in-Err.ensures.cause)
    ])

pub invariant_of-self : goal.invariant_of-self
invariant_of-self c =
    let s : SessionView = record { guide = c.self.inside.guide; saves = c.self.inside.saves; incarnations = c.self.inside.incarnations.items; restored = c.self.inside.restored } in
    elim c.match-tell_crash.branch [
      | in-Ok w ↦ session_crash s c.tell_crash.new.self c.args.role c.self.invariant w.in-Ok.ensures.ok
      | in-Err w ↦ session_same s c.tell_crash.new.self c.self.invariant w.in-Err.ensures.err
    ]
