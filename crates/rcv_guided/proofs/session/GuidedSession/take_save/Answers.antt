-- What is forgotten is saved already; else the save is told.
use Rattle.std.proofs.Common.{◌<◌, ◌≤◌, sym, ap, subst, arith}
use Rattle.rcv_dialogue.specs.declared.answer.Answer.{Answer}
use Rattle.rcv_dialogue.specs.declared.line.Line.TheVariants as line
use Rattle.rcv_guided.specs.Session.{SessionView, forgotten_of, IsSession}
use Rattle.rcv_guided.specs.Events.{MaySave}
use Rattle.rcv_guided.specs.Answers.{ComesBy}
use Rattle.rcv_guided.proofs.Told.{kept_low, kept_high, no_memory_to_save}
use Rattle.rcv_guided.proofs.Sessions.{session_saved}
use Rattle.rcv_guided.proofs.session.GuidedSession.take_save.Goals as goal
use Rattle.rcv_guided.proofs.session.GuidedSession.take_save.Goals.{in-Ok, in-Err}

pub returns-then-told-forgotten-clause-comes : goal.returns-then-told-forgotten-clause-comes
returns-then-told-forgotten-clause-comes c =
    let told = c.args.told.now in
    let low : told.count ≤ forgotten_of c.args.self.now told.role =
    (let le = c.if-told-forgotten.true in let is = c.forgotten.ensures in let same = ap (λ (s : SessionView). forgotten_of s told.role) c.self.view_is in omega (arith, le, is, same)) in
    kept_low c.args.self.now told c.requires.may low

pub returns-clause-comes : goal.returns-clause-comes
returns-clause-comes c =
    let s : SessionView = record { guide = c.self.inside.guide; saves = c.self.inside.saves; incarnations = c.self.inside.incarnations.items; restored = c.self.inside.restored } in
    let told = c.args.told.now in
    let may = subst (λ (x : SessionView). MaySave x told) (sym c.self.view_is) c.requires.may in
    let high : forgotten_of s told.role < told.count = (let le = c.if-told-forgotten.false in let is = c.forgotten.ensures in omega (arith, le, is)) in
    subst (λ (x : SessionView). ComesBy x (line.Save told) (record s { saves = c.save.new.self }) c.match-save.result) c.self.view_is
    (elim c.match-save.branch [
      | in-Ok w ↦ subst (λ (said : Answer). ComesBy s (line.Save told) (record s { saves = c.save.new.self }) said) (sym w.result-is) (kept_high s told c.save.new.self may high w.in-Ok.ensures.ok)
      | in-Err w ↦ subst (λ (said : Answer). ComesBy s (line.Save told) (record s { saves = c.save.new.self }) said) (sym w.result-is) (no_memory_to_save s told c.save.new.self w.in-Err.ensures.err)
    ])

pub invariant_of-self : goal.invariant_of-self
invariant_of-self c =
    let s : SessionView = record { guide = c.self.inside.guide; saves = c.self.inside.saves; incarnations = c.self.inside.incarnations.items; restored = c.self.inside.restored } in
    let told = c.args.told.now in
    let may = subst (λ (x : SessionView). MaySave x told) (sym c.self.view_is) c.requires.may in
    elim c.match-save.branch [
      | in-Ok w ↦ session_saved s c.save.new.self told.role told.count c.self.invariant may.enough w.in-Ok.ensures.ok
      | in-Err w ↦ subst (λ x. IsSession (record s { saves = x })) (sym w.in-Err.ensures.err) c.self.invariant
    ]
