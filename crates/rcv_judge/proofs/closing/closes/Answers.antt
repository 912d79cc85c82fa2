-- The last line is right where it names the roles at the limit and the session is at its end.
use Rattle.std.proofs.Common.{◌≡◌, true, false, length, sym, ◌∙◌, ap, ⊎_elim, arith}
use Rattle.std.proofs.lemmas.Bool.{cases_Bool}
use Rattle.rcv_session.specs.Session.{rules_of}
use Rattle.rcv_core.specs.Book.{state_of}
use Rattle.rcv_journal.specs.Recorded.{JournalView}
use Rattle.rcv_journal.specs.Lines.{limited_in}
use Rattle.rcv_judge.proofs.Closings.{other_names, closed_completed, closed_limited, not_ended}
use Rattle.rcv_judge.proofs.closing.closes.Goals as goal

pub returns-then-not-are_same_roles : goal.returns-then-not-are_same_roles
returns-then-not-are_same_roles c =
    let named : c.as_slice.result.now ≡ c.args.journal.now.limited = c.as_slice.ensures.value ∙ ap (λ (j : JournalView). j.limited) c.journal.view_is in (
      (λ t. let wrong : false ≡ true = t in absurd (cc)),
      λ x.
          absurd (other_names (rules_of c.args.book.now.setup) (state_of c.args.book.now) c.args.lines.now c.args.journal.now.roles c.args.journal.now.limited c.requires.lines
          (λ e. let yes = c.are_same_roles.ensures.1 (named ∙ e ∙ sym c.requires.limited) in let no = c.if-not-are_same_roles.true in absurd (cc)) x),
    )

pub returns : goal.returns
returns c =
    let named : c.as_slice.result.now ≡ c.args.journal.now.limited = c.as_slice.ensures.value ∙ ap (λ (j : JournalView). j.limited) c.journal.view_is in
    let names : c.args.journal.now.limited ≡ limited_in c.args.lines.now = sym named ∙ c.are_same_roles.ensures.0 c.if-not-are_same_roles.false ∙ c.requires.limited in
    let roles : length c.journal.inside.roles.items ≡ length c.args.journal.now.roles = ap (λ (j : JournalView). length j.roles) c.journal.view_is in
    let size : length c.args.journal.now.roles ≡ length c.args.lines.now = omega (arith, roles, c.len.ensures, c.if-len-lines.false) in (
      (λ t. ⊎_elim
          (λ end. closed_completed (rules_of c.args.book.now.setup) (state_of c.args.book.now) c.args.lines.now c.args.journal.now.roles c.args.journal.now.limited c.requires.lines size c.requires.found names end)
          (λ end. closed_limited (rules_of c.args.book.now.setup) (state_of c.args.book.now) c.args.lines.now c.args.journal.now.roles c.args.journal.now.limited c.requires.lines size c.requires.found names end)
          (c.is_ended.ensures.end t)),
      λ x. ⊎_elim (λ yes. yes) (λ no. absurd (not_ended c.args.book.now c.args.journal.now.roles c.args.journal.now.limited (c.is_ended.ensures.more no) x)) (cases_Bool c.is_ended.result),
    )
