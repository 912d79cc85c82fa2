-- By what the crate takes and finds.
use Rattle.std.proofs.Common.{rules, sym, subst, map}
use Rattle.std.proofs.lemmas.Result.{IfErr-weaker}
use Rattle.rcv_look.specs.Commands.{Given, IsCommand, IsWithin, Says, given_of, texts_of, view_of}
use Rattle.rcv_look.proofs.Taking.{both_hold, not_taken, taken}
use Rattle.rcv_look.proofs.words.read_words.Goals as goal

pub returns-in-Ok-clause-command : goal.returns-in-Ok-clause-command
returns-in-Ok-clause-command c =
    let words = texts_of c.args.words.now in
    let t = taken c.in_ok-program.field-0 words (map (λ s. s.now) c.as_slice.result.now) c.in-Ok.matches (given_of c.of.result) c.in_ok-program.ensures
    (search rules) c.in-Ok.ensures.kinds c.in-Ok.ensures.matches c.of.ensures.value in
    both_hold c.command.result (λ command. Says (given_of c.of.result) (view_of command)) (λ command. IsWithin (view_of command)) (λ command. IsCommand words (view_of command))
    (λ command says within. (t.0, subst (λ (g : Given). Says g (view_of command)) t.1 says, within)) c.command.ensures.command c.command.ensures.within

pub returns-in-Ok-clause-usage : goal.returns-in-Ok-clause-usage
returns-in-Ok-clause-usage c =
    let words = texts_of c.args.words.now in
    let t = taken c.in_ok-program.field-0 words (map (λ s. s.now) c.as_slice.result.now) c.in-Ok.matches (given_of c.of.result) c.in_ok-program.ensures
    (search rules) c.in-Ok.ensures.kinds c.in-Ok.ensures.matches c.of.ensures.value in
    IfErr-weaker c.command.result _ _ (λ error none usage command is. none usage command (subst (λ (g : Given). Says g command) (sym t.1) is.1)) c.command.ensures.usage

pub returns-clause-usage : goal.returns-clause-usage
returns-clause-usage c = λ usage command is.
    not_taken c.in_ok-program.field-0 (texts_of c.args.words.now) (map (λ s. s.now) c.as_slice.result.now) c.in-Err.error c.in_ok-program.ensures
    (search rules) c.in-Err.ensures.kinds (c.reason_of.ensures usage) is.0
