-- What is refused in the scripts, or behind them in the plan, is the input's first refusal.
use Rattle.std.proofs.Common.{ap, subst}
use Rattle.std.specs.Prelude.{MatchOption}
use Rattle.rcv_found.specs.Grammars.{OfScripts}
use Rattle.rcv_found.specs.Findings.{IsFindingIn}
use Rattle.rcv_found.specs.declared.finding.Finding.TheVariants.{Taken}
use Rattle.rcv_listing.specs.Unread.{IsUnreadIn}
use Rattle.rcv_listing.proofs.Unreading.{scripts_unread, rest_unread}
use Rattle.rcv_listing.proofs.parts.unread_rest.Goals as goal

pub returns-in-Some-clause-rest : goal.returns-in-Some-clause-rest
returns-in-Some-clause-rest c = scripts_unread c.args.input.now c.split-parts.result.scripts c.args.accepted.now.protocol c.in-Some.unread
    (ap (λ p. p.scripts) c.split-parts.ensures.parts) c.requires.accepted
    (subst (λ o. MatchOption o (IsFindingIn (OfScripts c.args.accepted.now) c.args.input.now c.split-parts.result.scripts Taken)
    (IsUnreadIn (OfScripts c.args.accepted.now) c.args.input.now c.split-parts.result.scripts)) c.in-Some.is c.in_ok-scripts.ensures.unread)

pub returns-in-None-clause-rest : goal.returns-in-None-clause-rest
returns-in-None-clause-rest c = rest_unread c.args.input.now c.split-parts.result.scripts c.split-parts.result.plan c.args.accepted.now.protocol c.unread_in-in-None.result
    (ap (λ p. p.scripts) c.split-parts.ensures.parts) (ap (λ p. p.plan) c.split-parts.ensures.parts) c.requires.accepted
    (subst (λ o. MatchOption o (IsFindingIn (OfScripts c.args.accepted.now) c.args.input.now c.split-parts.result.scripts Taken)
    (IsUnreadIn (OfScripts c.args.accepted.now) c.args.input.now c.split-parts.result.scripts)) c.in-None.is c.in_ok-scripts.ensures.unread)
    c.unread_in-in-None.ensures.unread
