-- The headline of a journal of several workers in which something is undone: a host of two, a choice, a loop. What is
-- left by its recovery is what A sent; A keeps all, and C and D restart where the table says.
use Rattle.std.proofs.Common.{◌≡◌, [], ◌∷◌, ◌++◌, refl, sym, arith}
use Rattle.std.specs.Prelude.{replicate}
use Rattle.rcv_model.specs.TableLaws.{IsForeseen}
use Rattle.rcv_model.specs.UndoLaws.{TellsRight}
use Rattle.rcv_model.specs.Undo.{picked}
use Rattle.rcv_model.specs.Journal.{durable, group_of, reading}
use Rattle.rcv_model.proofs.Cases.{says}
use Rattle.rcv_model.proofs.HostSession as host
use Rattle.rcv_model.proofs.Session.{feed, feed_form, feed_accepted}
use Rattle.rcv_theory.specs.Bystander.{KeepsAll}
use Rattle.rcv_top.specs.Headline.{IsHeadline}
use Rattle.rcv_top.proofs.Headlines.{headline_by}

headline : IsHeadline host.rules host.journal
headline = headline_by host.rules feed host.journal (record { net = refl; form = feed_form; accepted = feed_accepted }) host.legal host.final

-- B's recovery undoes four events, and what is left of the six is what A sent
tells : TellsRight host.rules (reading host.rules host.front) (reading host.rules (host.front ++ host.back ∷ [])) 1 (record { 0 = 14 }) (replicate 8 0) 4
tells = headline.undoes host.front host.rest 1 (record { 0 = 14 }) (replicate 8 0) 4 refl

what_is_left : picked tells.has (reading host.rules host.front).kept ≡ says 0 1 10 1 ∷ says 0 3 0 2 ∷ []
what_is_left = sym tells.rest.left

-- A keeps all, and C restarts at what it had received of B, which has nothing left
a_keeps : KeepsAll host.rules.net (reading host.rules host.front) (reading host.rules (host.front ++ host.back ∷ [])) 0
a_keeps = (headline.spares host.front host.rest 1 (record { 0 = 14 }) (replicate 8 0) 4 refl 0 (omega arith)).spared (λ e. cc)

c_restarts : IsForeseen host.rules.net (group_of host.rules 1) (durable host.rules (reading host.rules host.front)) (reading host.rules host.front).kept 2 2
c_restarts = (headline.spares host.front host.rest 1 (record { 0 = 14 }) (replicate 8 0) 4 refl 2 (omega arith)).restarts _ refl
