-- The steps of a book up to its first recovery.
use Rattle.std.proofs.Common.{◌≡◌, None, Some, Option, List, [], ◌∷◌, ◌++◌, ◌∙◌, ap, subst, ◌⊎◌, inl, inr, append_assoc}
use Rattle.std.specs.List.{All}
use Rattle.rcv_tree.specs.declared.entry.Entry.{Entry}
use Rattle.rcv_model.specs.Journal.{State, start, reading}
use Rattle.rcv_model.specs.Final.{IsFinal, IsStep}
use Rattle.rcv_model.proofs.StableLines.{reading_join}
use Rattle.rcv_session.specs.Session.{SessionView, roles_of, rules_of}
use Rattle.rcv_core.specs.Book.{BookView, state_of, with_entry}
use Rattle.rcv_costs.specs.Rehearsal.{IsRecover, IsNoRecover, IsBeginningFrom, GoesOnCalmly, ComesToRecovery}
use Rattle.rcv_costs.proofs.Beginnings.{steps_more, all_more}

abbrev pub at_first : SessionView → BookView
at_first setup = record { setup = setup; entries = [] }

abbrev pub book_with : SessionView → List Entry → BookView
book_with setup entries = record { setup = setup; entries = entries }

-- one entry more
pub calm_more : (old now new : BookView) (e : Entry) → GoesOnCalmly old now → IsStep (rules_of now.setup) (state_of now) e → IsNoRecover e → new ≡ with_entry now e → GoesOnCalmly old new
calm_more old now new e so step free grown = record {
  more = so.more ++ e ∷ [];
  added = grown ∙ ap (λ (b : BookView). with_entry b e) so.added ∙ ap (book_with old.setup) (append_assoc old.entries so.more (e ∷ []));
  steps = steps_more (rules_of old.setup) (state_of old) so.more e so.steps
      (subst (λ (s : State). IsStep (rules_of old.setup) s e) (reading_join (rules_of old.setup) (start (roles_of old.setup)) old.entries so.more)
      (subst (λ (b : BookView). IsStep (rules_of b.setup) (state_of b) e) so.added step));
  calmly = all_more IsNoRecover so.more e so.calmly free;
}

-- what the steps from an empty book are
pub record FromStart (setup : SessionView) (new : BookView) : Type 0 where
  pub entries : List Entry
  pub is : new ≡ book_with setup entries
  pub steps : IsBeginningFrom (rules_of setup) (start (roles_of setup)) entries
  pub calmly : All IsNoRecover entries

pub from_start : (setup : SessionView) (book new : BookView) → book ≡ at_first setup → GoesOnCalmly book new → FromStart setup new
from_start setup book new e goes = go (subst (λ (b : BookView). GoesOnCalmly b new) e goes)
  where
    go : GoesOnCalmly (at_first setup) new → FromStart setup new
    go g = record { entries = g.more; is = g.added; steps = g.steps; calmly = g.calmly }

-- the end, or the Recover
pub ends_so : (setup : SessionView) (entries : List Entry) (new : BookView) (next : Option Entry) (book : BookView) → new ≡ book_with setup entries → ComesToRecovery book new next → IsFinal (rules_of setup) (reading (rules_of setup) entries) ⊎ ((e : Entry) × IsRecover e × IsStep (rules_of setup) (reading (rules_of setup) entries) e)
ends_so setup entries new None book is comes = inl (subst (λ (b : BookView). IsFinal (rules_of b.setup) (state_of b)) is comes.1)
ends_so setup entries new (Some e) book is comes = inr (e, comes.1.0, subst (λ (b : BookView). IsStep (rules_of b.setup) (state_of b) e) is comes.1.1)
