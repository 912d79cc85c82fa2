-- The entry that was added is the one that one thread makes.
use Rattle.std.proofs.Common.{rules, ◌≡◌, ◌<◌, sym, subst}
use Rattle.rcv_model.specs.Final.{IsStep}
use Rattle.rcv_model.proofs.OneThread.{step_may}
use Rattle.rcv_session.specs.Session.{rules_of}
use Rattle.rcv_core.specs.Book.{BookView, state_of, with_entry}
use Rattle.rcv_core.proofs.Alone.{succeeded}
use Rattle.rcv_alone.specs.Steps.{HasStepped}
use Rattle.rcv_jobs.specs.Left.{left_behind}
use Rattle.rcv_jobs.proofs.Stepping.{runs_on, step_leaves_fewer}
use Rattle.rcv_jobs.proofs.running.Running.add.Goals as goal

pub push-added-requires : goal.push-added-requires
push-added-requires c =
    step_may (rules_of c.self.inside.book.setup) (state_of c.self.inside.book) c.args.entry
    (subst (λ (b : BookView). IsStep (rules_of b.setup) (state_of b) c.args.entry) (sym c.self.view_is) c.requires)

pub skip_behind-self-inside-requires : goal.skip_behind-self-inside-requires
skip_behind-self-inside-requires c = (
  c.self.inside.book,
  subst (λ (b : BookView). IsStep (rules_of b.setup) (state_of b) c.args.entry) (sym c.self.view_is) c.requires,
  succeeded c.push-added.result (c.push-added.new.self ≡ with_entry c.self.inside.book c.args.entry) c.push-added.ensures.reserved c.push-added.ensures.ok,
)

pub invariant_of-self : goal.invariant_of-self
invariant_of-self c =
    let step : IsStep (rules_of c.self.inside.book.setup) (state_of c.self.inside.book) c.args.entry = subst (λ (b : BookView). IsStep (rules_of b.setup) (state_of b) c.args.entry) (sym c.self.view_is) c.requires in
    let added : c.push-added.new.self ≡ with_entry c.self.inside.book c.args.entry = succeeded c.push-added.result (c.push-added.new.self ≡ with_entry c.self.inside.book c.args.entry) c.push-added.ensures.reserved c.push-added.ensures.ok in
    runs_on c.self.inside.book c.push-added.new.self c.self.inside.skip c.skip_behind-self-inside.result c.self.invariant (record { entry = c.args.entry; step = step; added = added }) c.skip_behind-self-inside.ensures

pub returns-clause-stepped : goal.returns-clause-stepped
returns-clause-stepped c =
    let step : IsStep (rules_of c.self.inside.book.setup) (state_of c.self.inside.book) c.args.entry = subst (λ (b : BookView). IsStep (rules_of b.setup) (state_of b) c.args.entry) (sym c.self.view_is) c.requires in
    let added : c.push-added.new.self ≡ with_entry c.self.inside.book c.args.entry = succeeded c.push-added.result (c.push-added.new.self ≡ with_entry c.self.inside.book c.args.entry) c.push-added.ensures.reserved c.push-added.ensures.ok in
    let stepped : HasStepped c.self.inside.book c.push-added.new.self = record { entry = c.args.entry; step = step; added = added } in
    subst (λ (b : BookView). HasStepped b c.push-added.new.self) c.self.view_is stepped

pub returns-clause-fewer : goal.returns-clause-fewer
returns-clause-fewer c =
    let step : IsStep (rules_of c.self.inside.book.setup) (state_of c.self.inside.book) c.args.entry = subst (λ (b : BookView). IsStep (rules_of b.setup) (state_of b) c.args.entry) (sym c.self.view_is) c.requires in
    let added : c.push-added.new.self ≡ with_entry c.self.inside.book c.args.entry = succeeded c.push-added.result (c.push-added.new.self ≡ with_entry c.self.inside.book c.args.entry) c.push-added.ensures.reserved c.push-added.ensures.ok in
    let fewer = step_leaves_fewer c.self.inside.book c.push-added.new.self (record { entry = c.args.entry; step = step; added = added }) (search rules) in
    subst (λ (b : BookView). left_behind c.push-added.new.self < left_behind b) c.self.view_is fewer
