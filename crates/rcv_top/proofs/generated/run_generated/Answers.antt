-- The setup is that of what was taken.
use Rattle.std.proofs.Common.{IfOk, sym, subst}
use Rattle.rcv_session.specs.Session.{SessionView}
use Rattle.rcv_top.specs.Generating.{IsSummaryRun}
use Rattle.rcv_top.specs.Running.{CanRun}
use Rattle.rcv_top.proofs.generated.run_generated.Goals as goal

pub returns : goal.returns
returns c =
    subst (λ (s : SessionView). IfOk c.run_setup.result (λ output. IsSummaryRun c.args.number s output.status output.bytes.items))
    c.in_ok-setup.ensures c.run_setup.ensures

pub run_setup-requires : goal.run_setup-requires
run_setup-requires c = subst CanRun (sym c.in_ok-setup.ensures) c.requires.can_run
