-- It falls, and goes back.
use Rattle.std.proofs.Common.{◌∷◌, [], subst}
use Rattle.rcv_guide.specs.Guide.{recovery_entry}
use Rattle.rcv_guided.specs.Session.{SessionView}
use Rattle.rcv_guided.specs.Failures.{fall_of, GoesBack}
use Rattle.rcv_guided.proofs.Returned.{may_go_back, still_behind}
use Rattle.rcv_guided.proofs.InTurn.{behind}
use Rattle.rcv_guided.proofs.session.GuidedSession.fail.Goals as goal

pub go_back-requires : goal.go_back-requires
go_back-requires c = may_go_back c.args.self.now c.fall.new.self c.args.role c.args.saved.now c.fall.ensures.value c.fall.ensures.down c.requires.room c.requires.enough

pub returns-clause-back : goal.returns-clause-back
returns-clause-back c = subst (λ (mid : SessionView). GoesBack c.args.role c.args.saved.now mid c.go_back.result c.go_back.new.self) c.fall.ensures.value c.go_back.ensures.back

pub returns-clause-still : goal.returns-clause-still
returns-clause-still c = still_behind c.args.self.now c.fall.new.self c.go_back.new.self c.args.role c.fall.ensures.value c.go_back.ensures.still

pub returns-clause-history : goal.returns-clause-history
returns-clause-history c = behind c.args.self.now c.fall.new.self c.go_back.new.self (fall_of c.args.self.now.guide c.args.role) (recovery_entry c.args.role c.go_back.result ∷ []) c.fall.ensures.history c.go_back.ensures.history
