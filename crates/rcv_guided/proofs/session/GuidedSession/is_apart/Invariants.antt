-- It is one of those that are left.
use Rattle.std.proofs.Common.{◌≡◌, false, true, drop}
use Rattle.std.specs.Prelude.{if◌then◌else◌}
use Rattle.std.specs.List.{list_any}
use Rattle.rcv_tree.specs.Bits.{is_listed}
use Rattle.rcv_told.specs.Told.{group_of}
use Rattle.rcv_guide.specs.Guide.{terms_of}
use Rattle.rcv_guided.specs.Failures.{is_apart, first_of}
use Rattle.rcv_guided.proofs.session.GuidedSession.is_apart.Given as goal

abbrev pub invariant-loop-one : goal.invariant-loop-one
invariant-loop-one l =
    is_apart l.self.guide l.failed
    ≡ list_any (λ f. if is_listed (group_of (terms_of l.self.guide) (first_of l.failed)) f.role then false else true) (drop l.one-index l.failed)
