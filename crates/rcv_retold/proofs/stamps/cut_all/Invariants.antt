-- The lists of the roles so far are cut.
use Rattle.std.proofs.Common.{◌≡◌, length}
use Rattle.rcv_guide.specs.Guide.{IsMemory}
use Rattle.rcv_told.specs.Told.{Remembered, made}
use Rattle.rcv_tree.specs.Lists.{lists_in}
use Rattle.rcv_retold.proofs.Listing.{AreCut}
use Rattle.rcv_retold.proofs.stamps.cut_all.Given as goal

abbrev pub invariant-loop-role : goal.invariant-loop-role
invariant-loop-role l = record {
  count : length l.stamps.items ≡ length l.fn.stamps.items;
  cut : (m : Remembered) → IsMemory l.guide m → AreCut (made m) (lists_in l.fn.stamps.items) (lists_in l.stamps.items) l.role;
}
