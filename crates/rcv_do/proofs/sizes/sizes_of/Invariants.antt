use Rattle.std.proofs.Common.{◌≡◌, length, take, drop}
use Rattle.rcv_do.specs.Code.{protocols_in, parts_in, AreAllKnown, CallsBehind}
use Rattle.rcv_do.specs.Counting.{AreSizesOf}
use Rattle.rcv_do.proofs.Known.{IsBlank}
use Rattle.rcv_do.proofs.sizes.sizes_of.Given as goal

abbrev pub invariant-loop : goal.invariant-loop
invariant-loop l = record {
  long : length l.known.items ≡ l.counter;
  blank : IsBlank l.known.items;
}

abbrev pub invariant-loop-place : goal.invariant-loop-place
invariant-loop-place l = record {
  long : length l.known.items ≡ length (protocols_in l.fn.parts);
  sizes : AreSizesOf (parts_in l.fn.parts) l.known.items;
  all : AreAllKnown (take l.place-index l.order) l.known.items;
  behind : CallsBehind (parts_in l.fn.parts) (take l.place-index l.order) (drop l.place-index l.order);
}
