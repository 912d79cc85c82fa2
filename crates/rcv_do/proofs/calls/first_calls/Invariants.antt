use Rattle.std.proofs.Common.{◌≡◌, length}
use Rattle.rcv_module.specs.Origins.{calls_before}
use Rattle.rcv_do.specs.Code.{parts_in}
use Rattle.rcv_do.proofs.Calling.{FirstsUpTo}
use Rattle.rcv_do.proofs.calls.first_calls.Given as goal

abbrev pub invariant-loop-index : goal.invariant-loop-index
invariant-loop-index l = record {
  long : length l.firsts.items ≡ l.index;
  counted : length l.calls.items ≡ calls_before (parts_in l.parts) l.index;
  firsts : FirstsUpTo (parts_in l.parts) l.index l.firsts.items;
}
