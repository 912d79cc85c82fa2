use Rattle.std.proofs.Common.{set-set}
use Rattle.rcv_script.proofs.setting.behind_set.Goals as goal

-- a variable that is set twice has the last value
pub returns-in-One : goal.returns-in-One
returns-in-One c = λ from to number h.
    let one = rw c.in-One.is at h in record {
      within = one.within;
      value = number;
      there = rw (c.if-place-other.true, one.there) (set-set from c.in-One.other one.value number);
    }
