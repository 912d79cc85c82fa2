-- The input's session, in a box.
use Rattle.std.proofs.Common.{sym, subst}
use Rattle.rcv_c.specs.declared.held.Held.{Held}
use Rattle.rcv_c.specs.Opening.{IsBegun}
use Rattle.rcv_c.proofs.open.begin.Goals as goal

pub returns : goal.returns
returns c =
    let input = c.in_ok-input.input in
    subst (λ (h : Held). IsBegun c.args.text.now c.args.saving h) (sym c.in_ok-new.ensures.ok) (record {
      begins = record {
        bundle = record { protocol = input.accepted.protocol; scripts = input.scripts.lines; plan = input.plan };
        taken = c.in_ok-input.ensures.taken;
        is = c.in_ok-session.ensures;
      };
      silent = c.new-2.ensures.items;
    })
