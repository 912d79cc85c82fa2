-- The session is held, or stays closed.
use Rattle.std.proofs.Common.{refl, sym, ◌∙◌, arith}
use Rattle.rcv_c.proofs.Opened.{no_box, opens_failed}
use Rattle.rcv_c.proofs.open.open.Goals as goal

pub returns-in-Err : goal.returns-in-Err
returns-in-Err c =
    let none = no_box c.args.session.now.handle.value (sym c.is_open.ensures ∙ c.if-is_open.false) in
    opens_failed c.args.text.now c.args.why.now c.failed.new.why c.args.saving c.args.session.now.handle.value c.args.session.now.handle.value
    (none, none) c.failed.result (c.failed.ensures c.args.text.now c.in-Err.ensures)

pub returns-in-Ok : goal.returns-in-Ok
returns-in-Ok c =
    let few = c.if-text-gt-MOST.false in (
      no_box c.args.session.now.handle.value (sym c.is_open.ensures ∙ c.if-is_open.false),
      record {
        held = c.in-Ok.held.value;
        after_is = c.hold.ensures;
        begun = c.in-Ok.ensures;
        short = omega (arith, few);
      },
      refl,
    )
