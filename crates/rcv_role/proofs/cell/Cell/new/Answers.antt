-- New ends hold nothing, and the role has made nothing.
use Rattle.std.proofs.Common.{◌≡◌, [], length, ap, sym, subst, arith}
use Rattle.std.specs.Prelude.{take}
use Rattle.rcv_mailbox.specs.Ends.{End}
use Rattle.rcv_role.specs.Part.{PartView}
use Rattle.rcv_role.specs.Ends.{end_at}
use Rattle.rcv_role.specs.Cell.{cell_of, IsSettled}
use Rattle.rcv_role.proofs.cell.Cell.new.Goals as goal

none : (inbox : End) → inbox.got ≡ 0 → take inbox.got inbox.list ≡ []
none inbox got = ap (λ k. take k inbox.list) got

pub returns-clause-settled : goal.returns-clause-settled
returns-clause-settled c = subst (λ (p : PartView). IsSettled (cell_of p c.args.posts.items c.args.inboxes.items)) (sym c.in_ok-part.ensures) (λ q d lt n.
    (let fresh = c.requires.fresh q d lt n in
    record {
      put = fresh.put;
      through = let s = ap length fresh.sent in omega (arith, s);
      got = fresh.got;
      taken = none (end_at c.args.inboxes.items c.args.role q d) fresh.got;
    }))
