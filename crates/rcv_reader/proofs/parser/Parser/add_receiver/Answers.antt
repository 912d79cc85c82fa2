use Rattle.std.proofs.Common.{◌≡◌, ◌≤◌, ◌+◌, ◌==◌, nat_le, false, Some, length, refl, ap, rules, subst}
use Rattle.rcv_tree.specs.Bits.{has_bit}
use Rattle.rcv_machine.specs.Words.{place_of, is_listed}
use Rattle.rcv_reader.specs.Standing.{Standing}
use Rattle.rcv_reader.proofs.Acting.{is_few, received}
use Rattle.rcv_reader.proofs.parser.Parser.add_receiver.Goals as goal

pub returns-clause-goes : goal.returns-clause-goes
returns-clause-goes c = λ k.
    let arm = c.in-Some-Word-default in
    let old = c.args.self.now in
    let is : place_of c.args.self.now.roles arm.bytes.now ≡ Some c.in-Some.place = search rules in
    let first : is_listed c.in-Some.place c.args.receivers.now ≡ false = search rules in
    let apart : (c.in-Some.place == c.args.sender) ≡ false = search rules in
    let free : has_bit c.args.earlier.0 c.in-Some.place ≡ false = search rules in
    rw c.in_ok-push.ensures.ok (received old c.go_to.new.self c.args.earlier.0 c.in-Some.place arm.bytes.now arm.after c.args.sender c.args.receivers.now
    (subst (λ (x : Standing). length x.roles ≤ 8) c.self.view_is c.self.invariant.few) (rw arm.field-0-0-is at arm.ensures.some)
    is first apart (subst (λ (x : Standing). nat_le 256 x.count ≡ false) c.self.view_is (is_few c.self.inside.count 256 c.if-self-ge256.false)) free
    (rw (c.go_to.ensures.there, ← c.self.view_is) c.with-self-inside.ensures.all)
    (rw (c.go_to.ensures.there, ← c.self.view_is) refl) k)

pub returns-clause-read : goal.returns-clause-read
returns-clause-read c =
    rw c.go_to.ensures.there (
      c.in-Some.place,
      record {
        name = c.in-Some-Word-default.bytes.now;
        is_role = search rules;
        first = search rules;
        apart = search rules;
        counted = ap (λ (x : Standing). x.count + 1) c.self.view_is;
        spelled = rw (← c.self.view_is) (rw (c.in-Some-Word-default.field-0-0-is, ← c.self.view_is) at c.in-Some-Word-default.ensures.some);
      },
      c.in_ok-push.ensures.ok,
    )
