use Rattle.std.proofs.Common.{◌≡◌, ◌≤◌, false, Some, length, refl, rules, subst}
use Rattle.rcv_tree.specs.Bits.{has_bit}
use Rattle.rcv_machine.specs.Words.{place_of, is_listed}
use Rattle.rcv_reader.specs.Standing.{Standing}
use Rattle.rcv_reader.proofs.Acting.{argued}
use Rattle.rcv_reader.proofs.parser.Parser.add_argument.Goals as goal

pub returns-clause-goes : goal.returns-clause-goes
returns-clause-goes c = λ k.
    let arm = c.in-Some-Word-default in
    let old = c.args.self.now in
    let is : place_of c.args.self.now.roles arm.bytes.now ≡ Some c.in-Some.place = search rules in
    let first : is_listed c.in-Some.place c.args.arguments.now ≡ false = search rules in
    let free : has_bit c.args.earlier.0 c.in-Some.place ≡ false = search rules in
    rw c.in_ok-push.ensures.ok (argued old c.go_to.new.self c.args.earlier.0 c.in-Some.place arm.bytes.now arm.after c.args.arguments.now
    (subst (λ (x : Standing). length x.roles ≤ 8) c.self.view_is c.self.invariant.few) (rw arm.field-0-0-is at arm.ensures.some)
    is first free (rw (c.go_to.ensures.there, ← c.self.view_is) c.with-self-inside.ensures.all)
    (rw (c.go_to.ensures.there, ← c.self.view_is) refl) k)

pub returns-clause-read : goal.returns-clause-read
returns-clause-read c =
    rw c.go_to.ensures.there (
      c.in-Some.place,
      record {
        name = c.in-Some-Word-default.bytes.now;
        is_role = search rules;
        first = search rules;
        spelled = rw (← c.self.view_is) (rw (c.in-Some-Word-default.field-0-0-is, ← c.self.view_is) at c.in-Some-Word-default.ensures.some);
      },
      c.in_ok-push.ensures.ok,
    )
