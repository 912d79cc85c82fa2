use Rattle.std.proofs.Common.{◌≡◌, ◌≤◌, false, Some, length, refl, rules, subst}
use Rattle.rcv_tree.specs.Bits.{has_bit}
use Rattle.rcv_machine.specs.Words.{place_of}
use Rattle.rcv_reader.specs.Descent.{Standing}
use Rattle.rcv_reader.proofs.Acting.{role_taken, role_spelled}
use Rattle.rcv_reader.proofs.parser.Parser.role.Goals as goal

pub returns-clause-subject : goal.returns-clause-subject
returns-clause-subject c = λ k.
    let arm = c.in-Some-Word-default in
    let is : place_of c.expect.new.self.roles arm.bytes.now ≡ Some c.in-Some.place = search rules in
    let free : has_bit c.args.earlier.0 c.in-Some.place ≡ false = search rules in
    (role_taken c.args.self.now c.expect.new.self c.go_to.new.self c.args.sign arm.bytes.now c.in-Some.place c.args.earlier.0 arm.after
    c.in_ok-expect.ensures.goes c.in_ok-expect.ensures.read
    (subst (λ (x : Standing). length x.roles ≤ 8) c.self.view_is c.self.invariant.few)
    (rw arm.field-0-0-is at arm.ensures.some) is free
    (rw (c.go_to.ensures.there, ← c.self.view_is) c.with-self-inside.ensures.all)
    (rw (c.go_to.ensures.there, ← c.self.view_is) refl) k).0

pub returns-clause-sender : goal.returns-clause-sender
returns-clause-sender c = λ k.
    let arm = c.in-Some-Word-default in
    let is : place_of c.expect.new.self.roles arm.bytes.now ≡ Some c.in-Some.place = search rules in
    let free : has_bit c.args.earlier.0 c.in-Some.place ≡ false = search rules in
    (role_taken c.args.self.now c.expect.new.self c.go_to.new.self c.args.sign arm.bytes.now c.in-Some.place c.args.earlier.0 arm.after
    c.in_ok-expect.ensures.goes c.in_ok-expect.ensures.read
    (subst (λ (x : Standing). length x.roles ≤ 8) c.self.view_is c.self.invariant.few)
    (rw arm.field-0-0-is at arm.ensures.some) is free
    (rw (c.go_to.ensures.there, ← c.self.view_is) c.with-self-inside.ensures.all)
    (rw (c.go_to.ensures.there, ← c.self.view_is) refl) k).1

pub returns-clause-read : goal.returns-clause-read
returns-clause-read c =
    let arm = c.in-Some-Word-default in
    let is : place_of c.expect.new.self.roles arm.bytes.now ≡ Some c.in-Some.place = search rules in
    let both = role_spelled c.args.self.now c.expect.new.self c.go_to.new.self c.args.sign arm.bytes.now c.in-Some.place arm.after
    c.in_ok-expect.ensures.read (rw arm.field-0-0-is at arm.ensures.some) is (rw (c.go_to.ensures.there, ← c.self.view_is) refl) in
    (arm.bytes.now, both.0, both.1)
