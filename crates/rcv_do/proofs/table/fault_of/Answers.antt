use Rattle.std.proofs.Common.{length, sym, ap, ◌∙◌}
use Rattle.rcv_module.specs.Parts.{part_of}
use Rattle.rcv_do.specs.Code.{parts_in, protocols_in}
use Rattle.rcv_do.proofs.Faulting.{target_of, part_at, arity, recursive, empty, no_fault, reaches_back, never_reaches_back, empty_ends, some_goes_on}
use Rattle.rcv_do.proofs.table.fault_of.Goals as goal

pub returns-then-as_slice-call : goal.returns-then-as_slice-call
returns-then-as_slice-call c = λ s e rows.
    arity (parts_in c.args.parts.now) c.args.rows.now c.args.call.now s c.in-Some.target (part_of c.at-protocol.result.now)
    (target_of (parts_in c.args.parts.now) c.args.rows.now c.args.call.now s c.in-Some.target (part_of c.at-protocol.result.now) c.in-Some.is
    (part_at (protocols_in c.args.parts.now) c.in-Some.target c.at-protocol.result.now c.at-protocol.ensures) e)
    (λ h. c.if-as_slice-call.true (ap length c.as_slice.ensures ∙ h))

pub returns-then-has : goal.returns-then-has
returns-then-has c = λ s e rows.
    let t = target_of (parts_in c.args.parts.now) c.args.rows.now c.args.call.now s c.in-Some.target (part_of c.at-protocol.result.now) c.in-Some.is
    (part_at (protocols_in c.args.parts.now) c.in-Some.target c.at-protocol.result.now c.at-protocol.ensures) e in
    recursive (parts_in c.args.parts.now) c.args.rows.now c.args.call.now s c.in-Some.target (part_of c.at-protocol.result.now) t
    (sym (ap length c.as_slice.ensures) ∙ c.if-as_slice-call.false)
    (reaches_back (protocols_in c.args.parts.now) c.args.rows.now c.in-Some.target c.args.call.now.holder s.holder c.has.result rows
    (c.requires.inside.target c.in-Some.target c.in-Some.is) c.requires.inside.holder t.holder c.has.ensures c.if-has.true)

pub returns-then-is_empty : goal.returns-then-is_empty
returns-then-is_empty c = λ s e rows.
    let t = target_of (parts_in c.args.parts.now) c.args.rows.now c.args.call.now s c.in-Some.target (part_of c.at-protocol.result.now) c.in-Some.is
    (part_at (protocols_in c.args.parts.now) c.in-Some.target c.at-protocol.result.now c.at-protocol.ensures) e in
    empty (parts_in c.args.parts.now) c.args.rows.now c.args.call.now s c.in-Some.target (part_of c.at-protocol.result.now) t
    (sym (ap length c.as_slice.ensures) ∙ c.if-as_slice-call.false)
    (never_reaches_back (protocols_in c.args.parts.now) c.args.rows.now c.in-Some.target c.args.call.now.holder s.holder c.has.result rows
    (c.requires.inside.target c.in-Some.target c.in-Some.is) c.requires.inside.holder t.holder c.has.ensures c.if-has.false)
    (empty_ends c.at-protocol.result.now.body c.as_slice-2.result.now c.is_empty.result c.as_slice-2.ensures c.is_empty.ensures c.if-is_empty.true)

pub returns : goal.returns
returns c = λ s e rows.
    let t = target_of (parts_in c.args.parts.now) c.args.rows.now c.args.call.now s c.in-Some.target (part_of c.at-protocol.result.now) c.in-Some.is
    (part_at (protocols_in c.args.parts.now) c.in-Some.target c.at-protocol.result.now c.at-protocol.ensures) e in
    no_fault (parts_in c.args.parts.now) c.args.rows.now c.args.call.now s c.in-Some.target (part_of c.at-protocol.result.now) t
    (sym (ap length c.as_slice.ensures) ∙ c.if-as_slice-call.false)
    (never_reaches_back (protocols_in c.args.parts.now) c.args.rows.now c.in-Some.target c.args.call.now.holder s.holder c.has.result rows
    (c.requires.inside.target c.in-Some.target c.in-Some.is) c.requires.inside.holder t.holder c.has.ensures c.if-has.false)
    (some_goes_on c.at-protocol.result.now.body c.as_slice-2.result.now c.is_empty.result c.as_slice-2.ensures c.is_empty.ensures c.if-is_empty.false)
