use Rattle.std.proofs.Common.{◌≡◌, Some, None, refl, ap, ◌∙◌}
use Rattle.rcv_module.specs.declared.fault.Fault.TheVariants.{Deep, TooMany}
use Rattle.rcv_module.specs.Parts.{part_of, first_from}
use Rattle.rcv_module.specs.Refusing.{IsTooLarge}
use Rattle.rcv_do.specs.Code.{parts_in}
use Rattle.rcv_do.specs.Counting.{AreCapped, is_deep, is_many}
use Rattle.rcv_do.proofs.Marked.{deep_line, many_line, too_deep, too_many, is_small}
use Rattle.rcv_do.proofs.Answering.{refused_at, marks_capped}
use Rattle.rcv_do.proofs.answer.small_or_fault.Goals as goal

pub refused-requires : goal.refused-requires
refused-requires c =
    let capped : AreCapped (parts_in c.args.parts.now) c.in_ok-marks.marks.items = marks_capped (parts_in c.args.parts.now) (part_of c.args.parts.now.main.now) c.args.order.now
    c.in_ok-sizes.sizes.items c.as_slice.result.now c.in_ok-marks.marks.items c.requires.order.callable refl c.requires.order.main c.in_ok-sizes.ensures.sizes c.in_ok-sizes.ensures.all
    c.as_slice.ensures.value c.in_ok-marks.ensures in
    let deep : Some c.in-Some.number ≡ first_from is_deep 0 c.in_ok-marks.marks.items = c.in-Some.ensures ∙ ap (first_from is_deep 0) c.as_slice-2.ensures.value in
    deep_line (parts_in c.args.parts.now) c.in_ok-marks.marks.items c.args.lines.now c.in-Some.number c.requires.lines capped deep

pub returns-in-Some : goal.returns-in-Some
returns-in-Some c =
    let capped : AreCapped (parts_in c.args.parts.now) c.in_ok-marks.marks.items = marks_capped (parts_in c.args.parts.now) (part_of c.args.parts.now.main.now) c.args.order.now
    c.in_ok-sizes.sizes.items c.as_slice.result.now c.in_ok-marks.marks.items c.requires.order.callable refl c.requires.order.main c.in_ok-sizes.ensures.sizes c.in_ok-sizes.ensures.all
    c.as_slice.ensures.value c.in_ok-marks.ensures in
    let deep : Some c.in-Some.number ≡ first_from is_deep 0 c.in_ok-marks.marks.items = c.in-Some.ensures ∙ ap (first_from is_deep 0) c.as_slice-2.ensures.value in
    refused_at c.args.lines.now (IsTooLarge (parts_in c.args.parts.now)) Deep c.in-Some.number c.refused.result
    (deep_line (parts_in c.args.parts.now) c.in_ok-marks.marks.items c.args.lines.now c.in-Some.number c.requires.lines capped deep)
    (too_deep (parts_in c.args.parts.now) c.in_ok-marks.marks.items c.in-Some.number capped deep) c.refused.ensures

pub refused-requires-in-Some-first_many : goal.refused-requires-in-Some-first_many
refused-requires-in-Some-first_many c =
    let capped : AreCapped (parts_in c.args.parts.now) c.in_ok-marks.marks.items = marks_capped (parts_in c.args.parts.now) (part_of c.args.parts.now.main.now) c.args.order.now
    c.in_ok-sizes.sizes.items c.as_slice.result.now c.in_ok-marks.marks.items c.requires.order.callable refl c.requires.order.main c.in_ok-sizes.ensures.sizes c.in_ok-sizes.ensures.all
    c.as_slice.ensures.value c.in_ok-marks.ensures in
    let none : None ≡ first_from is_deep 0 c.in_ok-marks.marks.items = c.in_default.ensures ∙ ap (first_from is_deep 0) c.as_slice-2.ensures.value in
    let many : Some c.in-Some-first_many.number ≡ first_from is_many 0 c.in_ok-marks.marks.items = c.in-Some-first_many.ensures ∙ ap (first_from is_many 0) c.as_slice-3.ensures.value in
    many_line (parts_in c.args.parts.now) c.in_ok-marks.marks.items c.args.lines.now c.in-Some-first_many.number c.requires.lines capped none many

pub returns-in-Some-first_many : goal.returns-in-Some-first_many
returns-in-Some-first_many c =
    let capped : AreCapped (parts_in c.args.parts.now) c.in_ok-marks.marks.items = marks_capped (parts_in c.args.parts.now) (part_of c.args.parts.now.main.now) c.args.order.now
    c.in_ok-sizes.sizes.items c.as_slice.result.now c.in_ok-marks.marks.items c.requires.order.callable refl c.requires.order.main c.in_ok-sizes.ensures.sizes c.in_ok-sizes.ensures.all
    c.as_slice.ensures.value c.in_ok-marks.ensures in
    let none : None ≡ first_from is_deep 0 c.in_ok-marks.marks.items = c.in_default.ensures ∙ ap (first_from is_deep 0) c.as_slice-2.ensures.value in
    let many : Some c.in-Some-first_many.number ≡ first_from is_many 0 c.in_ok-marks.marks.items = c.in-Some-first_many.ensures ∙ ap (first_from is_many 0) c.as_slice-3.ensures.value in
    refused_at c.args.lines.now (IsTooLarge (parts_in c.args.parts.now)) TooMany c.in-Some-first_many.number c.refused-in-Some-first_many.result
    (many_line (parts_in c.args.parts.now) c.in_ok-marks.marks.items c.args.lines.now c.in-Some-first_many.number c.requires.lines capped none many)
    (too_many (parts_in c.args.parts.now) c.in_ok-marks.marks.items c.in-Some-first_many.number capped none many) c.refused-in-Some-first_many.ensures

pub returns : goal.returns
returns c =
    let capped : AreCapped (parts_in c.args.parts.now) c.in_ok-marks.marks.items = marks_capped (parts_in c.args.parts.now) (part_of c.args.parts.now.main.now) c.args.order.now
    c.in_ok-sizes.sizes.items c.as_slice.result.now c.in_ok-marks.marks.items c.requires.order.callable refl c.requires.order.main c.in_ok-sizes.ensures.sizes c.in_ok-sizes.ensures.all
    c.as_slice.ensures.value c.in_ok-marks.ensures in
    let none : None ≡ first_from is_deep 0 c.in_ok-marks.marks.items = c.in_default.ensures ∙ ap (first_from is_deep 0) c.as_slice-2.ensures.value in
    let few : None ≡ first_from is_many 0 c.in_ok-marks.marks.items = c.in_default-first_many.ensures ∙ ap (first_from is_many 0) c.as_slice-3.ensures.value in
    is_small (parts_in c.args.parts.now) c.in_ok-marks.marks.items capped none few
