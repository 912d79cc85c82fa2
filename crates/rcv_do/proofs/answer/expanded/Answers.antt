use Rattle.std.proofs.Common.{refl, sym, subst}
use Rattle.rcv_model.specs.Text.{body_of}
use Rattle.rcv_module.specs.Expansion.{IsExpansion}
use Rattle.rcv_module.specs.Parts.{parts_of}
use Rattle.rcv_do.specs.Code.{parts_in, IsCallOrder}
use Rattle.rcv_do.proofs.Answering.{expansion_made, has_form}
use Rattle.rcv_do.proofs.answer.expanded.Goals as goal

pub expansion_of-requires : goal.expansion_of-requires
expansion_of-requires c = subst (λ ps. IsCallOrder ps c.args.order.now) (sym c.of.ensures) c.requires.order

pub returns-clause-expanded : goal.returns-clause-expanded
returns-clause-expanded c =
    let x : IsExpansion (parts_of c.args.whole) (body_of c.in_ok-body.body) = expansion_made c.args.whole (parts_in c.of.result) c.in_ok-body.body c.requires.form c.of.ensures c.requires.free c.in_ok-body.ensures.0 c.in_ok-body.ensures.1 in
    record { free = c.requires.free; modules = refl; declared = refl; named = refl; role_names = refl; body = x }

pub returns-clause-form : goal.returns-clause-form
returns-clause-form c =
    let x : IsExpansion (parts_of c.args.whole) (body_of c.in_ok-body.body) = expansion_made c.args.whole (parts_in c.of.result) c.in_ok-body.body c.requires.form c.of.ensures c.requires.free c.in_ok-body.ensures.0 c.in_ok-body.ensures.1 in
    (has_form c.args.whole (body_of c.in_ok-body.body) c.requires.form c.requires.free x).0

pub returns-clause-full : goal.returns-clause-full
returns-clause-full c =
    let x : IsExpansion (parts_of c.args.whole) (body_of c.in_ok-body.body) = expansion_made c.args.whole (parts_in c.of.result) c.in_ok-body.body c.requires.form c.of.ensures c.requires.free c.in_ok-body.ensures.0 c.in_ok-body.ensures.1 in
    (has_form c.args.whole (body_of c.in_ok-body.body) c.requires.form c.requires.free x).1

pub returns-clause-words : goal.returns-clause-words
returns-clause-words c =
    let x : IsExpansion (parts_of c.args.whole) (body_of c.in_ok-body.body) = expansion_made c.args.whole (parts_in c.of.result) c.in_ok-body.body c.requires.form c.of.ensures c.requires.free c.in_ok-body.ensures.0 c.in_ok-body.ensures.1 in
    (has_form c.args.whole (body_of c.in_ok-body.body) c.requires.form c.requires.free x).2
