-- What the guide takes back is what is stated, or it may not come.
use Rattle.std.proofs.Common.{◌≡◌, ℕ, rules, true, sym, ◌∙◌, subst}
use Rattle.std.specs.Prelude.{slice_index, List}
use Rattle.rcv_told.specs.Told.{HasFailed}
use Rattle.rcv_guide.specs.Guide.{terms_of}
use Rattle.rcv_retold.proofs.Matching.{recover_goes, recover_tellable, other_recover}
use Rattle.rcv_retold.proofs.Refusing.{no_recover}
use Rattle.rcv_retold.proofs.tell.tell_recover.Goals as goal

pub returns-in-Ok-clause-goes : goal.returns-in-Ok-clause-goes
returns-in-Ok-clause-goes c = λ t.
    let s = c.states.ensures.0 t in
    recover_goes c.args.guide.now c.tell_recovered.new.self c.args.role c.wide-kept.result c.in-Ok.back c.args.concerned c.args.kept.now c.args.undone
    s.0 (sym c.wide-kept.ensures ∙ s.1) s.2 c.in-Ok.ensures.after c.in-Ok.ensures.gone

pub returns-in-Ok-clause-may : goal.returns-in-Ok-clause-may
returns-in-Ok-clause-may c = λ t.
    let s = c.states.ensures.0 t in
    recover_tellable c.args.guide.now c.tell_recovered.new.self c.args.role c.wide-kept.result c.in-Ok.back c.args.concerned c.args.kept.now c.args.undone
    s.0 (sym c.wide-kept.ensures ∙ s.1) s.2 c.wide-kept.ensures c.in-Ok.ensures.legal c.in-Ok.ensures.back

pub returns-in-Ok-clause-wrong : goal.returns-in-Ok-clause-wrong
returns-in-Ok-clause-wrong c = λ f room.
    other_recover c.args.guide.now c.tell_recovered.new.self c.args.role c.wide-kept.result c.in-Ok.back c.args.concerned c.args.kept.now c.args.undone
    (search rules) (search rules) c.wide-kept.ensures c.in-Ok.ensures.back
    (λ a b d. let yes : c.states.result ≡ true = c.states.ensures.1 (a, c.wide-kept.ensures ∙ b, d) in absurd cc)

pub returns-in-Err-clause-wrong : goal.returns-in-Err-clause-wrong
returns-in-Err-clause-wrong c = λ f room m mem may.
    no_recover c.args.guide.now m mem c.args.role c.wide-kept.result c.args.concerned c.args.kept.now c.args.undone c.in-Err.field-0 room c.in-Err.ensures.cause may.0
    (subst (λ (s : List ℕ). HasFailed (terms_of c.args.guide.now) m c.args.role (slice_index s) c.args.concerned c.args.kept.now c.args.undone) (sym c.wide-kept.ensures) may.1)
