-- The text's session is told what stands behind, or the text's refusal is written.
use Rattle.std.proofs.Common.{◌∙◌, ℕ, Vec, Global, inl, inr, refl, ap, subst}
use Rattle.rcv_talk.specs.declared.begin.BeginError.{BeginError}
use Rattle.rcv_talk.specs.Openings.{IsNoSession}
use Rattle.rcv_talk.specs.Around.{around}
use Rattle.rcv_talk.proofs.Calls.{refuses_text}
use Rattle.rcv_talk.proofs.call.behind_text.Goals as goal

pub returns-in-Ok : goal.returns-in-Ok
returns-in-Ok g c = inl (record { start = c.in-Ok.session; begins = c.in-Ok.ensures; converses = c.converse.ensures })

pub returns-in-Err-Refused : goal.returns-in-Err-Refused
returns-in-Err-Refused g c =
    refuses_text c.args.text.now c.args.saving c.args.pipe.now.held
    (around g.S.Source.rest g.S.Source.given g.S.Source.faults c.args.source.now c.args.source.now g.K.Sink.written g.K.Sink.faults c.args.sink.now c.write.new.sink)
    c.in-Err-Refused.line.items _ _ (subst (λ (e : BeginError). IsNoSession c.args.text.now e) c.in-Err-Refused.field-0-is c.in-Err-Refused.ensures) (c.as_slice.ensures.value ∙ ap (λ (v : Vec ℕ Global). v.items) c.in-Err-Refused.line-is) (record { rest = refl; given = refl; calm = refl }) c.write.ensures.later c.write.ensures.wrote

pub returns-in-Err-Memory : goal.returns-in-Err-Memory
returns-in-Err-Memory g c = inr (inr (record { is = refl; unread = record { rest = refl; given = refl; calm = refl }; silent = refl; calm = refl }))
