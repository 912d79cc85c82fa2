-- The ends of a point are roles.
use Rattle.std.proofs.Common.{◌≡◌, ◌<◌, ◌++◌, ◌∙◌, List, ℕ, sym, ap, subst, append_assoc}
use Rattle.std.specs.Prelude.{OnOk}
use Rattle.rcv_model.specs.Net.{Net}
use Rattle.rcv_model.specs.Text.{body_of}
use Rattle.rcv_points.proofs.Whole.{same_net}
use Rattle.rcv_accept.specs.Accepted.{net_for, roles_of}
use Rattle.rcv_journal.specs.Recorded.{bare}
use Rattle.rcv_journal.proofs.Named.{ends_named}
use Rattle.rcv_dialogue.specs.Answers.{ends_text, named_text}
use Rattle.rcv_dialogue.proofs.write.ends.Goals as goal

pub named-requires : goal.named-requires
named-requires c =
    let a = c.args.accepted.now in
    let same = same_net (body_of a.protocol.body) _ c.points.result.now c.protocol-protocol.ensures.accepted.form c.points.ensures in
    subst (λ r. r < roles_of a) (sym (c.sender.ensures ∙ ap (λ (n : Net). n.sender c.args.point) same))
    (ends_named (bare a.protocol) c.args.point c.protocol-protocol.ensures.accepted c.requires.0 c.requires.1).0

pub named-requires-2 : goal.named-requires-2
named-requires-2 c =
    let a = c.args.accepted.now in
    let same = same_net (body_of a.protocol.body) _ c.points-2.result.now c.protocol-protocol.ensures.accepted.form c.points-2.ensures in
    subst (λ r. r < roles_of a) (sym (c.receiver.ensures ∙ ap (λ (n : Net). n.receiver c.args.point) same))
    (ends_named (bare a.protocol) c.args.point c.protocol-protocol.ensures.accepted c.requires.0 c.requires.1).1

pub returns : goal.returns
returns c =
    let a = c.args.accepted.now in
    let p = c.args.point in
    let same = same_net (body_of a.protocol.body) _ c.points.result.now c.protocol-protocol.ensures.accepted.form c.points.ensures in
    let same-2 = same_net (body_of a.protocol.body) _ c.points-2.result.now c.protocol-protocol.ensures.accepted.form c.points-2.ensures in
    let from : c.sender.result ≡ (net_for a).sender p = c.sender.ensures ∙ ap (λ (n : Net). n.sender p) same in
    let to : c.receiver.result ≡ (net_for a).receiver p = c.receiver.ensures ∙ ap (λ (n : Net). n.receiver p) same-2 in
    let whole : c.named.new.text ++ named_text a c.receiver.result ≡ c.args.text.now ++ ends_text a p =
    rw (c.in_ok-named.ensures, from, to) (append_assoc c.args.text.now (named_text a ((net_for a).sender p)) (named_text a ((net_for a).receiver p))) in
    subst (λ (t : List ℕ). OnOk c.named-2.result (c.named-2.new.text ≡ t)) whole c.named-2.ensures
