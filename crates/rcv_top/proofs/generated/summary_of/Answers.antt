-- What is counted is the session's, and the last line is that of the lines.
use Rattle.std.proofs.Common.{◌≡◌, ℕ, List, refl, ◌∙◌, ap}
use Rattle.rcv_tree.specs.declared.entry.Entry.{Entry}
use Rattle.rcv_tree.specs.declared.protocol.Protocol.{Protocol}
use Rattle.rcv_model.specs.Text.{body_of}
use Rattle.rcv_model.specs.Places.{net_of}
use Rattle.rcv_session.specs.Session.{SessionView, roles_of, net_for}
use Rattle.rcv_journal.specs.declared.line.RoleLine.{RoleLine}
use Rattle.rcv_journal.specs.JournalText.{last_line}
use Rattle.rcv_gen.specs.Summary.{summary_text}
use Rattle.rcv_top.specs.Generating.{kept_in}
use Rattle.rcv_top.proofs.Summing.{count_is}
use Rattle.rcv_top.proofs.generated.summary_of.Goals as goal

-- the same summary of the same numbers
same_summary : (number : ℕ) (r r' p p' : ℕ) (es es' : List Entry) (k k' : ℕ) (l l' : List ℕ) → r ≡ r' → p ≡ p' → es ≡ es' → k ≡ k' → l ≡ l' → summary_text number r p es k l ≡ summary_text number r' p' es' k' l'
same_summary number r r' p p' es es' k k' l l' a b c d e =
    ap (λ (x : ℕ). summary_text number x p es k l) a
    ∙ ap (λ (x : ℕ). summary_text number r' x es k l) b
    ∙ ap (λ (x : List Entry). summary_text number r' p' x k l) c
    ∙ ap (λ (x : ℕ). summary_text number r' p' es' x l) d
    ∙ ap (λ (x : List ℕ). summary_text number r' p' es' k' x) e

pub returns : goal.returns
returns c =
    let session : SessionView = c.args.book.now.setup in
    let lines : List RoleLine = c.in_ok-lines.lines.items in
    let roles = c.roles.ensures.value ∙ ap (λ (v : SessionView). roles_of v) c.setup-setup.ensures in
    let points = c.count.ensures.value ∙ count_is (body_of c.accepted.result.now.protocol.body) c.points.result.now c.points.ensures
    ∙ ap (λ (p : Protocol). (net_of (body_of p.body)).count) (c.accepted.ensures ∙ ap (λ (v : SessionView). v.protocol) c.setup-setup.ensures) in
    let kept = c.kept_in.ensures ∙ ap kept_in c.as_slice-2.ensures.value in
    let last = c.as_slice-3.ensures.value ∙ c.in_ok-last.ensures ∙ ap (λ (v : SessionView). last_line v c.as_slice.result.now) c.setup-setup.ensures ∙ ap (last_line session) c.as_slice.ensures.value in
    let same = same_summary c.args.number c.roles.result (roles_of session) c.count.result (net_for session).count c.entries.result.now c.args.book.now.entries c.kept_in.result (kept_in lines) c.as_slice-3.result.now (last_line session lines)
    roles points c.entries.ensures.value kept last in
    (refl, record { lines = lines; are_lines = c.in_ok-lines.ensures.lines; is_summary = c.in_ok-bytes.ensures ∙ same })
