-- One line more.
use Rattle.std.proofs.Common.{◌≡◌, ◌+◌, ℕ, List, [], ◌∷◌, ◌++◌, Some, suc, slice_get, get_or, take, sym, ◌∙◌, ap, arith}
use Rattle.std.proofs.lemmas.Option.{slice_get-get_or}
use Rattle.rcv_journal.specs.declared.line.RoleLine.{RoleLine}
use Rattle.rcv_journal.specs.Lines.{limited_in}
use Rattle.rcv_judge.proofs.Closings.{limited_behind}
use Rattle.rcv_judge.proofs.closing.limited_of.Goals as goal

pub loop-line-preserved : goal.loop-line-preserved
loop-line-preserved c =
    let lines = c.args.lines.now in
    let k = c.loop-line.line-index in
    let line = c.line-item.result in
    let next : suc k ≡ k + 1 = omega arith in
    let here : slice_get lines k ≡ Some (get_or lines k line) = slice_get-get_or lines k line c.loop-line-test.true in
    c.in_ok-add_limited.ensures
    ∙ ap (λ (items : List ℕ). items ++ limited_in (line ∷ [])) c.loop-line.invariant
    ∙ ap (λ (x : RoleLine). limited_in (take k lines) ++ limited_in (x ∷ [])) c.line-item.is
    ∙ sym (limited_behind lines k (get_or lines k line) here)
    ∙ ap (λ n. limited_in (take n lines)) next
