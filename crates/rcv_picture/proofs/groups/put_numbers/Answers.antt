-- Four pieces.
use Rattle.std.proofs.Common.{◌≡◌, ◌∙◌, ℕ, List, ◌++◌, OnOk, sym, ap, subst}
use Rattle.rcv_picture.specs.Tree.{escaped}
use Rattle.rcv_picture.specs.Drawn.{run_words, event_words, crash_words, undone_words, fold_words}
use Rattle.rcv_picture.proofs.Chains.{four, escaped_four}
use Rattle.rcv_picture.proofs.groups.put_numbers.Goals as goal

pub returns : goal.returns
unfolding fold_words
returns c =
    let t = c.args.text.now in
    let p1 : List ℕ = escaped (run_words c.args.first c.args.end) in
    let p2 : List ℕ = escaped (event_words c.args.counts) in
    let p3 : List ℕ = escaped (crash_words c.args.counts) in
    let end : List ℕ = escaped (undone_words c.args.counts) in
    let s1 = c.in_ok-put_run.ensures in
    let s2 = c.in_ok-put_events.ensures ∙ ap (λ (s : List ℕ). s ++ p2) s1 in
    let s3 = c.in_ok-put_crashes.ensures ∙ ap (λ (s : List ℕ). s ++ p3) s2 in
    let said = ap (λ (s : List ℕ). s ++ end) s3 ∙ four t p1 p2 p3 end ∙ ap (λ (s : List ℕ). t ++ s) (sym (escaped_four (run_words c.args.first c.args.end) (event_words c.args.counts) (crash_words c.args.counts) (undone_words c.args.counts))) in
    subst (λ (s : List ℕ). OnOk c.put_undone.result (c.put_undone.new.text ≡ s)) said c.put_undone.ensures
