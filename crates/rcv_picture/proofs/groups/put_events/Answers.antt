-- Two numbers and what is said of each.
use Rattle.std.proofs.Common.{◌≡◌, ◌∙◌, ℕ, List, ◌++◌, OnOk, codes, decimal, sym, ap, subst}
use Rattle.rcv_picture.specs.Tree.{escaped}
use Rattle.rcv_picture.specs.Drawn.{event_words}
use Rattle.rcv_picture.proofs.Chains.{four, escaped_four}
use Rattle.rcv_picture.proofs.groups.put_events.Goals as goal

pub returns : goal.returns
unfolding event_words
returns c =
    let t = c.args.text.now in
    let p1 : List ℕ = escaped (decimal c.args.counts.sends) in
    let p2 : List ℕ = codes " sent, " in
    let p3 : List ℕ = escaped (decimal c.args.counts.receives) in
    let end : List ℕ = codes " received, " in
    let s1 = c.in_ok-put_digits.ensures in
    let s2 = c.in_ok-word.ensures.ok ∙ ap (λ (s : List ℕ). s ++ p2) s1 in
    let s3 = c.in_ok-put_digits-2.ensures ∙ ap (λ (s : List ℕ). s ++ p3) s2 in
    let said = ap (λ (s : List ℕ). s ++ end) s3 ∙ four t p1 p2 p3 end ∙ ap (λ (s : List ℕ). t ++ s) (sym (escaped_four (decimal c.args.counts.sends) (codes " sent, ") (decimal c.args.counts.receives) (codes " received, "))) in
    subst (λ (s : List ℕ). OnOk c.word-2.result (c.word-2.new.self ≡ s)) said c.word-2.ensures.ok
