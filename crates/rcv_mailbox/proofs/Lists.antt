-- What went through the ring, and what is kept of it.
use Rattle.std.proofs.Common.{◌≡◌, ℕ, ◌+◌, ◌≤◌, List, ◌++◌, length, take, drop, sym, ap, ◌∙◌, arith, append_assoc}
use lib.Seq.{drop-append-le}
use Rattle.std.proofs.lemmas.List.{take-append-drop}
use Rattle.rcv_tree.specs.declared.event.Message.{Message}
use Rattle.rcv_ring.specs.Lists.{Begins}
use Rattle.rcv_mailbox.specs.Ends.{Follows}

-- what was taken begins what was put, where this is so of the ring
pub begins_channel : (sent taken put list : List Message) (d r : ℕ) → Follows sent d r put → Follows taken d r list → take r list ≡ take r put → Begins taken sent → Begins list put
begins_channel sent taken put list d r f g same b =
    let k : ℕ = d + r in
    let long : length taken ≡ d + length list = g.count in
    let low : r ≤ length list = g.within in
    let whole : (list : List Message) → take r list ++ drop r list ≡ list = λ l. take-append-drop r l in
    let front : List Message = take r put in
    let cut : drop k taken ++ b.0 ≡ drop k sent = sym (drop-append-le k taken b.0 (omega arith)) ∙ ap (drop k) b.1 in (
      b.0,
      ap (λ (l : List Message). l ++ b.0) (sym (whole list) ∙ (λ i. same i ++ sym g.behind i)) ∙ append_assoc front (drop k taken) b.0 ∙ ap (λ (l : List Message). front ++ l) (cut ∙ f.behind) ∙ whole put,
    )
