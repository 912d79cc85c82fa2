-- There is one verdict on an input.
use Rattle.std.proofs.Common.{ℕ, Bool, List}
use Rattle.std.specs.Prelude.{◌↔◌, IsTrue}
use Rattle.rcv_replay.specs.declared.replayed.Replayed.{Replayed}
use Rattle.rcv_replay.specs.declared.replayed.Replayed.TheVariants.{Refused, Legal, WrongEntry, WrongEnd}
use Rattle.rcv_replay.specs.Replaying.{IsReplay}
use Rattle.rcv_replay.proofs.Once.{one_replay}
use Rattle.rcv_first_calls.specs.Verdicts.{SaysLegal}

pub legal_if : (input : List ℕ) (said : Replayed) (b : Bool) → IsReplay input said → IsTrue b ↔ SaysLegal said
    → IsTrue b ↔ ((entries : ℕ) × (limited : Bool) × IsReplay input (Legal entries limited))
legal_if input (Legal entries limited) b is says = ((λ t. (entries, limited, is)), λ w. says.1 tt)
legal_if input (Refused r) b is says = ((λ t. absurd (says.0 t)), λ w. absurd (let e = one_replay input (Refused r) (Legal w.0 w.1) is w.2 in cc))
legal_if input (WrongEntry k) b is says = ((λ t. absurd (says.0 t)), λ w. absurd (let e = one_replay input (WrongEntry k) (Legal w.0 w.1) is w.2 in cc))
legal_if input WrongEnd b is says = ((λ t. absurd (says.0 t)), λ w. absurd (let e = one_replay input WrongEnd (Legal w.0 w.1) is w.2 in cc))
