-- What several sessions come to is one thing, and the same of two that say the same.
use Rattle.std.proofs.Common.{◌≡◌, ℕ, ◌+◌, ◌*◌, ◌<◌, Bool, List, length, inl, inr, sym, ◌∙◌, ap, ap₂, subst, arith, slice_index_or}
use Rattle.rcv_model.specs.Journal.{Rules}
use Rattle.rcv_session.specs.Session.{SessionView}
use Rattle.rcv_accept.specs.Accepted.{IsAcceptedProtocol}
use Rattle.rcv_input.specs.Laws.{AreSame}
use Rattle.rcv_joined.specs.Joined.{joined}
use Rattle.rcv_joined.proofs.Places.{Are, one_list}
use Rattle.rcv_later.specs.Later.{later}
use Rattle.rcv_later.proofs.Laters.{later_same}
use Rattle.rcv_top.specs.declared.status.Status.{Status}
use Rattle.rcv_top.specs.Many.{OneRun, IsOneRun, AreRuns, ended_as, texts_of, IsManyRun, IsTooMuch, IsRunOfMany}
use Rattle.rcv_top.proofs.Runs.{OneThreadText, rules_same, text_of, text_moves, one_text_run}

-- ---- places

-- this is the run of session i
abbrev pub IsRunAt : Bool → SessionView → ℕ → OneRun → Type 0
IsRunAt json session i run = IsOneRun json (later session i) run

pub from_places : (n : ℕ) (json : Bool) (t : SessionView) (runs : List OneRun) → Are (IsRunAt json t) 0 n runs → AreRuns n json t runs
from_places n json t runs are = record {
  count = are.count;
  each = λ k d lt. let place : 0 + k ≡ k = omega arith in subst (λ (j : ℕ). IsRunAt json t j (slice_index_or runs k d)) place (are.each k d lt);
}

-- ---- two sessions that say the same

-- the text of the run of session i
abbrev IsTextAt : Bool → SessionView → ℕ → OneRun → Type 0
IsTextAt json t i run = OneThreadText json (later t i) run.status run.bytes

texts : (n : ℕ) (json : Bool) (t : SessionView) (runs : List OneRun) → ((i : ℕ) (d : OneRun) → i < n → IsTextAt json t i (slice_index_or runs i d)) → length runs ≡ n → Are (IsTextAt json t) 0 n runs
texts n json t runs each count = record {
  count = count;
  each = λ k d lt. let place : k ≡ 0 + k = omega arith in subst (λ (j : ℕ). IsTextAt json t j (slice_index_or runs k d)) place (each k d lt);
}

texts_move : (n : ℕ) (json : Bool) (s t : SessionView) (runs : List OneRun) → AreSame s t → AreRuns n json s runs → Are (IsTextAt json t) 0 n runs
texts_move n json s t runs same are = texts n json t runs
    (λ i d lt. text_moves json (later s i) (later t i) (slice_index_or runs i d).status (slice_index_or runs i d).bytes (later_same s t i same) (are.each i d lt))
    are.count

texts_of_runs : (n : ℕ) (json : Bool) (t : SessionView) (runs : List OneRun) → AreRuns n json t runs → Are (IsTextAt json t) 0 n runs
texts_of_runs n json t runs are = texts n json t runs
    (λ i d lt. text_of json (later t i) (slice_index_or runs i d).status (slice_index_or runs i d).bytes (are.each i d lt))
    are.count

pub too_much_moves : (n : ℕ) (s t : SessionView) → AreSame s t → IsTooMuch n s → IsTooMuch n t
too_much_moves n s t same = subst (λ (r : Rules). 3200000 < r.roles * r.limit * n) (rules_same s t same)

too_much_back : (n : ℕ) (s t : SessionView) → AreSame s t → IsTooMuch n t → IsTooMuch n s
too_much_back n s t same = subst (λ (r : Rules). 3200000 < r.roles * r.limit * n) (sym (rules_same s t same))

-- ---- one thing

abbrev run_of : Status → List ℕ → OneRun
run_of status bytes = record { status = status; bytes = bytes }

one_run_at : (json : Bool) (t : SessionView) → IsAcceptedProtocol t.protocol → (i : ℕ) (x y : OneRun) → IsTextAt json t i x → IsTextAt json t i y → x ≡ y
one_run_at json t lawful i x y a b =
    let same = one_text_run json (later t i) x.status y.status x.bytes y.bytes lawful a b in
    ap₂ run_of same.0 same.1

-- what they come to, where they aren't too much
one_many_run : (n : ℕ) (json : Bool) (s t : SessionView) (a b : Status) (x y : List ℕ) → IsAcceptedProtocol t.protocol → AreSame s t → IsManyRun n json s a x → IsManyRun n json t b y → (a ≡ b) × (x ≡ y)
one_many_run n json s t a b x y lawful same m o =
    (m.status_is ∙ ap ended_as runs ∙ sym o.status_is, m.bytes_are ∙ ap (λ (rs : List OneRun). joined json 0 (texts_of rs)) runs ∙ sym o.bytes_are)
  where
    runs : m.runs ≡ o.runs
    runs = one_list (IsTextAt json t) (one_run_at json t lawful) n 0 m.runs o.runs
        (texts_move n json s t m.runs same m.are_runs) (texts_of_runs n json t o.runs o.are_runs)

pub one_run_of_many : (n : ℕ) (json : Bool) (s t : SessionView) (a b : Status) (x y : List ℕ) → IsAcceptedProtocol t.protocol → AreSame s t → IsRunOfMany n json s a x → IsRunOfMany n json t b y → (a ≡ b) × (x ≡ y)
one_run_of_many n json s t a b x y lawful same (inl m) (inl o) = (m.status_is ∙ sym o.status_is, m.bytes_are ∙ sym o.bytes_are)
one_run_of_many n json s t a b x y lawful same (inl m) (inr o) = absurd (o.fits (too_much_moves n s t same m.too_much))
one_run_of_many n json s t a b x y lawful same (inr m) (inl o) = absurd (m.fits (too_much_back n s t same o.too_much))
one_run_of_many n json s t a b x y lawful same (inr m) (inr o) = one_many_run n json s t a b x y lawful same m.many_run o.many_run
