-- What became of preparations that workers brought to their ends.
use Rattle.std.proofs.Common.{◌≡◌, ℕ, ◌+◌, ◌<◌, List, [], ◌∷◌, ◌++◌, length, take, drop, sym, ◌∙◌, ap, subst, arith, slice_index_or}
use Rattle.std.proofs.Math.Seq.{take-append_seam}
use Rattle.std.proofs.lemmas.List.FromFn.{length-map-range_with_len, get_or-map-range_with_len, map-range_with_len_more}
use Rattle.rcv_many.specs.Turns.{AreDone}
use Rattle.rcv_later.specs.Preparing.{PreparationView, Waits, preparation_of, waiting, IsReady, HasStopped, IsPrepared, ArePrepared}

size : (input : List ℕ) (sessions : ℕ) → length (waiting input sessions) ≡ sessions
size input sessions = length-map-range_with_len (λ (i : ℕ). preparation_of input i Waits) 0 sessions

place : (input : List ℕ) (sessions i : ℕ) (d : PreparationView) → i < sessions → slice_index_or (waiting input sessions) i d ≡ preparation_of input i Waits
place input sessions i d lt = get_or-map-range_with_len (λ (j : ℕ). preparation_of input j Waits) 0 sessions i i d lt (omega arith)

-- one more that hasn't begun
pub one_more : (input : List ℕ) (n : ℕ) (all : List PreparationView) → all ≡ waiting input n → all ++ preparation_of input n Waits ∷ [] ≡ waiting input (n + 1)
one_more input n all is =
    ap (λ (l : List PreparationView). l ++ preparation_of input n Waits ∷ []) is ∙ sym (map-range_with_len_more (λ (i : ℕ). preparation_of input i Waits) 0 n n (omega arith))

pub are_prepared : (input : List ℕ) (sessions : ℕ) (old all : List PreparationView) → old ≡ waiting input sessions
    → AreDone (λ (p : PreparationView). IsReady p.stage) (λ (p : PreparationView). HasStopped p.stage) (λ (a b : PreparationView). (b.input ≡ a.input) × (b.by ≡ a.by)) old all
    → ArePrepared input sessions all
are_prepared input sessions old all is done = record { count = done.0.0 ∙ sizes; each = each }
  where
    sizes : length old ≡ sessions
    sizes = ap length is ∙ size input sessions

    each : (i : ℕ) (d : PreparationView) → i < sessions → IsPrepared input i (slice_index_or all i d)
    each i d lt =
        let there : i < length old = omega (arith, lt, sizes) in
        let was : slice_index_or old i d ≡ preparation_of input i Waits = ap (λ (l : List PreparationView). slice_index_or l i d) is ∙ place input sessions i d lt in
        let same = done.0.1 i d there in
        record { input_is = same.0 ∙ ap (λ (p : PreparationView). p.input) was; by_is = same.1 ∙ ap (λ (p : PreparationView). p.by) was; through = done.1 i d there }

-- of the vector whose items they are, as it is seen behind the loan of them
pub put_back : (input : List ℕ) (sessions n : ℕ) (whole old new : List PreparationView) → n ≡ length whole → whole ≡ waiting input sessions → old ≡ whole
    → AreDone (λ (p : PreparationView). IsReady p.stage) (λ (p : PreparationView). HasStopped p.stage) (λ (a b : PreparationView). (b.input ≡ a.input) × (b.by ≡ a.by)) old new
    → ArePrepared input sessions (take n (new ++ drop (length new) whole))
put_back input sessions n whole old new len is same done =
    let count : length new ≡ n = done.0.0 ∙ (ap length same ∙ sym len) in
    let all : take n (new ++ drop (length new) whole) ≡ new = subst (λ (k : ℕ). take k (new ++ drop (length new) whole) ≡ new) count (take-append_seam new (drop (length new) whole)) in
    subst (λ (l : List PreparationView). ArePrepared input sessions l) (sym all) (are_prepared input sessions old new (same ∙ is) done)
