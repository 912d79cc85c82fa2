-- The states of a tail, by a function of how many events there were: one more, fewer, and some forgotten.
use Prim.Native.Nat.{zero, suc}
use Rattle.std.proofs.Common.{◌≡◌, ℕ, ◌+◌, ◌-◌, ◌<◌, ◌≤◌, List, [], ◌∷◌, ◌++◌, length, take, drop, Some, refl, sym, ◌∙◌, ap, subst, ⊎_elim, arith, length-append, length-take, length-drop, get_or-drop, get_or-take}
use Rattle.std.specs.Prelude.{slice_get, slice_index_or}
use Rattle.std.proofs.lemmas.Bool.{cases_lt}
use Rattle.std.proofs.Math.Seq.{get_or-append_seam}
use Rattle.std.proofs.lemmas.List.{get_or_append_left}
use Rattle.std.proofs.lemmas.Option.{slice_get-get_or, slice_get_within, get_or_from_slice_get}
use Rattle.rcv_checkpoint.specs.declared.state.State.{State}
use Rattle.rcv_checkpoint.specs.Rows.{nowhere}
use Rattle.rcv_checkpoint.specs.Tail.{TailView, made, AreFrom}

-- The state at a place, read with a default.
there : (states : List State) (n : ℕ) (x : State) → slice_get states n ≡ Some x → slice_index_or states n nowhere ≡ x
there states n x at = get_or_from_slice_get states n x nowhere at

here : (states : List State) (n : ℕ) (x : State) → n < length states → slice_index_or states n nowhere ≡ x → slice_get states n ≡ Some x
here states n x lt is = slice_get-get_or states n nowhere lt ∙ ap Some is

pub first_from : (state : ℕ → State) → AreFrom state 0 0 (state 0 ∷ [])
first_from state = record { all = omega arith; each = λ n low high. (let z : n ≡ 0 = omega (arith, high) in subst (λ k. slice_get (state 0 ∷ []) (k - 0) ≡ Some (state k)) (sym z) refl) }

module _ (state : ℕ → State) (base count : ℕ) (states : List State) (are : AreFrom state base count states) (low : base ≤ count) where
  -- As many events as there are.
  pub count_from : base + (length states - 1) ≡ count
  count_from = let a = are.all in omega (arith, a, low)

  -- The last of them.
  pub top_from : (x : State) → slice_get states (length states - 1) ≡ Some x → x ≡ state count
  top_from x at =
      let a = are.all in
      let place : length states - 1 ≡ count - base = omega (arith, a, low) in
      sym (there states (length states - 1) x at) ∙ ap (λ k. slice_index_or states k nowhere) place ∙ there states (count - base) (state count) (are.each count low (omega arith))

  -- Those of a function that says the same.
  pub same_from : (other : ℕ → State) → ((n : ℕ) → n ≤ count → state n ≡ other n) → AreFrom other base count states
  same_from other same = record { all = are.all; each = λ n from to. are.each n from to ∙ ap Some (same n to) }

  -- One more.
  pub more_from : (x : State) → x ≡ state (count + 1) → AreFrom state base (count + 1) (states ++ x ∷ [])
  more_from x is = record {
    all = let a = are.all in let n = length-append states (x ∷ []) in omega (arith, a, n);
    each = λ n from to. ⊎_elim
        (λ lt.
        let a = are.all in
        let long = length-append states (x ∷ []) in
        here (states ++ x ∷ []) (n - base) (state n) (omega (arith, a, long, from, lt)) (get_or_append_left states (x ∷ []) nowhere (n - base) (omega (arith, a, from, lt)) ∙ there states (n - base) (state n) (are.each n from (omega (arith, lt)))))
        (λ le.
        let a = are.all in
        let long = length-append states (x ∷ []) in
        let last : n ≡ count + 1 = omega (arith, to, le) in
        let place : n - base ≡ length states = omega (arith, a, last, low) in
        here (states ++ x ∷ []) (n - base) (state n) (omega (arith, a, long, place)) (ap (λ k. slice_index_or (states ++ x ∷ []) k nowhere) place ∙ get_or-append_seam states x [] nowhere ∙ is ∙ ap state (sym last)))
        (cases_lt n (count + 1));
  }

  -- Fewer.
  pub fewer_from : (keep : ℕ) → base ≤ keep → keep ≤ count → AreFrom state base keep (take (keep - base + 1) states)
  fewer_from keep from to = record {
    all = let a = are.all in let n = length-take (keep - base + 1) states in omega (arith, a, n, from, to);
    each = λ n at up.
        let a = are.all in
        let long = length-take (keep - base + 1) states in
        here (take (keep - base + 1) states) (n - base) (state n) (omega (arith, a, long, at, up, to)) (get_or-take (keep - base + 1) states (n - base) nowhere (omega (arith, at, up)) ∙ there states (n - base) (state n) (are.each n at (omega (arith, up, to))));
  }

  -- From another base on.
  pub forgotten_from : (below : ℕ) → base ≤ below → below ≤ count → AreFrom state below count (drop (below - base) states)
  forgotten_from below from to = record {
    all = let a = are.all in let n = length-drop (below - base) states in omega (arith, a, n, from, to);
    each = λ n at up.
        let a = are.all in
        let long = length-drop (below - base) states in
        let place : below - base + (n - below) ≡ n - base = omega (arith, from, at) in
        here (drop (below - base) states) (n - below) (state n) (omega (arith, a, long, at, up, from)) (get_or-drop (below - base) states (n - below) nowhere ∙ ap (λ k. slice_index_or states k nowhere) place ∙ there states (n - base) (state n) (are.each n (omega (arith, from, at)) up));
  }
