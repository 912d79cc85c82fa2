-- The states of a stack from a base on.
use Rattle.std.proofs.Common.{◌≡◌, ℕ, ◌+◌, ◌-◌, ◌*◌, ◌/◌, ◌%◌, ◌<◌, ◌≤◌, List, [], ◌∷◌, ◌++◌, length, take, drop, Some, refl, sym, ◌∙◌, ap, subst, arith, length-drop, get_or-drop}
use Rattle.std.specs.Prelude.{slice_get, slice_index_or}
use Rattle.std.proofs.lemmas.List.{drop-drop, drop-take, drop-append-le}
use Rattle.std.proofs.lemmas.Nat.{le-div, div-add-mod'}
use Rattle.std.proofs.lemmas.Option.{slice_get-get_or, slice_get_within, get_or_from_slice_get}
use Rattle.std.proofs.Math.Nat.{mul-le-mul_left}
use Rattle.rcv_checkpoint.specs.declared.state.State.{State}
use Rattle.rcv_checkpoint.specs.Rows.{nowhere}
use Rattle.rcv_checkpoint.specs.Stack.{StackView, held, last_vars, with_states}
use Rattle.rcv_checkpoint.specs.Tail.{TailView, made, place_of, HasState, final_vars, IsSaved, with_held, from_base, tail_of, IsTail}

module _ (stack : StackView) (before base every : ℕ) (is : IsTail stack before base every) where
  -- As many events.
  pub made_is : made (tail_of stack before base) ≡ before + held stack
  made_is =
      let n = length-drop (base - before) stack.states in
      let o = is.order in
      let w = is.within in
      let s = is.some in
      omega (arith, n, o, w, s)

  pub last_is : (length (drop (base - before) stack.states) - 1) + (base - before) ≡ held stack
  last_is =
      let n = length-drop (base - before) stack.states in
      let o = is.order in
      let w = is.within in
      let s = is.some in
      omega (arith, n, o, w, s)

  pub final_vars_are : final_vars (tail_of stack before base) ≡ last_vars stack
  final_vars_are =
      ap (λ (s : State). s.vars) (get_or-drop (base - before) stack.states (length (drop (base - before) stack.states) - 1) nowhere)
      ∙ ap (λ n. (slice_index_or stack.states n nowhere).vars) (let l = last_is in let at : base - before + (length (drop (base - before) stack.states) - 1) ≡ held stack = omega (arith, l) in at)

  pub saved_more : (s : State) → tail_of (with_states stack (stack.states ++ s ∷ [])) before base ≡ with_held (tail_of stack before base) (drop (base - before) stack.states ++ s ∷ [])
  saved_more s = ap (with_held (tail_of stack before base)) (drop-append-le (base - before) stack.states (s ∷ []) (let o = is.order in let w = is.within in let m = is.some in omega (arith, o, w, m)))

  -- The state after a count, from the base on.
  pub state_there : (count : ℕ) (s : State) → HasState (tail_of stack before base) count → slice_get stack.states (count - before) ≡ Some s → slice_get (drop (base - before) stack.states) (count - base) ≡ Some s
  state_there count s holds at =
      let n = length-drop (base - before) stack.states in
      let o = is.order in
      let here = slice_get_within stack.states (count - before) s at in
      let low = holds.0 in
      let place : base - before + (count - base) ≡ count - before = omega (arith, o, low) in
      slice_get-get_or (drop (base - before) stack.states) (count - base) nowhere (omega (arith, n, o, here, low))
      ∙ ap Some (get_or-drop (base - before) stack.states (count - base) nowhere ∙ ap (λ k. slice_index_or stack.states k nowhere) place ∙ get_or_from_slice_get stack.states (count - before) s nowhere at)

  pub rewound : (count : ℕ) → HasState (tail_of stack before base) count → tail_of (with_states stack (take (count - before + 1) stack.states)) before base ≡ with_held (tail_of stack before base) (take (count - base + 1) (drop (base - before) stack.states))
  rewound count holds =
      let o = is.order in
      let low = holds.0 in
      let split : count - before + 1 ≡ base - before + (count - base + 1) = omega (arith, o, low) in
      ap (with_held (tail_of stack before base)) (ap (λ n. drop (base - before) (take n stack.states)) split ∙ drop-take (base - before) (count - base + 1) stack.states)

  -- Another base; and the first states of the stack gone, too.
  pub based : (below : ℕ) → base ≤ below → tail_of stack before below ≡ from_base (tail_of stack before base) below
  based below low =
      let o = is.order in
      let split : base - before + (below - base) ≡ below - before = omega (arith, o, low) in
      ap (λ states. record { base = below; states = states; every = stack.every; room = stack.room }) (ap (λ n. drop n stack.states) (sym split) ∙ sym (drop-drop (below - base) (base - before) stack.states))

  pub moved : (below forgotten : ℕ) → base ≤ below → before + forgotten ≤ below → tail_of (with_states stack (drop forgotten stack.states)) (before + forgotten) below ≡ from_base (tail_of stack before base) below
  moved below forgotten low within =
      let split : forgotten + (below - (before + forgotten)) ≡ below - before = omega (arith, within) in
      ap (λ states. record { base = below; states = states; every = stack.every; room = stack.room }) (drop-drop (below - (before + forgotten)) forgotten stack.states ∙ ap (λ n. drop n stack.states) split)
      ∙ based below low

  pub saved_is : (events : ℕ) → before + held stack ≡ events → IsSaved (tail_of stack before base) (events - events % every)
  saved_is events e =
      let m = made_is in
      let one = is.steps in
      let whole = div-add-mod' events every in
      let same = is.every_is in
      record {
        multiple = subst (λ x. (k : ℕ) × (k * x ≡ events - events % every)) (sym same) (events / every, omega (arith, whole));
        within = omega (arith, m, e);
        greatest = λ other k le.
            let j : (k : ℕ) × (k * every ≡ other) = subst (λ x. (k : ℕ) × (k * x ≡ other)) same k in
            let up = le-div j.0 events every (omega (arith, one)) (let f = j.1 in omega (arith, f, le, m, e)) in
            let more = mul-le-mul_left every up in
            let f = j.1 in
            omega (arith, whole, more, f);
      }
