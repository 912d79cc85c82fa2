-- The first events forgotten, whole blocks of them.
use Prim.Native.Nat.{zero, suc}
use Rattle.std.proofs.Common.{◌≡◌, ℕ, ◌+◌, ◌-◌, ◌*◌, ◌/◌, ◌<◌, ◌≤◌, List, length, take, drop, map, get_or, refl, sym, ◌∙◌, ap, arith, length-drop, get_or-drop, ext_get_or}
use Rattle.std.specs.Prelude.{slice_index, slice_index_or}
use Rattle.std.specs.List.{range_with_len}
use Rattle.std.proofs.lemmas.List.{drop-drop, length-map, get_or-map, get_or_default}
use Rattle.std.proofs.lemmas.List.FromFn.{length-map-range_with_len, get_or-map-range_with_len}
use Rattle.rcv_checkpoint.specs.declared.state.State.{State}
use Rattle.rcv_checkpoint.specs.Rows.{Lists, changes_before, of_event, nowhere, state_in, states_of, AreRows}
use Rattle.rcv_checkpoint.proofs.Changes.{changes_grow, same_step}

-- So much taken from each.
abbrev pub less_by : ℕ → List ℕ → List ℕ
less_by m xs = map (λ x. x - m) xs

-- Without the first b blocks of 64 events, which made m changes.
abbrev pub without : Lists → ℕ → ℕ → Lists
without r b m = record { points = drop (b * 64) r.points; changed = drop (b * 64) r.changed; places = drop m r.places; values = drop m r.values; fulls = drop b r.fulls; starts = less_by m (drop b r.starts) }

changes_drop : (e : ℕ) (xs : List ℕ) (n : ℕ) → changes_before xs e + changes_before (drop e xs) n ≡ changes_before xs (e + n)
changes_drop e xs zero = let same = ap (changes_before xs) (e_zero e) in omega (arith, same)
  where
    e_zero : (e : ℕ) → e + 0 ≡ e
    e_zero e = omega arith
changes_drop e xs (suc n) =
    let ih = changes_drop e xs n in
    let here = get_or-drop e xs n 0 in
    let up : e + suc n ≡ suc (e + n) = omega arith in
    let next : changes_before xs (e + suc n) ≡ changes_before xs (suc (e + n)) = ap (changes_before xs) up in
    omega (arith, ih, here, next)

of_event_drop : {A : Type 0} (e : ℕ) (changed : List ℕ) (xs : List A) (n : ℕ) → of_event (drop e changed) (drop (changes_before changed e) xs) n ≡ of_event changed xs (e + n)
of_event_drop e changed xs n =
    ap (λ k. take k (drop (changes_before (drop e changed) n) (drop (changes_before changed e) xs))) (get_or-drop e changed n 0)
    ∙ ap (take (slice_index changed (e + n))) (drop-drop (changes_before (drop e changed) n) (changes_before changed e) xs ∙ ap (λ k. drop k xs) (changes_drop e changed n))

less_at : (m : ℕ) (xs : List ℕ) (i : ℕ) → i < length xs → slice_index (less_by m xs) i ≡ slice_index xs i - m
less_at m xs i lt = get_or-map (λ x. x - m) xs i 0 0 lt

-- What is read of a block, and that its changes lie within all of them.
pub start_there : (r : Lists) (b x : ℕ) → AreRows r → b * 64 ≤ length r.points → x ≡ get_or r.starts b x → x ≡ changes_before r.changed (b * 64)
start_there r b x rows held e = e ∙ get_or_default r.starts b x 0 (let a = rows.starts in omega (arith, a, held)) ∙ rows.start b held

pub start_within : (r : Lists) (b x : ℕ) → AreRows r → b * 64 ≤ length r.points → x ≡ get_or r.starts b x → (x ≤ length r.places) × (x ≤ length r.values)
start_within r b x rows held e =
    let at = start_there r b x rows held e in
    let le = changes_grow r.changed (b * 64) (length r.points) held in
    let a = rows.places in
    let c = rows.values in
    (omega (arith, at, le, a), omega (arith, at, le, c))

module _ (r : Lists) (b m : ℕ) (rows : AreRows r) (held : b * 64 ≤ length r.points) (changes : m ≡ changes_before r.changed (b * 64)) where
  there : (k : ℕ) → slice_index_or (drop b r.fulls) k nowhere ≡ slice_index_or r.fulls (b + k) nowhere
  there k = get_or-drop b r.fulls k nowhere

  -- Each state is the one that it was.
  pub state_without : (n : ℕ) → state_in (without r b m) n ≡ state_in r (b * 64 + n)
  state_without zero =
      let one : b + 0 ≡ b = omega arith in
      let all : b * 64 ≡ b * 64 + 0 = omega arith in
      there 0 ∙ ap (λ k. slice_index_or r.fulls k nowhere) one ∙ rows.full b held ∙ ap (state_in r) all
  state_without (suc n) =
      let up : suc (b * 64 + n) ≡ b * 64 + suc n = omega arith in
      same_step (slice_index (drop (b * 64) r.points) n) (slice_index r.points (b * 64 + n)) (of_event (drop (b * 64) r.changed) (drop m r.places) n) (of_event r.changed r.places (b * 64 + n)) (of_event (drop (b * 64) r.changed) (drop m r.values) n) (of_event r.changed r.values (b * 64 + n)) (state_in (without r b m) n) (state_in r (b * 64 + n))
      (get_or-drop (b * 64) r.points n 0)
      (ap (λ k. of_event (drop (b * 64) r.changed) (drop k r.places) n) changes ∙ of_event_drop (b * 64) r.changed r.places n)
      (ap (λ k. of_event (drop (b * 64) r.changed) (drop k r.values) n) changes ∙ of_event_drop (b * 64) r.changed r.values n)
      (state_without n)
      ∙ ap (state_in r) up

  count : length (drop (b * 64) r.points) ≡ length r.points - b * 64
  count = length-drop (b * 64) r.points

  pub states_without : states_of (without r b m) ≡ drop (b * 64) (states_of r)
  states_without = ext_get_or nowhere (states_of (without r b m)) (drop (b * 64) (states_of r)) (sym_len) (λ i lt. at i lt)
    where
      here : length (states_of (without r b m)) ≡ length r.points - b * 64 + 1
      here = length-map-range_with_len (state_in (without r b m)) 0 (length (drop (b * 64) r.points) + 1) ∙ ap (λ n. n + 1) count

      all : length (states_of r) ≡ length r.points + 1
      all = length-map-range_with_len (state_in r) 0 (length r.points + 1)

      sym_len : length (states_of (without r b m)) ≡ length (drop (b * 64) (states_of r))
      sym_len = let a = here in let c = all in let d = length-drop (b * 64) (states_of r) in omega (arith, a, c, d, held)

      at : (i : ℕ) → i < length (states_of (without r b m)) → get_or (states_of (without r b m)) i nowhere ≡ get_or (drop (b * 64) (states_of r)) i nowhere
      at i lt =
          let a = here in
          let n = count in
          get_or-map-range_with_len (state_in (without r b m)) 0 (length (drop (b * 64) r.points) + 1) i i nowhere (omega (arith, lt, a, n)) (omega arith)
          ∙ state_without i
          ∙ sym (get_or-drop (b * 64) (states_of r) i nowhere ∙ get_or-map-range_with_len (state_in r) 0 (length r.points + 1) (b * 64 + i) (b * 64 + i) nowhere (omega (arith, lt, a, held)) (omega arith))

  pub last_without : state_in (without r b m) (length (drop (b * 64) r.points)) ≡ state_in r (length r.points)
  last_without =
      let n = count in
      let whole : b * 64 + length (drop (b * 64) r.points) ≡ length r.points = omega (arith, n, held) in
      state_without (length (drop (b * 64) r.points)) ∙ ap (state_in r) whole

  left : m + changes_before (drop (b * 64) r.changed) (length (drop (b * 64) r.points)) ≡ changes_before r.changed (length r.points)
  left =
      let a = changes_drop (b * 64) r.changed (length (drop (b * 64) r.points)) in
      let n : changes_before r.changed (b * 64 + length (drop (b * 64) r.points)) ≡ changes_before r.changed (length r.points) = (let l = count in let whole : b * 64 + length (drop (b * 64) r.points) ≡ length r.points = omega (arith, l, held) in ap (changes_before r.changed) whole) in
      omega (arith, a, n, changes)

  pub rows_without : AreRows (without r b m)
  rows_without = record {
    changed = let d = length-drop (b * 64) r.changed in let n = count in let same = rows.changed in omega (arith, d, n, same);
    places = let d = length-drop m r.places in let l = left in let all = rows.places in omega (arith, d, l, all);
    values = let d = length-drop m r.values in let l = left in let all = rows.values in omega (arith, d, l, all);
    fit = λ i. let d = get_or-drop m r.places i 0 in let f = rows.fit (m + i) in omega (arith, d, f);
    few = λ i. let d = get_or-drop (b * 64) r.changed i 0 in let f = rows.few (b * 64 + i) in omega (arith, d, f);
    fulls = let d = length-drop b r.fulls in let n = count in let all = rows.fulls in omega (arith, d, n, all, held);
    starts = let l = length-map (drop b r.starts) (λ x. x - m) in let d = length-drop b r.starts in let n = count in let all = rows.starts in omega (arith, l, d, n, all, held);
    full = λ k h.
        let n = count in
        let split : (b + k) * 64 ≡ b * 64 + k * 64 = omega arith in
        there k ∙ rows.full (b + k) (omega (arith, h, n, held)) ∙ ap (state_in r) split ∙ sym (state_without (k * 64));
    start = λ k h.
        let n = count in
        let d = length-drop b r.starts in
        let all = rows.starts in
        let here = less_at m (drop b r.starts) k (omega (arith, d, all, h, n, held)) in
        let at = get_or-drop b r.starts k 0 in
        let was = rows.start (b + k) (omega (arith, h, n, held)) in
        let split = changes_drop (b * 64) r.changed (k * 64) in
        let same : changes_before r.changed ((b + k) * 64) ≡ changes_before r.changed (b * 64 + k * 64) = (let two : (b + k) * 64 ≡ b * 64 + k * 64 = omega arith in ap (changes_before r.changed) two) in
        omega (arith, here, at, was, split, same, changes);
  }
