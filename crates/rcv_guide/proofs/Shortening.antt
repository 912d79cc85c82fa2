-- The shorter memory of a session: of each role's log what stays, and of each channel what isn't received among the forgotten events.
use Rattle.std.proofs.Common.{◌≡◌, ℕ, zero, suc, ◌+◌, ◌-◌, ◌<◌, ◌≤◌, Bool, true, false, cond, Option, Some, None, List, [], ◌∷◌, ◌++◌, length, length-drop, take, drop, refl, sym, ◌∙◌, ap, ⊎_elim, append-nil, append_assoc, arith}
use Rattle.std.specs.Prelude.{nat_le, slice_get, slice_index}
use Rattle.std.proofs.Math.Seq.{take-length}
use Rattle.std.proofs.lemmas.Bool.{cases_lt}
use Rattle.std.proofs.lemmas.Bool.Decides.{nat_tests}
use Rattle.rcv_tree.specs.declared.event.Event.{Event}
use Rattle.rcv_model.specs.Net.{Net, IsPrefix}
use Rattle.rcv_model.specs.Run.{is_sent, put, taken}
use Rattle.rcv_model.proofs.Lists.{prefix_length}
use Rattle.rcv_ledger.specs.Logs.{log_at}
use Rattle.rcv_depend.specs.Cuts.{put_within, taken_within}
use Rattle.rcv_ledger.proofs.Lists.{none_there}
use Rattle.rcv_guide.specs.Renewal.{AreOrdered, MayEnd, stays_at, one_staying, staying}
use Rattle.rcv_guide.proofs.Staying.{take_more, take_end, put_up, taken_up, send_stays, recv_stays}

true_le : (m n : ℕ) → m ≤ n → nat_le m n ≡ true
true_le m n le = grind (arith, nat_tests)

-- an item behind so many
pub get_behind : {A : Type 0} (n k : ℕ) (xs : List A) → slice_get (drop n xs) k ≡ slice_get xs (n + k)
get_behind zero k xs = ap (slice_get xs) (let e : k ≡ 0 + k = omega arith in e)
get_behind (suc n) k [] = refl
get_behind (suc n) k (x ∷ xs) = get_behind n k xs ∙ ap (slice_get (x ∷ xs)) (let e : suc (n + k) ≡ suc n + k = omega arith in e)

-- a list that begins another, and the rest of that
pub prefix_rest : {A : Type 0} (xs ys : List A) → IsPrefix xs ys → ys ≡ xs ++ drop (length xs) ys
prefix_rest [] ys p = refl
prefix_rest (x ∷ xs) [] p = absurd (let f = p.1 in cc)
prefix_rest (x ∷ xs) (y ∷ ys) p =
    let f = p.1 in
    let g : x ≡ y = cc in
    let h : xs ++ p.0 ≡ ys = cc in
    ap (λ z. z ∷ ys) (sym g) ∙ ap (λ l. x ∷ l) (prefix_rest xs ys (p.0, h))

module _ (net : Net) (logs : List (List Event)) (ends : List ℕ) (o : AreOrdered net logs) (may : MayEnd net logs ends) where
  -- nothing is received among the forgotten events that isn't sent among them
  pub closed_all : (a b : ℕ) → taken_within net logs ends a b ≤ put_within net logs ends a b
  closed_all a b = ⊎_elim
      (λ lb. ⊎_elim
      (λ la. may.closed a b la lb)
      (λ le.
      let none = ap (λ l. length (put net a b l)) (none_there logs a [] le) in
      let few = prefix_length _ _ (o.queued a b) in
      let up = taken_up net a b (slice_index ends b) (length (log_at logs b)) (log_at logs b) (may.made b lb) in
      let whole = ap (λ l. length (taken net a b l)) (take-length (log_at logs b)) in
      omega (arith, none, few, up, whole))
      (cases_lt a (length logs)))
      (λ le.
      let none = ap (λ l. length (taken net a b (take (slice_index ends b) l))) (none_there logs b [] le) in
      let zero_taken = nothing_taken (slice_index ends b) in
      omega (arith, none, zero_taken))
      (cases_lt b (length logs))
    where
      nothing_taken : (n : ℕ) → length (taken net a b (take n [])) ≡ 0
      nothing_taken zero = refl
      nothing_taken (suc n) = refl

  -- what isn't forgotten stays
  module _ (r k : ℕ) (e : Event) where
    late_sent : is_sent e.dir ≡ true → stays_at net logs ends r (slice_index ends r + k) e ≡ true
    late_sent t =
        let all = closed_all r (net.receiver e.point) in
        let up = put_up net r (net.receiver e.point) (slice_index ends r) (slice_index ends r + k) (log_at logs r) (omega arith) in
        send_stays net logs ends r (net.receiver e.point) (slice_index ends r + k) e t refl
        ∙ true_le (taken_within net logs ends r (net.receiver e.point)) (length (put net r (net.receiver e.point) (take (slice_index ends r + k) (log_at logs r)))) (omega (arith, all, up))

    late_got : is_sent e.dir ≡ false → stays_at net logs ends r (slice_index ends r + k) e ≡ true
    late_got t = recv_stays net logs ends r (slice_index ends r + k) e t ∙ true_le (slice_index ends r) (slice_index ends r + k) (omega arith)

    late : stays_at net logs ends r (slice_index ends r + k) e ≡ true
    late = by (is_sent e.dir) refl
      where
        by : (b : Bool) → is_sent e.dir ≡ b → stays_at net logs ends r (slice_index ends r + k) e ≡ true
        by true t = late_sent t
        by false t = late_got t

  stay_one : (r k : ℕ) → staying net logs ends r (slice_index ends r + k) ≡ staying net logs ends r (slice_index ends r) ++ take k (drop (slice_index ends r) (log_at logs r)) → (x : Option Event) → slice_get (log_at logs r) (slice_index ends r + k) ≡ x
      → staying net logs ends r (slice_index ends r + k) ++ one_staying net logs ends r (slice_index ends r + k) x ≡ staying net logs ends r (slice_index ends r) ++ take (suc k) (drop (slice_index ends r) (log_at logs r))
  stay_one r k ih None at =
      append-nil (staying net logs ends r (slice_index ends r + k))
      ∙ ih
      ∙ ap (λ l. staying net logs ends r (slice_index ends r) ++ l) (sym (take_end k (drop (slice_index ends r) (log_at logs r)) (get_behind (slice_index ends r) k (log_at logs r) ∙ at)))
  stay_one r k ih (Some e) at =
      ap (λ b. staying net logs ends r (slice_index ends r + k) ++ cond b (e ∷ []) []) (late r k e)
      ∙ ap (λ l. l ++ e ∷ []) ih
      ∙ append_assoc (staying net logs ends r (slice_index ends r)) (take k (drop (slice_index ends r) (log_at logs r))) (e ∷ [])
      ∙ ap (λ l. staying net logs ends r (slice_index ends r) ++ l) (sym (take_more k (drop (slice_index ends r) (log_at logs r)) e (get_behind (slice_index ends r) k (log_at logs r) ∙ at)))

  stay_behind : (r k : ℕ) → staying net logs ends r (slice_index ends r + k) ≡ staying net logs ends r (slice_index ends r) ++ take k (drop (slice_index ends r) (log_at logs r))
  stay_behind r zero =
      let same : slice_index ends r + 0 ≡ slice_index ends r = omega arith in
      ap (staying net logs ends r) same ∙ sym (append-nil (staying net logs ends r (slice_index ends r)))
  stay_behind r (suc k) =
      let up : slice_index ends r + suc k ≡ suc (slice_index ends r + k) = omega arith in
      ap (staying net logs ends r) up ∙ stay_one r k (stay_behind r k) (slice_get (log_at logs r) (slice_index ends r + k)) refl

  pub all_staying : (r : ℕ) → r < length logs → staying net logs ends r (length (log_at logs r)) ≡ staying net logs ends r (slice_index ends r) ++ drop (slice_index ends r) (log_at logs r)
  all_staying r lt =
      let made = may.made r lt in
      let whole : length (log_at logs r) ≡ slice_index ends r + (length (log_at logs r) - slice_index ends r) = omega (arith, made) in
      ap (staying net logs ends r) whole
      ∙ stay_behind r (length (log_at logs r) - slice_index ends r)
      ∙ ap (λ n. staying net logs ends r (slice_index ends r) ++ take n (drop (slice_index ends r) (log_at logs r))) (sym (length-drop (slice_index ends r) (log_at logs r)))
      ∙ ap (λ l. staying net logs ends r (slice_index ends r) ++ l) (take-length (drop (slice_index ends r) (log_at logs r)))
