-- What stays of each role's events, by channel: all but the messages that the forgotten events received.
use Rattle.std.proofs.Common.{◌≡◌, ℕ, zero, suc, ◌+◌, ◌<◌, ◌≤◌, Bool, true, false, cond, Option, Some, None, List, [], ◌∷◌, ◌++◌, length, length-append, take, drop, refl, sym, ◌∙◌, ap, subst, ◌⊎◌, inl, inr, ⊎_elim, append-nil, arith}
use Rattle.std.specs.Prelude.{nat_le, slice_get, slice_index}
use Rattle.std.specs.List.{filter_map, cons_option}
use Rattle.std.proofs.Math.ListN.{drop_of_length-le}
use Rattle.std.proofs.lemmas.Bool.{cases_Bool}
use Rattle.std.proofs.lemmas.Bool.Decides.{nat_tests}
use Rattle.std.proofs.lemmas.List.Elements.{filter_map-append}
use Rattle.rcv_tree.specs.declared.event.Event.{Event}
use Rattle.rcv_tree.specs.declared.event.Message.{Message}
use Rattle.rcv_model.specs.Net.{Net, IsPrefix}
use Rattle.rcv_model.specs.Run.{is_sent, puts_on, takes_on, put_by, taken_by, put, taken}
use Rattle.rcv_model.proofs.Keeping.{message_of}
use Rattle.rcv_model.proofs.Lists.{some_same, prefix_nil, prefix_refl, prefix_map, prefix_length, prefix_cons}
use Rattle.rcv_model.proofs.Queues.{put_message}
use Rattle.rcv_ledger.specs.Logs.{log_at}
use Rattle.rcv_depend.specs.Cuts.{taken_within}
use Rattle.rcv_guide.specs.Renewal.{stays_at, one_staying, staying}

-- the first items of a list, one more, and more
pub take_more : {A : Type 0} (n : ℕ) (xs : List A) (x : A) → slice_get xs n ≡ Some x → take (suc n) xs ≡ take n xs ++ x ∷ []
take_more zero [] x at = absurd (cc)
take_more zero (y ∷ xs) x at = ap (λ z. z ∷ []) (some_same at)
take_more (suc n) [] x at = absurd (cc)
take_more (suc n) (y ∷ xs) x at = ap (λ l. y ∷ l) (take_more n xs x at)

pub take_end : {A : Type 0} (n : ℕ) (xs : List A) → slice_get xs n ≡ None → take (suc n) xs ≡ take n xs
take_end zero [] at = refl
take_end zero (y ∷ xs) at = absurd (cc)
take_end (suc n) [] at = refl
take_end (suc n) (y ∷ xs) at = ap (λ l. y ∷ l) (take_end n xs at)

pub take_in : {A : Type 0} (m n : ℕ) (xs : List A) → m ≤ n → IsPrefix (take m xs) (take n xs)
take_in zero n xs le = prefix_nil (take n xs)
take_in (suc m) zero xs le = absurd (omega (arith, le))
take_in (suc m) (suc n) [] le = prefix_refl []
take_in (suc m) (suc n) (x ∷ xs) le = let p = take_in m n xs (omega (arith, le)) in (p.0, ap (λ l. x ∷ l) p.1)

-- without so many of their first items
pub drop_low : {A : Type 0} (k : ℕ) (xs ys : List A) → k ≤ length xs → drop k (xs ++ ys) ≡ drop k xs ++ ys
drop_low zero xs ys le = refl
drop_low (suc k) [] ys le = absurd (omega (arith, le))
drop_low (suc k) (x ∷ xs) ys le = drop_low k xs ys (omega (arith, le))

pub prefix_dropped : {A : Type 0} (k : ℕ) (xs ys : List A) → IsPrefix xs ys → IsPrefix (drop k xs) (drop k ys)
prefix_dropped zero xs ys p = p
prefix_dropped (suc k) [] ys p = prefix_nil (drop (suc k) ys)
prefix_dropped (suc k) (x ∷ xs) [] p = absurd (let f = p.1 in cc)
prefix_dropped (suc k) (x ∷ xs) (y ∷ ys) p = prefix_dropped k xs ys (prefix_cons x y xs ys p).1

-- one message more behind those without so many, if it stays
kept_on : {A : Type 0} (k : ℕ) (P M : List A) (s : Bool) → (M ≡ []) ⊎ ((s ≡ true → k ≤ length P) × (s ≡ false → length P + length M ≤ k)) → drop k P ++ cond s M [] ≡ drop k (P ++ M)
kept_on {A} k P M s (inl e) = subst (λ l. drop k P ++ cond s l [] ≡ drop k (P ++ l)) (sym e) (none s)
  where
    none : (t : Bool) → drop k P ++ cond t [] [] ≡ drop k (P ++ [])
    none true = append-nil (drop k P) ∙ ap (drop k) (sym (append-nil P))
    none false = append-nil (drop k P) ∙ ap (drop k) (sym (append-nil P))
kept_on k P M true (inr h) = sym (drop_low k P M (h.0 refl))
kept_on k P M false (inr h) =
    let few = h.1 refl in
    append-nil (drop k P)
    ∙ drop_of_length-le P (omega (arith, few))
    ∙ sym (drop_of_length-le (P ++ M) (omega (arith, few, length-append P M)))

chosen : {A B : Type 0} (f : A → Option B) (s : Bool) (e : A) → filter_map f (cond s (e ∷ []) []) ≡ cond s (filter_map f (e ∷ [])) []
chosen f true e = refl
chosen f false e = refl

module _ (net : Net) (a b : ℕ) where
  pub put_both : (xs ys : List Event) → put net a b (xs ++ ys) ≡ put net a b xs ++ put net a b ys
  put_both xs ys = filter_map-append (put_by net a b) xs ys

  pub taken_both : (xs ys : List Event) → taken net a b (xs ++ ys) ≡ taken net a b xs ++ taken net a b ys
  taken_both xs ys = filter_map-append (taken_by net a b) xs ys

  pub put_up : (m n : ℕ) (log : List Event) → m ≤ n → length (put net a b (take m log)) ≤ length (put net a b (take n log))
  put_up m n log le = prefix_length _ _ (prefix_map (put_by net a b) (take m log) (take n log) (take_in m n log le))

  pub taken_up : (m n : ℕ) (log : List Event) → m ≤ n → length (taken net a b (take m log)) ≤ length (taken net a b (take n log))
  taken_up m n log le = prefix_length _ _ (prefix_map (taken_by net a b) (take m log) (take n log) (take_in m n log le))

  -- an event puts one message or none, and takes one or none
  pub put_one : (e : Event) → puts_on net a b e ≡ true → put net a b (e ∷ []) ≡ put_message e ∷ []
  put_one e t = ap (λ v. cons_option (cond v (Some (put_message e)) None) []) t

  pub put_nothing : (e : Event) → puts_on net a b e ≡ false → put net a b (e ∷ []) ≡ []
  put_nothing e t = ap (λ v. cons_option (cond v (Some (put_message e)) None) []) t

  pub taken_one : (e : Event) → takes_on net a b e ≡ true → taken net a b (e ∷ []) ≡ message_of e ∷ []
  taken_one e t = ap (λ v. cons_option (cond v (Some (message_of e)) None) []) t

  pub taken_nothing : (e : Event) → takes_on net a b e ≡ false → taken net a b (e ∷ []) ≡ []
  taken_nothing e t = ap (λ v. cons_option (cond v (Some (message_of e)) None) []) t

  -- a Send on the channel is one to its receiver; a Recv is none
  pub to_receiver : (e : Event) → puts_on net a b e ≡ true → (is_sent e.dir ≡ true) × (e.role ≡ a) × (net.receiver e.point ≡ b)
  to_receiver e t = (grind (arith, nat_tests), grind (arith, nat_tests), grind (arith, nat_tests))

  pub from_sender : (e : Event) → takes_on net a b e ≡ true → (is_sent e.dir ≡ false) × (e.role ≡ b) × (net.sender e.point ≡ a)
  from_sender e t = (grind (arith, nat_tests), grind (arith, nat_tests), grind (arith, nat_tests))

-- so many messages are taken with one event more
module _ (net : Net) (a b n : ℕ) (log : List Event) (e : Event) (at : slice_get log n ≡ Some e) where
  taken_step_at : taken net a b (take (n + 1) log) ≡ taken net a b (take n log) ++ taken net a b (e ∷ [])
  taken_step_at =
      let up : n + 1 ≡ suc n = omega arith in
      ap (λ k. taken net a b (take k log)) up ∙ ap (taken net a b) (take_more n log e at) ∙ taken_both net a b (take n log) (e ∷ [])

  pub taken_yes : takes_on net a b e ≡ true → length (taken net a b (take (n + 1) log)) ≡ length (taken net a b (take n log)) + 1
  taken_yes t =
      let is = ap length taken_step_at in
      let one = ap length (taken_one net a b e t) in
      omega (arith, is, one, length-append (taken net a b (take n log)) (taken net a b (e ∷ [])))

  pub taken_no : takes_on net a b e ≡ false → length (taken net a b (take (n + 1) log)) ≡ length (taken net a b (take n log))
  taken_no t =
      let is = ap length taken_step_at in
      let none = ap length (taken_nothing net a b e t) in
      omega (arith, is, none, length-append (taken net a b (take n log)) (taken net a b (e ∷ [])))

pub le_true : (m n : ℕ) → nat_le m n ≡ true → m ≤ n
le_true m n t = grind (arith, nat_tests)

le_false : (m n : ℕ) → nat_le m n ≡ false → n < m
le_false m n t = grind (arith, nat_tests)

module _ (net : Net) (logs : List (List Event)) (ends : List ℕ) where
  -- a Send stays by its number, a Recv by its place
  pub send_stays : (a b n : ℕ) (e : Event) → is_sent e.dir ≡ true → net.receiver e.point ≡ b → stays_at net logs ends a n e ≡ nat_le (taken_within net logs ends a b) (length (put net a b (take n (log_at logs a))))
  send_stays a b n e t f =
      ap (λ v. cond v (nat_le (taken_within net logs ends a (net.receiver e.point)) (length (put net a (net.receiver e.point) (take n (log_at logs a))))) (nat_le (slice_index ends a) n)) t
      ∙ ap (λ q. nat_le (taken_within net logs ends a q) (length (put net a q (take n (log_at logs a))))) f

  pub recv_stays : (b n : ℕ) (e : Event) → is_sent e.dir ≡ false → stays_at net logs ends b n e ≡ nat_le (slice_index ends b) n
  recv_stays b n e t = ap (λ v. cond v (nat_le (taken_within net logs ends b (net.receiver e.point)) (length (put net b (net.receiver e.point) (take n (log_at logs b))))) (nat_le (slice_index ends b) n)) t

  module _ (a b n : ℕ) where
    abbrev got : ℕ
    got = taken_within net logs ends a b

    abbrev sent : List Message
    sent = put net a b (take n (log_at logs a))

    abbrev had : List Message
    had = taken net a b (take n (log_at logs b))

    put_fits : (e : Event) → (put net a b (e ∷ []) ≡ []) ⊎ ((stays_at net logs ends a n e ≡ true → got ≤ length sent) × (stays_at net logs ends a n e ≡ false → length sent + length (put net a b (e ∷ [])) ≤ got))
    put_fits e = ⊎_elim
        (λ t.
        let s = to_receiver net a b e t in
        let is = send_stays a b n e s.0 s.2 in
        inr (
          λ f. le_true got (length sent) (sym is ∙ f),
          λ f. let lt = le_false got (length sent) (sym is ∙ f) in let one = ap length (put_one net a b e t) in omega (arith, lt, one),
        ))
        (λ t. inl (put_nothing net a b e t))
        (cases_Bool (puts_on net a b e))

    put_step : put net a b (staying net logs ends a n) ≡ drop got sent → (o : Option Event) → slice_get (log_at logs a) n ≡ o → put net a b (staying net logs ends a n ++ one_staying net logs ends a n o) ≡ drop got (put net a b (take (suc n) (log_at logs a)))
    put_step ih None at = ap (put net a b) (append-nil (staying net logs ends a n)) ∙ ih ∙ ap (λ l. drop got (put net a b l)) (sym (take_end n (log_at logs a) at))
    put_step ih (Some e) at =
        put_both net a b (staying net logs ends a n) (one_staying net logs ends a n (Some e))
        ∙ ap (λ l. l ++ put net a b (one_staying net logs ends a n (Some e))) ih
        ∙ ap (λ l. drop got sent ++ l) (chosen (put_by net a b) (stays_at net logs ends a n e) e)
        ∙ kept_on got sent (put net a b (e ∷ [])) (stays_at net logs ends a n e) (put_fits e)
        ∙ ap (drop got) (sym (put_both net a b (take n (log_at logs a)) (e ∷ [])) ∙ ap (put net a b) (sym (take_more n (log_at logs a) e at)))

    taken_fits : (e : Event) → slice_get (log_at logs b) n ≡ Some e → (taken net a b (e ∷ []) ≡ []) ⊎ ((stays_at net logs ends b n e ≡ true → got ≤ length had) × (stays_at net logs ends b n e ≡ false → length had + length (taken net a b (e ∷ [])) ≤ got))
    taken_fits e at = ⊎_elim
        (λ t.
        let s = from_sender net a b e t in
        let is = recv_stays b n e s.0 in
        inr (
          λ f. taken_up net a b (slice_index ends b) n (log_at logs b) (le_true (slice_index ends b) n (sym is ∙ f)),
          λ f.
              let up = taken_up net a b (suc n) (slice_index ends b) (log_at logs b) (let lt = le_false (slice_index ends b) n (sym is ∙ f) in omega (arith, lt)) in
              let size = ap length (ap (taken net a b) (take_more n (log_at logs b) e at) ∙ taken_both net a b (take n (log_at logs b)) (e ∷ [])) in
              omega (arith, up, size, length-append (taken net a b (take n (log_at logs b))) (taken net a b (e ∷ []))),
        ))
        (λ t. inl (taken_nothing net a b e t))
        (cases_Bool (takes_on net a b e))

    taken_step : taken net a b (staying net logs ends b n) ≡ drop got had → (o : Option Event) → slice_get (log_at logs b) n ≡ o → taken net a b (staying net logs ends b n ++ one_staying net logs ends b n o) ≡ drop got (taken net a b (take (suc n) (log_at logs b)))
    taken_step ih None at = ap (taken net a b) (append-nil (staying net logs ends b n)) ∙ ih ∙ ap (λ l. drop got (taken net a b l)) (sym (take_end n (log_at logs b) at))
    taken_step ih (Some e) at =
        taken_both net a b (staying net logs ends b n) (one_staying net logs ends b n (Some e))
        ∙ ap (λ l. l ++ taken net a b (one_staying net logs ends b n (Some e))) ih
        ∙ ap (λ l. drop got had ++ l) (chosen (taken_by net a b) (stays_at net logs ends b n e) e)
        ∙ kept_on got had (taken net a b (e ∷ [])) (stays_at net logs ends b n e) (taken_fits e at)
        ∙ ap (drop got) (sym (taken_both net a b (take n (log_at logs b)) (e ∷ [])) ∙ ap (taken net a b) (sym (take_more n (log_at logs b) e at)))

  -- on each channel the messages are left out that the forgotten events received
  pub put_staying : (a b n : ℕ) → put net a b (staying net logs ends a n) ≡ drop (taken_within net logs ends a b) (put net a b (take n (log_at logs a)))
  put_staying a b zero = sym (drop_of_length-le [] (omega arith))
  put_staying a b (suc n) = put_step a b n (put_staying a b n) (slice_get (log_at logs a) n) refl

  pub taken_staying : (a b n : ℕ) → taken net a b (staying net logs ends b n) ≡ drop (taken_within net logs ends a b) (taken net a b (take n (log_at logs b)))
  taken_staying a b zero = sym (drop_of_length-le [] (omega arith))
  taken_staying a b (suc n) = taken_step a b n (taken_staying a b n) (slice_get (log_at logs b) n) refl
