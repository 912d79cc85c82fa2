-- What a log puts on a channel, one event after another.
use Rattle.std.proofs.Common.{◌≡◌, ℕ, zero, suc, ◌+◌, ◌≤◌, true, false, cond, Some, None, List, [], ◌∷◌, length, drop, refl, ◌∙◌, ap, arith}
use Rattle.std.specs.Prelude.{slice_get}
use Rattle.std.specs.List.{cons_option}
use Rattle.std.proofs.Math.ListN.{drop_of_length-le}
use Rattle.std.proofs.Math.Seq.{drop-cons}
use Rattle.std.proofs.lemmas.Option.{get_or_from_slice_get}
use Rattle.rcv_tree.specs.declared.event.Event.{Event}
use Rattle.rcv_tree.specs.declared.event.Message.{Message}
use Rattle.rcv_model.specs.Net.{Net}
use Rattle.rcv_model.specs.Run.{puts_on, put}
use Rattle.rcv_model.proofs.Located.{get_below}
use Rattle.rcv_model.proofs.Queues.{put_message, put_by_some}

module _ (net : Net) (a b : ℕ) (log : List Event) (i : ℕ) where
  abbrev rest : List Message
  rest = put net a b (drop (i + 1) log)

  one_behind : (e : Event) → slice_get log i ≡ Some e → drop i log ≡ e ∷ drop (i + 1) log
  one_behind e at =
      let one : suc i ≡ i + 1 = omega arith in
      drop-cons log i e (get_below log i e at)
      ∙ ap (λ x. x ∷ drop (suc i) log) (get_or_from_slice_get log i e e at)
      ∙ ap (λ (n : ℕ). e ∷ drop n log) one

  -- an event that puts nothing there
  pub put_none_at : (e : Event) → slice_get log i ≡ Some e → puts_on net a b e ≡ false → put net a b (drop i log) ≡ rest
  put_none_at e at f = ap (put net a b) (one_behind e at) ∙ ap (λ t. cons_option (cond t (Some (put_message e)) None) rest) f

  -- one that does
  pub put_some_at : (e : Event) → slice_get log i ≡ Some e → puts_on net a b e ≡ true → put net a b (drop i log) ≡ put_message e ∷ rest
  put_some_at e at t = ap (put net a b) (one_behind e at) ∙ ap (λ o. cons_option o rest) (put_by_some net a b e t)

  pub put_later : (e : Event) (n k : ℕ) → slice_get log i ≡ Some e → puts_on net a b e ≡ true → n ≡ suc k → drop n (put net a b (drop i log)) ≡ drop k rest
  put_later e n k at t is = ap (λ l. drop n l) (put_some_at e at t) ∙ ap (λ j. drop j (put_message e ∷ rest)) is

  pub put_end : (n : ℕ) → length log ≤ i → drop n (put net a b (drop i log)) ≡ []
  put_end n le = ap (λ l. drop n (put net a b l)) (drop_of_length-le log le) ∙ nothing n
    where
      nothing : (n : ℕ) → drop n (put net a b []) ≡ []
      nothing zero = refl
      nothing (suc n) = refl
