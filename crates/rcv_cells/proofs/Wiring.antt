-- One role more gets a channel to each before it, and one from each.
use Prim.Native.Nat.{zero, suc}
use Rattle.std.proofs.Common.{◌≡◌, ℕ, ◌+◌, ◌-◌, ◌<◌, ◌≤◌, List, [], ◌∷◌, ◌++◌, length, refl, sym, ◌∙◌, ap, subst, ⊎_elim, arith}
use Rattle.std.specs.Prelude.{slice_index_or, slice_set}
use Rattle.std.proofs.lemmas.Bool.{cases_lt, cases_eq}
use Rattle.std.proofs.lemmas.Bool.Decides.{nat_tests}
use Rattle.rcv_model.specs.Journal.{Rules}
use Rattle.rcv_mailbox.specs.Ends.{End}
use Rattle.rcv_role.specs.Ends.{slot, end_at}
use Rattle.rcv_role.proofs.Slots.{slot_within}
use Rattle.rcv_cells.specs.Making.{EndsView, with_ends, no_ends, ends_of, IsNewChannel, AreOpen, AreOpenTo}
use Rattle.rcv_cells.proofs.Rounds.{any_default}
use Rattle.rcv_cells.proofs.Between.{at_front, at_back, length_more}

-- an old end stays where one more is added, and the added one stands at the end
end_stays : (ends : List End) (x : End) (r q : ℕ) (d : End) → slot r q < length ends → end_at (ends ++ x ∷ []) r q d ≡ end_at ends r q d
end_stays ends x r q d lt = at_front ends (x ∷ []) d (slot r q) lt

end_added : (ends : List End) (x : End) (r q : ℕ) (d : End) → slot r q ≡ length ends → end_at (ends ++ x ∷ []) r q d ≡ x
end_added ends x r q d e = at_back ends x d (slot r q) e

slot_up : (q n : ℕ) → q < n → slot q n ≡ n - 1
slot_up q n lt = grind (arith, nat_tests)

slot_down : (n q : ℕ) → q < n → slot n q ≡ q
slot_down n q lt = grind (arith, nat_tests)

-- a list with an item set
set_length : (xs : List EndsView) (i : ℕ) (x : EndsView) → length (slice_set xs i x) ≡ length xs
set_length [] i x = refl
set_length (y ∷ ys) zero x = refl
set_length (y ∷ ys) (suc i) x = let e = set_length ys i x in omega (arith, e)

set_here : (xs : List EndsView) (i : ℕ) (x d : EndsView) → i < length xs → slice_index_or (slice_set xs i x) i d ≡ x
set_here [] i x d lt = absurd (omega (arith, lt))
set_here (y ∷ ys) zero x d lt = refl
set_here (y ∷ ys) (suc i) x d lt = set_here ys i x d (omega (arith, lt))

set_else : (xs : List EndsView) (i k : ℕ) (x d : EndsView) → (k ≡ i → ⊥) → slice_index_or (slice_set xs i x) k d ≡ slice_index_or xs k d
set_else [] i k x d n = refl
set_else (y ∷ ys) zero zero x d n = absurd (n refl)
set_else (y ∷ ys) zero (suc k) x d n = refl
set_else (y ∷ ys) (suc i) zero x d n = refl
set_else (y ∷ ys) (suc i) (suc k) x d n = set_else ys i k x d (λ e. n (ap suc e))

module _ (rules : Rules) (n : ℕ) (all : List EndsView) where
  pub nobody_yet : AreOpen rules n all → AreOpenTo rules n 0 all no_ends
  nobody_yet opened = record {
    count = opened.count;
    few = omega arith;
    posts_done = λ r d lt. absurd (omega (arith, lt));
    posts_left = λ r d le lt. opened.posts r d lt;
    inboxes_done = λ r d lt. absurd (omega (arith, lt));
    inboxes_left = λ r d le lt. opened.inboxes r d lt;
    my_posts = refl;
    my_inboxes = refl;
    each = opened.each;
    to = λ q d e lt. absurd (omega (arith, lt));
    from = λ q d e lt. absurd (omega (arith, lt));
  }

  module _ (j : ℕ) (mine : EndsView) (are : AreOpenTo rules n j all mine) (lt : j < n) (all' : List EndsView) (count' : length all' ≡ length all) (others : (k : ℕ) (d : EndsView) → (k ≡ j → ⊥) → ends_of all' k d ≡ ends_of all k d) (post inbox their_post their_inbox : End) (theirs : (d : EndsView) → ends_of all' j d ≡ with_ends (ends_of all j d) their_post their_inbox) (mine_to : IsNewChannel rules n j post their_inbox) (to_mine : IsNewChannel rules j n their_post inbox) where
    abbrev mine' : EndsView
    mine' = with_ends mine post inbox

    posts_at : (r q : ℕ) (d : EndsView) (e : End) → r < n → q < n → (r ≡ q → ⊥) → end_at (ends_of all' r d).posts r q e ≡ end_at (ends_of all r d).posts r q e
    posts_at r q d e lr lq apart = ⊎_elim
        (λ f. let size = are.posts_left j d (omega arith) lt in subst (λ k. end_at (ends_of all' k d).posts k q e ≡ end_at (ends_of all k d).posts k q e) (sym f) (ap (λ (x : EndsView). end_at x.posts j q e) (theirs d) ∙ end_stays (ends_of all j d).posts their_post j q e (slot_within j q (length (ends_of all j d).posts) (slot j q) (omega (arith, size, lt)) (omega (arith, size, lq)) (λ g. apart (f ∙ sym g)) refl)))
        (λ o. ap (λ (x : EndsView). end_at x.posts r q e) (others r d o))
        (cases_eq r j)

    inboxes_at : (r q : ℕ) (d : EndsView) (e : End) → r < n → q < n → (r ≡ q → ⊥) → end_at (ends_of all' r d).inboxes r q e ≡ end_at (ends_of all r d).inboxes r q e
    inboxes_at r q d e lr lq apart = ⊎_elim
        (λ f. let size = are.inboxes_left j d (omega arith) lt in subst (λ k. end_at (ends_of all' k d).inboxes k q e ≡ end_at (ends_of all k d).inboxes k q e) (sym f) (ap (λ (x : EndsView). end_at x.inboxes j q e) (theirs d) ∙ end_stays (ends_of all j d).inboxes their_inbox j q e (slot_within j q (length (ends_of all j d).inboxes) (slot j q) (omega (arith, size, lt)) (omega (arith, size, lq)) (λ g. apart (f ∙ sym g)) refl)))
        (λ o. ap (λ (x : EndsView). end_at x.inboxes r q e) (others r d o))
        (cases_eq r j)

    done : (size : EndsView → ℕ) → ((r : ℕ) (d : EndsView) → r < j → size (ends_of all r d) ≡ n) → ((d : EndsView) → size (ends_of all' j d) ≡ n) → (r : ℕ) (d : EndsView) → r < j + 1 → size (ends_of all' r d) ≡ n
    done size old new r d l = ⊎_elim
        (λ low. ap size (others r d (λ f. omega (arith, f, low))) ∙ old r d low)
        (λ high. let f : r ≡ j = omega (arith, l, high) in subst (λ k. size (ends_of all' k d) ≡ n) (sym f) (new d))
        (cases_lt r j)

    pub one_open : AreOpenTo rules n (j + 1) all' mine'
    one_open = record {
      count = count' ∙ are.count;
      few = omega (arith, lt);
      posts_done = done (λ (x : EndsView). length x.posts) are.posts_done (λ d. ap (λ (x : EndsView). length x.posts) (theirs d) ∙ length_more (ends_of all j d).posts their_post ∙ are.posts_left j d (omega arith) lt);
      posts_left = λ r d le l. subst (λ (x : EndsView). length x.posts + 1 ≡ n) (sym (others r d (λ f. omega (arith, f, le)))) (are.posts_left r d (omega (arith, le)) l);
      inboxes_done = done (λ (x : EndsView). length x.inboxes) are.inboxes_done (λ d. ap (λ (x : EndsView). length x.inboxes) (theirs d) ∙ length_more (ends_of all j d).inboxes their_inbox ∙ are.inboxes_left j d (omega arith) lt);
      inboxes_left = λ r d le l. subst (λ (x : EndsView). length x.inboxes + 1 ≡ n) (sym (others r d (λ f. omega (arith, f, le)))) (are.inboxes_left r d (omega (arith, le)) l);
      my_posts = length_more mine.posts post ∙ ap (λ k. k + 1) are.my_posts;
      my_inboxes = length_more mine.inboxes inbox ∙ ap (λ k. k + 1) are.my_inboxes;
      each = λ s r d e ls lr apart. subst (λ (z : End × End). IsNewChannel rules s r z.0 z.1) (λ i. (sym (posts_at s r d e ls lr apart) i, sym (inboxes_at r s d e lr ls (λ f. apart (sym f))) i)) (are.each s r d e ls lr apart);
      to = λ q d e l. ⊎_elim
          (λ low. subst (λ (z : End × End). IsNewChannel rules q n z.0 z.1) (λ i. (sym (ap (λ (x : EndsView). end_at x.posts q n e) (others q d (λ f. omega (arith, f, low)))) i, sym (end_stays mine.inboxes inbox n q e (let s = slot_down n q (omega (arith, low, lt)) in let m = are.my_inboxes in omega (arith, s, m, low))) i)) (are.to q d e low))
          (λ high. let f : q ≡ j = omega (arith, l, high) in subst (λ k. IsNewChannel rules k n (end_at (ends_of all' k d).posts k n e) (end_at mine'.inboxes n k e)) (sym f)
          (subst (λ (z : End × End). IsNewChannel rules j n z.0 z.1) (λ i. (sym (ap (λ (x : EndsView). end_at x.posts j n e) (theirs d) ∙ end_added (ends_of all j d).posts their_post j n e (let s = slot_up j n lt in let m = are.posts_left j d (omega arith) lt in omega (arith, s, m))) i, sym (end_added mine.inboxes inbox n j e (slot_down n j lt ∙ sym are.my_inboxes)) i)) to_mine))
          (cases_lt q j);
      from = λ q d e l. ⊎_elim
          (λ low. subst (λ (z : End × End). IsNewChannel rules n q z.0 z.1) (λ i. (sym (end_stays mine.posts post n q e (let s = slot_down n q (omega (arith, low, lt)) in let m = are.my_posts in omega (arith, s, m, low))) i, sym (ap (λ (x : EndsView). end_at x.inboxes q n e) (others q d (λ f. omega (arith, f, low)))) i)) (are.from q d e low))
          (λ high. let f : q ≡ j = omega (arith, l, high) in subst (λ k. IsNewChannel rules n k (end_at mine'.posts n k e) (end_at (ends_of all' k d).inboxes k n e)) (sym f)
          (subst (λ (z : End × End). IsNewChannel rules n j z.0 z.1) (λ i. (sym (end_added mine.posts post n j e (slot_down n j lt ∙ sym are.my_posts)) i, sym (ap (λ (x : EndsView). end_at x.inboxes j n e) (theirs d) ∙ end_added (ends_of all j d).inboxes their_inbox j n e (let s = slot_up j n lt in let m = are.inboxes_left j d (omega arith) lt in omega (arith, s, m))) i)) mine_to))
          (cases_lt q j);
    }

  -- with the other role's ends put back in its place
  pub one_set : (j : ℕ) (mine mine' theirs theirs' : EndsView) → AreOpenTo rules n j all mine → j < n → (post inbox their_post their_inbox : End) → theirs ≡ slice_index_or all j theirs → theirs' ≡ with_ends theirs their_post their_inbox → mine' ≡ with_ends mine post inbox → IsNewChannel rules n j post their_inbox → IsNewChannel rules j n their_post inbox → AreOpenTo rules n (j + 1) (slice_set all j theirs') mine'
  one_set j mine mine' theirs theirs' are lt post inbox their_post their_inbox was now more mine_to to_mine =
      let within : j < length all = let c = are.count in omega (arith, c, lt) in
      subst (AreOpenTo rules n (j + 1) (slice_set all j theirs')) (sym more)
      (one_open j mine are lt (slice_set all j theirs') (set_length all j theirs') (λ k d o. set_else all j k theirs' d o) post inbox their_post their_inbox (λ d. set_here all j theirs' d within ∙ now ∙ ap (λ x. with_ends x their_post their_inbox) (was ∙ any_default all j theirs d within)) mine_to to_mine)

  pub all_open : (j : ℕ) (mine : EndsView) → AreOpenTo rules n j all mine → j ≡ n → AreOpen rules (n + 1) (all ++ mine ∷ [])
  all_open j mine are full = record {
    count = length_more all mine ∙ ap (λ k. k + 1) are.count;
    posts = λ r d lt. ⊎_elim
        (λ low. subst (λ (x : EndsView). length x.posts + 1 ≡ n + 1) (sym (old r d low)) (ap (λ k. k + 1) (are.posts_done r d (omega (arith, full, low)))))
        (λ high. subst (λ (x : EndsView). length x.posts + 1 ≡ n + 1) (sym (new r d lt high)) (ap (λ k. k + 1) (are.my_posts ∙ full)))
        (cases_lt r n);
    inboxes = λ r d lt. ⊎_elim
        (λ low. subst (λ (x : EndsView). length x.inboxes + 1 ≡ n + 1) (sym (old r d low)) (ap (λ k. k + 1) (are.inboxes_done r d (omega (arith, full, low)))))
        (λ high. subst (λ (x : EndsView). length x.inboxes + 1 ≡ n + 1) (sym (new r d lt high)) (ap (λ k. k + 1) (are.my_inboxes ∙ full)))
        (cases_lt r n);
    each = λ s r d e ls lr apart. ⊎_elim
        (λ s_low. ⊎_elim
        (λ r_low. subst (λ (z : EndsView × EndsView). IsNewChannel rules s r (end_at z.0.posts s r e) (end_at z.1.inboxes r s e)) (λ i. (sym (old s d s_low) i, sym (old r d r_low) i)) (are.each s r d e s_low r_low apart))
        (λ r_high. subst (λ (z : EndsView × EndsView). IsNewChannel rules s r (end_at z.0.posts s r e) (end_at z.1.inboxes r s e)) (λ i. (sym (old s d s_low) i, sym (new r d lr r_high) i)) (let f : n ≡ r = omega (arith, lr, r_high) in subst (λ k. IsNewChannel rules s k (end_at (ends_of all s d).posts s k e) (end_at mine.inboxes k s e)) f (are.to s d e (omega (arith, full, s_low)))))
        (cases_lt r n))
        (λ s_high. ⊎_elim
        (λ r_low. subst (λ (z : EndsView × EndsView). IsNewChannel rules s r (end_at z.0.posts s r e) (end_at z.1.inboxes r s e)) (λ i. (sym (new s d ls s_high) i, sym (old r d r_low) i)) (let f : n ≡ s = omega (arith, ls, s_high) in subst (λ k. IsNewChannel rules k r (end_at mine.posts k r e) (end_at (ends_of all r d).inboxes r k e)) f (are.from r d e (omega (arith, full, r_low)))))
        (λ r_high. absurd (apart (omega (arith, ls, lr, s_high, r_high))))
        (cases_lt r n))
        (cases_lt s n);
  }
    where
      old : (r : ℕ) (d : EndsView) → r < n → ends_of (all ++ mine ∷ []) r d ≡ ends_of all r d
      old r d lt = at_front all (mine ∷ []) d r (let c = are.count in omega (arith, c, lt))

      new : (r : ℕ) (d : EndsView) → r < n + 1 → n ≤ r → ends_of (all ++ mine ∷ []) r d ≡ mine
      new r d lt le = at_back all mine d r (let c = are.count in omega (arith, c, lt, le))

pub nobody : (rules : Rules) → AreOpen rules 0 []
nobody rules = record {
  count = refl;
  posts = λ r d lt. absurd (omega (arith, lt));
  inboxes = λ r d lt. absurd (omega (arith, lt));
  each = λ s r d e lt. absurd (omega (arith, lt));
}
