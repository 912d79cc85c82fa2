-- A role goes back if it loses an event.
use Rattle.std.proofs.Common.{◌≡◌, ℕ, zero, suc, ◌<◌, ◌≤◌, Bool, true, Option, Some, None, List, [], ◌∷◌, length, take, refl, sym, ◌∙◌, ap, subst, ⊎_elim, arith, is_some}
use Rattle.std.specs.Prelude.{◌↔◌, slice_index_or, MatchOption}
use Rattle.std.proofs.lemmas.Bool.{cases_lt, false≢true}
use Rattle.rcv_tree.specs.declared.entry.Entry.{Entry}
use Rattle.rcv_model.specs.Net.{IsIn}
use Rattle.rcv_story.specs.declared.story.Recovery.{Recovery}
use Rattle.rcv_story.specs.Kept.{kept_before, left_after}
use Rattle.rcv_story.specs.Recoveries.{IsRecoverAt, GoesBack, Stays, IsFirstLost, IsRecovery}
use Rattle.rcv_story.specs.Stacks.{left_count}
use Rattle.rcv_story.proofs.Keeping.{recover_takes}

whole : (n : ℕ) (xs : List ℕ) → length xs ≤ length (take n xs) → take n xs ≡ xs
whole zero [] le = refl
whole zero (x ∷ xs) le = absurd (omega (arith, le))
whole (suc n) [] le = refl
whole (suc n) (x ∷ xs) le = ap (λ l. x ∷ l) (whole n xs (omega (arith, le)))

module _ (entries : List Entry) (q p r : ℕ) (recover : IsRecoverAt entries q p) where
  count : ℕ
  count = left_count recover.concerned recover.keeps r (length (kept_before r entries q))

  -- it keeps a beginning
  keeps_first : left_after r entries q ≡ take count (kept_before r entries q)
  unfolding count
  keeps_first = recover_takes entries q r p recover.concerned recover.keeps recover.undone recover.there

  pub keeps_all : length (kept_before r entries q) ≤ length (left_after r entries q) → left_after r entries q ≡ kept_before r entries q
  keeps_all le = keeps_first ∙ whole count (kept_before r entries q) (subst (λ (l : List ℕ). length (kept_before r entries q) ≤ length l) keeps_first le)

  pub loser_goes : (o : ℕ) → IsFirstLost entries q r o → GoesBack entries q r
  loser_goes o f = ⊎_elim (λ lt. lt)
      (λ (le : length (kept_before r entries q) ≤ length (left_after r entries q)).
      absurd (f.lost (subst (IsIn o) (sym (keeps_all le)) f.had)))
      (cases_lt (length (left_after r entries q)) (length (kept_before r entries q)))

stayer_stays : (entries : List Entry) (q r : ℕ) → Stays entries q r → GoesBack entries q r → ⊥
stayer_stays entries q r same lt = let size = ap length same in omega (arith, size, lt)

pub goes_is : (entries : List Entry) (x : Recovery) (r : ℕ) (b : Bool) → r < 8 → IsRecovery entries x → b ≡ is_some (slice_index_or x.firsts r None) → (b ≡ true) ↔ GoesBack entries x.place r
goes_is entries x r b lt is says = go (slice_index_or x.firsts r None) says (is.firsts r lt)
  where
    go : (o : Option ℕ) → b ≡ is_some o → MatchOption o (Stays entries x.place r) (λ p. IsFirstLost entries x.place r p) → (b ≡ true) ↔ GoesBack entries x.place r
    go None f stays = ((λ t. absurd (false≢true (sym f ∙ t))), (λ back. absurd (stayer_stays entries x.place r stays back)))
    go (Some o) f first = ((λ t. loser_goes entries x.place is.role r is.recover o first), (λ back. f))
