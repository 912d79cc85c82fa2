-- A role that saves behind each tenth event, and has told that it saved behind the 7th and the 14th.
use Rattle.std.proofs.Common.{◌≡◌, [], ◌∷◌, refl, inl, inr, ⊎_elim, arith}
use Rattle.rcv_saves.specs.Counts.{up_to, above, with_count}
use Rattle.rcv_saves.specs.Saves.{SavesView, saves_of, told_of, IsSaved, IsLastSaved}

abbrev saves : SavesView
saves = saves_of (10 ∷ []) ((7 ∷ 14 ∷ []) ∷ [])

-- Behind its base it has saved, and behind what was told, and behind a multiple of its step.
base_is_saved : IsSaved saves 0 3 3
base_is_saved = inl refl

told_is_saved : IsSaved saves 0 3 14
told_is_saved = inr (omega arith, inl (1, omega arith, refl))

stepped_is_saved : IsSaved saves 0 3 20
stepped_is_saved = inr (omega arith, inr (omega arith, (2, refl)))

-- Not behind what was told below the base.
below_is_not : IsSaved saves 0 8 7 → ⊥
below_is_not is = ⊎_elim (λ e. omega (arith, e)) (λ p. let le = p.0 in omega (arith, le)) is

-- Of up to 15 events the last saved one is the 14th, not the 10th.
not_the_tenth : IsLastSaved saves 0 3 15 10 → ⊥
not_the_tenth is = let le = is.greatest 14 told_is_saved (omega arith) in omega (arith, le)

-- What is told twice is told once, and in order.
told_twice : with_count 7 (told_of saves 0) ≡ 7 ∷ 14 ∷ []
told_twice = refl

told_between : with_count 9 (told_of saves 0) ≡ 7 ∷ 9 ∷ 14 ∷ []
told_between = refl

cut_at : up_to 7 (told_of saves 0) ≡ 7 ∷ []
cut_at = refl

forgotten_to : above 7 (told_of saves 0) ≡ 14 ∷ []
forgotten_to = refl
