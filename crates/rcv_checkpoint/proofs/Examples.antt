-- What is a change of one variable, of none, and of any.
use Rattle.std.proofs.Common.{◌≡◌, ℕ, ℤ, pos, List, [], ◌∷◌, refl, ap, arith}
use Rattle.std.specs.Prelude.{slice_index_or}
use Rattle.rcv_checkpoint.specs.declared.changed.Changed.TheVariants.{Nothing, One, Any}
use Rattle.rcv_checkpoint.specs.Changed.{IsOneChange, IsChange}

abbrev pub before : List ℤ
before = pos 1 ∷ pos 2 ∷ pos 3 ∷ []

abbrev pub behind : List ℤ
behind = pos 1 ∷ pos 9 ∷ pos 3 ∷ []

-- The second variable has changed.
pub second_alone : IsChange (One 1) before behind
second_alone = record { within = omega arith; value = pos 9; there = refl }

-- So it isn't the first alone that has.
pub not_the_first : IsChange (One 0) before behind → ⊥
not_the_first c = absurd (let second : pos 9 ≡ pos 2 = ap (λ (xs : List ℤ). slice_index_or xs 1 (pos 0)) c.there in cc)

pub not_nothing : IsChange Nothing before behind → ⊥
not_nothing c = absurd (let second : pos 9 ≡ pos 2 = ap (λ (xs : List ℤ). slice_index_or xs 1 (pos 0)) c in cc)

-- A place from 16 on is none.
pub no_place : IsChange (One 16) before before → ⊥
no_place c = absurd (let within = c.within in omega (arith, within))

pub any_may_have : IsChange Any before behind
any_may_have = tt
