-- The definitions at small texts.
use Rattle.std.proofs.Common.{◌≡◌, ℕ, suc, ◌≤◌, true, false, List, [], ◌++◌, length, length-append, Option, Some, None, codes, refl, ap, arith}
use Rattle.rcv_page.specs.Page.{state, Waits, Broke, Adds}
use Rattle.rcv_page.proofs.Adding.{whole_written}

-- the bytes that a sink tells of
abbrev told : List ℕ → Option (List ℕ) → List ℕ
told other None = other
told other (Some bytes) = bytes

-- two bytes were written, and two are held
half_way : Waits (Some (codes "x")) 5 (state (Some (codes "xab")) 5 (codes "cd") false) (codes "abcd")
half_way = record { front = codes "ab"; whole = refl; written = refl; calm = refl }

-- the same sink with one of the two bytes lost
not_with_a_byte_lost : Waits (Some (codes "x")) 5 (state (Some (codes "xab")) 5 (codes "d") false) (codes "abcd") → ⊥
not_with_a_byte_lost waits =
    let front : 3 ≡ suc (length waits.front) = ap (λ o. length (told [] o)) waits.written in
    let whole : length (waits.front ++ codes "d") ≡ 4 = ap length waits.whole in
    absurd (omega (arith, front, whole, length-append waits.front (codes "d")))

-- a call has failed behind the first byte
failed : Broke (Some []) 0 (state (Some (codes "a")) 1 [] true) (codes "ab")
failed = record {
  beginning = record { front = codes "a"; back = codes "b"; whole = refl; missing = omega arith; written = refl };
  later = omega arith;
  rose = omega arith;
}

-- but not where the sink counted none
not_without_a_fault : Broke (Some []) 0 (state (Some (codes "a")) 0 [] true) (codes "ab") → ⊥
not_without_a_fault broke = let rose : 1 ≤ 0 = broke.rose in absurd (omega (arith, rose))

-- a page isn't written twice
not_twice : Adds (state (Some []) 0 [] false) (state (Some (codes "aa")) 0 [] false) (codes "a") → ⊥
not_twice adds =
    let same : 2 ≡ 1 = ap (λ o. length (told [] o)) (whole_written (Some []) (Some (codes "aa")) 0 0 (codes "a") adds).0 in
    absurd (omega (arith, same))

-- and nothing is thrown away while no call has failed
not_thrown_away : Adds (state (Some []) 0 [] false) (state (Some []) 0 [] false) (codes "a") → ⊥
not_thrown_away adds =
    let same : 0 ≡ 1 = ap (λ o. length (told [] o)) (whole_written (Some []) (Some []) 0 0 (codes "a") adds).0 in
    absurd (omega (arith, same))
