-- A session has one section at most.
use Rattle.std.proofs.Common.{◌≡◌, ◌<◌, ℕ, zero, suc, Bool, true, List, [], ◌∷◌, length, drop, sym, ap, ap₂, subst, ◌∙◌, ◌⊎◌, inl, inr, ⊎_elim, arith}
use Rattle.std.specs.Prelude.{◌==◌, unwrap_or}
use Rattle.std.proofs.lemmas.Bool.{cases_lt}
use Rattle.rcv_section.specs.declared.section.Section.{Section}
use Rattle.rcv_section.specs.Lines.{LineAt}
use Rattle.rcv_section.specs.Sections.{IsTitle, IsHeading, IsFirstTitle, IsFront, IsSection, title}

-- Two numbers of which neither is less are one.
same_by : (a b : ℕ) → (a < b → ⊥) → (b < a → ⊥) → a ≡ b
same_by a b not_less not_more = ⊎_elim (λ less. absurd (not_less less)) (λ most. ⊎_elim (λ more. absurd (not_more more)) (λ least. omega (arith, most, least)) (cases_lt b a)) (cases_lt a b)

same_place : (word text : List ℕ) (p m q n : ℕ) → IsFirstTitle word text p m → IsFirstTitle word text q n → p ≡ q
same_place word text p m q n a b = same_by p q (λ less. b.is_first p m less a.is_title) (λ less. a.is_first q n less b.is_title)

-- A line has one length.
same_len : (word : List ℕ) (fresh : Bool) (text : List ℕ) (p m n : ℕ) → LineAt (IsTitle word m) fresh text p → LineAt (IsTitle word n) fresh text p → m ≡ n
same_len word fresh text zero m n a b = ap (λ o. unwrap_or o 0) (sym a.1 ∙ b.1)
same_len word fresh [] (suc p) m n a b = absurd a
same_len word fresh (c ∷ cs) (suc p) m n a b = same_len word (c == 10) cs p m n a b

not_less : (text : List ℕ) (m n : ℕ) → IsFront text m → IsFront text n → m < n → ⊥
not_less text m n a b less = go a.up_to
  where
    go : (m ≡ length text) ⊎ LineAt IsHeading true text m → ⊥
    go (inl all) = let within = b.within in omega (arith, all, within, less)
    go (inr at) = b.clear m less at

same_size : (text : List ℕ) (m n : ℕ) → IsFront text m → IsFront text n → m ≡ n
same_size text m n a b = same_by m n (not_less text m n a b) (not_less text n m b a)

abbrev section : ℕ → ℕ → Section
section begin end = record { begin = begin; end = end }

pub one_section : (number : ℕ) (text : List ℕ) (a b : Section) → IsSection number text a → IsSection number text b → a ≡ b
one_section number text a b x y =
    let place : x.place ≡ y.place = same_place (title number) text x.place x.len y.place y.len x.is_title y.is_title in
    let len : x.len ≡ y.len = same_len (title number) true text x.place x.len y.len x.is_title.is_title (subst (LineAt (IsTitle (title number) y.len) true text) (sym place) y.is_title.is_title) in
    let begin : a.begin ≡ b.begin = let xs = x.begins in let ys = y.begins in omega (arith, xs, ys, place, len) in
    let size : x.size ≡ y.size = same_size (drop a.begin text) x.size y.size x.is_front (subst (λ (n : ℕ). IsFront (drop n text) y.size) (sym begin) y.is_front) in
    let end : a.end ≡ b.end = let xs = x.ends in let ys = y.ends in omega (arith, xs, ys, begin, size) in
    ap₂ section begin end
