-- The marks of a module, as they are kept: which call is blamed.
use Rattle.std.proofs.Common.{◌≡◌, ℕ, zero, suc, ◌+◌, ◌<◌, ◌≤◌, Bool, cond, Some, None, List, [], ◌∷◌, length, map, set, refl, sym, ap, ◌∙◌, length-append, arith}
use Rattle.std.specs.Prelude.{slice_get, nat_lt}
use Rattle.std.proofs.lemmas.Bool.Decides.{nat_tests}
use Rattle.rcv_tree.specs.declared.protocol.Protocol.{Protocol}
use Rattle.rcv_model.specs.Text.{Body, Bodies, body_of}
use Rattle.rcv_module.specs.declared.fault.Fault.TheVariants.{Deep, TooMany}
use Rattle.rcv_module.specs.Parts.{Part, part_of, calls, calls_of, first_from, sites_from, sites}
use Rattle.rcv_module.specs.Sizes as exact
use Rattle.rcv_module.specs.Sizes.{Passes, AllPass, AreMarks, heading, blamed, first_deep, first_many}
use Rattle.rcv_module.specs.Refusing.{IsTooLarge, IsSmall}
use Rattle.rcv_do.specs.declared.sizes.Size.{Size}
use Rattle.rcv_do.specs.Counting.{capped, AreCapped, is_deep, is_many}
use Rattle.rcv_do.proofs.Orders.{first_inside}

-- the last one of a list of ends is replaced
blamed_set : (ends : List exact.Size) (whole : exact.Size) (n : ℕ) → n + 1 ≡ length ends → map capped (blamed ends whole) ≡ set (map capped ends) n (capped whole)
blamed_set [] whole n e = absurd (omega (arith, e))
blamed_set (s ∷ []) whole zero e = refl
blamed_set (s ∷ []) whole (suc n) e = absurd (omega (arith, e))
blamed_set (s ∷ r ∷ ends) whole zero e = absurd (omega (arith, e))
blamed_set (s ∷ r ∷ ends) whole (suc n) e = ap (λ l. capped s ∷ l) (blamed_set (r ∷ ends) whole n (omega (arith, e)))

map_long : {A B : Type 0} (f : A → B) (xs : List A) → length (map f xs) ≡ length xs
map_long f [] = refl
map_long f (x ∷ xs) = ap suc (map_long f xs)

marks_made : (ps : List Protocol) (main : Protocol) (ends : List exact.Size) (whole : exact.Size) → Passes (map part_of (main ∷ ps)) 1 heading (body_of main.body) ends whole → AreMarks (map part_of (main ∷ ps)) (blamed ends whole)
marks_made ps main ends whole p = record { main = part_of main; first = refl; ends = ends; whole = whole; passes = p; blames = refl }

pub marks_blamed : (ps : List Protocol) (main : Protocol) (ends : List exact.Size) (whole : exact.Size) (old kept : List Size) (z : Size) (n : ℕ) → old ≡ map capped ends → z ≡ capped whole → n + 1 ≡ length old
    → kept ≡ set old n z → Passes (map part_of (main ∷ ps)) 1 heading (body_of main.body) ends whole → AreCapped (map part_of (main ∷ ps)) kept
marks_blamed ps main ends whole old kept z n e f at is p = (
  blamed ends whole,
  marks_made ps main ends whole p,
  is ∙ ap (λ l. set l n z) e ∙ ap (set (map capped ends) n) f ∙ sym (blamed_set ends whole n (let l = ap length e ∙ map_long capped ends in omega (arith, at, l))),
)

pub marks_none : (ps : List Protocol) (main : Protocol) (ends : List exact.Size) (whole : exact.Size) (kept : List Size) → kept ≡ map capped ends → length kept ≤ 0
    → Passes (map part_of (main ∷ ps)) 1 heading (body_of main.body) ends whole → AreCapped (map part_of (main ∷ ps)) kept
marks_none ps main [] whole kept e none p = ([], marks_made ps main [] whole p, e)
marks_none ps main (s ∷ ends) whole kept e none p = absurd (let l = ap length e in omega (arith, l, none))

-- ---- which one is above a limit

deep_capped : (s : exact.Size) → is_deep (capped s) ≡ nat_lt 32 s.blocks
deep_capped s = grind (arith, nat_tests)

many_capped : (s : exact.Size) → is_many (capped s) ≡ nat_lt 256 s.points
many_capped s = grind (arith, nat_tests)

first_capped : (test : Size → Bool) (holds : exact.Size → Bool) (i : ℕ) (xs : List exact.Size) → ((s : exact.Size) → test (capped s) ≡ holds s) → first_from test i (map capped xs) ≡ first_from holds i xs
first_capped test holds i [] f = refl
first_capped test holds i (x ∷ xs) f = ap (λ b. cond b (Some i) (first_from test (i + 1) (map capped xs))) (f x) ∙ ap (cond (holds x) (Some i)) (first_capped test holds (i + 1) xs f)

pub deep_of : (xs : List exact.Size) → first_from is_deep 0 (map capped xs) ≡ first_deep xs
deep_of xs = first_capped is_deep (λ s. nat_lt 32 s.blocks) 0 xs deep_capped

pub many_of : (xs : List exact.Size) → first_from is_many 0 (map capped xs) ≡ first_many xs
many_of xs = first_capped is_many (λ s. nat_lt 256 s.points) 0 xs many_capped

-- ---- there is a line for each mark

mutual
  as_many_ends : {parts : List Part} {d : ℕ} {s t : exact.Size} {b : Body} {ends : List exact.Size} → Passes parts d s b ends t → length ends ≡ length (calls 0 b)
  as_many_ends exact.at_end = refl
  as_many_ends (exact.message p) = as_many_ends p
  as_many_ends (exact.choice {inner = inner} {ends = ends} {bs = bs} {rest = rest} a p) = length-append inner ends ∙ ap (λ n. n + length ends) (all_as_many a) ∙ ap (λ n. length (calls_of 0 bs) + n) (as_many_ends p) ∙ sym (length-append (calls_of 0 bs) (calls 0 rest))
  as_many_ends (exact.loop {inner = inner} {ends = ends} {body = body} {rest = rest} a p) = length-append inner ends ∙ ap (λ n. n + length ends) (as_many_ends a) ∙ ap (λ n. length (calls 0 body) + n) (as_many_ends p) ∙ sym (length-append (calls 0 body) (calls 0 rest))
  as_many_ends (exact.again p) = as_many_ends p
  as_many_ends (exact.beside {inner = inner} {ends = ends} {bs = bs} {rest = rest} a p) = length-append inner ends ∙ ap (λ n. n + length ends) (all_as_many a) ∙ ap (λ n. length (calls_of 0 bs) + n) (as_many_ends p) ∙ sym (length-append (calls_of 0 bs) (calls 0 rest))
  as_many_ends (exact.call p i a r) = ap suc (as_many_ends r)

  all_as_many : {parts : List Part} {d : ℕ} {s t : exact.Size} {bs : Bodies} {ends : List exact.Size} → AllPass parts d s bs ends t → length ends ≡ length (calls_of 0 bs)
  all_as_many exact.no_more = refl
  all_as_many (exact.one_more {inner = inner} {ends = ends} {b = b} {bs = bs} a p) = length-append inner ends ∙ ap (λ n. n + length ends) (as_many_ends a) ∙ ap (λ n. length (calls 0 b) + n) (all_as_many p) ∙ sym (length-append (calls 0 b) (calls_of 0 bs))

blamed_long : (ends : List exact.Size) (whole : exact.Size) → length (blamed ends whole) ≡ length ends
blamed_long [] whole = refl
blamed_long (s ∷ []) whole = refl
blamed_long (s ∷ r ∷ ends) whole = ap suc (blamed_long (r ∷ ends) whole)

marks_long : (parts : List Part) (marks : List exact.Size) → AreMarks parts marks → length marks ≤ length (sites parts)
marks_long parts marks a = go parts a.first
  where
    long : length marks ≡ length (calls 0 a.main.body)
    long = ap length a.blames ∙ blamed_long a.ends a.whole ∙ as_many_ends a.passes

    go : (ps : List Part) → slice_get ps 0 ≡ Some a.main → length marks ≤ length (sites ps)
    go [] e = absurd (cc)
    go (p ∷ ps) e =
        let same : p ≡ a.main = cc in
        let whole = length-append (calls 0 p.body) (sites_from 1 ps) in
        let own : length (calls 0 p.body) ≡ length (calls 0 a.main.body) = ap (λ (x : Part). length (calls 0 x.body)) same in
        omega (arith, long, whole, own)

pub mark_inside : {A : Type 0} (parts : List Part) (marks : List exact.Size) (holds : exact.Size → Bool) (lines : List A) (n : ℕ) → length lines ≡ length (sites parts) → AreMarks parts marks → first_from holds 0 marks ≡ Some n → n < length lines
mark_inside parts marks holds lines n e a f = let h = first_inside holds 0 marks n f in let l = marks_long parts marks a in omega (arith, h, l, e)

pub too_deep : (parts : List Part) (kept : List Size) (n : ℕ) → AreCapped parts kept → Some n ≡ first_from is_deep 0 kept → IsTooLarge parts Deep n
too_deep parts kept n c e = (c.0, c.1, sym (deep_of c.0) ∙ ap (first_from is_deep 0) (sym c.2) ∙ sym e)

pub not_deep : (parts : List Part) (kept : List Size) (c : AreCapped parts kept) → None ≡ first_from is_deep 0 kept → first_deep c.0 ≡ None
not_deep parts kept c e = sym (deep_of c.0) ∙ ap (first_from is_deep 0) (sym c.2) ∙ sym e

pub too_many : (parts : List Part) (kept : List Size) (n : ℕ) → AreCapped parts kept → None ≡ first_from is_deep 0 kept → Some n ≡ first_from is_many 0 kept → IsTooLarge parts TooMany n
too_many parts kept n c none e = (c.0, c.1, not_deep parts kept c none, sym (many_of c.0) ∙ ap (first_from is_many 0) (sym c.2) ∙ sym e)

pub is_small : (parts : List Part) (kept : List Size) → AreCapped parts kept → None ≡ first_from is_deep 0 kept → None ≡ first_from is_many 0 kept → IsSmall parts
is_small parts kept c none e = (c.0, c.1, not_deep parts kept c none, sym (many_of c.0) ∙ ap (first_from is_many 0) (sym c.2) ∙ sym e)

-- its number is one of a line
pub deep_line : {A : Type 0} (parts : List Part) (kept : List Size) (lines : List A) (n : ℕ) → length lines ≡ length (sites parts) → AreCapped parts kept → Some n ≡ first_from is_deep 0 kept → n < length lines
deep_line parts kept lines n e c f = mark_inside parts c.0 (λ s. nat_lt 32 s.blocks) lines n e c.1 (sym (deep_of c.0) ∙ ap (first_from is_deep 0) (sym c.2) ∙ sym f)

pub many_line : {A : Type 0} (parts : List Part) (kept : List Size) (lines : List A) (n : ℕ) → length lines ≡ length (sites parts) → AreCapped parts kept → None ≡ first_from is_deep 0 kept → Some n ≡ first_from is_many 0 kept → n < length lines
many_line parts kept lines n e c none f = mark_inside parts c.0 (λ s. nat_lt 256 s.points) lines n e c.1 (sym (many_of c.0) ∙ ap (first_from is_many 0) (sym c.2) ∙ sym f)
