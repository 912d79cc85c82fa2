-- Roles and their names.
use Rattle.std.proofs.Common.{◌≡◌, ◌∙◌, ◌+◌, ◌<◌, ℕ, suc, List, [], ◌∷◌, ◌++◌, map, take, drop, length, get_or, Some, refl, sym, ap, ap₂, subst, ⊎_elim, arith, length-append}
use Rattle.std.specs.List.{All}
use Rattle.std.proofs.lemmas.Bool.{cases_lt}
use Rattle.std.proofs.lemmas.Option.{slice_get-get_or}
use Rattle.std.proofs.lemmas.List.{length-map, map-append, get_or-map, get_or_append_left, get_or-append-add}
use Rattle.std.proofs.Math.Seq.{take-suc}
use Rattle.rcv_tree.specs.Names.{name_at}
use Rattle.rcv_model.specs.Names.{AreDifferent}
use Rattle.rcv_lines.specs.Named.{HaveNames}

-- Two roles with one name are one.
pub same_role : (names : List (List ℕ)) (x y : ℕ) → AreDifferent names → x < length names → y < length names → name_at names x ≡ name_at names y → x ≡ y
same_role names x y differ inside-x inside-y same =
    differ x y (name_at names y) (slice_get-get_or names x [] inside-x ∙ ap (λ n. Some n) same) (slice_get-get_or names y [] inside-y)

pub rest_have : (P : ℕ → Type 0) (x : ℕ) (xs : List ℕ) → All P (x ∷ xs) → All P xs
rest_have P x xs all = λ k d inside. all (suc k) d (omega (arith, inside))

head_of : List (List ℕ) → List ℕ
head_of fields = get_or fields 0 []

-- Lists of roles with the same names are the same.
pub same_roles : (names : List (List ℕ)) (a b : List ℕ) → AreDifferent names → HaveNames names a → HaveNames names b → map (name_at names) a ≡ map (name_at names) b → a ≡ b
same_roles names [] [] differ in-a in-b same = refl
same_roles names [] (y ∷ ys) differ in-a in-b same = absurd (omega (arith, ap length same))
same_roles names (x ∷ xs) [] differ in-a in-b same = absurd (omega (arith, ap length same))
same_roles names (x ∷ xs) (y ∷ ys) differ in-a in-b same =
    let first = same_role names x y differ (in-a 0 0 (omega arith)) (in-b 0 0 (omega arith)) (ap (λ l. get_or l 0 []) same) in
    let others = same_roles names xs ys differ (rest_have (λ r. r < length names) x xs in-a) (rest_have (λ r. r < length names) y ys in-b) (ap (drop 1) same) in
    ap₂ (λ r rs. r ∷ rs) first others

-- A field that is no role's name is none of these.
pub not_there : (names : List (List ℕ)) (fields : List (List ℕ)) (roles : List ℕ) (i : ℕ) (field : List ℕ) → i < length fields → HaveNames names roles
    → map (name_at names) roles ≡ fields → field ≡ get_or fields i [] → ((r : ℕ) → r < length names → field ≡ name_at names r → ⊥) → ⊥
not_there names fields roles i field inside have are is none =
    let long : length roles ≡ length fields = sym (length-map roles (name_at names)) ∙ ap length are in
    let within : i < length roles = omega (arith, inside, long) in
    none (get_or roles i 0) (have i 0 within) (is ∙ ap (λ l. get_or l i []) (sym are) ∙ get_or-map (name_at names) roles i 0 [] within)

pub one_more : (P : ℕ → Type 0) (xs : List ℕ) (x : ℕ) → All P xs → P x → All P (xs ++ x ∷ [])
one_more P xs x all last = λ k d inside. ⊎_elim
    (λ lt. subst P (sym (get_or_append_left xs (x ∷ []) d k lt)) (all k d lt))
    (λ le.
    let long : length (xs ++ x ∷ []) ≡ length xs + 1 = length-append xs (x ∷ []) in
    let end : length xs + 0 ≡ k = omega (arith, le, inside, long) in
    subst (λ j. P (get_or (xs ++ x ∷ []) j d)) end (subst P (sym (get_or-append-add xs (x ∷ []) 0 d)) last))
    (cases_lt k (length xs))

-- One more field is one more role.
pub next_role : (names fields : List (List ℕ)) (roles roles' : List ℕ) (r i : ℕ) (field : List ℕ) → roles' ≡ roles ++ r ∷ [] → i < length fields → field ≡ get_or fields i []
    → HaveNames names roles → map (name_at names) roles ≡ take i fields → r < length names → field ≡ name_at names r
    → HaveNames names roles' × (map (name_at names) roles' ≡ take (i + 1) fields)
next_role names fields roles roles' r i field more inside is have so_far declared named = (
  subst (HaveNames names) (sym more) (one_more (λ q. q < length names) roles r have declared),
  let count : i + 1 ≡ suc i = omega arith in
      ap (map (name_at names)) more ∙ map-append (name_at names) roles (r ∷ []) ∙ ap₂ (λ xs x. xs ++ x ∷ []) so_far (sym named ∙ is) ∙ sym (ap (λ n. take n fields) count ∙ take-suc fields i [] inside),
)
