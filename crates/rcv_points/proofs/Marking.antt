-- The set of what was found, beside its list; and a place that offers nothing new.
use Rattle.std.proofs.Common.{◌≡◌, ℕ, ◌+◌, ◌≤◌, Bool, true, false, not, ◌==◌, ◌||◌, ◌&&◌, List, take, set, get_or, replicate, refl, sym, ◌∙◌, ap, subst, ⊎_elim, arith}
use Rattle.std.specs.Prelude.{◌↔◌}
use Rattle.std.proofs.lemmas.Bool.{cases_Bool, cases_eq}
use Rattle.std.proofs.lemmas.Bool.Decides.{nat_tests}
use Rattle.std.proofs.lemmas.List.{get_or-set_same, get_or-set_other}
use Rattle.rcv_tree.specs.Bits.{has_point, members, IsPoint}
use Rattle.rcv_model.specs.Net.{Net, IsIn}
use Rattle.rcv_points.specs.Follow.{IsSetOfRole}
use Rattle.rcv_points.proofs.Members.{in_members, of_members}
use Rattle.rcv_points.specs.Found.{AreFound, Adds, IsOther}
use Rattle.rcv_points.proofs.Finding.{nothing, no_flag, added}
use Rattle.rcv_points.proofs.Adding.{adds_none}

pub nothing_found : (words : List ℕ) → ((p : ℕ) → has_point words p ≡ false) → AreFound (replicate 257 false) (replicate 257 0) 0 words
nothing_found words none = record { once = nothing; marked = λ p point. none p ∙ sym (no_flag 257 p) }

right_true : (b : Bool) → (b || true) ≡ true
right_true true = refl
right_true false = refl

right_false : (b : Bool) → (b || false) ≡ b
right_false true = refl
right_false false = refl

pub found_one : (flags : List Bool) (items : List ℕ) (count p : ℕ) (words one more : List ℕ) → AreFound flags items count words → p ≤ 256 → (IsIn p (take count items) → ⊥) → ((q : ℕ) → IsPoint q → has_point one q ≡ (p == q)) → ((q : ℕ) → IsPoint q → has_point more q ≡ (has_point words q || has_point one q)) → AreFound (set flags p true) (set items count p) (count + 1) more
found_one flags items count p words one more a le n only both = record { once = added flags items count p a.once le n; marked = marked }
  where
    marked : (q : ℕ) → IsPoint q → has_point more q ≡ get_or (set flags p true) q false
    marked q point = both q point ∙ ap (λ b. has_point words q || b) (only q point) ∙ ⊎_elim
        (λ e.
        let t : (p == q) ≡ true = grind (arith, nat_tests) in
        let long = a.once.flags_all in
        ap (λ b. has_point words q || b) t ∙ right_true (has_point words q) ∙ sym (ap (λ k. get_or (set flags p true) k false) e ∙ get_or-set_same flags p true false (omega (arith, long, le))))
        (λ m.
        let f : (p == q) ≡ false = grind (arith, nat_tests) in
        ap (λ b. has_point words q || b) f ∙ right_false (has_point words q) ∙ a.marked q point ∙ sym (get_or-set_other flags p q true false m))
        (cases_eq q p)

pub is_found : (flags : List Bool) (items : List ℕ) (count : ℕ) (words now : List ℕ) → AreFound flags items count words → take count items ≡ now → (p : ℕ) → IsPoint p → (has_point words p ≡ true) ↔ IsIn p now
is_found flags items count words now a view p point = (
  λ h. subst (IsIn p) view (a.once.found p (sym (a.marked p point) ∙ h)),
  λ i. a.marked p point ∙ a.once.flagged p (subst (IsIn p) (sym view) i),
)

-- A place whose other points were found adds nothing.
pub nothing_new : (net : Net) (r : ℕ) (ps old own offered others found fresh : List ℕ) → ps ≡ members offered → IsSetOfRole net r (members own) → ((p : ℕ) → IsPoint p → has_point others p ≡ (has_point offered p && not (has_point own p))) → ((p : ℕ) → IsPoint p → (has_point found p ≡ true) ↔ IsIn p old) → ((p : ℕ) → IsPoint p → has_point fresh p ≡ (has_point others p && not (has_point found p))) → ((p : ℕ) → IsPoint p → has_point fresh p ≡ false) → Adds (IsOther net r ps) old old
nothing_new net r ps old own offered others found fresh says set less there left none = adds_none (IsOther net r ps) old known
  where
    known : (j : ℕ) → IsOther net r ps j → IsIn j old
    known j o = ⊎_elim
        (λ mine. absurd (o.1 ((set j).0 (in_members own j m.0 mine)).2))
        (λ other. ⊎_elim (λ h. (there j m.0).0 h) (λ h. absurd (go other h)) (cases_Bool (has_point found j)))
        (cases_Bool (has_point own j))
      where
        m : IsPoint j × (has_point offered j ≡ true)
        m = of_members offered j (subst (IsIn j) says o.0)

        go : has_point own j ≡ false → has_point found j ≡ false → ⊥
        go other h =
            let a : has_point others j ≡ true = less j m.0 ∙ ap (λ b. b && not (has_point own j)) m.1 ∙ ap (λ b. true && not b) other in
            let b : has_point fresh j ≡ true = left j m.0 ∙ ap (λ b. b && not (has_point found j)) a ∙ ap (λ b. true && not b) h in
            let c = none j m.0 in
            absurd (cc)
