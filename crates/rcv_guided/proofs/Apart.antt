-- Whether told roles are of one group, looked at one after another; and fields of lists that hold for each item.
use Rattle.std.proofs.Common.{◌≡◌, ℕ, ◌+◌, ◌<◌, ◌≤◌, Bool, true, false, List, [], ◌∷◌, length, get_or, drop, sym, ◌∙◌, ap, subst, arith}
use Rattle.std.specs.Prelude.{◌||◌, All, if◌then◌else◌}
use Rattle.std.specs.List.{list_any}
use Rattle.std.proofs.lemmas.List.{drop_more, drop_all}
use Rattle.std.proofs.lemmas.List.Elements.{All-weaker, All-same}
use Rattle.rcv_tree.specs.Bits.{has_bit, is_listed}
use Rattle.rcv_told.specs.Told.{group_of}
use Rattle.rcv_plan.specs.Plans.{IsGroup}
use Rattle.rcv_guide.specs.Guide.{GuideView, terms_of}
use Rattle.rcv_dialogue.specs.declared.few.Failed.{Failed}

pub any_here : (test : Failed → Bool) (xs : List Failed) (i : ℕ) (x : Failed) → i < length xs → x ≡ get_or xs i x → test x ≡ true → list_any test (drop i xs) ≡ true
any_here test xs i x lt is e =
    ap (list_any test) (drop_more xs i x lt) ∙ ap (λ b. b || list_any test (drop (i + 1) xs)) (ap test (sym is) ∙ e)

pub any_later : (test : Failed → Bool) (xs : List Failed) (i : ℕ) (x : Failed) → i < length xs → x ≡ get_or xs i x → test x ≡ false → list_any test (drop i xs) ≡ list_any test (drop (i + 1) xs)
any_later test xs i x lt is e =
    ap (list_any test) (drop_more xs i x lt) ∙ ap (λ b. b || list_any test (drop (i + 1) xs)) (ap test (sym is) ∙ e)

-- The test of a role, by the bits of the group.
pub apart_of : (g : GuideView) (p group q : ℕ) (b : Bool) → IsGroup g.plan p group → q < 8 → has_bit group q ≡ b → (if is_listed (group_of (terms_of g) p) q then false else true) ≡ (if b then false else true)
apart_of g p group q b is_group lt e = ap (λ c. if c then false else true) (sym (is_group q lt) ∙ e)

-- Declared roles are below eight.
pub below_eight : (failed : List Failed) (roles : ℕ) → roles ≤ 8 → All (λ f. f.role < roles) failed → All (λ f. f.role < 8) failed
below_eight failed roles few all = All-weaker (λ f. f.role < roles) (λ f. f.role < 8) (λ f lt. omega (arith, few, lt)) failed all

pub item_declared : (failed : List Failed) (roles i : ℕ) (x : Failed) → All (λ f. f.role < roles) failed → i < length failed → x ≡ get_or failed i x → x.role < roles
item_declared failed roles i x all lt is = subst (λ (f : Failed). f.role < roles) (sym is) (all i x lt)

-- What is left at a place.
pub left_at : (failed : List Failed) (i : ℕ) (x : Failed) → i < length failed → x ≡ get_or failed i x → drop i failed ≡ x ∷ drop (i + 1) failed
left_at failed i x lt is = drop_more failed i x lt ∙ ap (λ f. f ∷ drop (i + 1) failed) (sym is)

pub none_left : (failed : List Failed) (i : ℕ) → length failed ≤ i → drop i failed ≡ []
none_left failed i le = drop_all i failed le

-- What holds of all holds of an item.
pub item_holds : {A : Type 0} (P : A → Type 0) (xs ys : List A) (i : ℕ) (x : A) → ys ≡ xs → All P xs → i < length ys → x ≡ get_or ys i x → P x
item_holds P xs ys i x same all lt is = subst P (sym is) (All-same P ys xs same all i x lt)
