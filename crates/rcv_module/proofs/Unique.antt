-- A module has one refusal, and one expansion.
use Rattle.std.proofs.Common.{◌≡◌, ℕ, suc, ◌+◌, ◌==◌, Option, Some, None, List, [], ◌∷◌, ◌++◌, length, refl, sym, ap, subst, ◌∙◌, inl, inr, ⊎_elim, length-append, arith}
use Rattle.std.specs.Prelude.{if◌then◌else◌, slice_get}
use Rattle.std.proofs.lemmas.Bool.{cases_lt}
use Rattle.rcv_model.specs.Text.{Body, End, Single, Choose, Loop, Again, Parallel, Call, Bodies, NoMore, Or}
use Rattle.rcv_model.specs.Form.{IsNumberedFrom}
use Rattle.rcv_model.specs.Places.{SingleMessage, singles, singles_of}
use Rattle.rcv_module.specs.declared.fault.Fault.{Fault}
use Rattle.rcv_module.specs.declared.fault.Fault.TheVariants.{Deep, NoName, TooMany, Arity, Recursive, Empty}
use Rattle.rcv_module.specs.Parts.{Part, sites}
use Rattle.rcv_module.specs.Sizes.{first_deep, first_many}
use Rattle.rcv_module.specs.Refusing.{code_of, HoldsAt, IsFirstCall, IsTooLarge}
use Rattle.rcv_module.specs.Expansion as expansion
use Rattle.rcv_module.specs.Expansion.{Stands, called_with, Expands, AllExpand, IsExpansion}
use Rattle.rcv_module.specs.Laws.{RefusalsAreOne, ExpansionsAreOne}
use Rattle.rcv_module.proofs.Once.{marks_once}
use Rattle.rcv_module.proofs.Walking.{named_once}

-- ---- refusals

abbrev with_code : ℕ → Fault
with_code n = if n == 12 then Deep else (if n == 13 then NoName else (if n == 18 then TooMany else (if n == 52 then Arity else (if n == 53 then Recursive else Empty))))

of_its_code : (f : Fault) → with_code (code_of f) ≡ f
of_its_code Deep = refl
of_its_code NoName = refl
of_its_code TooMany = refl
of_its_code Arity = refl
of_its_code Recursive = refl
of_its_code Empty = refl

codes_differ : (f g : Fault) → code_of f ≡ code_of g → f ≡ g
codes_differ f g e = sym (of_its_code f) ∙ ap with_code e ∙ of_its_code g

first_once : (parts : List Part) (f g : Fault) (n m : ℕ) → IsFirstCall parts f n → IsFirstCall parts g m → (f ≡ g) × (n ≡ m)
first_once parts f g n m a b = ⊎_elim
    (λ lt. absurd (b.first n a.here f lt a.is a.holds))
    (λ ge. ⊎_elim
    (λ lt. absurd (a.first m b.here g lt b.is b.holds))
    (λ le. let same : n ≡ m = omega (arith, ge, le) in (here same, same))
    (cases_lt m n))
    (cases_lt n m)
  where
    here : n ≡ m → f ≡ g
    here e =
        let some : Some a.here ≡ Some b.here = sym a.is ∙ ap (slice_get (sites parts)) e ∙ b.is in
        let same : a.here ≡ b.here = cc in
        ⊎_elim
        (λ lt. absurd (b.least f lt (subst (HoldsAt parts f) same a.holds)))
        (λ ge. ⊎_elim
        (λ lt. absurd (a.least g lt (subst (HoldsAt parts g) (sym same) b.holds)))
        (λ le. codes_differ f g (omega (arith, ge, le)))
        (cases_lt (code_of g) (code_of f)))
        (cases_lt (code_of f) (code_of g))

some_once : {o : Option ℕ} {n m : ℕ} → o ≡ Some n → o ≡ Some m → n ≡ m
some_once e f = let h = sym e ∙ f in cc

none_some : {o : Option ℕ} {n : ℕ} → o ≡ None → o ≡ Some n → ⊥
none_some e f = cc

large_once : (parts : List Part) (f g : Fault) (n m : ℕ) → IsTooLarge parts f n → IsTooLarge parts g m → (f ≡ g) × (n ≡ m)
large_once parts Deep Deep n m a b = (refl, some_once a.2 (ap first_deep (marks_once parts a.0 b.0 a.1 b.1) ∙ b.2))
large_once parts Deep TooMany n m a b = absurd (none_some (ap first_deep (marks_once parts a.0 b.0 a.1 b.1) ∙ b.2) a.2)
large_once parts TooMany Deep n m a b = absurd (none_some (ap first_deep (marks_once parts b.0 a.0 b.1 a.1) ∙ a.2) b.2)
large_once parts TooMany TooMany n m a b = (refl, some_once a.3 (ap first_many (marks_once parts a.0 b.0 a.1 b.1) ∙ b.3))
large_once parts NoName g n m a b = absurd a
large_once parts Arity g n m a b = absurd a
large_once parts Recursive g n m a b = absurd a
large_once parts Empty g n m a b = absurd a
large_once parts Deep NoName n m a b = absurd b
large_once parts Deep Arity n m a b = absurd b
large_once parts Deep Recursive n m a b = absurd b
large_once parts Deep Empty n m a b = absurd b
large_once parts TooMany NoName n m a b = absurd b
large_once parts TooMany Arity n m a b = absurd b
large_once parts TooMany Recursive n m a b = absurd b
large_once parts TooMany Empty n m a b = absurd b

pub refusals_are_one : RefusalsAreOne
refusals_are_one parts f g n m (inl a) (inl b) = first_once parts f g n m a b
refusals_are_one parts f g n m (inl a) (inr b) = absurd (b.0 n a.here f a.is a.holds)
refusals_are_one parts f g n m (inr a) (inl b) = absurd (a.0 m b.here g b.is b.holds)
refusals_are_one parts f g n m (inr a) (inr b) = large_once parts f g n m a.1 b.1

-- ---- expansions

-- the same text, but for its points
abbrev mutual
  Alike : Body → Body → Type 0
  Alike End End = Unit {0}
  Alike (Single label sorts s r p rest) (Single name types a b q rest2) = ((label ≡ name) × (sorts ≡ types) × (s ≡ a) × (r ≡ b)) × Alike rest rest2
  Alike (Choose s bs rest) (Choose a cs rest2) = (s ≡ a) × AllAlike bs cs × Alike rest rest2
  Alike (Loop name body rest) (Loop other body2 rest2) = (name ≡ other) × Alike body body2 × Alike rest rest2
  Alike (Again name rest) (Again other rest2) = (name ≡ other) × Alike rest rest2
  Alike (Parallel bs rest) (Parallel cs rest2) = AllAlike bs cs × Alike rest rest2
  Alike (Call name roles rest) (Call other roles2 rest2) = ((name ≡ other) × (roles ≡ roles2)) × Alike rest rest2
  Alike _ _ = ⊥

  AllAlike : Bodies → Bodies → Type 0
  AllAlike NoMore NoMore = Unit {0}
  AllAlike (Or b bs) (Or c cs) = Alike b c × AllAlike bs cs
  AllAlike _ _ = ⊥

mutual
  alike : {parts : List Part} {st : Stands} {b n1 n2 w1 w2 : Body} → Expands parts st b n1 w1 → Expands parts st b n2 w2 → Alike n1 n2 → Alike w1 w2
  alike expansion.at_end expansion.at_end a = a
  alike (expansion.message p e) (expansion.message q f) a = ((refl, refl, refl, refl), alike e f a)
  alike (expansion.choice es e) (expansion.choice fs f) a = (refl, all_alike es fs, alike e f a)
  alike (expansion.loop e x) (expansion.loop f y) a = (refl, alike e f tt, alike x y a)
  alike (expansion.again e) (expansion.again f) a = (refl, alike e f a)
  alike (expansion.beside es e) (expansion.beside fs f) a = (all_alike es fs, alike e f a)
  alike {parts} {st} (expansion.call {name = name} {roles = roles} p i e x) (expansion.call {behind = behind} {whole = whole} q j f y) a =
      let f' : Expands parts (called_with st roles) p.body behind whole = subst (λ (z : Part). Expands parts (called_with st roles) z.body behind whole) (named_once parts name q p j i) f in
      alike e f' (alike x y a)

  all_alike : {parts : List Part} {st : Stands} {bs cs ds : Bodies} → AllExpand parts st bs cs → AllExpand parts st bs ds → AllAlike cs ds
  all_alike expansion.no_more expansion.no_more = tt
  all_alike (expansion.one_more e es) (expansion.one_more f fs) = (alike e f tt, all_alike es fs)

abbrev Made : Type 0
Made = List (ℕ × SingleMessage)

numbers_front : (n : ℕ) (xs ys : Made) → IsNumberedFrom n (xs ++ ys) → IsNumberedFrom n xs
numbers_front n [] ys k = tt
numbers_front n (x ∷ xs) ys k = (k.0, numbers_front (n + 1) xs ys k.1)

numbers_back : (n m : ℕ) (xs ys : Made) → m ≡ n + length xs → IsNumberedFrom n (xs ++ ys) → IsNumberedFrom m ys
numbers_back n m [] ys e k = subst (λ i. IsNumberedFrom i ys) (let h : n ≡ m = omega (arith, e) in h) k
numbers_back n m (x ∷ xs) ys e k = numbers_back (n + 1) m xs ys (omega (arith, e)) k.1

-- With points in order from one number on they are the same; and so many points they have.
record AreSame {A : Type 0} (a b : A) (xs ys : Made) : Type 0 where
  same : a ≡ b
  long : length xs ≡ length ys

joined_long : (xs ys zs ws : Made) → length xs ≡ length ys → length zs ≡ length ws → length (xs ++ zs) ≡ length (ys ++ ws)
joined_long xs ys zs ws e f = length-append xs zs ∙ ap (λ n. n + length zs) e ∙ ap (λ n. length ys + n) f ∙ sym (length-append ys ws)

mutual
  same_numbered : (n : ℕ) (b c : Body) → Alike b c → IsNumberedFrom n (singles b) → IsNumberedFrom n (singles c) → AreSame b c (singles b) (singles c)
  same_numbered n End End a k l = record { same = refl; long = refl }
  same_numbered n (Single label sorts s r p rest) (Single name types x y q rest2) a k l =
      let more = same_numbered (n + 1) rest rest2 a.1 k.1 l.1 in
      record {
        same = ap (λ z. Single z sorts s r p rest) a.0.0 ∙ ap (λ z. Single name z s r p rest) a.0.1 ∙ ap (λ z. Single name types z r p rest) a.0.2
            ∙ ap (λ z. Single name types x z p rest) a.0.3 ∙ ap (λ z. Single name types x y z rest) (k.0 ∙ sym l.0) ∙ ap (Single name types x y q) more.same;
        long = ap suc more.long;
      }
  same_numbered n (Choose s bs rest) (Choose x cs rest2) a k l =
      let first = all_same_numbered n bs cs a.1 (numbers_front n (singles_of bs) (singles rest) k) (numbers_front n (singles_of cs) (singles rest2) l) in
      let more = same_numbered (n + length (singles_of bs)) rest rest2 a.2 (numbers_back n (n + length (singles_of bs)) (singles_of bs) (singles rest) refl k)
      (numbers_back n (n + length (singles_of bs)) (singles_of cs) (singles rest2) (ap (λ i. n + i) first.long) l) in
      record { same = ap (λ z. Choose z bs rest) a.0 ∙ ap (λ z. Choose x z rest) first.same ∙ ap (Choose x cs) more.same; long = joined_long (singles_of bs) (singles_of cs) (singles rest) (singles rest2) first.long more.long }
  same_numbered n (Loop name body rest) (Loop other body2 rest2) a k l =
      let first = same_numbered n body body2 a.1 (numbers_front n (singles body) (singles rest) k) (numbers_front n (singles body2) (singles rest2) l) in
      let more = same_numbered (n + length (singles body)) rest rest2 a.2 (numbers_back n (n + length (singles body)) (singles body) (singles rest) refl k)
      (numbers_back n (n + length (singles body)) (singles body2) (singles rest2) (ap (λ i. n + i) first.long) l) in
      record { same = ap (λ z. Loop z body rest) a.0 ∙ ap (λ z. Loop other z rest) first.same ∙ ap (Loop other body2) more.same; long = joined_long (singles body) (singles body2) (singles rest) (singles rest2) first.long more.long }
  same_numbered n (Again name rest) (Again other rest2) a k l =
      let more = same_numbered n rest rest2 a.1 k l in record { same = ap (λ z. Again z rest) a.0 ∙ ap (Again other) more.same; long = more.long }
  same_numbered n (Parallel bs rest) (Parallel cs rest2) a k l =
      let first = all_same_numbered n bs cs a.0 (numbers_front n (singles_of bs) (singles rest) k) (numbers_front n (singles_of cs) (singles rest2) l) in
      let more = same_numbered (n + length (singles_of bs)) rest rest2 a.1 (numbers_back n (n + length (singles_of bs)) (singles_of bs) (singles rest) refl k)
      (numbers_back n (n + length (singles_of bs)) (singles_of cs) (singles rest2) (ap (λ i. n + i) first.long) l) in
      record { same = ap (λ z. Parallel z rest) first.same ∙ ap (Parallel cs) more.same; long = joined_long (singles_of bs) (singles_of cs) (singles rest) (singles rest2) first.long more.long }
  same_numbered n (Call name roles rest) (Call other roles2 rest2) a k l =
      let more = same_numbered n rest rest2 a.1 k l in record { same = ap (λ z. Call z roles rest) a.0.0 ∙ ap (λ z. Call other z rest) a.0.1 ∙ ap (Call other roles2) more.same; long = more.long }
  same_numbered n _ _ a k l = absurd a

  all_same_numbered : (n : ℕ) (bs cs : Bodies) → AllAlike bs cs → IsNumberedFrom n (singles_of bs) → IsNumberedFrom n (singles_of cs) → AreSame bs cs (singles_of bs) (singles_of cs)
  all_same_numbered n NoMore NoMore a k l = record { same = refl; long = refl }
  all_same_numbered n (Or b bs) (Or c cs) a k l =
      let first = same_numbered n b c a.0 (numbers_front n (singles b) (singles_of bs) k) (numbers_front n (singles c) (singles_of cs) l) in
      let more = all_same_numbered (n + length (singles b)) bs cs a.1 (numbers_back n (n + length (singles b)) (singles b) (singles_of bs) refl k)
      (numbers_back n (n + length (singles b)) (singles c) (singles_of cs) (ap (λ i. n + i) first.long) l) in
      record { same = ap (λ z. Or z bs) first.same ∙ ap (Or c) more.same; long = joined_long (singles b) (singles c) (singles_of bs) (singles_of cs) first.long more.long }
  all_same_numbered n _ _ a k l = absurd a

pub expansions_are_one : ExpansionsAreOne
expansions_are_one parts a b x y =
    let some : Some y.main ≡ Some x.main = sym y.first ∙ x.first in
    let one : y.main ≡ x.main = cc in
    let e = subst (λ (p : Part). Expands parts expansion.themselves p.body End b) one y.expands in
    (same_numbered 1 a b (alike x.expands e tt) x.numbered y.numbered).same
