-- The machine goes through expressions of the grammar.
use Rattle.std.proofs.Common.{◌≡◌, ℕ, Bool, true, false, cond, codes, List, ◌∷◌, refl, sym, ap, subst, ◌∙◌, arith}
use Rattle.std.proofs.Common.{◌&&◌, ◌||◌, not, drop, Option, Some, None, is_some, bytes_eq}
use Rattle.std.proofs.Math.Bool.{or-not_self}
use Rattle.std.proofs.lemmas.Bool.Decides.{nat_tests}
use Rattle.std.proofs.lemmas.Slice.Eq.{bytes_eq-Decides}
use Rattle.rcv_model.specs.Script.{Expr, TheValue, TheAttempt, Variable, Negated, Times, Plus, Minus}
use Rattle.rcv_script.specs.declared.sign.Sign.TheVariants as signs
use Rattle.rcv_script.specs.Symbols.{Symbol, Is, Word, Number}
use Rattle.rcv_script.specs.Grammar.{WrittenAtom, Digits, Named, Signed, Inside, MoreAtoms, NoAtom, TimesAtom}
use Rattle.rcv_script.specs.Grammar.{MoreProducts, NoProduct, PlusProduct, MinusProduct, WrittenSum, SumOf, atom_text}
use Rattle.rcv_script.specs.Grammar.{atoms_text, products_text, sum_text}
use Rattle.rcv_script.specs.Meaning.{word_says, atom_says, product_says, terms_say, sum_says}
use Rattle.rcv_script.specs.Machine.{Place, Item, This, AnAtom, Factors, Terms, On, unless, deeper, a_product, a_sum}
use Rattle.rcv_script.specs.Machine.{variable, place_of, takes_bare}
use Rattle.rcv_script.specs.Table.{is_among, is_own_word, is_deciding, role_of, label, line_so_far, variables}
use Rattle.rcv_script.specs.Table.{begins_an_atom, minuses, parentheses, with_signs, nesting}
use Rattle.rcv_script.proofs.Deriving.{AllLines}
use Rattle.rcv_script.proofs.Least.{Frame, least_code}
use Rattle.rcv_script.proofs.Viewing.{view, Joins, word_joins, IsLonger, is_longer, stays}
use Rattle.rcv_script.proofs.Knowing.{Told, ToldBy, tell, along, Computes, Over, onward}
use Rattle.rcv_script.proofs.Named.{some_name}

-- the symbol at which a product or a sum ends
abbrev ends_product : List Symbol → Type 0
ends_product (Is signs.Times ∷ ts) = ⊥
ends_product _ = Unit {0}

abbrev pub ends_sum : List Symbol → Type 0
ends_sum (Is signs.Times ∷ ts) = ⊥
ends_sum (Is signs.Plus ∷ ts) = ⊥
ends_sum (Is signs.Minus ∷ ts) = ⊥
ends_sum _ = Unit {0}

product_ends : (more : MoreProducts) (us : List Symbol) → ends_sum us → ends_product (products_text more us)
product_ends NoProduct (Is signs.Times ∷ us) h = h
product_ends _ us h = tt

module _ (frame : Frame) (ss : AllLines) where
  -- what is awaited behind an expression goes on
  abbrev pub Follows : Item → List Symbol → List Symbol → Type 0
  Follows i back us = (next : List Symbol) → Over back next → Told frame i next us ss

  -- an atom begins; one without a sign before it; one is over
  abbrev Opens : Place → List Symbol → Type 0
  Opens p back = Computes frame p (view back) × (begins_an_atom back ≡ true) × (p.depth ≡ nesting back)

  abbrev pub Starts : Place → List Symbol → Type 0
  Starts p back =
      Computes frame p (view back) × (begins_an_atom back ≡ true) × (minuses back ≡ 0) × (p.depth ≡ with_signs (parentheses back))

  abbrev Rests : Place → List Symbol → Type 0
  Rests p back = Computes frame p (view back) × (begins_an_atom back ≡ false) × (p.depth ≡ with_signs (parentheses back))

  rests : (p : Place) (back next : List Symbol) → Starts p back → Over back next → Rests p next
  rests p back next h o = (subst (Computes frame p) (sym o.same) h.0, o.whole, h.3 ∙ sym (ap with_signs o.braces))

  -- behind a mark that goes on with an expression
  marked : (p : Place) (back us : List Symbol) (m : Symbol) (i : Item) → Rests p back → Joins back m
      → begins_an_atom (m ∷ back) ≡ true → minuses (m ∷ back) ≡ 0 → parentheses (m ∷ back) ≡ parentheses back
      → Follows i back us → Starts p (m ∷ back) × Follows i (m ∷ back) us
  marked p back us m i h joins begins none braces f = let same = stays back m joins h.0.0 in
      let starts : Starts p (m ∷ back) =
      (subst (Computes frame p) (sym same) h.0, begins, none, h.2 ∙ sym (ap with_signs braces)) in
      (starts, λ next o. f next (onward same braces o))

  word_told : (w : List ℕ) (p : Place) (k : Expr → Item) (back us : List Symbol) → Opens p back
      → Follows (k (word_says p.names w)) back us → Told frame (AnAtom p k) back (Word w ∷ us) ss
  word_told w p k back us h f = go (bytes_eq w (codes "value")) (bytes_eq w (codes "attempt")) (place_of p.names w) refl refl refl
    where
      line : IsLonger (line_so_far back)
      line = is_longer (line_so_far back) h.0.0

      least : least_code frame back (Word w) ≡ cond ((not (is_own_word w) && true && not (is_among w (variables back)))
          || (is_deciding back && bytes_eq w (codes "value"))) 33 (cond (not (is_deciding back) && bytes_eq w (codes "attempt")) 34
          (cond (not (is_deciding back) && bytes_eq w (codes "value") && takes_bare frame.messages (role_of frame.roles back) (label back)) 35 37))
      least = rw (h.0.0, h.1, line.one (codes "role"), line.one (codes "send"), line.one (codes "pick"))
          (rw (line.one (codes "on"), line.one (codes "var"), line.three, line.none, or-not_self) refl)

      named : (o : Option ℕ) → place_of p.names w ≡ o → is_among w (variables back) ≡ is_some o
      named o eo = ap (is_among w) (sym h.0.1) ∙ sym (some_name w p.names) ∙ ap is_some eo

      said : (e : Expr) → word_says p.names w ≡ e → Told frame (k e) (Word w ∷ back) us ss
      said e is = subst (λ (x : Expr). Told frame (k x) (Word w ∷ back) us ss) is (f (Word w ∷ back)
          (record { same = stays back (Word w) (word_joins back w h.0.0) h.0.0; braces = refl; whole = line.two }))

      go : (v a : Bool) (o : Option ℕ) → bytes_eq w (codes "value") ≡ v → bytes_eq w (codes "attempt") ≡ a → place_of p.names w ≡ o
          → ToldBy frame (cond v (unless p.value (On (k TheValue))) (cond a (unless p.attempt (On (k TheAttempt))) (variable o k)))
          back (Word w) (λ j. Told frame j (Word w ∷ back) us ss)
      go true a o ev ea eo =
          let other : bytes_eq w (codes "attempt") ≡ false = rw ((bytes_eq-Decides w (codes "value")).0 ev) refl in
          tell frame p.value (k TheValue) back (Word w) (λ j. Told frame j (Word w ∷ back) us ss)
          (least ∙ rw (h.0.2, ev, other) (grind (arith, nat_tests))) (λ ok. said TheValue (rw ev refl))
      go false true o ev ea eo = tell frame p.attempt (k TheAttempt) back (Word w) (λ j. Told frame j (Word w ∷ back) us ss)
          (least ∙ rw (h.0.3, ev, ea) (grind (arith, nat_tests))) (λ ok. said TheAttempt (rw (ev, ea) refl))
      go false false None ev ea eo = least ∙ rw (ev, ea, named None eo) refl
      go false false (Some n) ev ea eo =
          (least ∙ rw (ev, ea, named (Some n) eo) (grind (arith, nat_tests)), said (Variable n) (rw (ev, ea, eo) refl))

  abbrev AtomTold : WrittenAtom → Type 0
  AtomTold a = (p : Place) (k : Expr → Item) (back us : List Symbol) → Opens p back → Follows (k (atom_says p.names a)) back us
      → Told frame (AnAtom p k) back (atom_text a us) ss

  abbrev AtomsTold : MoreAtoms → Type 0
  AtomsTold more = (p : Place) (left : Expr) (k : Expr → Item) (back us : List Symbol) → Rests p back → ends_product us
      → Follows (k (product_says p.names left more)) back us → Told frame (Factors p left k) back (atoms_text more us) ss

  abbrev TermsTold : MoreProducts → Type 0
  TermsTold more = (p : Place) (left : Expr) (k : Expr → Item) (back us : List Symbol) → Rests p back → ends_sum us
      → Follows (k (terms_say p.names left more)) back us → Told frame (Terms p left k) back (products_text more us) ss

  product_told : (a : WrittenAtom) (more : MoreAtoms) → AtomTold a → AtomsTold more → (p : Place) (so : Expr → Expr) (k : Expr → Item)
      → (back us : List Symbol) → Starts p back → ends_product us
      → Follows (k (product_says p.names (so (atom_says p.names a)) more)) back us
      → Told frame (AnAtom p (λ e. Factors p (so e) k)) back (atom_text a (atoms_text more us)) ss
  product_told a more first others p so k back us h e f =
      first p (λ x. Factors p (so x) k) back (atoms_text more us) (h.0, h.1, omega arith) (λ next o.
      others p (so (atom_says p.names a)) k next us (rests p back next h o) e (λ last o'. f last (onward o.same o.braces o')))

  term_told : (a : WrittenAtom) (atoms : MoreAtoms) (more : MoreProducts) → AtomTold a → AtomsTold atoms → TermsTold more
      → (p : Place) (so : Expr → Expr) (k : Expr → Item) (back us : List Symbol) → Starts p back → ends_sum us
      → Follows (k (terms_say p.names (so (product_says p.names (atom_says p.names a) atoms)) more)) back us
      → Told frame (a_product p (λ e. Terms p (so e) k)) back (atom_text a (atoms_text atoms (products_text more us))) ss
  term_told a atoms more first others rest p so k back us h e f =
      product_told a atoms first others p (λ x. x) (λ x. Terms p (so x) k) back _ h (product_ends more us e) (λ next o.
      rest p _ k next us (rests p back next h o) e (λ last o'. f last (onward o.same o.braces o')))

  mutual
    atom_told : (a : WrittenAtom) → AtomTold a
    atom_told (Digits n) p k back us h f =
        (refl, f (Number n ∷ back) (record { same = stays back (Number n) refl h.0.0; braces = refl; whole = refl }))
    atom_told (Named w) p k back us h f = word_told w p k back us h f
    atom_told (Signed a) p k back us h f = let same = stays back (Is signs.Minus) refl h.0.0 in
        tell frame _ (AnAtom (deeper p) (λ e. k (Negated e))) back (Is signs.Minus) _
        (rw (h.2, h.0.0, h.1, or-not_self (is_deciding back)) (grind (arith, nat_tests))) (λ ok.
        atom_told a (deeper p) (λ e. k (Negated e)) (Is signs.Minus ∷ back) us
        (subst (Computes frame p) (sym same) h.0, refl, rw h.1 (omega (arith, h.2))) (λ next o. f next (onward same refl o)))
    atom_told (Inside s) p k back us h f =
        let same = stays back (Is signs.Left) refl h.0.0 in let c = subst (Computes frame p) (sym same) h.0 in
        let right : Expr → Item = λ e. This (Is signs.Right) (k e) in
        tell frame _ (a_sum (deeper p) right) back (Is signs.Left) _ (rw h.2 (grind (arith, nat_tests))) (λ ok.
        sum_told s (deeper p) right (Is signs.Left ∷ back) (Is signs.Right ∷ us)
        (c, refl, refl, omega (arith, h.2)) tt (λ next o.
        let so = stays next (Is signs.Right) refl (subst (Computes frame p) (sym o.same) c).0 ∙ o.same ∙ same in
        let braces = ap (λ (z : List (List Symbol)). drop 1 z) o.braces in
        along refl (f (Is signs.Right ∷ next) (record { same = so; braces = braces; whole = refl }))))

    atoms_told : (more : MoreAtoms) → AtomsTold more
    atoms_told NoAtom p left k back (Is signs.Times ∷ us) h e f = absurd e
    atoms_told NoAtom p left k back us h e f = f back (record { same = refl; braces = refl; whole = h.1 })
    atoms_told (TimesAtom a more) p left k back us h e f =
        let m = marked p back us (Is signs.Times) _ h refl refl refl refl f in
        along refl (product_told a more (atom_told a) (atoms_told more) p (Times left) k
        (Is signs.Times ∷ back) us m.0 e m.1)

    terms_told : (more : MoreProducts) → TermsTold more
    terms_told NoProduct p left k back (Is signs.Times ∷ us) h e f = absurd e
    terms_told NoProduct p left k back (Is signs.Plus ∷ us) h e f = absurd e
    terms_told NoProduct p left k back (Is signs.Minus ∷ us) h e f = absurd e
    terms_told NoProduct p left k back us h e f = f back (record { same = refl; braces = refl; whole = h.1 })
    terms_told (PlusProduct a atoms more) p left k back us h e f =
        let m = marked p back us (Is signs.Plus) _ h refl refl refl refl f in
        along refl (term_told a atoms more (atom_told a) (atoms_told atoms) (terms_told more) p (Plus left) k _
        us m.0 e m.1)
    terms_told (MinusProduct a atoms more) p left k back us h e f =
        let m = marked p back us (Is signs.Minus) _ h refl refl (rw h.1 refl) refl f in
        along (rw h.1 (rw (h.0.0, or-not_self (is_deciding back)) refl))
        (term_told a atoms more (atom_told a) (atoms_told atoms) (terms_told more) p (Minus left) k _ us m.0 e m.1)

    pub sum_told : (s : WrittenSum) (p : Place) (k : Expr → Item) (back us : List Symbol) → Starts p back → ends_sum us
        → Follows (k (sum_says p.names s)) back us → Told frame (a_sum p k) back (sum_text s us) ss
    sum_told (SumOf a atoms more) p k back us h e f =
        term_told a atoms more (atom_told a) (atoms_told atoms) (terms_told more) p (λ x. x) k back us h e f
