-- What an expansion keeps of the protocols that it enters: its blocks are nested no deeper than was counted, its roles are
-- those that stand for roles of the text, and its names are names of the texts.
use Rattle.std.proofs.Common.{◌≡◌, ℕ, ◌+◌, ◌<◌, ◌≤◌, false, List, [], ◌∷◌, ◌++◌, length, get_or, Some, None, refl, sym, ap, subst, ◌∙◌, ◌⊎◌, inl, inr, ⊎_elim, arith}
use Rattle.std.specs.Prelude.{slice_get, nat_lt}
use Rattle.std.proofs.Math.Nat.{le-max_left, le-max_right, max-le}
use Rattle.std.proofs.lemmas.Bool.Decides.{nat_tests}
use Rattle.rcv_tree.specs.Names.{name_at}
use Rattle.rcv_model.specs.Text.{Body, End, Single, Choose, Loop, Again, Parallel, Call, Bodies, NoMore, Or}
use Rattle.rcv_model.specs.Net.{IsIn}
use Rattle.rcv_module.specs.Parts.{Part}
use Rattle.rcv_module.specs.Form.{AreArguments, IsFilled}
use Rattle.rcv_module.specs.Sizes as sizes
use Rattle.rcv_module.specs.Sizes.{Size, nothing, heading, opened, joined, blamed, AreMarks, first_deep}
use Rattle.rcv_module.specs.Refusing.{IsSmall}
use Rattle.rcv_module.specs.Expansion as expansion
use Rattle.rcv_module.specs.Expansion.{Stands, themselves, called_with, Expands, AllExpand}
use Rattle.rcv_module.proofs.Sites.{IsAmong}
use Rattle.rcv_module.proofs.Walking.{named_once}
use Rattle.rcv_module.proofs.Entered.{EntersFull}
use Rattle.rcv_module.proofs.Fitting.{Fits, AllFit, PartsFit, StandWell, argument_in, called_well}
use Rattle.rcv_module.proofs.Points.{never_first}
use Rattle.rcv_grammar.specs.Printable.{IsName, IsPrintableBody, ArePrintableBlocks, SomeBlocks, TwoBlocks}
use Rattle.rcv_grammar.proofs.Mentioned.{Mentions, SomeMentions, AreDisjoint, HasDisjointLanes}
use Rattle.rcv_grammar.proofs.Nesting.{Nests, AllNest}

-- ---- nested blocks

-- A size only grows.
mutual
  grows : {parts : List Part} {d : ℕ} {s t : Size} {b : Body} {ends : List Size} → sizes.Passes parts d s b ends t → s.blocks ≤ t.blocks
  grows sizes.at_end = omega arith
  grows (sizes.message p) = grows p
  grows (sizes.choice a p) = let x = all_grow a in let y = grows p in omega (arith, x, y)
  grows {d = d} {s = s} (sizes.loop a p) =
      let x = grows a in let y = grows p in let z = le-max_left s.blocks (d + 1) in omega (arith, x, y, z)
  grows (sizes.again p) = grows p
  grows (sizes.beside a p) = let x = all_grow a in let y = grows p in omega (arith, x, y)
  grows {d = d} {s = s} (sizes.call {z = z} q j a r) =
      let x = grows r in let y = le-max_left s.blocks (d + z.blocks) in omega (arith, x, y)

  all_grow : {parts : List Part} {d : ℕ} {s t : Size} {bs : Bodies} {ends : List Size} → sizes.AllPass parts d s bs ends t → s.blocks ≤ t.blocks
  all_grow sizes.no_more = omega arith
  all_grow {d = d} {s = s} (sizes.one_more a p) =
      let x = grows a in let y = all_grow p in let z = le-max_left s.blocks d in omega (arith, x, y, z)

-- Where a text is entered in so many open blocks, and no more than 32 are counted, the expansion has no more.
mutual
  nests_counted : {parts : List Part} {st : Stands} {b next w : Body} {d : ℕ} {s t : Size} {ends : List Size} (c k : ℕ) → k ≡ c + d
      → Expands parts st b next w → sizes.Passes parts d s b ends t → c + t.blocks ≤ 32 → Nests k next → Nests k w
  nests_counted c k same expansion.at_end sizes.at_end few more = more
  nests_counted c k same (expansion.message q e) (sizes.message p) few more = nests_counted c k same e p few more
  nests_counted c k same (expansion.choice es e) (sizes.choice a p) few more =
      let x = grows p in
      (all_nest_counted c k (omega (arith, same)) es a (omega (arith, x, few)), nests_counted c k same e p few more)
  nests_counted {d = d} {s = s} c k same (expansion.loop e f) (sizes.loop a p) few more =
      let x = grows a in let y = grows p in let z = le-max_right s.blocks (d + 1) in (
        omega (arith, same, x, y, z, few),
        nests_counted c (k + 1) (omega (arith, same)) e a (omega (arith, y, few)) tt,
        nests_counted c k same f p few more,
      )
  nests_counted c k same (expansion.again e) (sizes.again p) few more = nests_counted c k same e p few more
  nests_counted c k same (expansion.beside es e) (sizes.beside a p) few more =
      let x = grows p in
      (all_nest_counted c k (omega (arith, same)) es a (omega (arith, x, few)), nests_counted c k same e p few more)
  nests_counted {parts} {st} {d = d} {s = s} c k same (expansion.call {behind = behind} {whole = whole} {name = name} {roles = roles} p i e f) (sizes.call {z = z} q j a r) few more =
      let e' : Expands parts (called_with st roles) q.body behind whole = subst (λ (x : Part). Expands parts (called_with st roles) x.body behind whole) (named_once parts name p q i j) e in
      let x = grows r in
      let y = le-max_right s.blocks (d + z.blocks) in
      nests_counted (c + d) k (omega (arith, same)) e' a (omega (arith, x, y, few)) (nests_counted c k same f r few more)

  all_nest_counted : {parts : List Part} {st : Stands} {bs cs : Bodies} {d : ℕ} {s t : Size} {ends : List Size} (c k : ℕ) → k + 1 ≡ c + d
      → AllExpand parts st bs cs → sizes.AllPass parts d s bs ends t → c + t.blocks ≤ 32 → AllNest k cs
  all_nest_counted c k same expansion.no_more sizes.no_more few = tt
  all_nest_counted {d = d} {s = s} c k same (expansion.one_more e es) (sizes.one_more a p) few =
      let x = grows a in let y = all_grow p in let z = le-max_right s.blocks d in (
        omega (arith, same, x, y, z, few),
        nests_counted c (k + 1) same e a (omega (arith, y, few)) tt,
        all_nest_counted c k same es p few,
      )

no_left : {A : Type 0} (xs ys : List A) → xs ++ ys ≡ [] → xs ≡ []
no_left [] ys e = refl
no_left (x ∷ xs) ys e = absurd (cc)

no_right : {A : Type 0} (xs ys : List A) → xs ++ ys ≡ [] → ys ≡ []
no_right [] ys e = e
no_right (x ∷ xs) ys e = absurd (cc)

-- Of a text without calls its own blocks are counted.
mutual
  own_blocks : {parts : List Part} {d : ℕ} {s t : Size} {b : Body} {ends : List Size} (k : ℕ) → k ≡ d → ends ≡ [] → sizes.Passes parts d s b ends t
      → Nests k b → s.blocks ≤ 32 → t.blocks ≤ 32
  own_blocks k same n sizes.at_end h few = few
  own_blocks k same n (sizes.message p) h few = own_blocks k same n p h few
  own_blocks k same n (sizes.choice {inner = inner} {ends = ends} a p) h few =
      own_blocks k same (no_right inner ends n) p h.1 (all_own_blocks k (omega (arith, same)) (no_left inner ends n) a h.0 few)
  own_blocks {d = d} {s = s} k same n (sizes.loop {inner = inner} {ends = ends} a p) h few =
      let deep : d + 1 ≤ 32 = let room = h.0 in omega (arith, room, same) in
      own_blocks k same (no_right inner ends n) p h.2
      (own_blocks (k + 1) (omega (arith, same)) (no_left inner ends n) a h.1 (max-le {a = s.blocks} {b = d + 1} {k = 32} few deep))
  own_blocks k same n (sizes.again p) h few = own_blocks k same n p h few
  own_blocks k same n (sizes.beside {inner = inner} {ends = ends} a p) h few =
      own_blocks k same (no_right inner ends n) p h.1 (all_own_blocks k (omega (arith, same)) (no_left inner ends n) a h.0 few)
  own_blocks k same n (sizes.call q j a r) h few = absurd (cc)

  all_own_blocks : {parts : List Part} {d : ℕ} {s t : Size} {bs : Bodies} {ends : List Size} (k : ℕ) → k + 1 ≡ d → ends ≡ [] → sizes.AllPass parts d s bs ends t
      → AllNest k bs → s.blocks ≤ 32 → t.blocks ≤ 32
  all_own_blocks k same n sizes.no_more h few = few
  all_own_blocks {d = d} {s = s} k same n (sizes.one_more {inner = inner} {ends = ends} a p) h few =
      let deep : d ≤ 32 = let room = h.0 in omega (arith, room, same) in
      all_own_blocks k same (no_right inner ends n) p h.2
      (own_blocks (k + 1) same (no_left inner ends n) a h.1 (max-le {a = s.blocks} {b = d} {k = 32} few deep))

blames_whole : (s : Size) (ends : List Size) (whole : Size) → IsAmong whole (blamed (s ∷ ends) whole)
blames_whole s [] whole = inl refl
blames_whole s (r ∷ ends) whole = inr (blames_whole r ends whole)

-- A small module's expansion is nested no deeper than 32, where its first protocol's text is.
pub few_blocks : (parts : List Part) (main : Part) (w : Body) → slice_get parts 0 ≡ Some main → Nests 1 main.body → IsSmall parts
    → Expands parts themselves main.body End w → Nests 1 w
few_blocks parts main w first own small e =
    let marks = small.1 in
    let same : Some marks.main ≡ Some main = sym marks.first ∙ first in
    let one : marks.main ≡ main = cc in
    let p : sizes.Passes parts 1 heading main.body marks.ends marks.whole = subst (λ (x : Part). sizes.Passes parts 1 heading x.body marks.ends marks.whole) one marks.passes in
    let few : marks.whole.blocks ≤ 32 = go marks.ends refl p in
    nests_counted 0 1 refl e p (omega (arith, few)) tt
  where
    go : (ends : List Size) → small.1.ends ≡ ends → sizes.Passes parts 1 heading main.body small.1.ends small.1.whole → small.1.whole.blocks ≤ 32
    go [] none p = own_blocks 1 refl none p own (omega arith)
    go (s ∷ ends) some p =
        let none : first_deep (blamed (s ∷ ends) small.1.whole) ≡ None = ap (λ l. first_deep (blamed l small.1.whole)) (sym some) ∙ ap first_deep (sym small.1.blames) ∙ small.2 in
        let fits : nat_lt 32 small.1.whole.blocks ≡ false = never_first (λ (z : Size). nat_lt 32 z.blocks) 0 (blamed (s ∷ ends) small.1.whole) small.1.whole none (blames_whole s ends small.1.whole) in
        grind (arith, nat_tests)

-- ---- roles

mutual
  mention_inside : (parts : List Part) (n r : ℕ) (b : Body) → Fits parts n b → Mentions r b → r < n
  mention_inside parts n r End f h = absurd h
  mention_inside parts n r (Single label sorts s t p rest) f (inl (inl e)) = subst (λ x. x < n) e f.0.1
  mention_inside parts n r (Single label sorts s t p rest) f (inl (inr e)) = subst (λ x. x < n) e f.0.2
  mention_inside parts n r (Single label sorts s t p rest) f (inr h) = mention_inside parts n r rest f.1 h
  mention_inside parts n r (Choose s bs rest) f (inl (inl e)) = subst (λ x. x < n) e f.0
  mention_inside parts n r (Choose s bs rest) f (inl (inr h)) = mention_inside_of parts n r bs f.1 h
  mention_inside parts n r (Choose s bs rest) f (inr h) = mention_inside parts n r rest f.2 h
  mention_inside parts n r (Loop name body rest) f (inl h) = mention_inside parts n r body f.0 h
  mention_inside parts n r (Loop name body rest) f (inr h) = mention_inside parts n r rest f.1 h
  mention_inside parts n r (Again name rest) f h = mention_inside parts n r rest f h
  mention_inside parts n r (Parallel bs rest) f (inl h) = mention_inside_of parts n r bs f.0 h
  mention_inside parts n r (Parallel bs rest) f (inr h) = mention_inside parts n r rest f.1 h
  mention_inside parts n r (Call name rs rest) f (inl h) = within rs f.0.0 h
    where
      within : (rs : List ℕ) → AreArguments n rs → IsIn r rs → r < n
      within [] a i = absurd i
      within (x ∷ rs) a (inl e) = subst (λ y. y < n) (sym e) a.0
      within (x ∷ rs) a (inr i) = within rs a.2 i
  mention_inside parts n r (Call name rs rest) f (inr h) = mention_inside parts n r rest f.1 h

  mention_inside_of : (parts : List Part) (n r : ℕ) (bs : Bodies) → AllFit parts n bs → SomeMentions r bs → r < n
  mention_inside_of parts n r NoMore f h = absurd h
  mention_inside_of parts n r (Or b bs) f (inl h) = mention_inside parts n r b f.0 h
  mention_inside_of parts n r (Or b bs) f (inr h) = mention_inside_of parts n r bs f.1 h

-- A role that an expansion mentions is what one of the text stands for, or what follows mentions it.
abbrev StandsFor : Stands → ℕ → (ℕ → Type 0) → Type 0
StandsFor st r mentions = (q : ℕ) × mentions q × (st q ≡ r)

mutual
  mention_from : {parts : List Part} {st : Stands} {b next w : Body} (n r : ℕ) → PartsFit parts → Expands parts st b next w → Fits parts n b → Mentions r w
      → StandsFor st r (λ q. Mentions q b) ⊎ Mentions r next
  mention_from n r all expansion.at_end f h = inr h
  mention_from n r all (expansion.message {s = s} {r = t} q e) f (inl (inl h)) = inl (s, inl (inl refl), h)
  mention_from n r all (expansion.message {s = s} {r = t} q e) f (inl (inr h)) = inl (t, inl (inr refl), h)
  mention_from n r all (expansion.message q e) f (inr h) = ⊎_elim (λ a. inl (a.0, inr a.1, a.2)) (λ b. inr b) (mention_from n r all e f.1 h)
  mention_from n r all (expansion.choice {s = s} es e) f (inl (inl h)) = inl (s, inl (inl refl), h)
  mention_from n r all (expansion.choice es e) f (inl (inr h)) = let a = mention_from_some n r all es f.1 h in inl (a.0, inl (inr a.1), a.2)
  mention_from n r all (expansion.choice es e) f (inr h) = ⊎_elim (λ a. inl (a.0, inr a.1, a.2)) (λ b. inr b) (mention_from n r all e f.2 h)
  mention_from n r all (expansion.loop e x) f (inl h) = ⊎_elim (λ a. inl (a.0, inl a.1, a.2)) (λ b. absurd b) (mention_from n r all e f.0 h)
  mention_from n r all (expansion.loop e x) f (inr h) = ⊎_elim (λ a. inl (a.0, inr a.1, a.2)) (λ b. inr b) (mention_from n r all x f.1 h)
  mention_from n r all (expansion.again e) f h = mention_from n r all e f h
  mention_from n r all (expansion.beside es e) f (inl h) = let a = mention_from_some n r all es f.0 h in inl (a.0, inl a.1, a.2)
  mention_from n r all (expansion.beside es e) f (inr h) = ⊎_elim (λ a. inl (a.0, inr a.1, a.2)) (λ b. inr b) (mention_from n r all e f.1 h)
  mention_from {parts} n r all (expansion.call {roles = rs} p i e x) f h = ⊎_elim
      (λ a.
      let lt : a.0 < length rs = subst (λ k. a.0 < k) (sym (f.0.1 p i)) (mention_inside parts p.roles a.0 p.body (all i.0 p i.2) a.1) in
      inl (get_or rs a.0 0, inl (argument_in a.0 rs lt), a.2))
      (λ y. ⊎_elim (λ a. inl (a.0, inr a.1, a.2)) (λ b. inr b) (mention_from n r all x f.1 y))
      (mention_from p.roles r all e (all i.0 p i.2) h)

  mention_from_some : {parts : List Part} {st : Stands} {bs cs : Bodies} (n r : ℕ) → PartsFit parts → AllExpand parts st bs cs → AllFit parts n bs → SomeMentions r cs
      → StandsFor st r (λ q. SomeMentions q bs)
  mention_from_some n r all expansion.no_more f h = absurd h
  mention_from_some n r all (expansion.one_more e es) f (inl h) = ⊎_elim (λ a. (a.0, inl a.1, a.2)) (λ b. absurd b) (mention_from n r all e f.0 h)
  mention_from_some n r all (expansion.one_more e es) f (inr h) = let a = mention_from_some n r all es f.1 h in (a.0, inr a.1, a.2)

blocks_disjoint : {parts : List Part} {st : Stands} {bs cs : Bodies} (n roles : ℕ) → PartsFit parts → StandWell st n roles → AllExpand parts st bs cs → AllFit parts n bs → AreDisjoint bs → AreDisjoint cs
blocks_disjoint n roles all well expansion.no_more f share = tt
blocks_disjoint {parts} {st} n roles all well (expansion.one_more {b = b} {c = c} {bs = bs} {cs = cs} e es) f share = (apart, blocks_disjoint n roles all well es f.1 share.1)
  where
    apart : (r : ℕ) → Mentions r c → SomeMentions r cs → ⊥
    apart r h k =
        let y = mention_from_some n r all es f.1 k in
        let x : StandsFor st r (λ q. Mentions q b) ⊎ ⊥ = mention_from n r all e f.0 h in
        go y.0 y.1 y.2 x
      where
        go : (q : ℕ) → SomeMentions q bs → st q ≡ r → StandsFor st r (λ q. Mentions q b) ⊎ ⊥ → ⊥
        go q i same (inl x) =
            let one : x.0 ≡ q = well.differ x.0 q (mention_inside parts n x.0 b f.0 x.1) (mention_inside_of parts n q bs f.1 i) (x.2 ∙ sym same) in
            share.0 q (subst (λ z. Mentions z b) one x.1) i
        go q i same (inr x) = x

-- a text in which no par stands in the text's own block
filled_lanes : (roles : ℕ) (recs bare : List (List ℕ)) (b : Body) → IsFilled roles recs bare b → HasDisjointLanes b
filled_lanes roles recs bare End f = tt
filled_lanes roles recs bare (Single label sorts s r p rest) f = filled_lanes roles recs [] rest f
filled_lanes roles recs bare (Choose s bs rest) f = filled_lanes roles recs [] rest f.1
filled_lanes roles recs bare (Loop name body rest) f = filled_lanes roles recs [] rest f.2
filled_lanes roles recs bare (Again name End) f = tt
filled_lanes roles recs bare (Again name rest) f = absurd f.2
filled_lanes roles recs bare (Parallel bs rest) f = absurd f
filled_lanes roles recs bare (Call name rs rest) f = filled_lanes roles recs [] rest f.1

pub lanes_kept : {parts : List Part} {st : Stands} {b next w : Body} (n roles : ℕ) → PartsFit parts → StandWell st n roles → (e : Expands parts st b next w) → EntersFull e
    → Fits parts n b → HasDisjointLanes b → HasDisjointLanes next → HasDisjointLanes w
lanes_kept n roles all well expansion.at_end x f g h = h
lanes_kept n roles all well (expansion.message q e) x f g h = lanes_kept n roles all well e x f.1 g h
lanes_kept n roles all well (expansion.choice es e) x f g h = lanes_kept n roles all well e x.1 f.2 g h
lanes_kept n roles all well (expansion.loop e k) x f g h = lanes_kept n roles all well k x.1 f.1 g h
lanes_kept n roles all well (expansion.again e) x f g h = lanes_kept n roles all well e x f g h
lanes_kept n roles all well (expansion.beside es e) x f g h = (blocks_disjoint n roles all well es f.0 g.0, lanes_kept n roles all well e x.1 f.1 g.1 h)
lanes_kept {parts} {st} n roles all well (expansion.call {roles = rs} p i e k) x f g h =
    lanes_kept p.roles roles all (called_well st n roles p.roles rs well f.0.0 (f.0.1 p i)) e x.1 (all i.0 p i.2) (filled_lanes p.roles [] [] p.body x.0.0)
    (lanes_kept n roles all well k x.2 f.1 g h)

-- ---- names

-- Each protocol's text can be printed with the names of its roles.
abbrev pub PartsPrint : List Part → Type 0
PartsPrint parts = (i : ℕ) (p : Part) → slice_get parts i ≡ Some p → (names : List (List ℕ)) × IsPrintableBody names p.body

module _ (roles : List (List ℕ)) (named : (r : ℕ) → r < length roles → IsName (name_at roles r)) where
  mutual
    pub expansion_prints : {parts : List Part} {st : Stands} {b next w : Body} (n : ℕ) (own : List (List ℕ)) → PartsFit parts → PartsPrint parts → StandWell st n (length roles)
        → Expands parts st b next w → Fits parts n b → IsPrintableBody own b → IsPrintableBody roles next → IsPrintableBody roles w
    expansion_prints n own all print well expansion.at_end f h more = more
    expansion_prints {st = st} n own all print well (expansion.message {s = s} {r = r} q e) f h more =
        (h.0, h.1, named (st s) (well.inside s f.0.1), named (st r) (well.inside r f.0.2), expansion_prints n own all print well e f.1 h.4 more)
    expansion_prints {st = st} n own all print well (expansion.choice {s = s} es e) f h more =
        (named (st s) (well.inside s f.0), some_print n own all print well es f.1 h.1, expansion_prints n own all print well e f.2 h.2 more)
    expansion_prints n own all print well (expansion.loop e x) f h more =
        (h.0, expansion_prints n own all print well e f.0 h.1 tt, expansion_prints n own all print well x f.1 h.2 more)
    expansion_prints n own all print well (expansion.again e) f h more = (h.0, expansion_prints n own all print well e f h.1 more)
    expansion_prints n own all print well (expansion.beside es e) f h more =
        (two_print n own all print well es f.0 h.0, expansion_prints n own all print well e f.1 h.1 more)
    expansion_prints {st = st} n own all print well (expansion.call {roles = rs} p i e x) f h more =
        let text = print i.0 p i.2 in
        expansion_prints p.roles text.0 all print (called_well st n (length roles) p.roles rs well f.0.0 (f.0.1 p i)) e (all i.0 p i.2) text.1
        (expansion_prints n own all print well x f.1 h.2 more)

    all_print : {parts : List Part} {st : Stands} {bs cs : Bodies} (n : ℕ) (own : List (List ℕ)) → PartsFit parts → PartsPrint parts → StandWell st n (length roles)
        → AllExpand parts st bs cs → AllFit parts n bs → ArePrintableBlocks own bs → ArePrintableBlocks roles cs
    all_print n own all print well expansion.no_more f h = tt
    all_print n own all print well (expansion.one_more e es) f h =
        (expansion_prints n own all print well e f.0 h.0 tt, all_print n own all print well es f.1 h.1)

    some_print : {parts : List Part} {st : Stands} {bs cs : Bodies} (n : ℕ) (own : List (List ℕ)) → PartsFit parts → PartsPrint parts → StandWell st n (length roles)
        → AllExpand parts st bs cs → AllFit parts n bs → SomeBlocks own bs → SomeBlocks roles cs
    some_print n own all print well expansion.no_more f h = absurd h
    some_print n own all print well (expansion.one_more e es) f h =
        (expansion_prints n own all print well e f.0 h.0 tt, all_print n own all print well es f.1 h.1)

    two_print : {parts : List Part} {st : Stands} {bs cs : Bodies} (n : ℕ) (own : List (List ℕ)) → PartsFit parts → PartsPrint parts → StandWell st n (length roles)
        → AllExpand parts st bs cs → AllFit parts n bs → TwoBlocks own bs → TwoBlocks roles cs
    two_print n own all print well expansion.no_more f h = absurd h
    two_print n own all print well (expansion.one_more e es) f h =
        (expansion_prints n own all print well e f.0 h.0 tt, some_print n own all print well es f.1 h.1)
