-- A body without calls that has the form, written with the names of its roles, is what the machine takes, and its tree is this
-- same body.
use Rattle.std.proofs.Common.{◌≡◌, ℕ, ◌+◌, ◌<◌, ◌≤◌, Bool, true, false, List, [], ◌∷◌, ◌++◌, length, refl, sym, ap, ap₂, subst, ◌∙◌, ◌⊎◌, inl, inr, ⊎_elim, arith, ◌==◌, ◌||◌, nat_le, not, Some, bytes_eq, length-append}
use Rattle.std.proofs.lemmas.Bool.Decides.{nat_tests}
use Rattle.std.proofs.lemmas.Option.{slice_get-get_or}
use Rattle.std.proofs.lemmas.Slice.Eq.{bytes_eq-Decides}
use Rattle.rcv_tree.specs.Names.{name_at}
use Rattle.rcv_tree.proofs.Naming.{is_placed}
use Rattle.rcv_model.specs.Text.{Body, End, Single, Choose, Loop, Again, Parallel, Call, Bodies, NoMore, Or}
use Rattle.rcv_model.specs.Names.{AreDifferent}
use Rattle.rcv_model.specs.Form.{IsNumberedFrom, HaveEnds, HaveSubjects, HaveSubjectsIn}
use Rattle.rcv_model.specs.Places.{SingleMessage, singles, singles_of, IsNothing, IsNamed, IsFull, AreFull, OthersFull, IsFullText}
use Rattle.rcv_machine.specs.Words.{IsBegun, IsProper, AreProper, place_of, role_at, points, points_of, tree_of, trees_of, IsDeclared, IsFit, AreFit, is_among}
use Rattle.rcv_machine.specs.Words.{Named, nobody, with_role, Place, after_statement, beside, inside, inside_rec, outermost}
use Rattle.rcv_machine.proofs.Knowing.{recent}
use Rattle.rcv_machine.proofs.Naming.{recent_more}
use Rattle.rcv_machine.proofs.Passing.{named_by, named_by_all, Passes, PassAll, PassBeside}
use Rattle.rcv_grammar.specs.Canonical.{written_of, blocks_of}
use Rattle.rcv_grammar.specs.Printable.{IsPrintableBody}
use Rattle.rcv_grammar.proofs.Canonizing.{Knows, knows_more, knows_none}
use Rattle.rcv_grammar.proofs.Mentioned.{Mentions, SomeMentions, AreDisjoint, HasDisjointLanes}
use Rattle.rcv_grammar.proofs.Nesting.{Nests, AllNest}

abbrev Messages : Type 0
Messages = List (ℕ × SingleMessage)

full_depth : (d : ℕ) → d < 32 → nat_le 32 d ≡ false
full_depth d h = grind (arith, nat_tests)

full_points : (n : ℕ) → n < 256 → nat_le 256 n ≡ false
full_points n h = grind (arith, nat_tests)

one_named : (since : Named) (n m : List ℕ) → with_role since n m ≡ true → (m ≡ n) ⊎ (since m ≡ true)
one_named since n m h = go (bytes_eq m n) refl h
  where
    go : (b : Bool) → bytes_eq m n ≡ b → (b || since m) ≡ true → (m ≡ n) ⊎ (since m ≡ true)
    go true e h = inl ((bytes_eq-Decides m n).0 e)
    go false e h = inr h

knows_nothing : Knows [] []
knows_nothing name = ((λ e. absurd cc), (λ e. absurd e))

unreached : (names recs : List (List ℕ)) (name : List ℕ) → Knows names recs → (IsNamed name recs → ⊥) → is_among name names ≡ false
unreached names recs name same none = go (is_among name names) refl
  where
    go : (b : Bool) → is_among name names ≡ b → b ≡ false
    go true e = absurd (none ((same name).0 e))
    go false e = refl

-- what stands behind the first block
others_full : (b : Body) (bs : Bodies) → AreFull [] [] (Or b bs) → OthersFull [] [] bs
others_full b bs h = h.2

others_disjoint : (b : Body) (bs : Bodies) → AreDisjoint (Or b bs) → AreDisjoint bs
others_disjoint b bs h = h.1

others_have_subjects : (n : ℕ) (b : Body) (bs : Bodies) → HaveSubjectsIn n (Or b bs) → HaveSubjectsIn n bs
others_have_subjects n b bs h = h.1

others_nest : (d : ℕ) (b : Body) (bs : Bodies) → AllNest d (Or b bs) → AllNest d bs
others_nest d b bs h = h.2

module _ (roles : List (List ℕ)) (differ : AreDifferent roles) where
  same_role : (r q : ℕ) → r < length roles → q < length roles → name_at roles r ≡ name_at roles q → r ≡ q
  same_role r q inside_r inside_q same =
      differ r q (name_at roles q) (slice_get-get_or roles r [] inside_r ∙ ap (λ n. Some n) same) (slice_get-get_or roles q [] inside_q)

  -- a role has its place
  has_place : (r : ℕ) → r < length roles → place_of roles (name_at roles r) ≡ Some r
  has_place r inside = is_placed roles (name_at roles r) r inside refl
      (λ k before same. let one = same_role k r (omega (arith, before, inside)) inside same in omega (arith, one, before))

  declared : (r : ℕ) → r < length roles → IsDeclared roles (name_at roles r)
  declared r inside = (r, has_place r inside)

  role_back : (r : ℕ) → r < length roles → role_at roles (name_at roles r) ≡ r
  role_back r inside = rw (has_place r inside) refl

  -- ---- who is named

  -- the name is that of a role which is mentioned
  abbrev IsOneOf : List ℕ → (ℕ → Type 0) → Type 0
  IsOneOf m mentions = (q : ℕ) × mentions q × (m ≡ name_at roles q)

  mutual
    named_in : (since : Named) (recs bare : List (List ℕ)) (b : Body) (m : List ℕ) → IsFull recs bare b → named_by since (written_of roles b) m ≡ true
        → (since m ≡ true) ⊎ IsOneOf m (λ q. Mentions q b)
    named_in since recs bare End m f h = inl h
    named_in since recs bare (Single label sorts s r p rest) m f h =
        ⊎_elim (λ a. ⊎_elim (λ e. inr (r, inl (inr refl), e)) (λ a. ⊎_elim (λ e. inr (s, inl (inl refl), e)) (λ a. inl a) (one_named since (name_at roles s) m a))
        (one_named (with_role since (name_at roles s)) (name_at roles r) m a)) (λ x. inr (x.0, inr x.1, x.2))
        (named_in (with_role (with_role since (name_at roles s)) (name_at roles r)) recs [] rest m f h)
    named_in since recs bare (Choose s NoMore rest) m f h = absurd f.0
    named_in since recs bare (Choose s (Or b bs) rest) m f h =
        let first = named_by (with_role since (name_at roles s)) (written_of roles b) in
        ⊎_elim (λ a. ⊎_elim (λ a. ⊎_elim (λ a. ⊎_elim (λ e. inr (s, inl (inl refl), e)) (λ a. inl a) (one_named since (name_at roles s) m a))
        (λ x. inr (x.0, inl (inr (inl x.1)), x.2)) (named_in (with_role since (name_at roles s)) recs bare b m f.0.1 a))
        (λ x. inr (x.0, inl (inr (inr x.1)), x.2)) (named_in_some first recs bare bs m f.0.2 a))
        (λ x. inr (x.0, inr x.1, x.2)) (named_in (named_by_all first (blocks_of roles bs)) recs [] rest m f.1 h)
    named_in since recs bare (Loop name body rest) m f h =
        ⊎_elim (λ a. ⊎_elim (λ a. inl a) (λ x. inr (x.0, inl x.1, x.2)) (named_in since (name ∷ recs) (name ∷ bare) body m f.1 a))
        (λ x. inr (x.0, inr x.1, x.2)) (named_in (named_by since (written_of roles body)) recs [] rest m f.2 h)
    named_in since recs bare (Again name End) m f h = inl h
    named_in since recs bare (Again name rest) m f h = absurd f.2
    named_in since recs bare (Parallel bs rest) m f h = absurd f
    named_in since recs bare (Call name rs rest) m f h = absurd f

    named_in_some : (since : Named) (recs bare : List (List ℕ)) (bs : Bodies) (m : List ℕ) → OthersFull recs bare bs
        → named_by_all since (blocks_of roles bs) m ≡ true → (since m ≡ true) ⊎ IsOneOf m (λ q. SomeMentions q bs)
    named_in_some since recs bare NoMore m f h = inl h
    named_in_some since recs bare (Or b bs) m f h =
        ⊎_elim (λ a. ⊎_elim (λ a. inl a) (λ x. inr (x.0, inl x.1, x.2)) (named_in since recs bare b m f.1 a)) (λ x. inr (x.0, inr x.1, x.2))
        (named_in_some (named_by since (written_of roles b)) recs bare bs m f.2 h)

  -- ---- messages

  -- These are messages behind n points: each makes the next one, between declared roles that differ, and there is room.
  pub record AreBehind (n : ℕ) (xs : Messages) : Type 0 where
    pub numbered : IsNumberedFrom (n + 1) xs
    pub ends : HaveEnds (length roles) xs
    pub few : n + length xs ≤ 256

  split : (n k : ℕ) (xs ys : Messages) → k ≡ n + length xs → AreBehind n (xs ++ ys) → AreBehind n xs × AreBehind k ys
  split n k [] ys e a =
      let same : n ≡ k = omega (arith, e) in
      let few = a.few in (record { numbered = tt; ends = tt; few = omega (arith, few) }, subst (λ (j : ℕ). AreBehind j ys) same a)
  split n k (x ∷ xs) ys e a =
      let few = a.few in
      let more = split (n + 1) k xs ys (omega (arith, e)) (record { numbered = a.numbered.1; ends = a.ends.3; few = omega (arith, few) }) in
      let short = more.0.few in (
        record {
          numbered = (a.numbered.0, more.0.numbered);
          ends = (a.ends.0, a.ends.1, a.ends.2, more.0.ends);
          few = omega (arith, short);
        },
        more.1,
      )

  ends_left : (xs ys : Messages) → HaveEnds (length roles) (xs ++ ys) → HaveEnds (length roles) xs
  ends_left [] ys h = tt
  ends_left (x ∷ xs) ys h = (h.0, h.1, h.2, ends_left xs ys h.3)

  ends_right : (xs ys : Messages) → HaveEnds (length roles) (xs ++ ys) → HaveEnds (length roles) ys
  ends_right [] ys h = h
  ends_right (x ∷ xs) ys h = ends_right xs ys h.3

  -- ---- what is written for a body

  -- Where no roles of earlier blocks are mentioned.
  abbrev IsFree : Named → (ℕ → Type 0) → Type 0
  IsFree earlier mentions = (q : ℕ) → mentions q → earlier (name_at roles q) ≡ false

  -- What is written for a body behind n points, at a place: it passes there, makes as many points, and has this body as its tree.
  pub record IsBack (n : ℕ) (p : Place) (b : Body) : Type 0 where
    pub proper : IsProper (written_of roles b)
    pub passes : Passes false roles n p (written_of roles b)
    pub fit : IsFit roles (written_of roles b)
    pub long : points (written_of roles b) ≡ length (singles b)
    pub tree : tree_of roles n (written_of roles b) ≡ b

  record AreBack (n : ℕ) (p : Place) (bs : Bodies) : Type 0 where
    proper : AreProper (blocks_of roles bs)
    passes : PassAll false roles n p (blocks_of roles bs)
    fit : AreFit roles (blocks_of roles bs)
    long : points_of (blocks_of roles bs) ≡ length (singles_of bs)
    tree : trees_of roles n (blocks_of roles bs) ≡ bs

  -- The same of blocks of a par, behind those that name these roles.
  record AreBeside (n : ℕ) (since : Named) (bs : Bodies) : Type 0 where
    proper : AreProper (blocks_of roles bs)
    passes : PassBeside false roles n outermost since (blocks_of roles bs)
    fit : AreFit roles (blocks_of roles bs)
    long : points_of (blocks_of roles bs) ≡ length (singles_of bs)
    tree : trees_of roles n (blocks_of roles bs) ≡ bs

  nothing_back : (n : ℕ) (p : Place) → IsBack n p End
  nothing_back n p = record { proper = tt; passes = tt; fit = tt; long = refl; tree = refl }

  begun : (b : Body) → (IsNothing b → ⊥) → IsBegun (written_of roles b)
  begun b some = grind arith

  one_back : (n : ℕ) (p : Place) (label : List ℕ) (sorts : List (List ℕ)) (s r q : ℕ) (rest : Body) → p.ended ≡ false → q ≡ n + 1
      → s < length roles → r < length roles → (s ≡ r → ⊥) → n < 256 → p.earlier (name_at roles s) ≡ false → p.earlier (name_at roles r) ≡ false
      → IsBack (n + 1) (after_statement p false) rest → IsBack n p (Single label sorts s r q rest)
  one_back n p label sorts s r q rest going at sends takes apart room free_s free_r more =
      let sender = role_back s sends in
      let receiver = role_back r takes in
      let other : (r == s) ≡ false = grind (arith, nat_tests) in
      let differs : (role_at roles (name_at roles r) == role_at roles (name_at roles s)) ≡ false = rw (sender, receiver) other in
      let long = more.long in
      record {
        proper = more.proper;
        passes = (going, declared s sends, free_s, (declared r takes, refl, differs, full_points n room, free_r, tt), more.passes);
        fit = (declared s sends, (declared r takes, refl, differs, tt), more.fit);
        long = omega (arith, long);
        tree = rw (sender, receiver, more.tree, at) refl;
      }

  -- ---- one statement, or one block, in front of what stands behind it

  more_back : (n : ℕ) (p : Place) (b : Body) (bs : Bodies) → AreBehind n (singles b ++ singles_of bs) → p.depth < 32 → IsBegun (written_of roles b)
      → (AreBehind n (singles b) → IsBack n (inside p) b) → ((k : ℕ) → AreBehind k (singles_of bs) → AreBack k p bs) → AreBack n p (Or b bs)
  more_back n p b bs are deep is block blocks =
      let cut = split n (n + length (singles b)) (singles b) (singles_of bs) refl are in
      let first = block cut.0 in
      let others = blocks (n + points (written_of roles b)) (rw first.long cut.1) in
      let joined = length-append (singles b) (singles_of bs) in
      let one = first.long in
      let more = others.long in
      record {
        proper = (is, first.proper, others.proper);
        passes = (full_depth p.depth deep, first.passes, others.passes);
        fit = (first.fit, others.fit);
        long = omega (arith, joined, one, more);
        tree = rw (first.tree, others.tree) refl;
      }

  rec_back : (n : ℕ) (p : Place) (name : List ℕ) (body rest : Body) → p.ended ≡ false → AreBehind n (singles body ++ singles rest) → p.depth < 32
      → IsBegun (written_of roles body) → (AreBehind n (singles body) → IsBack n (inside (inside_rec p name)) body)
      → ((k : ℕ) → AreBehind k (singles rest) → IsBack k (after_statement p false) rest) → IsBack n p (Loop name body rest)
  rec_back n p name body rest going are deep is block others =
      let cut = split n (n + length (singles body)) (singles body) (singles rest) refl are in
      let first = block cut.0 in
      let more = others (n + points (written_of roles body)) (rw first.long cut.1) in
      let joined = length-append (singles body) (singles rest) in
      let one = first.long in
      let two = more.long in
      record {
        proper = (is, first.proper, more.proper);
        passes = (going, full_depth p.depth deep, first.passes, more.passes);
        fit = (first.fit, more.fit);
        long = omega (arith, joined, one, two);
        tree = rw (first.tree, more.tree) refl;
      }

  choice_back : (n : ℕ) (p : Place) (s : ℕ) (b : Body) (bs : Bodies) (rest : Body) → p.ended ≡ false → AreBehind n ((singles b ++ singles_of bs) ++ singles rest)
      → s < length roles → p.depth < 32 → p.earlier (name_at roles s) ≡ false → IsBegun (written_of roles b)
      → (AreBehind n (singles b) → IsBack n (inside p) b) → ((k : ℕ) → AreBehind k (singles_of bs) → AreBack k p bs)
      → ((k : ℕ) → AreBehind k (singles rest) → IsBack k (after_statement p false) rest) → IsBack n p (Choose s (Or b bs) rest)
  choice_back n p s b bs rest going are subject deep free is block blocks others =
      let cut = split n (n + length (singles b ++ singles_of bs)) (singles b ++ singles_of bs) (singles rest) refl are in
      let all = more_back n p b bs cut.0 deep is block blocks in
      let first = all.long in
      let more = others (n + points_of (blocks_of roles (Or b bs))) (rw first cut.1) in
      let joined = length-append (singles b ++ singles_of bs) (singles rest) in
      let two = more.long in
      let role = role_back s subject in
      record {
        proper = (all.proper.0, all.proper.1, all.proper.2, more.proper);
        passes = (going, declared s subject, free, all.passes.0, all.passes.1, all.passes.2, more.passes);
        fit = (declared s subject, all.fit.0, all.fit.1, more.fit);
        long = omega (arith, joined, first, two);
        tree = ap₂ (λ (x : Bodies) (y : Body). Choose (role_at roles (name_at roles s)) x y) all.tree more.tree ∙ ap (λ (x : ℕ). Choose x (Or b bs) rest) role;
      }

  mutual
    back : (n : ℕ) (p : Place) (recs bare : List (List ℕ)) (b : Body) → p.ended ≡ false → IsFull recs bare b → Knows p.recs recs → Knows (recent p) bare
        → AreBehind n (singles b) → HaveSubjects (length roles) b → Nests p.depth b → IsFree p.earlier (λ q. Mentions q b) → IsBack n p b
    back n p recs bare End going f all near are subjects deep free = nothing_back n p
    back n p recs bare (Single label sorts s r q rest) going f all near are subjects deep free =
        let few = are.few in
        let behind_it : AreBehind (n + 1) (singles rest) = record { numbered = are.numbered.1; ends = are.ends.3; few = omega (arith, few) } in
        let more = back (n + 1) (after_statement p false) recs [] rest refl f all (knows_none p false) behind_it subjects deep (λ q i. free q (inr i)) in
        one_back n p label sorts s r q rest going are.numbered.0 are.ends.0 are.ends.1 are.ends.2 (omega (arith, few))
        (free s (inl (inl refl))) (free r (inl (inr refl))) more
    back n p recs bare (Choose s NoMore rest) going f all near are subjects deep free = absurd f.0
    back n p recs bare (Choose s (Or b bs) rest) going f all near are subjects deep free =
        choice_back n p s b bs rest going are subjects.0 deep.0.0 (free s (inl (inl refl))) (begun b f.0.0)
        (λ x. back n (inside p) recs bare b refl f.0.1 all near x subjects.1.0 deep.0.1 (λ q i. free q (inl (inr (inl i)))))
        (λ k x. blocks_back k p recs bare bs f.0.2 all near x subjects.1.1 deep.0.2 (λ q i. free q (inl (inr (inr i)))))
        (λ k x. back k (after_statement p false) recs [] rest refl f.1 all (knows_none p false) x subjects.2 deep.1 (λ q i. free q (inr i)))
    back n p recs bare (Loop name body rest) going f all near are subjects deep free =
        let near_too : Knows (recent (inside (inside_rec p name))) (name ∷ bare) = rw (recent_more p name) (knows_more name (recent p) bare near) in
        rec_back n p name body rest going are deep.0 (begun body f.0)
        (λ x. back n (inside (inside_rec p name)) (name ∷ recs) (name ∷ bare) body refl f.1 (knows_more name p.recs recs all) near_too x subjects.0 deep.1 (λ q i. free q (inl i)))
        (λ k x. back k (after_statement p false) recs [] rest refl f.2 all (knows_none p false) x subjects.1 deep.2 (λ q i. free q (inr i)))
    back n p recs bare (Again name End) going f all near are subjects deep free =
        let bound : not (is_among name p.recs) ≡ false = ap not ((all name).1 f.0) in
        record { proper = tt; passes = (going, unreached (recent p) bare name near f.1, bound, tt); fit = tt; long = refl; tree = refl }
    back n p recs bare (Again name rest) going f all near are subjects deep free = absurd f.2
    back n p recs bare (Parallel bs rest) going f all near are subjects deep free = absurd f
    back n p recs bare (Call name rs rest) going f all near are subjects deep free = absurd f

    blocks_back : (n : ℕ) (p : Place) (recs bare : List (List ℕ)) (bs : Bodies) → OthersFull recs bare bs → Knows p.recs recs → Knows (recent p) bare
        → AreBehind n (singles_of bs) → HaveSubjectsIn (length roles) bs → AllNest p.depth bs → IsFree p.earlier (λ q. SomeMentions q bs) → AreBack n p bs
    blocks_back n p recs bare NoMore f all near are subjects deep free = record { proper = tt; passes = tt; fit = tt; long = refl; tree = refl }
    blocks_back n p recs bare (Or b bs) f all near are subjects deep free =
        more_back n p b bs are deep.0 (begun b f.0)
        (λ x. back n (inside p) recs bare b refl f.1 all near x subjects.0 deep.1 (λ q i. free q (inl i)))
        (λ k x. blocks_back k p recs bare bs f.2 all near x subjects.1 deep.2 (λ q i. free q (inr i)))

  -- ---- the blocks of a par in the text's own block

  not_named_twice : (since : Named) (b : Body) (bs : Bodies) → IsFull [] [] b → ((q : ℕ) → Mentions q b → SomeMentions q bs → ⊥)
      → ((q : ℕ) → Mentions q b → q < length roles) → ((q : ℕ) → SomeMentions q bs → q < length roles)
      → IsFree since (λ q. SomeMentions q bs) → IsFree (named_by since (written_of roles b)) (λ q. SomeMentions q bs)
  not_named_twice since b bs f apart inside_b inside_bs free q i = go (named_by since (written_of roles b) (name_at roles q)) refl
    where
      go : (t : Bool) → named_by since (written_of roles b) (name_at roles q) ≡ t → t ≡ false
      go true e =
          absurd (⊎_elim (λ a. let no = free q i in absurd (cc))
          (λ x. apart q (subst (λ (z : ℕ). Mentions z b) (sym (same_role q x.0 (inside_bs q i) (inside_b x.0 x.1) x.2)) x.1) i)
          (named_in since [] [] b (name_at roles q) f e))
      go false e = refl

  mutual
    inside_body : (recs bare : List (List ℕ)) (b : Body) → IsFull recs bare b → HaveEnds (length roles) (singles b) → HaveSubjects (length roles) b
        → (q : ℕ) → Mentions q b → q < length roles
    inside_body recs bare End f ends subjects q i = absurd i
    inside_body recs bare (Single label sorts s r p rest) f ends subjects q (inl (inl e)) = subst (λ (x : ℕ). x < length roles) e ends.0
    inside_body recs bare (Single label sorts s r p rest) f ends subjects q (inl (inr e)) = subst (λ (x : ℕ). x < length roles) e ends.1
    inside_body recs bare (Single label sorts s r p rest) f ends subjects q (inr i) = inside_body recs [] rest f ends.3 subjects q i
    inside_body recs bare (Choose s NoMore rest) f ends subjects q i = absurd f.0
    inside_body recs bare (Choose s (Or b bs) rest) f ends subjects q (inl (inl e)) = subst (λ (x : ℕ). x < length roles) e subjects.0
    inside_body recs bare (Choose s (Or b bs) rest) f ends subjects q (inl (inr (inl i))) =
        inside_body recs bare b f.0.1 (ends_left (singles b) (singles_of bs) (ends_left (singles b ++ singles_of bs) (singles rest) ends)) subjects.1.0 q i
    inside_body recs bare (Choose s (Or b bs) rest) f ends subjects q (inl (inr (inr i))) =
        inside_some recs bare bs f.0.2 (ends_right (singles b) (singles_of bs) (ends_left (singles b ++ singles_of bs) (singles rest) ends)) subjects.1.1 q i
    inside_body recs bare (Choose s (Or b bs) rest) f ends subjects q (inr i) =
        inside_body recs [] rest f.1 (ends_right (singles b ++ singles_of bs) (singles rest) ends) subjects.2 q i
    inside_body recs bare (Loop name body rest) f ends subjects q (inl i) =
        inside_body (name ∷ recs) (name ∷ bare) body f.1 (ends_left (singles body) (singles rest) ends) subjects.0 q i
    inside_body recs bare (Loop name body rest) f ends subjects q (inr i) =
        inside_body recs [] rest f.2 (ends_right (singles body) (singles rest) ends) subjects.1 q i
    inside_body recs bare (Again name End) f ends subjects q i = absurd i
    inside_body recs bare (Again name rest) f ends subjects q i = absurd f.2
    inside_body recs bare (Parallel bs rest) f ends subjects q i = absurd f
    inside_body recs bare (Call name rs rest) f ends subjects q i = absurd f

    inside_some : (recs bare : List (List ℕ)) (bs : Bodies) → OthersFull recs bare bs → HaveEnds (length roles) (singles_of bs) → HaveSubjectsIn (length roles) bs
        → (q : ℕ) → SomeMentions q bs → q < length roles
    inside_some recs bare NoMore f ends subjects q i = absurd i
    inside_some recs bare (Or b bs) f ends subjects q (inl i) =
        inside_body recs bare b f.1 (ends_left (singles b) (singles_of bs) ends) subjects.0 q i
    inside_some recs bare (Or b bs) f ends subjects q (inr i) =
        inside_some recs bare bs f.2 (ends_right (singles b) (singles_of bs) ends) subjects.1 q i

  -- one more block, beside those before it
  lane_back : (n : ℕ) (since : Named) (b : Body) (bs : Bodies) → AreBehind n (singles b ++ singles_of bs) → IsBegun (written_of roles b)
      → (AreBehind n (singles b) → IsBack n (inside (beside outermost since)) b)
      → ((k : ℕ) → AreBehind k (singles_of bs) → AreBeside k (named_by since (written_of roles b)) bs) → AreBeside n since (Or b bs)
  lane_back n since b bs are is block blocks =
      let cut = split n (n + length (singles b)) (singles b) (singles_of bs) refl are in
      let first = block cut.0 in
      let others = blocks (n + points (written_of roles b)) (rw first.long cut.1) in
      let joined = length-append (singles b) (singles_of bs) in
      let one = first.long in
      let more = others.long in
      record {
        proper = (is, first.proper, others.proper);
        passes = (refl, first.passes, others.passes);
        fit = (first.fit, others.fit);
        long = omega (arith, joined, one, more);
        tree = rw (first.tree, others.tree) refl;
      }

  beside_back : (n : ℕ) (since : Named) (bs : Bodies) → OthersFull [] [] bs → AreDisjoint bs → AreBehind n (singles_of bs)
      → HaveSubjectsIn (length roles) bs → AllNest 1 bs → IsFree since (λ q. SomeMentions q bs) → AreBeside n since bs
  beside_back n since NoMore f apart are subjects deep free = record { proper = tt; passes = tt; fit = tt; long = refl; tree = refl }
  beside_back n since (Or b bs) f apart are subjects deep free =
      let inside_b = inside_body [] [] b f.1 (ends_left (singles b) (singles_of bs) are.ends) subjects.0 in
      let inside_bs = inside_some [] [] bs f.2 (ends_right (singles b) (singles_of bs) are.ends) subjects.1 in
      let free_too = not_named_twice since b bs f.1 apart.0 inside_b inside_bs (λ q i. free q (inr i)) in
      lane_back n since b bs are (begun b f.0)
      (λ x. back n (inside (beside outermost since)) [] [] b refl f.1 knows_nothing knows_nothing x subjects.0 deep.1 (λ q i. free q (inl i)))
      (λ k x. beside_back k (named_by since (written_of roles b)) bs f.2 apart.1 x subjects.1 deep.2 free_too)

  par_back : (n : ℕ) (b c : Body) (bs : Bodies) (rest : Body) → AreBehind n ((singles b ++ singles_of (Or c bs)) ++ singles rest)
      → IsBegun (written_of roles b) → (AreBehind n (singles b) → IsBack n (inside (beside outermost nobody)) b)
      → ((k : ℕ) → AreBehind k (singles_of (Or c bs)) → AreBeside k (named_by nobody (written_of roles b)) (Or c bs))
      → ((k : ℕ) → AreBehind k (singles rest) → IsBack k outermost rest) → IsBack n outermost (Parallel (Or b (Or c bs)) rest)
  par_back n b c bs rest are is block blocks others =
      let lanes = singles b ++ singles_of (Or c bs) in
      let cut = split n (n + length lanes) lanes (singles rest) refl are in
      let inner = split n (n + length (singles b)) (singles b) (singles_of (Or c bs)) refl cut.0 in
      let first = block inner.0 in
      let all = blocks (n + points (written_of roles b)) (rw first.long inner.1) in
      let joined = length-append lanes (singles rest) in
      let together = length-append (singles b) (singles_of (Or c bs)) in
      let one = first.long in
      let two = all.long in
      let made : points (written_of roles b) + points_of (blocks_of roles (Or c bs)) ≡ length lanes = omega (arith, together, one, two) in
      let more = others (n + (points (written_of roles b) + points_of (blocks_of roles (Or c bs)))) (rw made cut.1) in
      let three = more.long in
      record {
        proper = (is, first.proper, all.proper.0, all.proper.1, all.proper.2, more.proper);
        passes = (refl, refl, (refl, first.passes, all.passes.0, all.passes.1, all.passes.2), more.passes);
        fit = (first.fit, all.fit.0, all.fit.1, more.fit);
        long = omega (arith, joined, made, three);
        tree = rw (first.tree, all.tree, more.tree) refl;
      }

  -- A full text.
  pub text_back : (n : ℕ) (b : Body) → IsFullText b → IsPrintableBody roles b → HasDisjointLanes b → AreBehind n (singles b) → HaveSubjects (length roles) b
      → Nests 1 b → IsBack n outermost b
  text_back n End f print apart are subjects deep = nothing_back n outermost
  text_back n (Single label sorts s r q rest) f print apart are subjects deep =
      let few = are.few in
      let behind_it : AreBehind (n + 1) (singles rest) = record { numbered = are.numbered.1; ends = are.ends.3; few = omega (arith, few) } in
      let more = text_back (n + 1) rest f print.4 apart behind_it subjects deep in
      one_back n outermost label sorts s r q rest refl are.numbered.0 are.ends.0 are.ends.1 are.ends.2 (omega (arith, few)) refl refl more
  text_back n (Choose s NoMore rest) f print apart are subjects deep = absurd f.0
  text_back n (Choose s (Or b bs) rest) f print apart are subjects deep =
      choice_back n outermost s b bs rest refl are subjects.0 deep.0.0 refl (begun b f.0.0)
      (λ x. back n (inside outermost) [] [] b refl f.0.1 knows_nothing knows_nothing x subjects.1.0 deep.0.1 (λ q i. refl))
      (λ k x. blocks_back k outermost [] [] bs f.0.2 knows_nothing knows_nothing x subjects.1.1 deep.0.2 (λ q i. refl))
      (λ k x. text_back k rest f.1 print.2 apart x subjects.2 deep.1)
  text_back n (Loop name body rest) f print apart are subjects deep =
      rec_back n outermost name body rest refl are deep.0 (begun body f.0)
      (λ x. back n (inside (inside_rec outermost name)) (name ∷ []) (name ∷ []) body refl f.1 (knows_more name [] [] knows_nothing)
      (knows_more name [] [] knows_nothing) x subjects.0 deep.1 (λ q i. refl))
      (λ k x. text_back k rest f.2 print.2 apart x subjects.1 deep.2)
  text_back n (Again name rest) f print apart are subjects deep = absurd f
  text_back n (Parallel NoMore rest) f print apart are subjects deep = absurd f.0
  text_back n (Parallel (Or b NoMore) rest) f print apart are subjects deep = absurd print.0.1
  text_back n (Parallel (Or b (Or c bs)) rest) f print apart are subjects deep =
      let lanes = singles b ++ singles_of (Or c bs) in
      let ends = ends_left lanes (singles rest) are.ends in
      let inside_b = inside_body [] [] b f.0.1 (ends_left (singles b) (singles_of (Or c bs)) ends) subjects.0.0 in
      let others : OthersFull [] [] (Or c bs) = others_full b (Or c bs) f.0 in
      let disjoint : AreDisjoint (Or c bs) = others_disjoint b (Or c bs) apart.0 in
      let their_subjects : HaveSubjectsIn (length roles) (Or c bs) = others_have_subjects (length roles) b (Or c bs) subjects.0 in
      let their_depth : AllNest 1 (Or c bs) = others_nest 1 b (Or c bs) deep.0 in
      let inside_others = inside_some [] [] (Or c bs) others (ends_right (singles b) (singles_of (Or c bs)) ends) their_subjects in
      let free = not_named_twice nobody b (Or c bs) f.0.1 apart.0.0 inside_b inside_others (λ q i. refl) in
      par_back n b c bs rest are (begun b f.0.0)
      (λ x. back n (inside (beside outermost nobody)) [] [] b refl f.0.1 knows_nothing knows_nothing x subjects.0.0 deep.0.1 (λ q i. refl))
      (λ k x. beside_back k (named_by nobody (written_of roles b)) (Or c bs) others disjoint x their_subjects their_depth free)
      (λ k x. text_back k rest f.1 print.1 apart.1 x subjects.1 deep.1)
  text_back n (Call name rs rest) f print apart are subjects deep = absurd f
