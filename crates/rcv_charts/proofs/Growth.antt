-- What is drawn of statements, put together.
use Rattle.std.proofs.Common.{◌≡◌, ℕ, ◌≤◌, List, [], ◌∷◌, ◌++◌, codes, refl, sym, ◌∙◌, ap, subst, inl, inr, ⊎_elim, append_assoc, append-nil, arith}
use Rattle.std.proofs.lemmas.List.{map-append}
use Rattle.rcv_picture.specs.declared.group.Group.{Group}
use Rattle.rcv_picture.specs.declared.picture.Picture.{Picture}
use Rattle.rcv_model.specs.Text.{Body, End, Single, Choose, Loop, Again, Parallel, Call, Bodies, NoMore, Or}
use Rattle.rcv_charts.specs.MessageTitles.{message_title}
use Rattle.rcv_charts.specs.Statements.{statement_titles, titles_beside, titles_behind, choice_title, rec_title, continue_title, par_title, block_title}
use Rattle.rcv_charts.specs.Titles.{titles_in, title_of, titled_of, titles_of}
use Rattle.rcv_charts.specs.Drawn.{DrawingView, with_groups}
use Rattle.rcv_charts.specs.Chart.{Draws, DrawsBlocks, DrawsBehind, DrawsLanes, DrawsBeside, Stands, IsBelow, upper, lower}
use Rattle.rcv_charts.specs.Chart.{Moves, AddsOne, AddsFrame, AddsBody, AddsStatement, AddsBlocks, AddsLane, AddsBeside, AddsLanes, SoFar, LanesSoFar, DrawsAll, IsChart}

pub below_higher : (s t y : ℕ) → s ≤ t → IsBelow t y → IsBelow s y
below_higher s t y le is = (omega (arith, le, is.0), ⊎_elim (λ lt. inl (omega (arith, le, lt))) (λ end. inr end) is.1)

stands_higher : (title : List ℕ) (s t : ℕ) (g : Group) → s ≤ t → Stands title t g → Stands title s g
stands_higher title s t g le is = record { titled = is.titled; below = below_higher s t (upper g) le is.below; down = is.down }

module _ (roles : List (List ℕ)) where
  -- from further up on
  pub higher : (body : Body) (s t b : ℕ) (gs : List Group) → s ≤ t → Draws roles body t gs b → Draws roles body s gs b
  higher End s t b gs le d = (d.0, omega (arith, le, d.1))
  higher (Single label sorts a r p rest) s t b gs le (g, more, e, is, onward) = (g, more, e, stands_higher _ s t g le is, onward)
  higher (Choose a bs rest) s t b gs le (g, inside, more, e, is, within, onward) = (g, inside, more, e, stands_higher _ s t g le is, within, onward)
  higher (Loop name body rest) s t b gs le (g, inside, more, e, is, within, onward) = (g, inside, more, e, stands_higher _ s t g le is, within, onward)
  higher (Again name rest) s t b gs le (g, more, e, is, onward) = (g, more, e, stands_higher _ s t g le is, onward)
  higher (Parallel bs rest) s t b gs le (g, inside, more, e, is, within, onward) = (g, inside, more, e, stands_higher _ s t g le is, within, onward)
  higher (Call name called rest) s t b gs le d = higher rest s t b gs le d

  pub behind_higher : (word : List ℕ) (bs : Bodies) (s t b : ℕ) (gs : List Group) → s ≤ t → DrawsBehind roles word bs t gs b → DrawsBehind roles word bs s gs b
  behind_higher word NoMore s t b gs le d = (d.0, omega (arith, le, d.1))
  behind_higher word (Or body bs) s t b gs le (g, inside, more, m, e, is, within, onward) = (g, inside, more, m, e, stands_higher _ s t g le is, within, onward)

  -- down to further down
  pub further_down : (body : Body) (t a b : ℕ) (gs : List Group) → a ≤ b → Draws roles body t gs a → Draws roles body t gs b
  further_down End t a b gs le d = (d.0, omega (arith, le, d.1))
  further_down (Single label sorts s r p rest) t a b gs le (g, more, e, is, onward) = (g, more, e, is, further_down rest (lower g) a b more le onward)
  further_down (Choose s bs rest) t a b gs le (g, inside, more, e, is, within, onward) = (g, inside, more, e, is, within, further_down rest (lower g) a b more le onward)
  further_down (Loop name body rest) t a b gs le (g, inside, more, e, is, within, onward) = (g, inside, more, e, is, within, further_down rest (lower g) a b more le onward)
  further_down (Again name rest) t a b gs le (g, more, e, is, onward) = (g, more, e, is, further_down rest (lower g) a b more le onward)
  further_down (Parallel bs rest) t a b gs le (g, inside, more, e, is, within, onward) = (g, inside, more, e, is, within, further_down rest (lower g) a b more le onward)
  further_down (Call name called rest) t a b gs le d = further_down rest t a b gs le d

  behind_down : (word : List ℕ) (bs : Bodies) (t a b : ℕ) (gs : List Group) → a ≤ b → DrawsBehind roles word bs t gs a → DrawsBehind roles word bs t gs b
  behind_down word NoMore t a b gs le d = (d.0, omega (arith, le, d.1))
  behind_down word (Or body bs) t a b gs le (g, inside, more, m, e, is, within, onward) = (g, inside, more, m, e, is, within, behind_down word bs m a b more le onward)

  pub blocks_down : (word : List ℕ) (bs : Bodies) (t a b : ℕ) (gs : List Group) → a ≤ b → DrawsBlocks roles word bs t gs a → DrawsBlocks roles word bs t gs b
  blocks_down word NoMore t a b gs le d = (d.0, omega (arith, le, d.1))
  blocks_down word (Or body bs) t a b gs le (first, others, m, e, within, onward) = (first, others, m, e, within, behind_down word bs m a b others le onward)

  beside_down : (bs : Bodies) (t a b : ℕ) (gs : List Group) → a ≤ b → DrawsBeside roles bs t gs a → DrawsBeside roles bs t gs b
  beside_down NoMore t a b gs le d = (d.0, omega (arith, le, d.1))
  beside_down (Or body bs) t a b gs le (g, inside, more, m, e, is, low, within, down, onward) =
      (g, inside, more, m, e, is, omega (arith, le, low), within, omega (arith, le, down), beside_down bs t a b more le onward)

  pub lanes_down : (bs : Bodies) (t a b : ℕ) (gs : List Group) → a ≤ b → DrawsLanes roles bs t gs a → DrawsLanes roles bs t gs b
  lanes_down NoMore t a b gs le d = (d.0, omega (arith, le, d.1))
  lanes_down (Or body bs) t a b gs le (first, others, m, e, within, down, onward) = (first, others, m, e, within, omega (arith, le, down), beside_down bs t a b others le onward)

  -- the lower height isn't above the upper one
  pub goes_down : (body : Body) (t b : ℕ) (gs : List Group) → Draws roles body t gs b → t ≤ b
  goes_down End t b gs d = d.1
  goes_down (Single label sorts s r p rest) t b gs (g, more, e, is, onward) = omega (arith, is.below.0, is.down, goes_down rest (lower g) b more onward)
  goes_down (Choose s bs rest) t b gs (g, inside, more, e, is, within, onward) = omega (arith, is.below.0, is.down, goes_down rest (lower g) b more onward)
  goes_down (Loop name body rest) t b gs (g, inside, more, e, is, within, onward) = omega (arith, is.below.0, is.down, goes_down rest (lower g) b more onward)
  goes_down (Again name rest) t b gs (g, more, e, is, onward) = omega (arith, is.below.0, is.down, goes_down rest (lower g) b more onward)
  goes_down (Parallel bs rest) t b gs (g, inside, more, e, is, within, onward) = omega (arith, is.below.0, is.down, goes_down rest (lower g) b more onward)
  goes_down (Call name called rest) t b gs d = goes_down rest t b gs d

  behind_goes : (word : List ℕ) (bs : Bodies) (t b : ℕ) (gs : List Group) → DrawsBehind roles word bs t gs b → t ≤ b
  behind_goes word NoMore t b gs d = d.1
  behind_goes word (Or body bs) t b gs (g, inside, more, m, e, is, within, onward) =
      omega (arith, is.below.0, is.down, goes_down body (lower g) m inside within, behind_goes word bs m b more onward)

  pub blocks_go : (word : List ℕ) (bs : Bodies) (t b : ℕ) (gs : List Group) → DrawsBlocks roles word bs t gs b → t ≤ b
  blocks_go word NoMore t b gs d = d.1
  blocks_go word (Or body bs) t b gs (first, others, m, e, within, onward) = omega (arith, goes_down body t m first within, behind_goes word bs m b others onward)

  pub lanes_go : (bs : Bodies) (t b : ℕ) (gs : List Group) → DrawsLanes roles bs t gs b → t ≤ b
  lanes_go NoMore t b gs d = d.1
  lanes_go (Or body bs) t b gs (first, others, m, e, within, down, onward) = omega (arith, goes_down body t m first within, down)

  -- the titles
  with_first : (g : Group) (more gs : List Group) (title : List ℕ) (titles : List (List ℕ)) → gs ≡ g ∷ more → g.title.items ≡ title → titles_in more ≡ titles → titles_in gs ≡ title ∷ titles
  with_first g more gs title titles e is onward = ap titles_in e ∙ ap (λ t. t ∷ titles_in more) is ∙ ap (λ ts. title ∷ ts) onward

  in_two : (a b : List Group) (one two : List (List ℕ)) → titles_in a ≡ one → titles_in b ≡ two → titles_in (a ++ b) ≡ one ++ two
  in_two a b one two e f = map-append title_of a b ∙ ap (λ ts. ts ++ titles_in b) e ∙ ap (λ ts. one ++ ts) f

  mutual
    pub titled : (body : Body) (t b : ℕ) (gs : List Group) → Draws roles body t gs b → titles_in gs ≡ statement_titles roles body
    titled End t b gs d = ap titles_in d.0
    titled (Single label sorts s r p rest) t b gs (g, more, e, is, onward) = with_first g more gs _ _ e is.titled (titled rest (lower g) b more onward)
    titled (Choose s bs rest) t b gs (g, inside, more, e, is, within, onward) =
        with_first g (inside ++ more) gs _ _ e is.titled (in_two inside more _ _ (blocks_titled (codes "or") bs (upper g) (lower g) inside within) (titled rest (lower g) b more onward))
    titled (Loop name body rest) t b gs (g, inside, more, e, is, within, onward) =
        with_first g (inside ++ more) gs _ _ e is.titled (in_two inside more _ _ (titled body (upper g) (lower g) inside within) (titled rest (lower g) b more onward))
    titled (Again name rest) t b gs (g, more, e, is, onward) = with_first g more gs _ _ e is.titled (titled rest (lower g) b more onward)
    titled (Parallel bs rest) t b gs (g, inside, more, e, is, within, onward) =
        with_first g (inside ++ more) gs _ _ e is.titled
        (in_two inside more _ _ (⊎_elim (blocks_titled (codes "and") bs (upper g) (lower g) inside) (lanes_titled bs (upper g) (lower g) inside) within) (titled rest (lower g) b more onward))
    titled (Call name called rest) t b gs d = titled rest t b gs d

    blocks_titled : (word : List ℕ) (bs : Bodies) (t b : ℕ) (gs : List Group) → DrawsBlocks roles word bs t gs b → titles_in gs ≡ titles_beside roles word bs
    blocks_titled word NoMore t b gs d = ap titles_in d.0
    blocks_titled word (Or body bs) t b gs (first, others, m, e, within, onward) =
        ap titles_in e ∙ in_two first others _ _ (titled body t m first within) (behind_titled word bs m b others onward)

    behind_titled : (word : List ℕ) (bs : Bodies) (t b : ℕ) (gs : List Group) → DrawsBehind roles word bs t gs b → titles_in gs ≡ titles_behind roles word bs
    behind_titled word NoMore t b gs d = ap titles_in d.0
    behind_titled word (Or body bs) t b gs (g, inside, more, m, e, is, within, onward) =
        with_first g (inside ++ more) gs _ _ e is.titled (in_two inside more _ _ (titled body (lower g) m inside within) (behind_titled word bs m b more onward))

    lanes_titled : (bs : Bodies) (t b : ℕ) (gs : List Group) → DrawsLanes roles bs t gs b → titles_in gs ≡ titles_beside roles (codes "and") bs
    lanes_titled NoMore t b gs d = ap titles_in d.0
    lanes_titled (Or body bs) t b gs (first, others, m, e, within, down, onward) =
        ap titles_in e ∙ in_two first others _ _ (titled body t m first within) (beside_titled bs t b others onward)

    beside_titled : (bs : Bodies) (t b : ℕ) (gs : List Group) → DrawsBeside roles bs t gs b → titles_in gs ≡ titles_behind roles (codes "and") bs
    beside_titled NoMore t b gs d = ap titles_in d.0
    beside_titled (Or body bs) t b gs (g, inside, more, m, e, is, low, within, down, onward) =
        with_first g (inside ++ more) gs _ _ e is.titled (in_two inside more _ _ (titled body t m inside within) (beside_titled bs t b more onward))

-- drawings that go on
grown_twice : (a b c x y : List Group) → b ≡ a ++ x → c ≡ b ++ y → c ≡ a ++ (x ++ y)
grown_twice a b c x y e f = f ∙ ap (λ gs. gs ++ y) e ∙ append_assoc a x y

pub moves_on : (a b c : DrawingView) → Moves a b → Moves b c → Moves a c
moves_on a b c m n = record { same = n.same ∙ m.same; down = omega (arith, m.down, n.down) }

pub moves_adds : (title : List ℕ) (a b c : DrawingView) → Moves a b → AddsOne title b c → AddsOne title a c
moves_adds title a b c m one = record {
  group = one.group;
  grown = one.grown ∙ ap (λ gs. gs ++ one.group ∷ []) m.same;
  stands = stands_higher title a.down b.down one.group m.down one.stands;
  down = one.down;
}

pub adds_moves : (title : List ℕ) (a b c : DrawingView) → AddsOne title a b → Moves b c → AddsOne title a c
adds_moves title a b c one m = record { group = one.group; grown = m.same ∙ one.grown; stands = one.stands; down = omega (arith, one.down, m.down) }

module _ (roles : List (List ℕ)) where
  -- a message, and a continue
  pub one_message : (label : List ℕ) (sorts : List (List ℕ)) (s r p : ℕ) (a b : DrawingView) → AddsOne (message_title roles (p, record { label = label; sorts = sorts; sender = s; receiver = r })) a b → AddsStatement roles (Single label sorts s r p) a b
  one_message label sorts s r p a b one = record {
    added = one.group ∷ [];
    grown = one.grown;
    drawn = λ rest more bottom d. (one.group, more, refl, one.stands, higher roles rest (lower one.group) b.down bottom more one.down d);
  }

  pub one_continue : (name : List ℕ) (a b : DrawingView) → AddsOne (continue_title name) a b → AddsStatement roles (Again name) a b
  one_continue name a b one = record {
    added = one.group ∷ [];
    grown = one.grown;
    drawn = λ rest more bottom d. (one.group, more, refl, one.stands, higher roles rest (lower one.group) b.down bottom more one.down d);
  }

  -- frames: a opens as b, and ends as c; from start on, which is as far down, the inner drawing goes to inner
  module _ (title : List ℕ) (a b c start inner : DrawingView) (opens : Moves a b) (below : IsBelow a.down b.down) (empty : start.groups ≡ []) (there : b.down ≤ start.down) (frame : AddsFrame title inner b c) where
    frame_grown : c.groups ≡ a.groups ++ (frame.group ∷ inner.groups)
    frame_grown = frame.grown ∙ ap (λ gs. gs ++ frame.group ∷ inner.groups) opens.same

    frame_stands : inner.down ≤ c.down → b.down ≤ inner.down → Stands title a.down frame.group
    frame_stands around down = record {
      titled = frame.titled;
      below = subst (IsBelow a.down) (sym frame.top) below;
      down = omega (arith, frame.top, frame.bottom, around, down);
    }

  pub one_choice : (subject : ℕ) (bs : Bodies) (a b c start inner : DrawingView) → Moves a b → IsBelow a.down b.down → start.groups ≡ [] → start.down ≡ b.down → AddsBlocks roles (codes "or") bs start inner → AddsFrame (choice_title roles subject bs) inner b c → AddsStatement roles (Choose subject bs) a c
  one_choice subject bs a b c start inner opens below empty there blocks frame =
      let all = blocks.grown ∙ ap (λ gs. gs ++ blocks.added) empty in
      let within = subst (λ gs. DrawsBlocks roles (codes "or") bs start.down gs inner.down) (sym all) blocks.drawn in
      let low = blocks_go roles (codes "or") bs start.down inner.down inner.groups within in
      let low2 : b.down ≤ inner.down = omega (arith, low, there) in
      record {
        added = frame.group ∷ inner.groups;
        grown = frame.grown ∙ ap (λ gs. gs ++ frame.group ∷ inner.groups) opens.same;
        drawn = λ rest more bottom d. (
          frame.group,
          inner.groups,
          more,
          refl,
          frame_stands (choice_title roles subject bs) a b c start inner opens below empty (omega (arith, there)) frame frame.around low2,
          subst (λ t. DrawsBlocks roles (codes "or") bs t inner.groups (lower frame.group)) (there ∙ sym frame.top) (blocks_down roles (codes "or") bs start.down inner.down (lower frame.group) inner.groups (omega (arith, frame.bottom, frame.around)) within),
          higher roles rest (lower frame.group) c.down bottom more (omega (arith, frame.bottom)) d,
        );
      }

  pub one_loop : (name : List ℕ) (body : Body) (a b c start inner : DrawingView) → Moves a b → IsBelow a.down b.down → start.groups ≡ [] → b.down ≤ start.down → AddsBody roles body start inner → AddsFrame (rec_title name body) inner b c → AddsStatement roles (Loop name body) a c
  one_loop name body a b c start inner opens below empty there inside frame =
      let all = inside.grown ∙ ap (λ gs. gs ++ inside.added) empty in
      let within = higher roles body b.down start.down inner.down inner.groups there (subst (λ gs. Draws roles body start.down gs inner.down) (sym all) inside.drawn) in
      let low = goes_down roles body b.down inner.down inner.groups within in
      record {
        added = frame.group ∷ inner.groups;
        grown = frame.grown ∙ ap (λ gs. gs ++ frame.group ∷ inner.groups) opens.same;
        drawn = λ rest more bottom d. (
          frame.group,
          inner.groups,
          more,
          refl,
          frame_stands (rec_title name body) a b c start inner opens below empty there frame frame.around low,
          subst (λ t. Draws roles body t inner.groups (lower frame.group)) (sym frame.top) (further_down roles body b.down inner.down (lower frame.group) inner.groups (omega (arith, frame.bottom, frame.around)) within),
          higher roles rest (lower frame.group) c.down bottom more (omega (arith, frame.bottom)) d,
        );
      }

  pub lanes_low : (bs : Bodies) (start inner : DrawingView) → AddsLanes roles bs start inner → start.down ≤ inner.down
  lanes_low bs start inner lanes = ⊎_elim (blocks_go roles (codes "and") bs start.down inner.down lanes.added) (lanes_go roles bs start.down inner.down lanes.added) lanes.drawn

  pub one_par : (bs : Bodies) (a b c start inner : DrawingView) → Moves a b → IsBelow a.down b.down → start.groups ≡ [] → start.down ≡ b.down → AddsLanes roles bs start inner → AddsFrame (par_title bs) inner b c → AddsStatement roles (Parallel bs) a c
  one_par bs a b c start inner opens below empty there lanes frame =
      let all = lanes.grown ∙ ap (λ gs. gs ++ lanes.added) empty in
      let low = lanes_low bs start inner lanes in
      let low2 : b.down ≤ inner.down = omega (arith, low, there) in
      let end : inner.down ≤ lower frame.group = omega (arith, frame.bottom, frame.around) in
      let top : start.down ≡ upper frame.group = there ∙ sym frame.top in
      record {
        added = frame.group ∷ inner.groups;
        grown = frame.grown ∙ ap (λ gs. gs ++ frame.group ∷ inner.groups) opens.same;
        drawn = λ rest more bottom d. (
          frame.group,
          inner.groups,
          more,
          refl,
          frame_stands (par_title bs) a b c start inner opens below empty (omega (arith, there)) frame frame.around low2,
          ⊎_elim
              (λ w. inl (subst (λ t. DrawsBlocks roles (codes "and") bs t inner.groups (lower frame.group)) top (blocks_down roles (codes "and") bs start.down inner.down (lower frame.group) inner.groups end (subst (λ gs. DrawsBlocks roles (codes "and") bs start.down gs inner.down) (sym all) w))))
              (λ w. inr (subst (λ t. DrawsLanes roles bs t inner.groups (lower frame.group)) top (lanes_down roles bs start.down inner.down (lower frame.group) inner.groups end (subst (λ gs. DrawsLanes roles bs start.down gs inner.down) (sym all) w))))
              lanes.drawn,
          higher roles rest (lower frame.group) c.down bottom more (omega (arith, frame.bottom)) d,
        );
      }

  -- statements of a block
  pub none_yet : (W : ℕ → List Group → ℕ → Type 0) (a : DrawingView) → SoFar W W a a
  none_yet W a = record { added = []; grown = sym (append-nil a.groups); drawn = λ more bottom d. d }

  pub one_statement : (W : ℕ → List Group → ℕ → Type 0) (stmt : Body → Body) (rest : Body) (a b c d : DrawingView) → SoFar W (Draws roles (stmt rest)) a b → Moves b c → AddsStatement roles stmt c d → SoFar W (Draws roles rest) a d
  one_statement W stmt rest a b c d so moves adds = record {
    added = so.added ++ adds.added;
    grown = grown_twice a.groups b.groups d.groups so.added adds.added so.grown (adds.grown ∙ ap (λ gs. gs ++ adds.added) moves.same);
    drawn = λ more bottom is.
        subst (λ gs. W a.down gs bottom) (sym (append_assoc so.added adds.added more))
        (so.drawn (adds.added ++ more) bottom (higher roles (stmt rest) b.down c.down bottom (adds.added ++ more) moves.down (adds.drawn rest more bottom is)));
  }

  pub all_statements : (body : Body) (a b c : DrawingView) → SoFar (Draws roles body) (Draws roles End) a b → Moves b c → AddsBody roles body a c
  all_statements body a b c so moves = record {
    added = so.added;
    grown = moves.same ∙ so.grown;
    drawn = subst (λ gs. Draws roles body a.down gs c.down) (append-nil so.added) (so.drawn [] c.down (refl, moves.down));
  }

  -- blocks below each other
  pub first_block : (word : List ℕ) (body : Body) (bs : Bodies) (a b c : DrawingView) → Moves a b → AddsBody roles body b c → SoFar (DrawsBlocks roles word (Or body bs)) (DrawsBehind roles word bs) a c
  first_block word body bs a b c moves adds = record {
    added = adds.added;
    grown = adds.grown ∙ ap (λ gs. gs ++ adds.added) moves.same;
    drawn = λ more bottom d. (adds.added, more, c.down, refl, higher roles body a.down b.down c.down adds.added moves.down adds.drawn, d);
  }

  pub next_block : (W : ℕ → List Group → ℕ → Type 0) (word : List ℕ) (body : Body) (bs : Bodies) (a b c d : DrawingView) → SoFar W (DrawsBehind roles word (Or body bs)) a b → AddsOne (block_title word body) b c → AddsBody roles body c d → SoFar W (DrawsBehind roles word bs) a d
  next_block W word body bs a b c d so one adds = record {
    added = so.added ++ (one.group ∷ adds.added);
    grown = grown_twice a.groups b.groups d.groups so.added (one.group ∷ adds.added) so.grown (adds.grown ∙ ap (λ gs. gs ++ adds.added) one.grown ∙ append_assoc b.groups (one.group ∷ []) adds.added);
    drawn = λ more bottom is.
        subst (λ gs. W a.down gs bottom) (sym (append_assoc so.added (one.group ∷ adds.added) more))
        (so.drawn (one.group ∷ (adds.added ++ more)) bottom
        (one.group, adds.added, more, d.down, refl, one.stands, higher roles body (lower one.group) c.down d.down adds.added one.down adds.drawn, is));
  }

  pub all_blocks : (word : List ℕ) (bs : Bodies) (a b : DrawingView) → SoFar (DrawsBlocks roles word bs) (DrawsBehind roles word NoMore) a b → AddsBlocks roles word bs a b
  all_blocks word bs a b so = record {
    added = so.added;
    grown = so.grown;
    drawn = subst (λ gs. DrawsBlocks roles word bs a.down gs b.down) (append-nil so.added) (so.drawn [] b.down (refl, omega arith));
  }

  pub no_blocks : (word : List ℕ) (a : DrawingView) → AddsBlocks roles word NoMore a a
  no_blocks word a = record { added = []; grown = sym (append-nil a.groups); drawn = (refl, omega arith) }

  -- lanes beside each other
  pub first_lane : (body : Body) (bs : Bodies) (least end : ℕ) (a b : DrawingView) → a.down ≤ least → AddsLane roles body least end a b → LanesSoFar roles (Or body bs) bs end a b
  first_lane body bs least end a b low lane = record {
    added = lane.added;
    grown = lane.grown;
    back = lane.back;
    drawn = λ more bottom down d. (lane.added, more, lane.middle, refl, lane.drawn, omega (arith, down, lane.inside), d);
    down = omega (arith, low, lane.further);
  }

  pub next_lane : (whole : Bodies) (body : Body) (bs : Bodies) (before least end : ℕ) (a b c d e : DrawingView) → LanesSoFar roles whole (Or body bs) before a b → AddsOne (block_title (codes "and") body) b c → before ≤ least → c.down ≤ least → d.groups ≡ c.groups → d.down ≡ a.down → AddsLane roles body least end d e → LanesSoFar roles whole bs end a e
  next_lane whole body bs before least end a b c d e so one low down same top lane = record {
    added = so.added ++ (one.group ∷ lane.added);
    grown = grown_twice a.groups b.groups e.groups so.added (one.group ∷ lane.added) so.grown (lane.grown ∙ ap (λ gs. gs ++ lane.added) (same ∙ one.grown) ∙ append_assoc b.groups (one.group ∷ []) lane.added);
    back = lane.back ∙ top;
    drawn = λ more bottom ends is.
        subst (λ gs. DrawsLanes roles whole a.down gs bottom) (sym (append_assoc so.added (one.group ∷ lane.added) more))
        (so.drawn (one.group ∷ (lane.added ++ more)) bottom (omega (arith, low, lane.further, ends)) (
          one.group,
          lane.added,
          more,
          lane.middle,
          refl,
          subst (λ t. Stands (block_title (codes "and") body) t one.group) so.back one.stands,
          omega (arith, one.down, down, lane.further, ends),
          subst (λ t. Draws roles body t lane.added lane.middle) top lane.drawn,
          omega (arith, lane.inside, ends),
          is,
        ));
    down = omega (arith, so.down, low, lane.further);
  }

  pub all_lanes : (bs : Bodies) (end : ℕ) (a b c : DrawingView) → LanesSoFar roles bs NoMore end a b → c.groups ≡ b.groups → c.down ≡ end → AddsBeside roles bs a c
  all_lanes bs end a b c so same down = record {
    added = so.added;
    grown = same ∙ so.grown;
    drawn = subst (λ gs. DrawsLanes roles bs a.down gs c.down) (append-nil so.added) (so.drawn [] c.down (omega (arith, down)) (refl, omega (arith, down, so.down)));
  }

  -- how far down they go
  pub blocks_low : (word : List ℕ) (bs : Bodies) (start inner : DrawingView) → AddsBlocks roles word bs start inner → start.down ≤ inner.down
  blocks_low word bs start inner adds = blocks_go roles word bs start.down inner.down adds.added adds.drawn

  pub body_low : (body : Body) (start inner : DrawingView) → AddsBody roles body start inner → start.down ≤ inner.down
  body_low body start inner adds = goes_down roles body start.down inner.down adds.added adds.drawn

  -- one lane, from a to c, after which the drawing goes back up
  pub one_lane : (body : Body) (end down top : ℕ) (a b c d : DrawingView) → top ≡ a.down → Moves a b → AddsBody roles body b c → d ≡ record { groups = c.groups; down = top } → end ≤ down → c.down ≤ down → AddsLane roles body end down a d
  one_lane body end down top a b c d there moves adds back least low = record {
    added = adds.added;
    grown = ap (λ (x : DrawingView). x.groups) back ∙ adds.grown ∙ ap (λ gs. gs ++ adds.added) moves.same;
    back = ap (λ (x : DrawingView). x.down) back ∙ there;
    middle = c.down;
    drawn = higher roles body a.down b.down c.down adds.added moves.down adds.drawn;
    inside = low;
    further = least;
  }

  -- a statement in other words
  pub adds_same : (f g : Body → Body) (a b : DrawingView) → ((rest : Body) → f rest ≡ g rest) → AddsStatement roles f a b → AddsStatement roles g a b
  adds_same f g a b same adds = record {
    added = adds.added;
    grown = adds.grown;
    drawn = λ rest more bottom d. subst (λ (x : Body). Draws roles x a.down (adds.added ++ more) bottom) (same rest) (adds.drawn rest more bottom d);
  }

-- a group that was put, and a frame around what was drawn
pub put_one : (title : List ℕ) (a b c : DrawingView) (g : Group) → Moves a b → IsBelow a.down b.down → g.title.items ≡ title → upper g ≡ b.down → lower g ≡ b.down → c ≡ with_groups b (g ∷ []) → AddsOne title a c
put_one title a b c g moves below is up low put = record {
  group = g;
  grown = ap (λ (d : DrawingView). d.groups) put ∙ ap (λ gs. gs ++ g ∷ []) moves.same;
  stands = record { titled = is; below = subst (IsBelow a.down) (sym up) below; down = omega (arith, up, low) };
  down = let d : c.down ≡ b.down = ap (λ (d : DrawingView). d.down) put in omega (arith, low, d);
}

pub put_framed : (title : List ℕ) (inner skipped before middle after : DrawingView) (g : Group) (bottom : ℕ) → Moves inner skipped → bottom ≡ skipped.down → g.title.items ≡ title → upper g ≡ before.down → lower g ≡ bottom → middle ≡ with_groups before (g ∷ []) → after ≡ record { groups = middle.groups ++ skipped.groups; down = bottom } → AddsFrame title inner before after
put_framed title inner skipped before middle after g bottom moves end is up low put done = record {
  group = g;
  grown =
      ap (λ (d : DrawingView). d.groups) done ∙ ap (λ (d : DrawingView). d.groups ++ skipped.groups) put
      ∙ append_assoc before.groups (g ∷ []) skipped.groups ∙ ap (λ gs. before.groups ++ g ∷ gs) moves.same;
  titled = is;
  top = up;
  bottom = low ∙ sym (ap (λ (d : DrawingView). d.down) done);
  around = let d : after.down ≡ bottom = ap (λ (d : DrawingView). d.down) done in omega (arith, d, end, moves.down);
}

-- the drawing of a protocol, and its picture
pub draws_all : (roles : List (List ℕ)) (body : Body) (start a b c : DrawingView) → start.groups ≡ [] → Moves start a → AddsBody roles body a b → Moves b c → DrawsAll roles body c
draws_all roles body start a b c empty skips adds moves = record {
  top = a.down;
  bottom = b.down;
  drawn = subst (λ gs. Draws roles body a.down gs b.down) (sym (moves.same ∙ adds.grown ∙ ap (λ gs. gs ++ adds.added) (skips.same ∙ empty))) adds.drawn;
  inside = moves.down;
}

pub is_chart : (roles : List (List ℕ)) (body : Body) (drawing : DrawingView) (picture : Picture) → DrawsAll roles body drawing → titled_of picture ≡ drawing.groups → drawing.down ≤ picture.height.0 → IsChart roles body picture
is_chart roles body drawing picture all groups height = record {
  top = all.top;
  bottom = all.bottom;
  drawn = subst (λ gs. Draws roles body all.top gs all.bottom) (sym groups) all.drawn;
  inside = omega (arith, all.inside, height);
}

pub chart_titled : (roles : List (List ℕ)) (body : Body) (picture : Picture) → IsChart roles body picture → titles_of picture ≡ statement_titles roles body
chart_titled roles body picture chart = titled roles body chart.top chart.bottom (titled_of picture) chart.drawn
