-- What statements, blocks and branches say, read one after another.
use Rattle.std.proofs.Common.{◌≡◌, ℕ, ◌+◌, ◌-◌, ◌<◌, ◌≤◌, nat_le, ◌||◌, Bool, true, false, Some, Result, Ok, Err, OnOk, List, [], ◌∷◌, ◌++◌, length, map, drop, refl, sym, ap, subst, ◌∙◌, arith}
use Rattle.std.proofs.lemmas.List.{length-map}
use Rattle.rcv_tree.specs.Lists.{statements, blocks}
use Rattle.rcv_tree.specs.declared.statement.Stmt.{Stmt}
use Rattle.rcv_tree.specs.declared.statement.Stmt.TheVariants as stmt
use Rattle.rcv_tree.specs.declared.statement.Block.{Block}
use Rattle.rcv_tree.specs.declared.statement.Blocks.{Blocks}
use Rattle.rcv_model.specs.Text as trees
use Rattle.rcv_model.proofs.Text.{body_of_lem, bodies_of_lem, stmt_body-Message, stmt_body-Choice, stmt_body-Rec, stmt_body-Continue, stmt_body-Par}
use Rattle.rcv_machine.specs.Words.{Sign, Open, Close, Or, And, Par, Choice, Rec, Continue, Left, Right, From, To, At, Semicolon, Symbol, Is, Word, Written, NoStmt, AMessage, AChoice, ARec, AContinue, APar, NoBlock, ABlock, stmts, sort_list, blocks_behind, IsBegun, or_first, place_of, role_at, points, points_of, singles, trees_of, MayReceive}
use Rattle.rcv_machine.specs.Words.{Fault, AfterContinue, NotYet, Named, nobody, Place, Item, This, Subject, Opening, First, Rest, More, Lane, Later, State, Outcome, On, after_statement, beside, unless, after, answer, known}
use Rattle.rcv_syntax.specs.Grammar as grammar
use Rattle.rcv_reader.specs.Descent.{Spot, Stop, Standing, at, back_at, within, named_in, answers, IsOver, place_of_spot, messages, in_front, branches_in_front, AreReceived, AreStmts, AreBlocks, Adds, Consumes, TakesSome, TakesAll, TakesBlock}
use Rattle.rcv_reader.proofs.Stops.{halts_behind, goes_on}
use Rattle.rcv_reader.proofs.Named.{nobody_named}

-- ---- one statement

in_front-append : (xs ys : List Stmt) (rest : trees.Body) → in_front (xs ++ ys) rest ≡ in_front xs (in_front ys rest)
in_front-append [] ys rest = refl
in_front-append (x ∷ xs) ys rest = ap (trees.stmt_body x) (in_front-append xs ys rest)

messages_in_front : (label : List ℕ) (sorts : List (List ℕ)) (sender : ℕ) (rs : List ℕ) (n : ℕ) (rest : trees.Body)
    → in_front (messages label sorts sender rs n) rest ≡ singles label sorts sender rs n rest
messages_in_front label sorts sender [] n rest = refl
messages_in_front label sorts sender (r ∷ rs) n rest = rw (stmt_body-Message, messages_in_front label sorts sender rs (n + 1) rest) refl

-- Added statements are those in front of what stands behind them.
pub added_by : (roles : List (List ℕ)) (n n' : ℕ) (added block block' : List Stmt) (old new : List Symbol) → block' ≡ block ++ added
    → (more : (m : ℕ) (body : trees.Body) (next : List Symbol) → AreStmts roles n' m body new next
    → AreStmts roles n m (in_front added body) old next)
    → ((m : ℕ) (body : trees.Body) (next : List Symbol) (w : AreStmts roles n' m body new next) → IsBegun (more m body next w).written)
    → Adds true roles n n' block block' old new
added_by roles n n' added block block' old new is more begun = record {
  front = λ m body next w. record {
    body = in_front added body;
    same = ap (λ (x : List Stmt). in_front x body) is ∙ in_front-append block added body;
    stmts = more m body next w;
    begun = λ is. begun m body next w;
  };
}

pub message_read : (p p1 p2 p3 p4 new : Standing) (label : List ℕ) (sorts : List (List ℕ)) (sender : ℕ) (receivers : List ℕ)
    (points : ℕ) (block block' : List Stmt) → p ≡ at p1 (Is Left ∷ p1.rest)
    → p1 ≡ at p2 (sort_list sorts (Is Right ∷ p2.rest)) → ((n : List ℕ) × (place_of p3.roles n ≡ Some sender) × (p2 ≡ back_at p3 p3.count p2.since (Is From ∷ Word n ∷ p3.rest)))
    → p3 ≡ at p4 (Is To ∷ p4.rest) → AreReceived p4 (at new (Is Semicolon ∷ new.rest)) sender receivers
    → points ≡ new.count → block' ≡ block ++ messages label sorts sender receivers (points - length receivers)
    → TakesSome p new (Word label ∷ []) block block'
message_read p p1 p2 p3 p4 new label sorts sender receivers points block block' e1 e2 role e4 are all is =
    let before : points - length receivers ≡ p4.count = omega (arith, all, are.counted) in
    let is_role = rw (e4, are.spelled) at role.1 in
    let place : role_at new.roles role.0 ≡ sender = ap or_first is_role in
    let long = ap length are.places ∙ length-map (are.first ∷ are.others) (role_at new.roles) in
    let count : new.count ≡ p4.count + (1 + length are.others) = omega (arith, are.counted, long) in
    rw (e1, e2, role.2, e4, are.spelled) (
      refl,
      added_by new.roles p4.count new.count _ block block' _ _ (rw before at is) (λ m body next w. record {
        written = AMessage label sorts role.0 are.first are.others w.written;
        sound = (
          w.sound.0,
          ((sender, is_role), subst (λ (x : ℕ). MayReceive new.roles x [] (are.first ∷ are.others)) (sym place) are.may, w.sound.1),
        );
        spelled = rw w.spelled refl;
        counted = omega (arith, count, w.counted);
        tree = messages_in_front label sorts sender receivers p4.count body ∙ rw (w.tree, ← place, are.places, count) refl;
      }) (λ m body next w. tt),
    )

pub again_read : (p0 p1 new : Standing) (name : List ℕ) (block block' : List Stmt) → p0 ≡ at p1 (Word name ∷ p1.rest)
    → p1 ≡ at new (Is Semicolon ∷ new.rest) → block' ≡ block ++ stmt.Continue name ∷ [] → TakesSome p0 new (Is Continue ∷ []) block block'
again_read p0 p1 new name block block' e f is = rw (e, f) (
  refl,
  added_by new.roles new.count new.count _ block block' _ _ is (λ m body next w. record {
    written = AContinue name w.written;
    sound = w.sound;
    spelled = rw w.spelled refl;
    counted = w.counted;
    tree = rw (stmt_body-Continue, w.tree) refl;
  }) (λ m body next w. tt),
)

pub rec_read : (p q r new : Standing) (name : List ℕ) (body : Block) (block block' : List Stmt)
    → ((n : List ℕ) × (p ≡ at p (Word n ∷ q.rest)) × (q ≡ within (at p q.rest) (p.recs ++ n ∷ []))) → TakesBlock q r body
    → ((recs : List (List ℕ)) (n : List ℕ) → r.recs ≡ recs ++ n ∷ [] → (new ≡ within r recs) × (name ≡ n))
    → block' ≡ block ++ stmt.Rec name body ∷ [] → TakesSome p new (Is Rec ∷ []) block block'
rec_read p q r new name body block block' (n, e, entered) takes leaves is =
    let (kept, inner, opened, b, begun) = rw entered at takes in
    let (left, same) = leaves p.recs n (sym (ap (λ (x : Standing). x.recs) kept)) in
    rw left (
      ap (λ (x : Standing). at (within x p.recs) p.rest) kept,
      added_by r.roles p.count r.count _ block block' _ _ (rw same at is) (λ l rest next w. record {
        written = ARec n b.written w.written;
        sound = ((begun, b.sound.0, w.sound.0), (b.sound.1, w.sound.1));
        spelled = rw (ap (λ (x : Standing). x.rest) e, opened, b.spelled, w.spelled) refl;
        counted = omega (arith, b.counted, w.counted);
        tree = rw (stmt_body-Rec, b.tree, w.tree, b.counted) refl;
      }) (λ l rest next w. tt),
    )

-- the blocks of a choice, of which there is a first
first_of : (os : grammar.Blocks) (ts next : List Symbol) → Is Or ∷ ts ≡ blocks_behind Or os next → length next < length ts
    → (first : Written) × (others : grammar.Blocks) × (os ≡ ABlock first others)
first_of NoBlock ts next e lt = let long = ap length e in absurd (omega (arith, long, lt))
first_of (ABlock first others) ts next e lt = (first, others, refl)

-- a choice more at the end of a block
choice_added : (p r new : Standing) (subject : ℕ) (bs : Blocks) (block block' : List Stmt)
    → ((n : List ℕ) × (place_of r.roles n ≡ Some subject) × (p ≡ back_at r r.count p.since (Is At ∷ Word n ∷ r.rest)))
    → r ≡ back_at new r.count r.since r.rest
    → AreBlocks Or new.roles r.count new.count (trees.bodies_of bs) (Is Or ∷ r.rest) new.rest → length new.rest < length r.rest
    → block' ≡ block ++ stmt.Choice subject bs ∷ [] → TakesSome p new (Is Choice ∷ []) block block'
choice_added p r new subject bs block block' role kept b lt is =
    let is_role = rw kept at role.1 in
    let place : role_at new.roles role.0 ≡ subject = ap or_first is_role in
    let (first, others, both) = first_of b.written r.rest new.rest b.spelled lt in
    let sound = rw both at b.sound in
    let spelled : r.rest ≡ Is Open ∷ stmts first (Is Close ∷ blocks_behind Or others new.rest) = ap (drop 1) (rw both at b.spelled) in
    let counted : new.count ≡ r.count + (points first + points_of others) = rw both at b.counted in
    let tree = rw both at b.tree in
    rw (role.2, kept) (
      refl,
      added_by new.roles r.count new.count _ block block' _ _ is (λ m body next w. record {
        written = AChoice role.0 first others w.written;
        sound = ((sound.0.0, sound.0.1, sound.0.2, w.sound.0), ((subject, is_role), sound.1.0, sound.1.1, w.sound.1));
        spelled = ap (λ (x : List Symbol). Is Choice ∷ Is At ∷ Word role.0 ∷ x)
            (spelled ∙ ap (λ (x : List Symbol). Is Open ∷ stmts first (Is Close ∷ blocks_behind Or others x)) w.spelled);
        counted = omega (arith, counted, w.counted);
        tree = rw (stmt_body-Choice, tree, w.tree, counted, place) refl;
      }) (λ m body next w. tt),
    )

-- What stands behind the first symbol of a statement was taken, and so the statement was.
pub statement : (r : Result Unit Stop) (ended : Bool) (p q new : Standing) (spot : Spot) (t : Symbol)
    (item over last : List Item → List Item) (block block' : List Stmt) → Consumes r q new item (λ x k. last k)
    → p ≡ at q (t ∷ q.rest)
    → ((k : List Item) → answers (at q (t ∷ q.rest)) (First (place_of_spot q spot) ∷ k) ≡ answers q (item (over k)))
    → OnOk r (TakesSome q new (t ∷ []) block block')
    → (place_of_spot q spot ≡ place_of_spot new spot → (k : List Item) → last (over k) ≡ Rest (after_statement (place_of_spot new spot) ended) ∷ k)
    → Consumes r p new (λ k. First (place_of_spot p spot) ∷ k) (λ x k. Rest (after_statement (place_of_spot new spot) ended) ∷ k)
statement (Ok x) ended p q new spot t item over last block block' goes taken first takes same =
    let on = λ (k : List Item). first k ∙ goes.0 (over k) ∙ ap (answers new) (same (ap (λ (x : Standing). place_of_spot x spot) takes.0) k) in
    rw taken (on, omega (arith, goes.1))
statement (Err e) ended p q new spot t item over last block block' goes taken first takes same =
    halts_behind {X = Unit} (Err e) e p q new _ item over (λ x k. Rest (after_statement (place_of_spot new spot) ended) ∷ k) refl goes.0 (rw taken first)

-- ---- statements, one after another

nothing : (roles : List (List ℕ)) (n : ℕ) (ts : List Symbol) → AreStmts roles n n trees.End ts ts
nothing roles n ts = record { written = NoStmt; sound = (tt, tt); spelled = refl; counted = omega arith; tree = refl }

pub no_stmts : (roles : List (List ℕ)) (count : ℕ) (block : List Stmt) (ts : List Symbol) → Adds false roles count count block block ts ts
no_stmts roles count block ts = record { front = λ m body next w. record { body = body; same = refl; stmts = w; begun = λ is. cc } }

-- More was added behind what was added.
join : (some other : Bool) (roles : List (List ℕ)) (n k j : ℕ) (block block1 block2 : List Stmt) (start now new : List Symbol)
    → Adds some roles n k block block1 start now → Adds other roles k j block1 block2 now new → Adds some roles n j block block2 start new
join some other roles n k j block block1 block2 start now new adds more = record {
  front = λ m body next w. let b = more.front m body next w in
      let a = adds.front m b.body next b.stmts in record { body = a.body; same = b.same ∙ a.same; stmts = a.stmts; begun = a.begun };
}

pub record StmtsSoFar (old now : Standing) (spot here : Spot) (block block' : List Stmt) : Type 0 where
  pub goes : (k : List Item) → answers old (Rest (place_of_spot old spot) ∷ k) ≡ answers now (Rest (place_of_spot now here) ∷ k)
  pub kept : old ≡ back_at now old.count old.since old.rest
  pub adds : Adds false now.roles old.count now.count block block' old.rest now.rest
  pub within : here.comes ≤ length now.recs
  pub shorter : length now.rest ≤ length old.rest

pub stmts_next : (old p q new : Standing) (spot here next : Spot) (block block1 block2 : List Stmt)
    → StmtsSoFar old p spot here block block1 → p ≡ q → IsOver Close q
    → ((k : List Item) → answers q (First (place_of_spot q here) ∷ k) ≡ answers new (Rest (place_of_spot new next) ∷ k))
    → TakesSome q new [] block1 block2 → next.comes ≡ 0 → length new.rest < length q.rest → StmtsSoFar old new spot next block block2
stmts_next old p q new spot here next block block1 block2 so_far e over goes takes none lt =
    let so = rw e at so_far in
    let kept = rw takes.0 at so in
    record {
      goes = λ k. so.goes k ∙ over.over (Rest (place_of_spot q here)) k refl ∙ goes k;
      kept = kept.kept;
      adds = join _ _ _ _ _ _ _ _ _ _ _ _ kept.adds takes.1;
      within = omega (arith, none);
      shorter = omega (arith, so.shorter);
    }

-- ---- a block

joined-in_front : (ss : List Stmt) → in_front ss trees.End ≡ trees.joined (map trees.stmt_body ss)
joined-in_front [] = refl
joined-in_front (s ∷ ss) = ap (trees.stmt_body s) (joined-in_front ss)

-- A block that was empty is what was added to it.
pub whole_block : (some : Bool) (b : Block) (roles : List (List ℕ)) (n k : ℕ) (block : List Stmt) (start now : List Symbol) → block ≡ []
    → Adds some roles n k block (statements b) start now
    → (w : AreStmts roles n k (trees.body_of b) start now) × (some ≡ true → IsBegun w.written)
whole_block some b roles n k block start now empty adds =
    let a = rw empty at (adds.front k trees.End now (nothing roles k now)) in
    rw (body_of_lem b, ← joined-in_front (statements b), a.same) (a.stmts, a.begun)

pub block_read : (p q r new : Standing) (b : Block) (none block : List Stmt) → p ≡ at q (Is Open ∷ q.rest) → none ≡ []
    → TakesSome q r [] none block → TakesAll r new block (statements b) → TakesBlock p new b
block_read p q r new b none block e empty first rest =
    let a = rw rest.0 at first in
    let all = join _ _ _ _ _ _ _ _ _ _ _ _ a.1 rest.1 in
    let whole = whole_block true b new.roles q.count new.count none q.rest (Is Close ∷ new.rest) empty all in
    rw e (ap (λ (x : Standing). at x (Is Open ∷ q.rest)) a.0, q.rest, refl, whole.0, whole.1 refl)

-- ---- the blocks of a choice

block_in_front : (word : Sign) (roles : List (List ℕ)) (n k m : ℕ) (body : trees.Body) (bodies : trees.Bodies) (ts inner us next : List Symbol)
    → ts ≡ Is Open ∷ inner → (b : AreStmts roles n k body inner (Is Close ∷ us)) → IsBegun b.written → AreBlocks word roles k m bodies us next
    → AreBlocks word roles n m (trees.Or body bodies) (Is word ∷ ts) next
block_in_front word roles n k m body bodies ts inner us next opened b begun others = record {
  written = ABlock b.written others.written;
  sound = ((begun, b.sound.0, others.sound.0), (b.sound.1, others.sound.1));
  spelled = rw (opened, b.spelled, others.spelled) refl;
  counted = omega (arith, b.counted, others.counted);
  tree = rw (b.tree, others.tree, b.counted) refl;
}

-- The subject was read, and the first blocks; one more has to stand behind them.
pub record ChoiceSoFar (old now : Standing) (spot : Spot) (subject : ℕ) (bs : List Block) : Type 0 where
  pub start : Standing  -- in front of the first block
  pub role : (n : List ℕ) × (place_of start.roles n ≡ Some subject) × (old ≡ back_at start start.count old.since (Is At ∷ Word n ∷ start.rest))
  pub goes : (k : List Item) → answers old (This (Is At) ∷ Subject (place_of_spot old spot).earlier ∷ Opening (place_of_spot old spot) ∷ More (place_of_spot old spot) ∷ k)
      ≡ answers now (Opening (place_of_spot now spot) ∷ More (place_of_spot now spot) ∷ k)
  pub kept : start ≡ back_at now start.count start.since start.rest
  pub reads : (m : ℕ) (bodies : trees.Bodies) (next : List Symbol) → AreBlocks Or now.roles now.count m bodies (Is Or ∷ now.rest) next
      → AreBlocks Or now.roles start.count m (branches_in_front bs bodies) (Is Or ∷ start.rest) next
  pub within : spot.comes ≤ length now.recs
  pub shorter : (length now.rest ≤ length start.rest) × (length now.rest < length old.rest)

branches-push : (bs : List Block) (b : Block) (others : trees.Bodies)
    → branches_in_front (bs ++ b ∷ []) others ≡ branches_in_front bs (trees.Or (trees.body_of b) others)
branches-push [] b others = refl
branches-push (x ∷ bs) b others = ap (trees.Or (trees.body_of x)) (branches-push bs b others)

pub choice_next : (old p q new : Standing) (spot : Spot) (subject : ℕ) (bs bs' : List Block) (b : Block)
    → ChoiceSoFar old p spot subject bs → ((k : List Item) → answers p (Opening (place_of_spot p spot) ∷ k) ≡ answers q k)
    → TakesBlock p q b → bs' ≡ bs ++ b ∷ [] → length q.rest < length p.rest → q ≡ at new (Is Or ∷ new.rest)
    → ChoiceSoFar old new spot subject bs'
choice_next old p q new spot subject bs bs' b so_far goes takes is lt e =
    let (kept, inner, opened, block, begun) = rw e at takes in
    let so = rw kept at so_far in
    let long = ap (λ (x : Standing). length x.rest) e in
    record {
      start = so.start;
      role = so.role;
      goes = λ k. so_far.goes k ∙ goes (More (place_of_spot p spot) ∷ k)
          ∙ ap (λ (x : Standing). answers q (More (place_of_spot x spot) ∷ k)) kept
          ∙ ap (λ (x : Standing). answers x (More (place_of_spot new spot) ∷ k)) e;
      kept = so.kept;
      reads = λ m bodies next w. rw (is, branches-push) (so.reads m _ next
          (block_in_front Or new.roles p.count new.count m _ bodies p.rest inner (Is Or ∷ new.rest) next opened block begun w));
      within = so.within;
      shorter = (omega (arith, so.shorter.0, lt, long), omega (arith, so.shorter.1, lt, long));
    }

alternatives-in_front : (bs : List Block) → branches_in_front bs trees.NoMore ≡ trees.alternatives (map trees.body_of bs)
alternatives-in_front [] = refl
alternatives-in_front (b ∷ bs) = ap (trees.Or (trees.body_of b)) (alternatives-in_front bs)

pub choice_read : (old p q new : Standing) (spot : Spot) (subject : ℕ) (bs : List Block) (all : Blocks) (b : Block) (block block' : List Stmt)
    → ChoiceSoFar old p spot subject bs → TakesBlock p q b → blocks all ≡ bs ++ b ∷ [] → length q.rest < length p.rest → q ≡ new
    → block' ≡ block ++ stmt.Choice subject all ∷ [] → TakesSome old new (Is Choice ∷ []) block block'
choice_read old p q new spot subject bs all b block block' so_far (kept, inner, opened, body, begun) is lt over added =
    let so = rw kept at so_far in
    let none : AreBlocks Or q.roles q.count q.count trees.NoMore q.rest q.rest =
    record { written = NoBlock; sound = (tt, tt); spelled = refl; counted = omega arith; tree = refl } in
    let last = block_in_front Or q.roles p.count q.count q.count _ trees.NoMore p.rest inner q.rest q.rest opened body begun none in
    let whole : AreBlocks Or q.roles so.start.count q.count (trees.bodies_of all) (Is Or ∷ so.start.rest) q.rest =
    rw (bodies_of_lem all, ← alternatives-in_front (blocks all), is, branches-push) (so.reads q.count _ q.rest last) in
    rw (← over) (choice_added old so.start q subject all block block' so.role so.kept whole (omega (arith, so.shorter.0, lt)) added)

-- ---- the blocks of a par

-- These are two blocks at least, where the bodies are those of two at least.
two_of : (roles : List (List ℕ)) (n : ℕ) (os : grammar.Blocks) (bodies : trees.Bodies) (a b : trees.Body) (more : trees.Bodies)
    → bodies ≡ trees.Or a (trees.Or b more) → bodies ≡ trees_of roles n os
    → (first second : Written) × (others : grammar.Blocks) × (os ≡ ABlock first (ABlock second others))
two_of roles n NoBlock bodies a b more e f = absurd cc
two_of roles n (ABlock first NoBlock) bodies a b more e f = absurd cc
two_of roles n (ABlock first (ABlock second others)) bodies a b more e f = (first, second, others, refl)

-- a par more at the end of a block
par_added : (p new : Standing) (bs : Blocks) (first second : Written) (others : grammar.Blocks) (block block' : List Stmt)
    → p ≡ back_at new p.count p.since p.rest
    → (b : AreBlocks And new.roles p.count new.count (trees.bodies_of bs) (Is And ∷ p.rest) new.rest)
    → b.written ≡ ABlock first (ABlock second others) → block' ≡ block ++ stmt.Par bs ∷ [] → TakesSome p new (Is Par ∷ []) block block'
par_added p new bs first second others block block' kept b both is =
    let sound = rw both at b.sound in
    let spelled : p.rest ≡ Is Open ∷ stmts first (Is Close ∷ Is And ∷ Is Open ∷ stmts second (Is Close ∷ blocks_behind And others new.rest)) =
    ap (drop 1) (rw both at b.spelled) in
    let counted : new.count ≡ p.count + (points first + (points second + points_of others)) = rw both at b.counted in
    let tree = rw both at b.tree in (
      kept,
      added_by new.roles p.count new.count _ block block' _ _ is (λ m body next w. record {
        written = APar first second others w.written;
        sound = ((sound.0.0, sound.0.1, sound.0.2.0, sound.0.2.1, sound.0.2.2, w.sound.0), (sound.1.0, sound.1.1.0, sound.1.1.1, w.sound.1));
        spelled = ap (λ (x : List Symbol). Is Par ∷ x) (spelled ∙ ap (λ (x : List Symbol).
            Is Open ∷ stmts first (Is Close ∷ Is And ∷ Is Open ∷ stmts second (Is Close ∷ blocks_behind And others x))) w.spelled);
        counted = omega (arith, counted, w.counted);
        tree = rw (stmt_body-Par, tree, w.tree, counted) refl;
      }) (λ m body next w. tt),
    )

-- A block of a par is one behind those that name the roles so far.
abbrev pub IsBeside : Spot → Spot → ℕ → Type 0
IsBeside spot inner earlier = (p : Standing) → place_of_spot p inner ≡ beside (place_of_spot p spot) (named_in p.roles earlier)

lane_at : (s : State) (p : Place) (ts : List Symbol) (k : List Item) → answer s (Lane p ∷ k) ts ≡ answer s (Opening (beside p s.since) ∷ k) ts
lane_at s p [] k = refl
lane_at s p (t ∷ ts) k = refl

pub lane_opens : (r : Result Block Stop) (p new : Standing) (spot inner : Spot) → IsBeside spot inner p.since
    → Consumes r p new (λ k. Opening (place_of_spot p inner) ∷ k) (λ x k. k) → Consumes r p new (λ k. Lane (place_of_spot p spot) ∷ k) (λ x k. k)
lane_opens r p new spot inner is goes =
    goes_on r p new (λ k. Lane (place_of_spot p spot) ∷ k) (λ k. Opening (place_of_spot p inner) ∷ k) (λ x k. k)
    (λ k. lane_at (known p.protocols p.roles p.count (named_in p.roles p.since)) (place_of_spot p spot) p.rest k
    ∙ ap (λ (x : Place). answers p (Opening x ∷ k)) (sym (is p))) goes

-- what is awaited at a par, behind its word, and at a block behind the first one
abbrev pub from_first : Standing → Spot → List Item → List Item
from_first p spot k = Lane (place_of_spot p spot) ∷ This (Is And) ∷ Lane (place_of_spot p spot) ∷ Later (place_of_spot p spot) ∷ k

abbrev pub from_next : Standing → Spot → List Item → List Item
from_next p spot k = Lane (place_of_spot p spot) ∷ Later (place_of_spot p spot) ∷ k

-- The first blocks were read, and the word and; one more has to stand behind them.
pub record ParSoFar (old now : Standing) (spot : Spot) (bs : List Block) : Type 0 where
  pub goes : (k : List Item) → answers old (from_first old spot k) ≡ answers now (from_next now spot k)
  pub kept : old ≡ back_at now old.count old.since old.rest
  pub reads : (m : ℕ) (bodies : trees.Bodies) (next : List Symbol) → AreBlocks And now.roles now.count m bodies (Is And ∷ now.rest) next
      → AreBlocks And now.roles old.count m (branches_in_front bs bodies) (Is And ∷ old.rest) next
  pub some : (b : Block) × (others : List Block) × (bs ≡ b ∷ others)
  pub shorter : length now.rest < length old.rest

pub par_first : (old q new : Standing) (spot : Spot) (none bs : List Block) (b : Block)
    → ((k : List Item) → answers old (Lane (place_of_spot old spot) ∷ k) ≡ answers q k) → TakesBlock old q b → none ≡ []
    → bs ≡ none ++ b ∷ [] → length q.rest < length old.rest → q ≡ at new (Is And ∷ new.rest) → ParSoFar old new spot bs
par_first old q new spot none bs b goes takes empty pushed lt e =
    let (kept, inner, opened, block, begun) = rw e at takes in
    let one : bs ≡ b ∷ [] = rw empty at pushed in
    let long = ap (λ (x : Standing). length x.rest) e in
    let after_statement = λ (x : Standing) (k : List Item). This (Is And) ∷ from_next x spot k in
    record {
      goes = λ k. goes (after_statement old k) ∙ ap (λ (x : Standing). answers q (after_statement x k)) kept ∙ ap (λ (x : Standing). answers x (after_statement new k)) e;
      kept = kept;
      reads = λ m bodies next w. rw one (block_in_front And new.roles old.count new.count m _ bodies old.rest inner (Is And ∷ new.rest) next opened block begun w);
      some = (b, [], one);
      shorter = omega (arith, lt, long);
    }

pub par_next : (old p q new : Standing) (spot : Spot) (bs bs' : List Block) (b : Block) → ParSoFar old p spot bs
    → ((k : List Item) → answers p (Lane (place_of_spot p spot) ∷ k) ≡ answers q k) → TakesBlock p q b → bs' ≡ bs ++ b ∷ []
    → length q.rest < length p.rest → q ≡ at new (Is And ∷ new.rest) → ParSoFar old new spot bs'
par_next old p q new spot bs bs' b so_far goes takes pushed lt e =
    let (kept, inner, opened, block, begun) = rw e at takes in
    let so = rw kept at so_far in
    let long = ap (λ (x : Standing). length x.rest) e in
    let (first, others, these) = so_far.some in
    record {
      goes = λ k. so_far.goes k ∙ goes (Later (place_of_spot p spot) ∷ k)
          ∙ ap (λ (x : Standing). answers q (Later (place_of_spot x spot) ∷ k)) kept
          ∙ ap (λ (x : Standing). answers x (Later (place_of_spot new spot) ∷ k)) e;
      kept = so.kept;
      reads = λ m bodies next w. rw (pushed, branches-push) (so.reads m _ next
          (block_in_front And new.roles p.count new.count m _ bodies p.rest inner (Is And ∷ new.rest) next opened block begun w));
      some = (first, others ++ b ∷ [], rw (pushed, these) refl);
      shorter = omega (arith, so_far.shorter, lt, long);
    }

two_or_more : (others : List Block) (b : Block) → (second : trees.Body) × (more : trees.Bodies)
    × (branches_in_front others (trees.Or (trees.body_of b) trees.NoMore) ≡ trees.Or second more)
two_or_more [] b = (_, _, refl)
two_or_more (x ∷ others) b = (_, _, refl)

pub par_read : (old p q new : Standing) (spot : Spot) (bs : List Block) (all : Blocks) (b : Block) (block block' : List Stmt)
    → ParSoFar old p spot bs → TakesBlock p q b → blocks all ≡ bs ++ b ∷ [] → q ≡ new
    → block' ≡ block ++ stmt.Par all ∷ [] → TakesSome old new (Is Par ∷ []) block block'
par_read old p q new spot bs all b block block' so_far (kept, inner, opened, body, begun) is over added =
    let so = rw kept at so_far in
    let (first, others, these) = so_far.some in
    let none : AreBlocks And q.roles q.count q.count trees.NoMore q.rest q.rest =
    record { written = NoBlock; sound = (tt, tt); spelled = refl; counted = omega arith; tree = refl } in
    let last = block_in_front And q.roles p.count q.count q.count _ trees.NoMore p.rest inner q.rest q.rest opened body begun none in
    let bodies : trees.bodies_of all ≡ branches_in_front bs (trees.Or (trees.body_of b) trees.NoMore) =
    rw (bodies_of_lem all, ← alternatives-in_front (blocks all), is, branches-push) refl in
    let whole : AreBlocks And q.roles old.count q.count (trees.bodies_of all) (Is And ∷ old.rest) q.rest =
    rw bodies (so.reads q.count _ q.rest last) in
    let more = two_or_more others b in
    let two = two_of q.roles old.count whole.written (trees.bodies_of all) (trees.body_of first) more.0 more.1
    (rw (these, more.2) at bodies) whole.tree in
    rw (← over) (par_added old q all two.0 two.1 two.2 block block' so.kept whole two.3 added)

passed : (a b : Bool) (f g : Fault) (o : Outcome) → a ≡ false → b ≡ false → unless a f (unless b g o) ≡ o
passed a b f g o still outer = rw (still, outer) refl

-- behind the word par no role is named
par_start : (p q : Standing) (spot : Spot) (next : List Symbol) (k : List Item) → p ≡ at p (Is Par ∷ next) → q ≡ back_at p p.count 0 next
    → spot.ended ≡ false → (nat_le 2 spot.depth || nat_le 2 (length p.protocols)) ≡ false → answers p (First (place_of_spot p spot) ∷ k)
    ≡ answers q (from_first q spot k)
par_start p q spot next k here begun still outer =
    let items = from_first p spot k in
    let on = passed spot.ended (nat_le 2 spot.depth || nat_le 2 (length p.protocols)) AfterContinue NotYet (On (known p.protocols p.roles p.count nobody) items) still outer in
    ap (λ (x : Standing). answers x (First (place_of_spot p spot) ∷ k)) here
    ∙ ap (λ (o : Outcome). after o (Is Par ∷ next) (λ s' k'. answer s' k' next)) on
    ∙ ap (λ (since : Named). answer (known p.protocols p.roles p.count since) items next) (sym (nobody_named p.roles))
    ∙ ap (λ (x : Standing). answers x (from_first x spot k)) (sym begun)

-- A par was taken, of which the word stands first.
pub par_statement : (r : Result Unit Stop) (ended : Bool) (p q new : Standing) (spot : Spot) (next : List Symbol)
    → Consumes r q new (from_first q spot) (λ x k. Rest (after_statement (place_of_spot new spot) false) ∷ k)
    → p ≡ at p (Is Par ∷ next) → q ≡ back_at p p.count 0 next → spot.ended ≡ false
    → (nat_le 2 spot.depth || nat_le 2 (length p.protocols)) ≡ false → ended ≡ false
    → Consumes r p new (λ k. First (place_of_spot p spot) ∷ k) (λ x k. Rest (after_statement (place_of_spot new spot) ended) ∷ k)
par_statement (Ok x) ended p q new spot next goes here begun still outer same_end =
    let long = ap (λ (x : Standing). length x.rest) here in
    let same = ap (λ (x : Standing). length x.rest) begun in
    rw same_end (λ k. par_start p q spot next k here begun still outer ∙ goes.0 k, omega (arith, goes.1, long, same))
par_statement (Err e) ended p q new spot next goes here begun still outer same_end =
    halts_behind {X = Unit} (Err e) e p q new _ (from_first q spot) (λ k. k)
    (λ x k. Rest (after_statement (place_of_spot new spot) ended) ∷ k) refl goes.0 (λ k. par_start p q spot next k here begun still outer)
