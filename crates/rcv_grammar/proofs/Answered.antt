-- Symbols are read as some module or refused: a module can be built of what is written.
use denote.RawPtr.{null_ptr}
use Rattle.std.proofs.Common.{◌≡◌, ℕ, ◌+◌, ◌*◌, ◌^◌, ◌<◌, ◌≤◌, Bool, true, false, List, [], ◌∷◌, ◌++◌, length, map, refl, sym, ap, ◌∙◌, inl, inr, arith, ◌⊎◌, ⊎_elim}
use Rattle.std.proofs.lemmas.List.{length-map}
use Rattle.std.specs.Global.{Vec}
use Rattle.rcv_tree.specs.declared.statement.Stmt.{Stmt}
use Rattle.rcv_tree.specs.declared.statement.Stmt.TheVariants as stmt
use Rattle.rcv_tree.specs.declared.statement.Stmt.TheOpen.{Block-F, Blocks-F}
use Rattle.rcv_tree.specs.declared.statement.Stmt.TheViews.{roll-Block, out-roll-Block, roll-Blocks, out-roll-Blocks}
use Rattle.rcv_tree.specs.declared.statement.Block.{Block}
use Rattle.rcv_tree.specs.declared.statement.Blocks.{Blocks}
use Rattle.rcv_machine.specs.Words.{Or, And, Close, Open, Symbol, Is, symbols_of, lines_of_calls, WrittenProtocol, declared, protocols, IsTreeOf, AreTreesOf, Reads, role_at, roles_at, points, points_of, singles, tree_of, trees_of, IsFit, AreFit, Decl, Named, nobody, Place, Answer, Taken, Refuses, after_statement, beside, inside, inside_rec, outermost, reading}
use Rattle.rcv_tree.specs.declared.protocol.Protocol.{Protocol}
use Rattle.rcv_tree.specs.declared.module.Module.{Module}
use Rattle.rcv_tree.specs.Lists.{declarations}
use Rattle.rcv_model.specs.Text.{Body, Bodies, stmt_body, body_of, bodies_of, joined, alternatives}
use Rattle.rcv_model.proofs.Text.{body_of_lem, bodies_of_lem, stmt_body-Message, stmt_body-Choice, stmt_body-Rec, stmt_body-Continue, stmt_body-Par, stmt_body-Do}
use Rattle.rcv_lexer.specs.declared.token.Span.{Span}
use Rattle.rcv_lexer.specs.declared.token.Token.{Token}
use Rattle.rcv_lexer.specs.Tokens.{AreTokens}
use Rattle.rcv_lexer.proofs.Once.{one_reading, tokens_few}
use Rattle.rcv_syntax.specs.Grammar.{Written, NoStmt, AMessage, AChoice, ARec, AContinue, APar, ADo, Blocks as Blocks', NoBlock, ABlock, Source, Spells, stmts, blocks_behind, names_behind, sort_list, dotted, decls, roles_behind}
use Rattle.rcv_reader.specs.Refusals.{AreReadAs}
use Rattle.rcv_machine.proofs.Exactly.{refusal_is_first, taken_is_free, one_first}
use Rattle.rcv_grammar.specs.Laws.{IsReadPart, IsRefusedPart, HasRefusal, PartsHaveOneAnswer}
use Rattle.rcv_machine.proofs.Passing.{named_by, Passes, PassAll, PassBeside, receivers_fit, arguments_fit}
use Rattle.rcv_grammar.proofs.Headings.{is_later, IsAdmitted, AreAdmitted, head_follows}

-- ---- a block for each list of statements

-- A list that is short enough as the items of a vector: it stands in no memory, but that is nowhere looked at.
abbrev a_vec : (X : Type 0) (xs : List X) → length xs < 2 ^ 63 → Vec X
a_vec X xs short = record { items = xs; ptr = null_ptr; len = length xs; cap = length xs; alloc = record { memory = record { seal = tt } }; ok = (refl, omega arith); small = short }

block_of : (xs : List Stmt) → length xs < 2 ^ 63 → (block : Block) × (body_of block ≡ joined (map stmt_body xs))
block_of xs short =
    let shape : Block-F Stmt Block Blocks = record { items = a_vec Stmt xs short } in
    let same = ap (λ (x : Block-F Stmt Block Blocks). joined (map stmt_body x.items.items)) (out-roll-Block shape) in
    (roll-Block shape, body_of_lem (roll-Block shape) ∙ same)

blocks_of : (xs : List Block) → length xs < 2 ^ 63 → (bs : Blocks) × (bodies_of bs ≡ alternatives (map body_of xs))
blocks_of xs short =
    let shape : Blocks-F Stmt Block Blocks = record { items = a_vec Block xs short } in
    let same = ap (λ (x : Blocks-F Stmt Block Blocks). alternatives (map body_of x.items.items)) (out-roll-Blocks shape) in
    (roll-Blocks shape, bodies_of_lem (roll-Blocks shape) ∙ same)

-- ---- a text is longer than its tree

pub length-names : (ns : List (List ℕ)) (next : List Symbol) → (length (names_behind ns next) ≡ 2 * length ns + length next)
    × (length (dotted ns next) ≡ 2 * length ns + length next)
    × (length (roles_behind ns next) ≡ 3 * length ns + length next) × (length next ≤ length (sort_list ns next))
length-names [] next = omega arith
length-names (n ∷ ns) next = let more = length-names ns next in omega arith

pub length-decls : (ds : List Decl) (next : List Symbol) → length (decls ds next) ≡ 10 * length ds + length next
length-decls [] next = omega arith
length-decls (d ∷ ds) next = let more = length-decls ds next in omega arith

-- Statements that say the body, so few that with k more they are at most m; and blocks that say the bodies.
abbrev HasStmts : Body → ℕ → ℕ → Type 0
HasStmts b k m = (list : List Stmt) × (joined (map stmt_body list) ≡ b) × (length list + k ≤ m)

abbrev HasBlocks : Bodies → ℕ → ℕ → Type 0
HasBlocks bs k m = (list : List Block) × (alternatives (map body_of list) ≡ bs) × (length list + k ≤ m)

module _ (later : Bool) (roles : List (List ℕ)) where
  -- one message for each receiver
  has_singles : (label : List ℕ) (sorts : List (List ℕ)) (s : ℕ) (rs : List (List ℕ)) (n : ℕ) (rest : Body) (k m : ℕ)
      → HasStmts rest k m → HasStmts (singles label sorts s (roles_at roles rs) n rest) k (length rs + m)
  has_singles label sorts s [] n rest k m h = (h.0, h.1, omega arith)
  has_singles label sorts s (r ∷ rs) n rest k m h =
      let more = has_singles label sorts s rs (n + 1) rest k m h in
      (stmt.Message label sorts s (role_at roles r) (n + 1) ∷ more.0, rw (stmt_body-Message, more.1) refl, omega arith)

  mutual
    has_stmts : (n : ℕ) (p : Place) (w : Written) (next : List Symbol) → Passes later roles n p w
        → length (stmts w next) < 2 ^ 63
        → IsFit roles w × HasStmts (tree_of roles n w) (length next) (length (stmts w next))
    has_stmts n p NoStmt next h lt = (tt, ([], refl, omega arith))
    has_stmts n p (AMessage label ss s r rs rest) next h lt =
        let more = has_stmts (n + (1 + length rs)) (after_statement p false) rest next h.4 (omega (arith, length-names)) in
        let all = has_singles label ss (role_at roles s) (r ∷ rs) n _ (length next) (length (stmts rest next)) more.1 in
        ((h.1, receivers_fit roles p.earlier _ n [] (r ∷ rs) h.3, more.0), (all.0, all.1, omega (arith, length-names)))
    has_stmts n p (AChoice s f os rest) next h lt =
        let us = stmts rest next in
        let first = has_stmts n (inside p) f (Is Close ∷ blocks_behind Or os us) h.4 (omega arith) in
        let others = all_have (n + points f) p os us h.5 (omega arith) in
        let more = has_stmts (n + (points f + points_of os)) (after_statement p false) rest next h.6 (omega arith) in
        let block = block_of first.1.0 (omega arith) in
        let blocks = blocks_of (block.0 ∷ others.1.0) (omega arith) in
        let all = stmt.Choice (role_at roles s) blocks.0 ∷ more.1.0 in
        (assumption, (all, rw (stmt_body-Choice, blocks.1, block.1, first.1.1, others.1.1, more.1.1) refl, omega arith))
    has_stmts n p (ARec name body rest) next h lt =
        let first = has_stmts n (inside (inside_rec p name)) body (Is Close ∷ stmts rest next) h.2 (omega arith) in
        let more = has_stmts (n + points body) (after_statement p false) rest next h.3 (omega arith) in
        let block = block_of first.1.0 (omega arith) in
        (assumption, (stmt.Rec name block.0 ∷ more.1.0, rw (stmt_body-Rec, block.1, first.1.1, more.1.1), omega arith))
    has_stmts n p (AContinue name rest) next h lt =
        let more = has_stmts n (after_statement p true) rest next h.3 (omega arith) in
        (more.0, (stmt.Continue name ∷ more.1.0, rw (stmt_body-Continue, more.1.1) refl, omega arith))
    has_stmts n p (APar f g os rest) next h lt =
        let us = stmts rest next in
        let vs = Is Close ∷ blocks_behind And os us in
        let one = named_by nobody f in
        let first = has_stmts n (inside (beside p nobody)) f (Is Close ∷ Is And ∷ Is Open ∷ stmts g vs) h.2.1 (omega arith) in
        let second = has_stmts (n + points f) (inside (beside p one)) g vs h.2.3 (omega arith) in
        let others = beside_have (n + points f + points g) p (named_by one g) os us h.2.4 (omega arith) in
        let more = has_stmts (n + (points f + (points g + points_of os))) (after_statement p false) rest next h.3 (omega arith) in
        let block = block_of first.1.0 (omega arith) in
        let block_too = block_of second.1.0 (omega arith) in
        let blocks = blocks_of (block.0 ∷ block_too.0 ∷ others.1.0) (omega arith) in
        let all = stmt.Par blocks.0 ∷ more.1.0 in
        (assumption, (all, rw (stmt_body-Par, blocks.1, block.1, block_too.1, first.1.1, second.1.1, others.1.1, more.1.1) refl, omega arith))
    has_stmts n p (ADo x r rs rest) next h lt =
        let more = has_stmts n (after_statement p false) rest next h.2 (omega (arith, length-names)) in
        ((arguments_fit roles p.earlier [] (r ∷ rs) h.1, more.0), (stmt.Do x (roles_at roles (r ∷ rs)) ∷ more.1.0, rw (stmt_body-Do, more.1.1) refl, omega (arith, length-names)))

    all_have : (n : ℕ) (p : Place) (os : Blocks') (next : List Symbol) → PassAll later roles n p os
        → length (blocks_behind Or os next) < 2 ^ 63
        → AreFit roles os × HasBlocks (trees_of roles n os) (length next) (length (blocks_behind Or os next))
    all_have n p NoBlock next h lt = (tt, ([], refl, omega arith))
    all_have n p (ABlock f os) next h lt =
        let first = has_stmts n (inside p) f (Is Close ∷ blocks_behind Or os next) h.1 (omega arith) in
        let others = all_have (n + points f) p os next h.2 (omega arith) in
        let block = block_of first.1.0 (omega arith) in
        ((first.0, others.0), (block.0 ∷ others.1.0, rw (block.1, first.1.1, others.1.1) refl, omega arith))

    beside_have : (n : ℕ) (p : Place) (since : Named) (os : Blocks') (next : List Symbol) → PassBeside later roles n p since os
        → length (blocks_behind And os next) < 2 ^ 63
        → AreFit roles os × HasBlocks (trees_of roles n os) (length next) (length (blocks_behind And os next))
    beside_have n p since NoBlock next h lt = (tt, ([], refl, omega arith))
    beside_have n p since (ABlock f os) next h lt =
        let first = has_stmts n (inside (beside p since)) f (Is Close ∷ blocks_behind And os next) h.1 (omega arith) in
        let others = beside_have (n + points f) p (named_by since f) os next h.2 (omega arith) in
        let block = block_of first.1.0 (omega arith) in
        ((first.0, others.0), (block.0 ∷ others.1.0, rw (block.1, first.1.1, others.1.1) refl, omega arith))

-- ---- a module for each source

-- A protocol for what is written, with these names and declarations before it.
abbrev HasTree : WrittenProtocol → List (List ℕ) → List Decl → Type 0
HasTree w ms ds = (p : Protocol) × IsTreeOf w p × (p.«module» ≡ ms) × (declarations p.decls ≡ ds)

protocol_read : (names : List (List ℕ)) (w : WrittenProtocol) (ms : List (List ℕ)) (ds : List Decl) (next : List Symbol) → IsAdmitted names w
    → length ds < 2 ^ 63 → length (declared w next) < 2 ^ 63 → HasTree w ms ds × (length next < length (declared w next))
protocol_read names w ms ds next is few lt =
    let rs = w.role ∷ w.other_roles in
    let body = stmts w.body (Is Close ∷ next) in
    let long : length body < length (declared w next) = omega (arith, length-names) in
    let has = has_stmts (is_later names w) rs 0 outermost w.body (Is Close ∷ next) is.passes (omega (arith, long, lt)) in
    let b = block_of has.1.0 (omega (arith, has.1.2, long, lt)) in
    let p : Protocol = record { «module» = ms; decls = record { items = a_vec Decl ds few }; name = w.name; roles = rs; body = b.0 } in
    let tree : IsTreeOf w p = record { named = refl; role_names = refl; fit = has.0; tree = b.1 ∙ has.1.1 } in
    ((p, tree, refl, refl), omega (arith, has.1.2, long))

protocols_read : (names : List (List ℕ)) (ws : List WrittenProtocol) → AreAdmitted names ws → length (protocols ws []) < 2 ^ 63
    → (ps : List Protocol) × AreTreesOf ws ps × (length ps ≤ length (protocols ws []))
protocols_read names [] are lt = ([], tt, omega arith)
protocols_read names (w ∷ ws) are lt =
    let one = protocol_read names w [] [] (protocols ws []) are.0 (omega arith) (omega (arith, lt)) in
    let more = protocols_read (names ++ w.name ∷ []) ws are.1 (omega (arith, lt, one.1)) in
    (one.0.0 ∷ more.0, (one.0.1, one.0.2, one.0.3, more.1), omega (arith, one.1, more.2))

pub source_read : (symbols : List Symbol) (s : Source) → length symbols < 2 ^ 63 → Spells symbols s → reading symbols ≡ Taken
    → (main : Protocol) × (others : List Protocol) × AreReadAs symbols main others × (length others < 2 ^ 63)
source_read symbols s lt spells taken =
    let are = (head_follows s spells.1 (rw spells.2 at taken)).0 in
    let same = ap length spells.2 in
    let long : length s.declared + length (protocols (s.first ∷ s.others) []) < 2 ^ 63 = omega (arith, same, lt, length-names, length-decls) in
    let first = protocol_read [] s.first (s.module_name ∷ s.module_more) s.declared (protocols s.others []) are.0 (omega (arith, long)) (omega (arith, long)) in
    let more = protocols_read (s.first.name ∷ []) s.others are.1 (omega (arith, long, first.1)) in
    let reads : Reads symbols first.0.0 more.0 = record {
      source = s;
      spelled = spells;
      modules = first.0.2;
      declared = first.0.3;
      first = first.0.1;
      more = more.1;
    } in
    (first.0.0, more.0, ((taken_is_free symbols taken).1, reads), omega (arith, more.2, long, first.1))

-- ---- a part

module _ (bundle : List ℕ) (part : Span) (last : ℕ) where
  answered : (ts : List Token) → length bundle < 2 ^ 63 → AreTokens bundle part ts → (a : Answer)
      → reading (symbols_of bundle ts) ≡ a → IsReadPart bundle part ⊎ HasRefusal bundle part last
  answered ts lt are Taken e =
      let same : length (symbols_of bundle ts) ≡ length ts = length-map ts _ in
      let is = (taken_is_free (symbols_of bundle ts) e).0 in
      let read = source_read (symbols_of bundle ts) is.0 (omega (arith, tokens_few bundle part ts are)) is.1 e in
      let m : Module = record { main = read.0; others = record { items = a_vec Protocol read.1 read.3 }; dos = lines_of_calls bundle ts } in
      inl (ts, m, are, (read.2, refl))
  answered ts lt are (Refuses fault left) e =
      inr (_, _, inr (ts, are, (fault, left, refusal_is_first (symbols_of bundle ts) fault left e, refl)))

  read_not_refused : (code line : ℕ) → IsReadPart bundle part → IsRefusedPart bundle part last code line → ⊥
  read_not_refused code line h (inl k) = one_reading.either bundle part h.0 line h.2 k.1
  read_not_refused code line h (inr k) =
      let first = rw (one_reading.tokens bundle part k.0 h.0 k.1 h.2) at k.2.2 in
      h.3.0.0 k.2.0 first.front k.2.1 first.cut first.holds

  same_refusal : (code line code' line' : ℕ) → IsRefusedPart bundle part last code line
      → IsRefusedPart bundle part last code' line' → (code ≡ code') × (line ≡ line')
  same_refusal code line code' line' (inl h) (inl k) = (h.0 ∙ sym k.0, one_reading.letter bundle part line line' h.1 k.1)
  same_refusal code line code' line' (inl h) (inr k) = absurd (one_reading.either bundle part k.0 line k.1 h.1)
  same_refusal code line code' line' (inr h) (inl k) = absurd (one_reading.either bundle part h.0 line' h.1 k.1)
  same_refusal code line code' line' (inr h) (inr k) =
      let same = one_reading.tokens bundle part h.0 k.0 h.1 k.1 in
      let one = one_first (symbols_of bundle h.0) h.2.0 k.2.0 h.2.1 k.2.1 h.2.2 (rw same k.2.2) in
      (cc, cc)

  some : length bundle < 2 ^ 63 → IsReadPart bundle part ⊎ HasRefusal bundle part last
  some lt =
      ⊎_elim (λ h. answered h.0 lt h.1 _ refl) (λ h. inr (10, h.0, inl (refl, h.1))) (one_reading.some bundle part)

pub parts_have_one_answer : PartsHaveOneAnswer
parts_have_one_answer = record { some = some; either = read_not_refused; refusal = same_refusal }
