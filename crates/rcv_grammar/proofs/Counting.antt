-- How many calls and points stand in what was read.
use Rattle.std.proofs.Common.{◌≡◌, ℕ, ◌+◌, ◌≤◌, Bool, true, false, nat_le, List, [], ◌∷◌, ◌++◌, length, map, refl, ap, ◌∙◌, arith, length-append}
use Rattle.std.specs.Prelude.{if◌then◌else◌}
use Rattle.std.proofs.lemmas.Bool.Decides.{nat_tests}
use Rattle.rcv_tree.specs.declared.protocol.Protocol.{Protocol}
use Rattle.rcv_lexer.specs.declared.token.Token.{Token}
use Rattle.rcv_lexer.specs.Symbols.{symbol_of}
use Rattle.rcv_model.specs.Text as trees
use Rattle.rcv_module.specs.Parts.{part_of, calls, calls_of, sites_from}
use Rattle.rcv_machine.specs.Words.{Sign, Or, And, Open, Close, Right, Semicolon, Symbol, Is, symbols_of, symbol_by, is_call, lines_of_calls, Written, NoStmt, AMessage, AChoice, ARec, AContinue, APar, ADo, Blocks, NoBlock, ABlock, dotted, names_behind, sort_list, roles_behind, decls, Decl, stmts, blocks_behind, WrittenProtocol, protocols, Source, spelling, IsTreeOf, AreTreesOf, roles_at, role_at, points, points_of, singles, tree_of, trees_of}
use Rattle.rcv_machine.specs.Words.{Named, nobody, Place, after_statement, beside, inside, inside_rec}
use Rattle.rcv_machine.proofs.Passing.{named_by, AreTaken, Passes, PassAll, PassBeside}

-- ---- calls

-- how many of the symbols are the word do
abbrev counted : List Symbol → ℕ
counted [] = 0
counted (t ∷ ts) = if is_call t then 1 + counted ts else counted ts

pub lines_counted : (bundle : List ℕ) (tokens : List Token) → length (lines_of_calls bundle tokens) ≡ counted (symbols_of bundle tokens)
lines_counted bundle [] = refl
lines_counted bundle (t ∷ ts) = go (is_call (symbol_of symbol_by bundle t)) (lines_counted bundle ts)
  where
    go : (b : Bool) → length (lines_of_calls bundle ts) ≡ counted (symbols_of bundle ts)
        → length (if b then t.line ∷ lines_of_calls bundle ts else lines_of_calls bundle ts)
        ≡ (if b then 1 + counted (symbols_of bundle ts) else counted (symbols_of bundle ts))
    go true e = omega (arith, e)
    go false e = e

-- how many calls are written
abbrev mutual
  pub calls_in : Written → ℕ
  calls_in NoStmt = 0
  calls_in (AMessage label ss s r rs rest) = calls_in rest
  calls_in (AChoice s f os rest) = calls_in f + calls_in_all os + calls_in rest
  calls_in (ARec name body rest) = calls_in body + calls_in rest
  calls_in (AContinue name rest) = calls_in rest
  calls_in (APar f g os rest) = calls_in f + (calls_in g + calls_in_all os) + calls_in rest
  calls_in (ADo name r rs rest) = 1 + calls_in rest

  pub calls_in_all : Blocks → ℕ
  calls_in_all NoBlock = 0
  calls_in_all (ABlock f os) = calls_in f + calls_in_all os

names_counted : (ns : List (List ℕ)) (next : List Symbol)
    → (counted (names_behind ns next) ≡ counted next) × (counted (dotted ns next) ≡ counted next) × (counted (roles_behind ns next) ≡ counted next)
names_counted [] next = (refl, refl, refl)
names_counted (n ∷ ns) next = names_counted ns next

sorts_counted : (ns : List (List ℕ)) (next : List Symbol) → counted (sort_list ns next) ≡ counted next
sorts_counted [] next = refl
sorts_counted (n ∷ ns) next = (names_counted ns next).0

decls_counted : (ds : List Decl) (next : List Symbol) → counted (decls ds next) ≡ counted next
decls_counted [] next = refl
decls_counted (d ∷ ds) next = decls_counted ds next

mutual
  stmts_counted : (w : Written) (next : List Symbol) → counted (stmts w next) ≡ calls_in w + counted next
  stmts_counted NoStmt next = omega arith
  stmts_counted (AMessage label ss s r rs rest) next =
      sorts_counted ss _ ∙ (names_counted rs (Is Semicolon ∷ stmts rest next)).0 ∙ stmts_counted rest next
  stmts_counted (AChoice s f os rest) next =
      let first = stmts_counted f (Is Close ∷ blocks_behind Or os (stmts rest next)) in
      let others = blocks_counted Or refl os (stmts rest next) in
      omega (arith, first, others, stmts_counted rest next)
  stmts_counted (ARec name body rest) next =
      let first = stmts_counted body (Is Close ∷ stmts rest next) in omega (arith, first, stmts_counted rest next)
  stmts_counted (AContinue name rest) next = stmts_counted rest next
  stmts_counted (APar f g os rest) next =
      let others = blocks_counted And refl os (stmts rest next) in
      let second = stmts_counted g (Is Close ∷ blocks_behind And os (stmts rest next)) in
      let first = stmts_counted f (Is Close ∷ Is And ∷ Is Open ∷ stmts g (Is Close ∷ blocks_behind And os (stmts rest next))) in
      omega (arith, first, second, others, stmts_counted rest next)
  stmts_counted (ADo name r rs rest) next =
      let given = (names_counted rs (Is Right ∷ Is Semicolon ∷ stmts rest next)).0 in omega (arith, given, stmts_counted rest next)

  blocks_counted : (word : Sign) → is_call (Is word) ≡ false → (os : Blocks) (next : List Symbol)
      → counted (blocks_behind word os next) ≡ calls_in_all os + counted next
  blocks_counted word is NoBlock next = omega arith
  blocks_counted word is (ABlock f os) next =
      let first = stmts_counted f (Is Close ∷ blocks_behind word os next) in
      rw is (omega (arith, first, blocks_counted word is os next))

-- of protocols
abbrev pub calls_in_each : List WrittenProtocol → ℕ
calls_in_each [] = 0
calls_in_each (w ∷ ws) = calls_in w.body + calls_in_each ws

protocols_counted : (ws : List WrittenProtocol) → counted (protocols ws []) ≡ calls_in_each ws
protocols_counted [] = refl
protocols_counted (w ∷ ws) =
    let roles = (names_counted w.other_roles _).2 in
    let body = stmts_counted w.body (Is Close ∷ protocols ws []) in
    roles ∙ body ∙ ap (λ (n : ℕ). calls_in w.body + n) (protocols_counted ws)

pub spelling_counted : (s : Source) → counted (spelling s) ≡ calls_in_each (s.first ∷ s.others)
spelling_counted s = (names_counted s.module_more _).1 ∙ decls_counted s.declared _ ∙ protocols_counted (s.first ∷ s.others)

singles_calls : (i : ℕ) (label : List ℕ) (sorts : List (List ℕ)) (s : ℕ) (rs : List ℕ) (n : ℕ) (rest : trees.Body)
    → calls i (singles label sorts s rs n rest) ≡ calls i rest
singles_calls i label sorts s [] n rest = refl
singles_calls i label sorts s (r ∷ rs) n rest = singles_calls i label sorts s rs (n + 1) rest

mutual
  tree_calls : (i n : ℕ) (roles : List (List ℕ)) (w : Written) → length (calls i (tree_of roles n w)) ≡ calls_in w
  tree_calls i n roles NoStmt = refl
  tree_calls i n roles (AMessage label ss s r rs rest) =
      ap length (singles_calls i label ss (role_at roles s) (roles_at roles (r ∷ rs)) n _) ∙ tree_calls i (n + (1 + length rs)) roles rest
  tree_calls i n roles (AChoice s f os rest) =
      let first = tree_calls i n roles f in
      let others = trees_calls i (n + points f) roles os in
      let more = tree_calls i (n + (points f + points_of os)) roles rest in
      let all = length-append (calls i (tree_of roles n f) ++ calls_of i (trees_of roles (n + points f) os)) (calls i (tree_of roles (n + (points f + points_of os)) rest)) in
      let both = length-append (calls i (tree_of roles n f)) (calls_of i (trees_of roles (n + points f) os)) in
      omega (arith, first, others, more, all, both)
  tree_calls i n roles (ARec name body rest) =
      let first = tree_calls i n roles body in
      let more = tree_calls i (n + points body) roles rest in
      let all = length-append (calls i (tree_of roles n body)) (calls i (tree_of roles (n + points body) rest)) in
      omega (arith, first, more, all)
  tree_calls i n roles (AContinue name rest) = tree_calls i n roles rest
  tree_calls i n roles (APar f g os rest) =
      let last = n + (points f + (points g + points_of os)) in
      let first = tree_calls i n roles f in
      let second = tree_calls i (n + points f) roles g in
      let others = trees_calls i (n + points f + points g) roles os in
      let more = tree_calls i last roles rest in
      let behind_first = calls i (tree_of roles (n + points f) g) ++ calls_of i (trees_of roles (n + points f + points g) os) in
      let all = length-append (calls i (tree_of roles n f) ++ behind_first) (calls i (tree_of roles last rest)) in
      let both = length-append (calls i (tree_of roles n f)) behind_first in
      let two = length-append (calls i (tree_of roles (n + points f) g)) (calls_of i (trees_of roles (n + points f + points g) os)) in
      omega (arith, first, second, others, more, all, both, two)
  tree_calls i n roles (ADo name r rs rest) = let more = tree_calls i n roles rest in omega (arith, more)

  trees_calls : (i n : ℕ) (roles : List (List ℕ)) (os : Blocks) → length (calls_of i (trees_of roles n os)) ≡ calls_in_all os
  trees_calls i n roles NoBlock = refl
  trees_calls i n roles (ABlock f os) =
      let first = tree_calls i n roles f in
      let others = trees_calls i (n + points f) roles os in
      let all = length-append (calls i (tree_of roles n f)) (calls_of i (trees_of roles (n + points f) os)) in
      omega (arith, first, others, all)

protocol_calls : (i : ℕ) (w : WrittenProtocol) (p : Protocol) → IsTreeOf w p → length (calls i (trees.body_of p.body)) ≡ calls_in w.body
protocol_calls i w p tree = ap (λ (b : trees.Body). length (calls i b)) tree.tree ∙ tree_calls i 0 p.roles w.body

pub others_calls : (i : ℕ) (ws : List WrittenProtocol) (ps : List Protocol) → AreTreesOf ws ps → length (sites_from i (map part_of ps)) ≡ calls_in_each ws
others_calls i [] [] each = refl
others_calls i [] (p ∷ ps) each = absurd each
others_calls i (w ∷ ws) [] each = absurd each
others_calls i (w ∷ ws) (p ∷ ps) each =
    let one = protocol_calls i w p each.0 in
    let more = others_calls (i + 1) ws ps each.3 in
    let all = length-append (calls i (trees.body_of p.body)) (sites_from (i + 1) (map part_of ps)) in
    omega (arith, one, more, all)

pub module_calls : (w : WrittenProtocol) (p : Protocol) (ws : List WrittenProtocol) (ps : List Protocol) → IsTreeOf w p → AreTreesOf ws ps
    → length (sites_from 0 (map part_of (p ∷ ps))) ≡ calls_in_each (w ∷ ws)
module_calls w p ws ps tree each =
    let one = protocol_calls 0 w p tree in
    let more = others_calls 1 ws ps each in
    let all = length-append (calls 0 (trees.body_of p.body)) (sites_from 1 (map part_of ps)) in
    omega (arith, one, more, all)

-- ---- points

below : (n m : ℕ) → nat_le m n ≡ false → n + 1 ≤ m
below n m e = grind (arith, nat_tests)

taken_few : (roles : List (List ℕ)) (earlier : Named) (sender n : ℕ) (before : List ℕ) (rs : List (List ℕ))
    → AreTaken roles earlier sender n before rs → n ≤ 256 → n + length rs ≤ 256
taken_few roles earlier sender n before [] h few = omega (arith, few)
taken_few roles earlier sender n before (r ∷ rs) h few =
    let more = taken_few roles earlier sender (n + 1) (before ++ role_at roles r ∷ []) rs h.5 (below n 256 h.3) in omega (arith, more)

mutual
  pub points_few : (later : Bool) (roles : List (List ℕ)) (n : ℕ) (p : Place) (w : Written) → Passes later roles n p w → n ≤ 256
      → n + points w ≤ 256
  points_few later roles n p NoStmt h few = omega (arith, few)
  points_few later roles n p (AMessage label ss s r rs rest) h few =
      let taken = taken_few roles p.earlier (role_at roles s) n [] (r ∷ rs) h.3 few in
      let more = points_few later roles (n + (1 + length rs)) (after_statement p false) rest h.4 (omega (arith, taken)) in omega (arith, more)
  points_few later roles n p (AChoice s f os rest) h few =
      let first = points_few later roles n (inside p) f h.4 few in
      let others = all_few later roles (n + points f) p os h.5 first in
      let more = points_few later roles (n + (points f + points_of os)) (after_statement p false) rest h.6 (omega (arith, others)) in omega (arith, more)
  points_few later roles n p (ARec name body rest) h few =
      let first = points_few later roles n (inside (inside_rec p name)) body h.2 few in
      let more = points_few later roles (n + points body) (after_statement p false) rest h.3 first in omega (arith, more)
  points_few later roles n p (AContinue name rest) h few = points_few later roles n (after_statement p true) rest h.3 few
  points_few later roles n p (APar f g os rest) h few =
      let one = named_by nobody f in
      let first = points_few later roles n (inside (beside p nobody)) f h.2.1 few in
      let second = points_few later roles (n + points f) (inside (beside p one)) g h.2.3 first in
      let others = beside_few later roles (n + points f + points g) p (named_by one g) os h.2.4 second in
      let more = points_few later roles (n + (points f + (points g + points_of os))) (after_statement p false) rest h.3 (omega (arith, others)) in
      omega (arith, more)
  points_few later roles n p (ADo name r rs rest) h few = points_few later roles n (after_statement p false) rest h.2 few

  all_few : (later : Bool) (roles : List (List ℕ)) (n : ℕ) (p : Place) (os : Blocks) → PassAll later roles n p os → n ≤ 256
      → n + points_of os ≤ 256
  all_few later roles n p NoBlock h few = omega (arith, few)
  all_few later roles n p (ABlock f os) h few =
      let first = points_few later roles n (inside p) f h.1 few in
      let others = all_few later roles (n + points f) p os h.2 first in omega (arith, others)

  beside_few : (later : Bool) (roles : List (List ℕ)) (n : ℕ) (p : Place) (since : Named) (os : Blocks) → PassBeside later roles n p since os
      → n ≤ 256 → n + points_of os ≤ 256
  beside_few later roles n p since NoBlock h few = omega (arith, few)
  beside_few later roles n p since (ABlock f os) h few =
      let first = points_few later roles n (inside (beside p since)) f h.1 few in
      let others = beside_few later roles (n + points f) p (named_by since f) os h.2 first in omega (arith, others)
