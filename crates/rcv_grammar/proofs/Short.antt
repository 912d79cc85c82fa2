-- A module that was read is short: a statement is two symbols at least, and so is a branch.
use Rattle.std.proofs.Common.{◌≡◌, ℕ, ◌+◌, ◌*◌, ◌^◌, ◌<◌, ◌≤◌, List, [], ◌∷◌, length, map, ap, arith}
use Rattle.std.proofs.lemmas.List.{length-map}
use Rattle.std.specs.List.{AllByRecursion}
use Rattle.rcv_tree.specs.Lists.{protocols}
use Rattle.rcv_tree.specs.declared.protocol.Protocol.{Protocol}
use Rattle.rcv_model.specs.Text as trees
use Rattle.rcv_module.specs.Parts.{part_of}
use Rattle.rcv_module.specs.Short.{extent, extent_of, IsShort}
use Rattle.rcv_machine.specs.Words.{Sign, Or, And, Close, Open, Symbol, Is, symbols_of, Written, NoStmt, AMessage, AChoice, ARec, AContinue, APar, ADo, Blocks, NoBlock, ABlock, stmts, blocks_behind, WrittenProtocol, IsTreeOf, AreTreesOf, roles_at, role_at, points, points_of, singles, tree_of, trees_of}
use Rattle.rcv_machine.specs.Words as words
use Rattle.rcv_lexer.proofs.Once.{tokens_few}
use Rattle.rcv_grammar.specs.Laws.{ReadModulesAreShort}
use Rattle.rcv_grammar.proofs.Answered.{length-names, length-decls}

singles_extent : (label : List ℕ) (sorts : List (List ℕ)) (s : ℕ) (roles rs : List (List ℕ)) (n : ℕ) (rest : trees.Body)
    → extent (singles label sorts s (roles_at roles rs) n rest) ≡ length rs + extent rest
singles_extent label sorts s roles [] n rest = omega arith
singles_extent label sorts s roles (r ∷ rs) n rest = let more = singles_extent label sorts s roles rs (n + 1) rest in omega (arith, more)

mutual
  tree_short : (roles : List (List ℕ)) (n : ℕ) (w : Written) (next : List Symbol) → 2 * extent (tree_of roles n w) + length next ≤ length (stmts w next)
  tree_short roles n NoStmt next = omega arith
  tree_short roles n (AMessage label ss s r rs rest) next =
      let all = singles_extent label ss (role_at roles s) roles (r ∷ rs) n (tree_of roles (n + (1 + length rs)) rest) in
      let more = tree_short roles (n + (1 + length rs)) rest next in omega (arith, length-names, all, more)
  tree_short roles n (AChoice s f os rest) next =
      let first = tree_short roles n f (Is Close ∷ blocks_behind Or os (stmts rest next)) in
      let others = trees_short Or roles (n + points f) os (stmts rest next) in
      let more = tree_short roles (n + (points f + points_of os)) rest next in omega (arith, first, others, more)
  tree_short roles n (ARec name body rest) next =
      let inner = tree_short roles n body (Is Close ∷ stmts rest next) in
      let more = tree_short roles (n + points body) rest next in omega (arith, inner, more)
  tree_short roles n (AContinue name rest) next = let more = tree_short roles n rest next in omega (arith, more)
  tree_short roles n (APar f g os rest) next =
      let behind = Is Close ∷ blocks_behind And os (stmts rest next) in
      let first = tree_short roles n f (Is Close ∷ Is And ∷ Is Open ∷ stmts g behind) in
      let second = tree_short roles (n + points f) g behind in
      let others = trees_short And roles (n + points f + points g) os (stmts rest next) in
      let more = tree_short roles (n + (points f + (points g + points_of os))) rest next in omega (arith, first, second, others, more)
  tree_short roles n (ADo name r rs rest) next = let more = tree_short roles n rest next in omega (arith, length-names, more)

  trees_short : (word : Sign) (roles : List (List ℕ)) (n : ℕ) (os : Blocks) (next : List Symbol)
      → 2 * extent_of (trees_of roles n os) + length next ≤ length (blocks_behind word os next)
  trees_short word roles n NoBlock next = omega arith
  trees_short word roles n (ABlock f os) next =
      let first = tree_short roles n f (Is Close ∷ blocks_behind word os next) in
      let others = trees_short word roles (n + points f) os next in omega (arith, first, others)

-- one protocol, and those behind it
protocol_short : (w : WrittenProtocol) (p : Protocol) (next : List Symbol) → IsTreeOf w p
    → 2 * extent (trees.body_of p.body) + length next ≤ length (words.declared w next)
protocol_short w p next tree =
    let body = tree_short p.roles 0 w.body (Is Close ∷ next) in
    let same = ap extent tree.tree in omega (arith, length-names, body, same)

others_short : (ws : List WrittenProtocol) (ps : List Protocol) → AreTreesOf ws ps → length (words.protocols ws []) < 2 ^ 63
    → AllByRecursion IsShort (map part_of ps)
others_short [] [] trees lt = tt
others_short [] (p ∷ ps) trees lt = absurd trees
others_short (w ∷ ws) [] trees lt = absurd trees
others_short (w ∷ ws) (p ∷ ps) trees lt =
    let one = protocol_short w p (words.protocols ws []) trees.0 in (omega (arith, one, lt), others_short ws ps trees.3 (omega (arith, one, lt)))

pub read_modules_are_short : ReadModulesAreShort
read_modules_are_short bundle part tokens m lt are read =
    let r = read.0.1 in
    let s = r.source in
    let few = tokens_few bundle part tokens are in
    let as_many : length (symbols_of bundle tokens) ≡ length tokens = length-map tokens _ in
    let same = ap length r.spelled.2 in
    let whole : length (words.protocols (s.first ∷ s.others) []) < 2 ^ 63 = omega (arith, lt, few, as_many, same, length-names, length-decls) in
    let one = protocol_short s.first m.main (words.protocols s.others []) r.first in
    (omega (arith, one, whole), others_short s.others (protocols m.others) r.more (omega (arith, one, whole)))
