-- The canonical text of a protocol, each piece in front of what follows it.
use Rattle.std.specs.Prelude.{ℕ, List, [], ◌∷◌, ◌++◌, codes}
use Rattle.rcv_tree.specs.Lists.{declarations}
use Rattle.rcv_tree.specs.declared.protocol.Decl.{Decl}
use Rattle.rcv_tree.specs.declared.protocol.Protocol.{Protocol}
use Rattle.rcv_tree.specs.Names.{name_at}
use Rattle.rcv_grammar.specs.Canonical.{names_at}
use Rattle.rcv_model.specs.Text.{Body, End, Single, Choose, Loop, Again, Parallel, Call, Bodies, NoMore, Or, body_of}

-- Words, one after another.
abbrev pub words : List (List ℕ) → List ℕ → List ℕ
words [] next = next
words (w ∷ ws) next = w ++ words ws next

-- Names, with one word before the first and another one before each that follows.
abbrev pub listed : List ℕ → List ℕ → List (List ℕ) → List ℕ → List ℕ
listed before between [] next = next
listed before between (n ∷ ns) next = words (before ∷ n ∷ []) (listed between between ns next)

-- `A, B, C`
abbrev pub comma_list : List (List ℕ) → List ℕ → List ℕ
comma_list names next = listed [] (codes ", ") names next

-- `module a.b;` on a line
abbrev pub module_line : List (List ℕ) → List ℕ → List ℕ
module_line names next = codes "module " ++ listed [] (codes ".") names (codes ";\n" ++ next)

-- `type <schema> "extern" from "file" as alias;` on a line
abbrev pub decl_line : Decl → List ℕ → List ℕ
decl_line d next =
    words (d.word ∷ codes " <" ∷ d.schema ∷ codes "> \"" ∷ d.extern_name ∷ codes "\" from \"" ∷ d.file ∷ [])
    (words (codes "\" as " ∷ d.alias ∷ codes ";\n" ∷ []) next)

-- a line for each declaration
abbrev pub decl_lines : List Decl → List ℕ → List ℕ
decl_lines [] next = next
decl_lines (d ∷ ds) next = decl_line d (decl_lines ds next)

-- `label(S, T) from A to B;` on a line, after the margin
abbrev pub message_line : List ℕ → List ℕ → List (List ℕ) → List ℕ → List ℕ → List ℕ → List ℕ
message_line margin label sorts sender receiver next =
    words (margin ∷ label ∷ codes "(" ∷ [])
    (comma_list sorts (words (codes ") from " ∷ sender ∷ codes " to " ∷ receiver ∷ codes ";\n" ∷ []) next))

-- the margin inside a block
abbrev pub inner : List ℕ → List ℕ
inner margin = margin ++ codes "  "

-- The statements of a body, one on a line, each after the margin; and blocks, with one word before the brace of the
-- first and another one before the brace of each that follows.
abbrev mutual
  pub body_text : List (List ℕ) → List ℕ → Body → List ℕ → List ℕ
  body_text roles margin End next = next
  body_text roles margin (Single label sorts sender receiver point rest) next =
      message_line margin label sorts (name_at roles sender) (name_at roles receiver) (body_text roles margin rest next)
  body_text roles margin (Choose subject branches rest) next =
      words (margin ∷ codes "choice at " ∷ name_at roles subject ∷ [])
      (blocks_text roles margin (codes " ") (codes " or ") branches (codes "\n" ++ body_text roles margin rest next))
  body_text roles margin (Loop name body rest) next =
      words (margin ∷ codes "rec " ∷ name ∷ codes " {\n" ∷ [])
      (body_text roles (inner margin) body (words (margin ∷ codes "}\n" ∷ []) (body_text roles margin rest next)))
  body_text roles margin (Again name rest) next =
      words (margin ∷ codes "continue " ∷ name ∷ codes ";\n" ∷ []) (body_text roles margin rest next)
  body_text roles margin (Parallel blocks rest) next =
      words (margin ∷ codes "par" ∷ [])
      (blocks_text roles margin (codes " ") (codes " and ") blocks (codes "\n" ++ body_text roles margin rest next))
  body_text roles margin (Call name places rest) next =
      words (margin ∷ codes "do " ∷ name ∷ codes "(" ∷ [])
      (comma_list (names_at roles places) (codes ");\n" ++ body_text roles margin rest next))

  pub blocks_text : List (List ℕ) → List ℕ → List ℕ → List ℕ → Bodies → List ℕ → List ℕ
  blocks_text roles margin before between NoMore next = next
  blocks_text roles margin before between (Or body others) next =
      words (before ∷ codes "{\n" ∷ [])
      (body_text roles (inner margin) body (words (margin ∷ codes "}" ∷ []) (blocks_text roles margin between between others next)))

-- `global protocol Name(role A, role B) {` on a line
abbrev pub head_line : List ℕ → List (List ℕ) → List ℕ → List ℕ
head_line name roles next =
    words (codes "global protocol " ∷ name ∷ codes "(" ∷ [])
    (listed (codes "role ") (codes ", role ") roles (codes ") {\n" ++ next))

-- The whole text: the module's line, the declarations, an empty line, and the protocol with its body in braces.
abbrev pub canonical : Protocol → List ℕ
canonical p =
    module_line p.«module»
    (decl_lines (declarations p.decls)
    (codes "\n" ++ head_line p.name p.roles (body_text p.roles (inner []) (body_of p.body) (codes "}\n"))))
