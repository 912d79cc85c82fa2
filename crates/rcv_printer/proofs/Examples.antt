-- Canonical texts, computed.
use Rattle.std.proofs.Common.{◌≡◌, [], ◌∷◌, ◌++◌, refl, codes}
use Rattle.rcv_model.specs.Text.{Body, End, Single, Choose, Loop, Again, Parallel, Call, NoMore, Or}
use Rattle.rcv_printer.specs.CanonicalText.{inner, module_line, decl_line, decl_lines, head_line, body_text}

-- what stands on the line of a message is in the order in which it is read
message : body_text (codes "A" ∷ codes "B" ∷ []) (codes "  ") (Single (codes "price") (codes "Int" ∷ codes "Text" ∷ []) 1 0 7 End) []
    ≡ codes "  price(Int, Text) from B to A;\n"
message = refl

-- a choice in a recursion
abbrev stream : Body
stream =
    Loop (codes "X") (Choose 0
    (Or (Single (codes "more") (codes "Int" ∷ []) 0 1 1 (Again (codes "X") End))
    (Or (Single (codes "stop") [] 0 1 2 (Single (codes "stop") [] 0 2 3 End)) NoMore)) End) End

stream_text : module_line (codes "stream" ∷ [])
    (decl_lines [] (codes "\n" ++ head_line (codes "Stream") (codes "A" ∷ codes "B" ∷ codes "C" ∷ []) (body_text (codes "A" ∷ codes "B" ∷ codes "C" ∷ []) (inner []) stream (codes "}\n"))))
    ≡ codes "module stream;\n\nglobal protocol Stream(role A, role B, role C) {\n  rec X {\n    choice at A {\n      more(Int) from A to B;\n      continue X;\n    } or {\n      stop() from A to B;\n      stop() from A to C;\n    }\n  }\n}\n"
stream_text = refl

-- blocks beside each other, and a call
beside : body_text (codes "A" ∷ codes "B" ∷ []) [] (Parallel (Or (Call (codes "P") (1 ∷ 0 ∷ []) End) (Or (Again (codes "X") End) NoMore)) End) []
    ≡ codes "par {\n  do P(B, A);\n} and {\n  continue X;\n}\n"
beside = refl

-- a declaration
declaration : decl_line
    (record { word = codes "type"; schema = codes "java"; extern_name = codes "java.lang.String"; file = codes "rt.jar"; alias = codes "String" })
    [] ≡ codes "type <java> \"java.lang.String\" from \"rt.jar\" as String;\n"
declaration = refl

-- a module of two names, and an empty body
empty : module_line (codes "a" ∷ codes "b" ∷ []) (head_line (codes "P") (codes "A" ∷ []) (body_text (codes "A" ∷ []) (inner []) End (codes "}\n")))
    ≡ codes "module a.b;\nglobal protocol P(role A) {\n}\n"
empty = refl
