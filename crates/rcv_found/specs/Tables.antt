-- What each grammar has words and kinds for, in the order in which they are listed.
use Rattle.std.specs.Prelude.{codes, List, [], ◌∷◌}
use Rattle.rcv_found.specs.Things.{ThingView, any_name, any_number, any_text, the_end, word, free_word, mark}

abbrev pub protocol_things : List ThingView
protocol_things =
    any_name ∷ word (codes "module") ∷ free_word (codes "type") ∷ free_word (codes "data") ∷ free_word (codes "as")
    ∷ word (codes "global") ∷ word (codes "protocol") ∷ word (codes "role") ∷ word (codes "from") ∷ word (codes "to")
    ∷ word (codes "choice") ∷ word (codes "at") ∷ word (codes "or") ∷ word (codes "rec") ∷ word (codes "continue")
    ∷ word (codes "par") ∷ word (codes "and") ∷ word (codes "do")
    ∷ mark (codes "{") ∷ mark (codes "}") ∷ mark (codes "(") ∷ mark (codes ")") ∷ mark (codes ",") ∷ mark (codes ";")
    ∷ mark (codes ".") ∷ mark (codes "<") ∷ mark (codes ">") ∷ any_text ∷ the_end ∷ []

abbrev pub script_things : List ThingView
script_things =
    any_name ∷ any_number ∷ free_word (codes "role") ∷ free_word (codes "var") ∷ free_word (codes "send")
    ∷ free_word (codes "pick") ∷ free_word (codes "when") ∷ free_word (codes "on") ∷ free_word (codes "set")
    ∷ mark (codes "{") ∷ mark (codes "}") ∷ mark (codes "(") ∷ mark (codes ")") ∷ mark (codes ";") ∷ mark (codes "=")
    ∷ mark (codes "<") ∷ mark (codes "<=") ∷ mark (codes "==") ∷ mark (codes "!=") ∷ mark (codes ">") ∷ mark (codes ">=")
    ∷ mark (codes "+") ∷ mark (codes "-") ∷ mark (codes "*") ∷ the_end ∷ []

abbrev pub plan_things : List ThingView
plan_things =
    any_name ∷ any_number ∷ free_word (codes "every") ∷ free_word (codes "crash") ∷ free_word (codes "limit")
    ∷ free_word (codes "room") ∷ free_word (codes "host") ∷ mark (codes "=") ∷ mark (codes ",") ∷ the_end ∷ []
