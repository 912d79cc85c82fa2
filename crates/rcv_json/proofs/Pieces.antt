-- The pieces are the JSON.
use Rattle.std.proofs.Common.{◌≡◌, true, false, ◌∙◌, ℕ, ℤ, pos, negsuc, List, [], ◌∷◌, ◌++◌, flat_map, map, codes, decimal, append_assoc, refl, sym, ap}
use Rattle.std.specs.Fmt.{signed_decimal}
use Rattle.serde_json.specs.Data.{Data}
use Rattle.serde_json.specs.Find.{of_integer}
use Rattle.serde_json.specs.View.{items_of}
use Rattle.serde_json.specs.Written.{compact_text, items_text, number_text}
use Rattle.serde_json.proofs.OnLiterals.{serde_json_on_literals}
use Rattle.rcv_tree.specs.declared.event.Event.{Event}
use Rattle.rcv_tree.specs.declared.entry.Entry.{Entry}
use Rattle.rcv_tree.specs.declared.entry.Entry.TheVariants.{Send, Recv}
use Rattle.rcv_session.specs.Session.{SessionView, net_for}
use Rattle.rcv_journal.specs.declared.line.RoleLine.{RoleLine}
use Rattle.rcv_journal.specs.JournalText.{name_of}
use Rattle.rcv_journal.specs.Json.{entry_data, json_text, limited_data, line_data, list_of}
use Rattle.rcv_json.specs.Heads.{event_json, string_json}
use Rattle.rcv_json.specs.Pieces.{entry_json, next_json, entries_json, opening, limited_key, roles_key, closing, pieces}

number_is : (z : ℤ) → number_text (of_integer z) ≡ signed_decimal z
number_is (pos n) = refl
number_is (negsuc n) = refl

-- a list of six items, and one of seven, between brackets and with commas
six : (o k m n p l v s e : List ℕ) → o ++ (k ++ (m ++ (n ++ (m ++ (p ++ (m ++ (l ++ (m ++ (v ++ (m ++ (s ++ e)))))))))))
    ≡ (o ++ k ++ m ++ n ++ m ++ p ++ m ++ l ++ m) ++ (v ++ m ++ s) ++ e
six o k m n p l v s e = simp append_assoc

seven : (o k m n p l v s t e : List ℕ) → o ++ (k ++ (m ++ (n ++ (m ++ (p ++ (m ++ (l ++ (m ++ (v ++ (m ++ (s ++ (m ++ (t ++ e)))))))))))))
    ≡ (o ++ k ++ m ++ n ++ m ++ p ++ m ++ l ++ m) ++ (v ++ m ++ s) ++ m ++ t ++ e
seven o k m n p l v s t e = simp append_assoc

send_is : (setup : SessionView) (e : Event) → entry_json setup (Send e) ≡ event_json setup (codes "send") e ++ codes "]"
send_is setup e =
    let kind = string_json (codes "send") in
    let name = string_json (name_of setup e.role) in
    let label = string_json ((net_for setup).label e.point) in
    ap (λ (v : List ℕ). 91 ∷ (kind ++ 44 ∷ (name ++ 44 ∷ (decimal e.point ++ 44 ∷ (label ++ 44 ∷ (v ++ 44 ∷ (decimal e.stamp ++ 93 ∷ []))))))) (number_is e.value)
    ∙ six (codes "[") kind (codes ",") name (decimal e.point) label (signed_decimal e.value) (decimal e.stamp) (codes "]")

recv_is : (setup : SessionView) (e : Event) → entry_json setup (Recv e) ≡ event_json setup (codes "recv") e ++ codes "," ++ decimal e.sent ++ codes "]"
recv_is setup e =
    let kind = string_json (codes "recv") in
    let name = string_json (name_of setup e.role) in
    let label = string_json ((net_for setup).label e.point) in
    ap (λ (v : List ℕ). 91 ∷ (kind ++ 44 ∷ (name ++ 44 ∷ (decimal e.point ++ 44 ∷ (label ++ 44 ∷ (v ++ 44 ∷ (decimal e.stamp ++ 44 ∷ (decimal e.sent ++ 93 ∷ [])))))))) (number_is e.value)
    ∙ seven (codes "[") kind (codes ",") name (decimal e.point) label (signed_decimal e.value) (decimal e.stamp) (decimal e.sent) (codes "]")

-- what the text becomes
pub send_said : (setup : SessionView) (text : List ℕ) (e : Event) → (text ++ event_json setup (codes "send") e) ++ 93 ∷ [] ≡ text ++ entry_json setup (Send e)
send_said setup text e = append_assoc text (event_json setup (codes "send") e) (93 ∷ []) ∙ ap (λ (t : List ℕ). text ++ t) (sym (send_is setup e))

regroup : (text e c d : List ℕ) → (((text ++ e) ++ c) ++ d) ++ 93 ∷ [] ≡ text ++ (((e ++ c) ++ d) ++ 93 ∷ [])
regroup text e c d = simp append_assoc

pub recv_said : (setup : SessionView) (text : List ℕ) (e : Event) → (((text ++ event_json setup (codes "recv") e) ++ 44 ∷ []) ++ decimal e.sent) ++ 93 ∷ [] ≡ text ++ entry_json setup (Recv e)
recv_said setup text e =
    regroup text (event_json setup (codes "recv") e) (44 ∷ []) (decimal e.sent) ∙ ap (λ (t : List ℕ). text ++ t) (sym (recv_is setup e))

-- the entries of a list, behind another one and from its start
more_are : (setup : SessionView) (es : List Entry) → items_text true (items_of (map (entry_data setup) es)) ≡ flat_map (next_json setup) es ++ 93 ∷ []
more_are setup [] = refl
more_are setup (e ∷ es) =
    ap (λ (t : List ℕ). 44 ∷ (entry_json setup e ++ t)) (more_are setup es) ∙ sym (append_assoc (44 ∷ entry_json setup e) (flat_map (next_json setup) es) (93 ∷ []))

entries_are : (setup : SessionView) (es : List Entry) → items_text false (items_of (map (entry_data setup) es)) ≡ entries_json setup es ++ 93 ∷ []
entries_are setup [] = refl
entries_are setup (e ∷ es) =
    ap (λ (t : List ℕ). entry_json setup e ++ t) (more_are setup es) ∙ sym (append_assoc (entry_json setup e) (flat_map (next_json setup) es) (93 ∷ []))

-- the three members
three : (o j d s a e m k b l c f n : List ℕ) → (o ++ (j ++ (d ++ ((s ++ (a ++ e)) ++ (m ++ (k ++ (d ++ (b ++ (m ++ (l ++ (d ++ (c ++ f)))))))))))) ++ n
    ≡ (o ++ j ++ d ++ s) ++ a ++ (e ++ m ++ k ++ d) ++ b ++ (m ++ l ++ d) ++ c ++ (f ++ n)
three o j d s a e m k b l c f n = simp append_assoc

keys : (a b c : List ℕ) → opening ++ a ++ limited_key ++ b ++ roles_key ++ c ++ closing
    ≡ (codes "{" ++ string_json (codes "entries") ++ codes ":" ++ codes "[") ++ a
    ++ (codes "]" ++ codes "," ++ string_json (codes "limited") ++ codes ":") ++ b
    ++ (codes "," ++ string_json (codes "roles") ++ codes ":") ++ c ++ (codes "}" ++ codes "\n")
unfolding serde_json_on_literals opening limited_key roles_key closing
keys a b c = refl

-- what was written, step by step
pub in_order : (setup : SessionView) (entries : List Entry) (lines : List RoleLine) (limited roles : Data) (none opened listed more named next said whole : List ℕ)
    → none ≡ [] → opened ≡ none ++ opening → listed ≡ opened ++ entries_json setup entries → more ≡ listed ++ limited_key
    → limited ≡ list_of (limited_data setup lines) → named ≡ more ++ compact_text limited → next ≡ named ++ roles_key
    → roles ≡ list_of (map (line_data setup) lines) → said ≡ next ++ compact_text roles → whole ≡ said ++ closing → whole ≡ pieces setup entries lines
in_order setup entries lines limited roles none opened listed more named next said whole a b c d l e f r g h =
    let limits = compact_text (list_of (limited_data setup lines)) in
    let rows = compact_text (list_of (map (line_data setup) lines)) in
    let to_more = d ∙ ap (λ (t : List ℕ). t ++ limited_key) (c ∙ ap (λ (t : List ℕ). t ++ entries_json setup entries) (b ∙ ap (λ (t : List ℕ). t ++ opening) a)) in
    let to_next = f ∙ ap (λ (t : List ℕ). t ++ roles_key) (e ∙ ap (λ (v : Data). more ++ compact_text v) l ∙ ap (λ (t : List ℕ). t ++ limits) to_more) in
    h ∙ ap (λ (t : List ℕ). t ++ closing) (g ∙ ap (λ (v : Data). next ++ compact_text v) r ∙ ap (λ (t : List ℕ). t ++ rows) to_next)

pub pieces_are : (setup : SessionView) (entries : List Entry) (lines : List RoleLine) → pieces setup entries lines ≡ json_text setup entries lines
pieces_are setup entries lines =
    let a = entries_json setup entries in
    let b = compact_text (list_of (limited_data setup lines)) in
    let c = compact_text (list_of (map (line_data setup) lines)) in
    let j = string_json (codes "entries") in
    let k = string_json (codes "limited") in
    let l = string_json (codes "roles") in
    keys a b c ∙ sym (three (codes "{") j (codes ":") (codes "[") a (codes "]") (codes ",") k b l c (codes "}") (codes "\n"))
    ∙ ap (λ (t : List ℕ). 123 ∷ (j ++ 58 ∷ (91 ∷ t ++ 44 ∷ (k ++ 58 ∷ (b ++ 44 ∷ (l ++ 58 ∷ (c ++ 125 ∷ [])))))) ++ 10 ∷ []) (sym (entries_are setup entries))
