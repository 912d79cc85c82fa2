-- Two protocols with the same names of roles and the same text: their sessions have the same rules and write the same.
use Rattle.std.proofs.Common.{◌≡◌, ℕ, List, [], ◌∷◌, ◌++◌, length, codes, flat_map, refl, ◌∙◌, ap}
use Rattle.std.specs.Prelude.{slice_index_or, slice_index, decimal, if◌then◌else◌}
use Rattle.std.specs.List.{list_all, range_with_len}
use Rattle.std.specs.Fmt.{signed_decimal}
use Rattle.rcv_tree.specs.Bits.{has_bit}
use Rattle.rcv_tree.specs.declared.role.RoleSet.{RoleSet}
use Rattle.rcv_tree.specs.declared.protocol.Protocol.{Protocol}
use Rattle.rcv_tree.specs.declared.event.Event.{Event}
use Rattle.rcv_tree.specs.declared.entry.Entry.{Entry}
use Rattle.rcv_tree.specs.declared.entry.Entry.TheVariants as entries
use Rattle.rcv_model.specs.Text.{Body, body_of}
use Rattle.rcv_model.specs.Places.{net_of}
use Rattle.rcv_model.specs.Script.{Line}
use Rattle.rcv_model.specs.Plan.{session_rules}
use Rattle.rcv_session.specs.Session.{SessionView, lines_of, rules_of}
use Rattle.rcv_journal.specs.declared.line.RoleLine.{RoleLine}
use Rattle.rcv_journal.specs.JournalText.{entry_line, role_line, limit_text, word_text, is_done, is_limit, journal_text}

-- what two lists of roles and two bodies have in common
pub both : {A : Type 0} (f : List (List ℕ) → Body → A) (p q : Protocol) → p.roles ≡ q.roles → body_of p.body ≡ body_of q.body → f p.roles (body_of p.body) ≡ f q.roles (body_of q.body)
both f p q roles bodies = ap (λ rs. f rs (body_of p.body)) roles ∙ ap (λ b. f q.roles b) bodies

pub same_rules : (s t : SessionView) → s.protocol.roles ≡ t.protocol.roles → body_of s.protocol.body ≡ body_of t.protocol.body → s.scripts ≡ t.scripts → s.plan ≡ t.plan → rules_of s ≡ rules_of t
same_rules s t roles bodies scripts plans =
    both (λ names body. session_rules body (length names) (λ r. slice_index_or s.scripts r []) s.plan) s.protocol t.protocol roles bodies
    ∙ ap (λ (lines : List (List Line)). session_rules (body_of t.protocol.body) (length t.protocol.roles) (λ r. slice_index_or lines r []) s.plan) scripts
    ∙ ap (session_rules (body_of t.protocol.body) (length t.protocol.roles) (lines_of t)) plans

-- a line says the same of two protocols that say the same
abbrev pub event_words : Event → List (List ℕ) → Body → List ℕ
event_words e roles body = slice_index_or roles e.role [] ++ codes " " ++ decimal e.point ++ codes " " ++ (net_of body).label e.point ++ codes " " ++ signed_decimal e.value ++ codes " @" ++ decimal e.stamp

abbrev pub recover_words : ℕ → RoleSet → List ℕ → ℕ → List (List ℕ) → List ℕ
recover_words r concerned kept undone roles =
    codes "recover " ++ slice_index_or roles r [] ++ codes " undone " ++ decimal undone ++ codes ":"
    ++ flat_map (λ q. if has_bit concerned.0 q then codes " " ++ slice_index_or roles q [] ++ codes " " ++ decimal (slice_index kept q) else []) (range_with_len 0 (length roles)) ++ codes "\n"

pub same_entry : (s t : SessionView) → s.protocol.roles ≡ t.protocol.roles → body_of s.protocol.body ≡ body_of t.protocol.body → (e : Entry) → entry_line s e ≡ entry_line t e
same_entry s t roles bodies (entries.Send e) = both (λ rs b. codes "send " ++ event_words e rs b ++ codes "\n") s.protocol t.protocol roles bodies
same_entry s t roles bodies (entries.Recv e) = both (λ rs b. codes "recv " ++ event_words e rs b ++ codes " <" ++ decimal e.sent ++ codes "\n") s.protocol t.protocol roles bodies
same_entry s t roles bodies (entries.Crash r) = ap (λ (rs : List (List ℕ)). codes "crash " ++ slice_index_or rs r [] ++ codes "\n") roles
same_entry s t roles bodies (entries.Recover r concerned kept undone) = ap (recover_words r concerned kept undone) roles

pub same_role : (s t : SessionView) → s.protocol.roles ≡ t.protocol.roles → (line : RoleLine) → role_line s line ≡ role_line t line
same_role s t roles line = ap (λ (rs : List (List ℕ)). codes "role " ++ slice_index_or rs line.role [] ++ codes " kept " ++ decimal line.kept ++ codes " raw " ++ decimal line.raw ++ codes " " ++ word_text line.word ++ codes "\n") roles

pub same_limit : (s t : SessionView) → s.protocol.roles ≡ t.protocol.roles → (line : RoleLine) → limit_text s line ≡ limit_text t line
same_limit s t roles line = ap (λ (rs : List (List ℕ)). if is_limit line.word then codes " " ++ slice_index_or rs line.role [] else []) roles

pub all_same : {X : Type 0} (f g : X → List ℕ) → ((x : X) → f x ≡ g x) → (xs : List X) → flat_map f xs ≡ flat_map g xs
all_same f g each [] = refl
all_same f g each (x ∷ xs) = ap (λ l. l ++ flat_map f xs) (each x) ∙ ap (λ l. g x ++ l) (all_same f g each xs)

-- the whole text, by the texts of its parts
abbrev pub text_with : List RoleLine → List ℕ → List ℕ → List ℕ → List ℕ
text_with lines entries roles limits =
    entries ++ roles ++ (if list_all (λ line. is_done line.word) lines then codes "completed\n" else codes "limited" ++ limits ++ codes "\n")

pub same_text : (s t : SessionView) → s.protocol.roles ≡ t.protocol.roles → body_of s.protocol.body ≡ body_of t.protocol.body → (journal : List Entry) (lines : List RoleLine) → journal_text s journal lines ≡ journal_text t journal lines
same_text s t roles bodies journal lines =
    ap (λ es. text_with lines es (flat_map (role_line s) lines) (flat_map (limit_text s) lines)) (all_same (entry_line s) (entry_line t) (same_entry s t roles bodies) journal)
    ∙ ap (λ rs. text_with lines (flat_map (entry_line t) journal) rs (flat_map (limit_text s) lines)) (all_same (role_line s) (role_line t) (same_role s t roles) lines)
    ∙ ap (λ ls. text_with lines (flat_map (entry_line t) journal) (flat_map (role_line t) lines) ls) (all_same (limit_text s) (limit_text t) (same_limit s t roles) lines)
