-- The JSON of a journal says the same under two sessions that say the same.
use Rattle.std.proofs.Common.{◌≡◌, ℕ, List, [], ◌∷◌, ◌++◌, length, codes, map, flat_map, ◌∙◌, refl, ap}
use Rattle.std.specs.Prelude.{slice_index_or, slice_index, if◌then◌else◌}
use Rattle.std.specs.List.{range_with_len}
use Rattle.serde_json.specs.Data.{Data, string, number}
use Rattle.serde_json.specs.Find.{of_integer}
use Rattle.serde_json.specs.Written.{compact_text}
use Rattle.rcv_tree.specs.Bits.{has_bit}
use Rattle.rcv_tree.specs.declared.role.RoleSet.{RoleSet}
use Rattle.rcv_tree.specs.declared.event.Event.{Event}
use Rattle.rcv_tree.specs.declared.entry.Entry.{Entry}
use Rattle.rcv_tree.specs.declared.entry.Entry.TheVariants as entries
use Rattle.rcv_model.specs.Text.{Body, body_of}
use Rattle.rcv_model.specs.Places.{net_of}
use Rattle.rcv_session.specs.Session.{SessionView}
use Rattle.rcv_journal.specs.declared.line.RoleLine.{RoleLine}
use Rattle.rcv_journal.specs.JournalText.{is_limit, word_text}
use Rattle.rcv_journal.specs.Json.{count, list_of, entry_data, line_data, limit_data, members_data, json_text}

-- the texts of lists that are the same
all_map : {X Y : Type 0} (f g : X → Y) → ((x : X) → f x ≡ g x) → (xs : List X) → map f xs ≡ map g xs
all_map f g each [] = refl
all_map f g each (x ∷ xs) = ap (λ y. y ∷ map f xs) (each x) ∙ ap (λ ys. g x ∷ ys) (all_map f g each xs)

all_flat : {X Y : Type 0} (f g : X → List Y) → ((x : X) → f x ≡ g x) → (xs : List X) → flat_map f xs ≡ flat_map g xs
all_flat f g each [] = refl
all_flat f g each (x ∷ xs) = ap (λ l. l ++ flat_map f xs) (each x) ∙ ap (λ l. g x ++ l) (all_flat f g each xs)

-- what an entry says, by the names of the roles and the text
abbrev event_by : List ℕ → Event → List Data → List (List ℕ) → Body → Data
event_by word e rest roles body =
    list_of (string word ∷ string (slice_index_or roles e.role []) ∷ count e.point ∷ string ((net_of body).label e.point)
    ∷ number (of_integer e.value) ∷ count e.stamp ∷ rest)

abbrev recover_by : ℕ → RoleSet → List ℕ → ℕ → List (List ℕ) → Data
recover_by p concerned kept undone roles =
    list_of (string (codes "recover") ∷ string (slice_index_or roles p []) ∷ count undone
    ∷ list_of (flat_map (λ q. if has_bit concerned.0 q then list_of (string (slice_index_or roles q []) ∷ count (slice_index kept q) ∷ []) ∷ [] else []) (range_with_len 0 (length roles))) ∷ [])

module _ (s t : SessionView) (roles : s.protocol.roles ≡ t.protocol.roles) (bodies : body_of s.protocol.body ≡ body_of t.protocol.body) where
  same_event : (word : List ℕ) (e : Event) (rest : List Data) → event_by word e rest s.protocol.roles (body_of s.protocol.body) ≡ event_by word e rest t.protocol.roles (body_of t.protocol.body)
  same_event word e rest = ap (λ rs. event_by word e rest rs (body_of s.protocol.body)) roles ∙ ap (event_by word e rest t.protocol.roles) bodies

  same_entry : (e : Entry) → entry_data s e ≡ entry_data t e
  same_entry (entries.Send e) = same_event (codes "send") e []
  same_entry (entries.Recv e) = same_event (codes "recv") e (count e.sent ∷ [])
  same_entry (entries.Crash p) = ap (λ (rs : List (List ℕ)). list_of (string (codes "crash") ∷ string (slice_index_or rs p []) ∷ [])) roles
  same_entry (entries.Recover p concerned kept undone) = ap (recover_by p concerned kept undone) roles

  same_line : (line : RoleLine) → line_data s line ≡ line_data t line
  same_line line = ap (λ (rs : List (List ℕ)). list_of (string (slice_index_or rs line.role []) ∷ count line.kept ∷ count line.raw ∷ string (word_text line.word) ∷ [])) roles

  same_limit : (line : RoleLine) → limit_data s line ≡ limit_data t line
  same_limit line = ap (λ (rs : List (List ℕ)). if is_limit line.word then string (slice_index_or rs line.role []) ∷ [] else []) roles

  pub same_json : (journal : List Entry) (lines : List RoleLine) → json_text s journal lines ≡ json_text t journal lines
  same_json journal lines =
      ap (λ es. compact_text (members_data es (flat_map (limit_data s) lines) (map (line_data s) lines)) ++ codes "\n") (all_map (entry_data s) (entry_data t) same_entry journal)
      ∙ ap (λ ls. compact_text (members_data (map (entry_data t) journal) ls (map (line_data s) lines)) ++ codes "\n") (all_flat (limit_data s) (limit_data t) same_limit lines)
      ∙ ap (λ rs. compact_text (members_data (map (entry_data t) journal) (flat_map (limit_data t) lines) rs) ++ codes "\n") (all_map (line_data s) (line_data t) same_line lines)
