-- A journal has no floats.
use Rattle.std.proofs.Common.{◌≡◌, ◌∙◌, ◌||◌, ℕ, ℤ, pos, negsuc, Bool, true, false, List, [], ◌∷◌, ◌++◌, map, flat_map, refl, ap, ap₂, cond, slice_index}
use Rattle.std.specs.List.{range_with_len}
use Rattle.serde_json.specs.Data.{Data}
use Rattle.serde_json.specs.Find.{is_float, of_integer}
use Rattle.serde_json.specs.View.{items_of}
use Rattle.serde_json.specs.Written.{has_float, items_have_float}
use Rattle.rcv_tree.specs.Bits.{has_bit}
use Rattle.rcv_tree.specs.declared.entry.Entry.{Entry}
use Rattle.rcv_tree.specs.declared.entry.Entry.TheVariants.{Send, Recv, Crash, Recover}
use Rattle.rcv_session.specs.Session.{SessionView, roles_of}
use Rattle.rcv_journal.specs.declared.line.RoleLine.{RoleLine}
use Rattle.rcv_journal.specs.JournalText.{is_limit}
use Rattle.rcv_journal.specs.Json.{count, cut_data, entry_data, limit_data, limited_data, line_data, list_of, role_data}

whole : (z : ℤ) → is_float (of_integer z) ≡ false
whole (pos n) = refl
whole (negsuc n) = refl

both_lists : (a b : List Data) → items_have_float (items_of (a ++ b)) ≡ (items_have_float (items_of a) || items_have_float (items_of b))
both_lists [] b = refl
both_lists (d ∷ ds) b = ap (λ t. has_float d || t) (both_lists ds b) ∙ regroup (has_float d) _ _
  where
    regroup : (x y z : Bool) → (x || (y || z)) ≡ ((x || y) || z)
    regroup true y z = refl
    regroup false y z = refl

each : {X : Type 0} (said : X → Data) → ((x : X) → has_float (said x) ≡ false) → (xs : List X) → items_have_float (items_of (map said xs)) ≡ false
each said plain [] = refl
each said plain (x ∷ xs) = ap₂ (λ a b. a || b) (plain x) (each said plain xs)

all : {X : Type 0} (said : X → List Data) → ((x : X) → items_have_float (items_of (said x)) ≡ false) → (xs : List X) → items_have_float (items_of (flat_map said xs)) ≡ false
all said plain [] = refl
all said plain (x ∷ xs) = both_lists (said x) (flat_map said xs) ∙ ap₂ (λ a b. a || b) (plain x) (all said plain xs)

in_cut : (setup : SessionView) (concerned : ℕ) (kept : List ℕ) (q : ℕ) → items_have_float (items_of (cut_data setup concerned kept q)) ≡ false
in_cut setup concerned kept q = go (has_bit concerned q)
  where
    go : (b : Bool) → items_have_float (items_of (cond b (list_of (role_data setup q ∷ count (slice_index kept q) ∷ []) ∷ []) [])) ≡ false
    go true = refl
    go false = refl

-- entries have none
pub in_entry : (setup : SessionView) (e : Entry) → has_float (entry_data setup e) ≡ false
in_entry setup (Send e) = ap (λ b. b || false) (whole e.value)
in_entry setup (Recv e) = ap (λ b. b || false) (whole e.value)
in_entry setup (Crash p) = refl
in_entry setup (Recover p concerned kept undone) = ap (λ b. b || false) (all (cut_data setup concerned.0 kept) (in_cut setup concerned.0 kept) (range_with_len 0 (roles_of setup)))

in_limit : (setup : SessionView) (line : RoleLine) → items_have_float (items_of (limit_data setup line)) ≡ false
in_limit setup line = go (is_limit line.word)
  where
    go : (b : Bool) → items_have_float (items_of (cond b (role_data setup line.role ∷ []) [])) ≡ false
    go true = refl
    go false = refl

-- the roles at the limit, and the lines of roles
pub in_limited : (setup : SessionView) (lines : List RoleLine) → has_float (list_of (limited_data setup lines)) ≡ false
in_limited setup lines = all (limit_data setup) (in_limit setup) lines

pub in_lines : (setup : SessionView) (lines : List RoleLine) → has_float (list_of (map (line_data setup) lines)) ≡ false
in_lines setup lines = each (line_data setup) (λ line. refl) lines
