-- The values have no float.
use Rattle.std.proofs.Common.{◌≡◌, ℕ, Bool, true, false, ◌||◌, Some, None, List, [], ◌∷◌, codes, map, refl, ap, ap₂}
use Rattle.std.specs.Prelude.{Option, if◌then◌else◌}
use Rattle.std.specs.List.{range_with_len}
use Rattle.serde_json.specs.Data.{Data}
use Rattle.serde_json.specs.View.{items_of}
use Rattle.serde_json.specs.Written.{has_float, items_have_float}
use Rattle.rcv_tree.specs.declared.refusal.Refusal.{Refusal}
use Rattle.rcv_tree.specs.declared.refusal.Refusal.TheVariants as refusals
use Rattle.rcv_model.specs.Net.{Net}
use Rattle.rcv_found.specs.Things.{ThingView}
use Rattle.rcv_found.specs.declared.wrong.Wrong.{Wrong}
use Rattle.rcv_listing.specs.declared.unread.Unread.{Unread}
use Rattle.rcv_listing.specs.declared.written.PointLines.{PointLines}
use Rattle.rcv_listing.specs.Lines.{calls_of, is_at_place}
use Rattle.rcv_export.specs.Pieces.{count, word_data}
use Rattle.rcv_points_json.specs.PointsJson.{point_data, thing_data, part_data, unread_data, at_data, refusal_data, protocol_data, no_protocol_data}

each_whole : {X : Type 0} (f : X → Data) → ((x : X) → has_float (f x) ≡ false) → (xs : List X) → items_have_float (items_of (map f xs)) ≡ false
each_whole f each [] = refl
each_whole f each (x ∷ xs) = ap₂ (λ a b. a || b) (each x) (each_whole f each xs)

point_whole : (roles : List (List ℕ)) (net : Net) (written : List PointLines) (p : ℕ) → has_float (point_data roles net written p) ≡ false
point_whole roles net written p = ap (λ b. b || false) (each_whole count (λ n. refl) (calls_of written p))

part_whole : (input : List ℕ) (code line : ℕ) (wrong : Option Wrong) → has_float (part_data input code line wrong) ≡ false
part_whole input code line None = refl
part_whole input code line (Some w) = ap (λ b. b || false) (each_whole thing_data (λ (t : ThingView). refl) w.may.items)

pub unread_whole : (input : List ℕ) (u : Unread) → has_float (unread_data input u) ≡ false
unread_whole input u = part_whole input u.code u.line u.wrong

rule_whole : (roles : List (List ℕ)) (code role number : ℕ) (at : Bool)
    → has_float (if at then at_data roles (codes "place") code role number else at_data roles (codes "point") code role number) ≡ false
rule_whole roles code role number true = refl
rule_whole roles code role number false = refl

pub refusal_whole : (roles : List (List ℕ)) (r : Refusal) → has_float (refusal_data roles r) ≡ false
refusal_whole roles (refusals.Rule code role number) = rule_whole roles code role number (is_at_place code)
refusal_whole roles (refusals.Text code line) = refl
refusal_whole roles refusals.NoRole = refl

pub no_protocol_whole : (refused : Data) → has_float refused ≡ false → has_float (no_protocol_data refused) ≡ false
no_protocol_whole refused whole = ap (λ b. b || false) whole

pub protocol_whole : (name : List ℕ) (roles : List (List ℕ)) (net : Net) (written : List PointLines) (refused : Data) → has_float refused ≡ false
    → has_float (protocol_data name roles net written refused) ≡ false
protocol_whole name roles net written refused whole =
    ap₂ (λ a b. a || b) (each_whole (point_data roles net written) (point_whole roles net written) (range_with_len 1 net.count))
    (ap₂ (λ a b. a || b) whole (ap (λ b. b || false) (each_whole word_data (λ name. refl) roles)))
