-- A role of a protocol has a text.
use Rattle.std.proofs.Common.{◌≡◌, ℕ, zero, suc, ◌+◌, ◌<◌, ◌≤◌, Bool, true, false, cond, List, [], ◌∷◌, length, flat_map, refl, ap, ◌⊎◌, inl, inr, arith}
use Rattle.std.specs.Prelude.{◌==◌, ◌||◌}
use Rattle.std.specs.List.{filter, range_with_len}
use Rattle.std.proofs.lemmas.Bool.Decides.{nat_tests}
use Rattle.std.proofs.lemmas.List.Elements.{All-cons, All-nil}
use Rattle.rcv_tree.specs.declared.protocol.Protocol.{Protocol}
use Rattle.rcv_model.specs.Net.{Net}
use Rattle.rcv_model.specs.Next.{IsPlaceOf}
use Rattle.rcv_model.specs.Text.{body_of}
use Rattle.rcv_model.specs.Places.{net_of}
use Rattle.rcv_accept.specs.Accepted.{IsAcceptedProtocol}
use Rattle.rcv_project.specs.Act.{ActView, IsActAt}
use Rattle.rcv_project.specs.LocalText.{is_own, places_to, LineView, AreLinesAt, line_text, IsTextOf}
use Rattle.rcv_project.proofs.Acting.{there_is_one_act}
use Rattle.rcv_top.specs.Recovering.{accepted_as}

-- the role does something at its place
abbrev Acts : Net → ℕ → Type 0
Acts net r = (k : ℕ) → IsPlaceOf net r k → (act : ActView) × IsActAt net r k act

-- places that are the role's
abbrev ArePlaces : Net → ℕ → List ℕ → Type 0
ArePlaces net r [] = Unit {0}
ArePlaces net r (k ∷ ks) = IsPlaceOf net r k × ArePlaces net r ks

lines_at : (net : Net) (r : ℕ) (ks : List ℕ) → Acts net r → ArePlaces net r ks → (lines : List LineView) × AreLinesAt net r ks lines
lines_at net r [] acts own = ([], record { all = refl; acts = All-nil (λ (line : LineView). IsActAt net r line.place line.act) })
lines_at net r (k ∷ ks) acts own =
    let first = acts k own.0 in
    let more = lines_at net r ks acts own.1 in (
      record { place = k; act = first.0 } ∷ more.0,
      record { all = ap (λ (l : List ℕ). k ∷ l) more.1.all; acts = All-cons (λ (line : LineView). IsActAt net r line.place line.act) (record { place = k; act = first.0 }) more.0 first.1 more.1.acts },
    )

own_place : (net : Net) (r k : ℕ) → 1 ≤ k → k ≤ net.count → is_own net r k ≡ true → IsPlaceOf net r k
own_place net r k first last own = inr (first, last, of_role (net.sender k == r) refl own)
  where
    of_role : (b : Bool) → (net.sender k == r) ≡ b → (b || (net.receiver k == r)) ≡ true → (net.sender k ≡ r) ⊎ (net.receiver k ≡ r)
    of_role true e own = inl (grind (arith, nat_tests))
    of_role false e own = inr (grind (arith, nat_tests))

own_places : (net : Net) (r k n : ℕ) → 1 ≤ k → k + n ≤ net.count + 1 → ArePlaces net r (filter (is_own net r) (range_with_len k n))
own_places net r k zero first last = tt
own_places net r k (suc n) first last = go (is_own net r k) refl (own_places net r (k + 1) n (omega (arith, first)) (omega (arith, last)))
  where
    go : (b : Bool) → is_own net r k ≡ b → ArePlaces net r (filter (is_own net r) (range_with_len (k + 1) n)) → ArePlaces net r (cond b (k ∷ filter (is_own net r) (range_with_len (k + 1) n)) (filter (is_own net r) (range_with_len (k + 1) n)))
    go true own rest = (own_place net r k first (omega (arith, last)) own, rest)
    go false own rest = rest

pub text_exists : (p : Protocol) (role : ℕ) → IsAcceptedProtocol p → role < length p.roles → (bytes : List ℕ) × IsTextOf (accepted_as p) role bytes
text_exists p role accepted declared = (flat_map (line_text p.roles (net_of (body_of p.body))) lines.0, record { lines = lines.0; are_lines = lines.1; is_text = refl })
  where
    acts : Acts (net_of (body_of p.body)) role
    acts k own = let one = there_is_one_act (body_of p.body) (length p.roles) role k accepted.form accepted.accepted declared own in (one.0, one.1)

    lines : (lines : List LineView) × AreLinesAt (net_of (body_of p.body)) role (places_to (net_of (body_of p.body)) role (net_of (body_of p.body)).count) lines
    lines = lines_at (net_of (body_of p.body)) role (places_to (net_of (body_of p.body)) role (net_of (body_of p.body)).count) acts (inl refl, own_places (net_of (body_of p.body)) role 1 (net_of (body_of p.body)).count (omega arith) (omega arith))
