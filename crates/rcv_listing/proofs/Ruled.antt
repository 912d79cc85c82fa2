-- What a refusal by a rule gives: its code has a rule, and its number stands in the text.
use Rattle.std.proofs.Common.{◌≡◌, ℕ, zero, suc, true, false, ◌<◌, codes, List, [], ◌∷◌, ◌++◌, length, get_or, refl, sym, ◌∙◌, ap, subst, inl, inr, ⊎_elim, arith}
use Rattle.std.specs.Prelude.{Result, Ok, Err, IfOk, not}
use Rattle.std.specs.declared.alloc.AllocError.{AllocError}
use Rattle.rcv_tree.specs.declared.protocol.Protocol.{Protocol}
use Rattle.rcv_tree.specs.declared.refusal.Refusal.{Refusal}
use Rattle.rcv_tree.specs.declared.refusal.Refusal.TheVariants as refusals
use Rattle.rcv_model.specs.Net.{Net, IsIn}
use Rattle.rcv_model.specs.Text.{Body, body_of}
use Rattle.rcv_model.specs.Form.{HasForm}
use Rattle.rcv_model.specs.Places.{net_of}
use Rattle.rcv_model.specs.Next.{IsPlaceOf}
use Rattle.rcv_model.specs.Accept.{Fails, subject, mixed, senders, labels, not_enabled, maybe_done, unreachable, lane_end}
use Rattle.rcv_tree.specs.declared.refusal.TextError.TheVariants as errors
use Rattle.rcv_points.specs.Follow.{PointsView, ChoiceView, IsChosen, ArePointsOf, net_in}
use Rattle.rcv_points.proofs.Whole.{same_net}
use Rattle.rcv_accept.specs.Accepted.{IsAcceptedProtocol, IsRefusedBy}
use Rattle.rcv_accept.specs.Faults.{AreOf}
use Rattle.rcv_accept.specs.Lists.{IsInText}
use Rattle.rcv_accept.proofs.Unsent.{no_choice}
use Rattle.rcv_accept.proofs.Choices.{choice_in_text}
use Rattle.rcv_explain.specs.Explained.{HasRule}
use Rattle.rcv_listing.specs.declared.listing.Listing.{Listing}
use Rattle.rcv_listing.specs.declared.listing.Listing.TheVariants.{Accepted, RuledOut, HalfRead, Unread}
use Rattle.rcv_listing.specs.declared.written.PointLines.{PointLines}
use Rattle.rcv_listing.specs.Lines.{all_text, is_at_place, IsNumberIn, IsRuleIn, AddsRefusal}
use Rattle.rcv_listing.specs.Listing.{IsSourceOf, points_of, IsRuledOut, IsListedAs, IsListingOf, IsListing}

rule_of : (body : Body) (roles c r n : ℕ) → Fails body roles c r n → HasRule c
rule_of body roles c r n (subject first unsent) = (codes "Subject", inr (inr (inr (inr (inr (inr (inr (inr (inr (inr (inl (refl, refl))))))))))))
rule_of body roles c r n (mixed x y declared place next other sends receives) = (codes "Mixed", inr (inr (inr (inr (inr (inr (inr (inr (inr (inr (inr (inl (refl, refl)))))))))))))
rule_of body roles c r n (senders x y declared place next other first second differ) = (codes "Senders", inr (inr (inr (inr (inr (inr (inr (inr (inr (inr (inr (inr (inl (refl, refl))))))))))))))
rule_of body roles c r n (labels x y declared place next other alike differ) = (codes "Labels", inr (inr (inr (inr (inr (inr (inr (inr (inr (inr (inr (inr (inr (inl (refl, refl)))))))))))))))
rule_of body roles c r n (not_enabled declared place closed) = (codes "NotEnabled", inr (inr (inr (inr (inr (inr (inr (inr (inr (inr (inr (inr (inr (inr (inl (refl, refl))))))))))))))))
rule_of body roles c r n (maybe_done z w declared place next walk ended none) = (codes "MaybeDone", inr (inr (inr (inr (inr (inr (inr (inr (inr (inr (inr (inr (inr (inr (inr (inl (refl, refl)))))))))))))))))
rule_of body roles c r n (unreachable sends first last unreached) = (codes "Unreachable", inr (inr (inr (inr (inr (inr (inr (inr (inr (inr (inr (inr (inr (inr (inr (inr (inl (refl, refl))))))))))))))))))
rule_of body roles c r n (lane_end sends first last later never) = (codes "LaneEnd", inr (inr (inr (inr (inr (inr (inr (inr (inr (inr (inr (inr (inr (inr (inr (inr (inr (inr (inl (refl, refl))))))))))))))))))))

-- a choice with this first point
chosen_at : (vs : List ChoiceView) (s p : ℕ) → IsChosen vs s p → (j : ℕ) × (j < length vs) × IsIn p (get_or vs j no_choice).offered
chosen_at [] s p i = absurd i
chosen_at (v ∷ vs) s p (inl a) = (zero, omega arith, a.1)
chosen_at (v ∷ vs) s p (inr i) = let b = chosen_at vs s p i in (suc b.0, omega (arith, b.1), b.2)

at_place : (net : Net) (r k c : ℕ) → IsPlaceOf net r k → is_at_place c ≡ true → IsNumberIn net c k
at_place net r k c place at = (⊎_elim (λ e. omega (arith, e)) (λ a. a.1) place, λ h. (let e : true ≡ false = sym h ∙ ap not at in absurd (cc)))

number_of : (body : Body) (roles c r n : ℕ) (points : PointsView) → AreOf body roles points → Fails body roles c r n → IsNumberIn (net_of body) c n
number_of body roles c r n points are (subject first unsent) =
    let i = chosen_at points.choices r n ((are.all.choices r n).1 first) in
    let a = choice_in_text body roles points are i.0 n (get_or points.choices i.0 no_choice) i.1 refl i.2 in
    let b = subst (λ net. IsInText net n) (same_net body roles points are.form are.all) a in
    (b.1, λ h. b.0)
number_of body roles c r n points are (mixed x y declared place next other sends receives) = at_place (net_of body) r n 21 place refl
number_of body roles c r n points are (senders x y declared place next other first second differ) = at_place (net_of body) r n 22 place refl
number_of body roles c r n points are (labels x y declared place next other alike differ) = at_place (net_of body) r n 23 place refl
number_of body roles c r n points are (not_enabled declared place closed) = at_place (net_of body) r n 24 place refl
number_of body roles c r n points are (maybe_done z w declared place next walk ended none) = at_place (net_of body) r n 25 place refl
number_of body roles c r n points are (unreachable sends first last unreached) = (last, λ h. first)
number_of body roles c r n points are (lane_end sends first last later never) = (last, λ h. first)

pub is_rule_in : (p : Protocol) (points : PointsView) (r : Refusal) → HasForm (body_of p.body) (length p.roles) → ArePointsOf (body_of p.body) points → IsRefusedBy (body_of p.body) (length p.roles) (errors.Refused r) → IsRuleIn (net_in points) r
is_rule_in p points (refusals.Rule c role n) form are h =
    let both : AreOf (body_of p.body) (length p.roles) points = record { form = form; all = are } in
    subst (λ net. IsRuleIn net (refusals.Rule c role n)) (sym (same_net (body_of p.body) (length p.roles) points form are))
    (c, role, n, refl, rule_of (body_of p.body) (length p.roles) c role n h.fails, number_of (body_of p.body) (length p.roles) c role n points both h.fails)
is_rule_in p points (refusals.Text c l) form are h = absurd h
is_rule_in p points refusals.NoRole form are h = absurd h

-- ---- the listing

pub all_told : (p : Protocol) (points : PointsView) (names : List (List ℕ)) (lines given : List PointLines) (text : List ℕ) → HasForm (body_of p.body) (length p.roles) → ArePointsOf (body_of p.body) points → names ≡ p.roles → given ≡ lines → text ≡ all_text names (net_in points) given → text ≡ points_of p lines
all_told p points names lines given text form are named same told =
    told ∙ ap (λ (l : List (List ℕ)). all_text l (net_in points) given) named
    ∙ ap (λ net. all_text p.roles net given) (same_net (body_of p.body) (length p.roles) points form are)
    ∙ ap (λ (l : List PointLines). all_text p.roles (net_of (body_of p.body)) l) same

pub ruled : (p : Protocol) (points : PointsView) (names : List (List ℕ)) (lines given : List PointLines) (before after text : List ℕ) (r : Refusal) → HasForm (body_of p.body) (length p.roles) → ArePointsOf (body_of p.body) points → names ≡ p.roles → given ≡ lines → IsRefusedBy (body_of p.body) (length p.roles) (errors.Refused r) → before ≡ all_text names (net_in points) given → AddsRefusal names (net_in points) given r before after → text ≡ after → IsRuledOut p lines text
ruled p points names lines given before after text r form are named same h told adds is =
    let a : AddsRefusal p.roles (net_of (body_of p.body)) lines r before after =
    subst (λ (l : List PointLines). AddsRefusal p.roles (net_of (body_of p.body)) l r before after) same
    (subst (λ net. AddsRefusal p.roles net given r before after) (same_net (body_of p.body) (length p.roles) points form are)
    (subst (λ (l : List (List ℕ)). AddsRefusal l (net_in points) given r before after) named adds)) in (
      a.0,
      a.1,
      a.2,
      a.4.0,
      subst (λ x. IsRefusedBy (body_of p.body) (length p.roles) (errors.Refused x)) a.3 h,
      a.4.1,
      is ∙ a.4.2 ∙ ap (λ t. t ++ a.4.0) (all_told p points names lines given before form are named same told),
    )

pub listed_of : (input : List ℕ) (p q : Protocol) (lines : List PointLines) (text : List ℕ) (listing : Listing) → q ≡ p → IsAcceptedProtocol q
    → text ≡ points_of p lines → IsListedAs input q text listing → IsListingOf input p lines listing
listed_of input p q lines text (Accepted x) same accepted told h =
    let there : IsListedAs input q (points_of p lines) (Accepted x) = subst (λ t. IsListedAs input q t (Accepted x)) told h in
    (subst IsAcceptedProtocol same accepted, subst (λ (r : Protocol). IsListedAs input r (points_of p lines) (Accepted x)) same there)
listed_of input p q lines text (HalfRead x) same accepted told h =
    let there : IsListedAs input q (points_of p lines) (HalfRead x) = subst (λ t. IsListedAs input q t (HalfRead x)) told h in
    (subst IsAcceptedProtocol same accepted, subst (λ (r : Protocol). IsListedAs input r (points_of p lines) (HalfRead x)) same there)
listed_of input p q lines text (RuledOut x) same accepted told h = absurd h
listed_of input p q lines text (Unread x) same accepted told h = absurd h

pub if_listed_of : (input : List ℕ) (p q : Protocol) (lines : List PointLines) (text : List ℕ) (result : Result Listing AllocError) → q ≡ p
    → IsAcceptedProtocol q → text ≡ points_of p lines → IfOk result (IsListedAs input q text) → IfOk result (IsListingOf input p lines)
if_listed_of input p q lines text (Ok l) same accepted told h = listed_of input p q lines text l same accepted told h
if_listed_of input p q lines text (Err e) same accepted told h = tt

pub listing_is : (input : List ℕ) (p : Protocol) (lines : List PointLines) (listing : Listing) → IsSourceOf input p lines
    → IsListingOf input p lines listing → IsListing input listing
listing_is input p lines (Accepted x) source h = (p, lines, source, h)
listing_is input p lines (RuledOut x) source h = (p, lines, source, h)
listing_is input p lines (HalfRead x) source h = (p, lines, source, h)
listing_is input p lines (Unread x) source h = absurd h.1

pub if_listed : (input : List ℕ) (p : Protocol) (lines : List PointLines) (result : Result Listing AllocError) → IsSourceOf input p lines
    → IfOk result (IsListingOf input p lines) → IfOk result (IsListing input)
if_listed input p lines (Ok l) source h = listing_is input p lines l source h
if_listed input p lines (Err e) source h = tt
