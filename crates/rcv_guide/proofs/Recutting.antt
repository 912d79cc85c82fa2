-- A bound that is of each role what another one keeps, or is that one, keeps the same events.
use Rattle.std.proofs.Common.{◌≡◌, ℕ, ◌<◌, ◌≤◌, Bool, true, false, ◌||◌, cond, List, [], ◌∷◌, length, refl, sym, ◌∙◌, ap, ◌⊎◌, inl, inr, length-append, arith}
use Rattle.std.specs.Prelude.{nat_le}
use Rattle.std.proofs.lemmas.Bool.Decides.{nat_tests}
use Rattle.rcv_tree.specs.declared.event.Event.{Event}
use Rattle.rcv_model.specs.Net.{Net}
use Rattle.rcv_model.specs.Run.{act_of, acts}
use Rattle.rcv_model.specs.Undo.{Kept, is_stopped, is_behind, is_starved, is_blocked, keep_one, keep_from, keep_within}
use Rattle.rcv_model.proofs.Keeping.{or_false}
use Rattle.rcv_model.proofs.Lists.{prefix_length, prefix_map}
use Rattle.rcv_model.proofs.Parts.{acts_own}
use Rattle.rcv_model.proofs.Scanning.{Step, lost, held, step, lose, hold, grows, still, acts_same}
use Rattle.rcv_theory.specs.Counts.{kept_counts}

-- how many events of role r a scan has kept
abbrev did : Kept → ℕ → ℕ
did k r = length (acts r k.events)

-- three tests, the second of which is met, and none
by_second : (a b c : Bool) → b ≡ true → (a || (b || c)) ≡ true
by_second true b c e = refl
by_second false b c e = ap (λ x. x || c) e

by_none : (a b c : Bool) → a ≡ false → b ≡ false → c ≡ false → (a || (b || c)) ≡ false
by_none a b c e f g = ap (λ x. x || (b || c)) e ∙ ap (λ x. x || c) f ∙ g

-- an event is blocked by bounds that are one, or by none of them
abbrev blocked_by : Net → Kept → Event → ℕ → Bool
blocked_by net k e n = is_stopped k e || (nat_le n (did k e.role) || is_starved net k e)

same_scan : (net : Net) (b c : ℕ → ℕ) (k : Kept) (h : List Event) → ((r : ℕ) → (c r ≡ did (keep_from net b k h) r) ⊎ (c r ≡ b r)) → keep_from net c k h ≡ keep_from net b k h
same_scan net b c k [] is = refl
same_scan net b c k (e ∷ h) is = go (step net b k e) (same_scan net b c (keep_one net b k e) h is)
  where
    go : Step net b k e → keep_from net c (keep_one net b k e) h ≡ keep_from net b (keep_one net b k e) h
        → keep_from net c (keep_one net c k e) h ≡ keep_from net b (keep_one net b k e) h
    go (lost t f) ih = ap (λ (x : Kept). keep_from net c x h) (ap (λ x. cond x (lose k e) (hold k e)) (too (is e.role)) ∙ sym f) ∙ ih
      where
        -- the role is stopped, so what is kept is what it has
        too : (c e.role ≡ did (keep_from net b (keep_one net b k e) h) e.role) ⊎ (c e.role ≡ b e.role) → is_blocked net c k e ≡ true
        too (inl count) =
            let here = count ∙ ap (λ (x : Kept). did (keep_from net b x h) e.role) f ∙ ap length (acts_same e.role _ _ (still net b e.role (lose k e) h (inl refl))) in
            by_second (is_stopped k e) (is_behind c k e) (is_starved net k e) (let le : c e.role ≤ did k e.role = omega (arith, here) in grind (arith, nat_tests))
        too (inr same) = ap (blocked_by net k e) same ∙ t
    go (held t f) ih = ap (λ (x : Kept). keep_from net c x h) (ap (λ x. cond x (lose k e) (hold k e)) (free (is e.role)) ∙ sym f) ∙ ih
      where
        others : (is_stopped k e ≡ false) × ((is_behind b k e || is_starved net k e) ≡ false)
        others = or_false (is_stopped k e) (is_behind b k e || is_starved net k e) t

        -- what is kept is at least with this event
        least : did (hold k e) e.role ≤ did (keep_from net b (hold k e) h) e.role
        least = prefix_length _ _ (prefix_map (act_of e.role) _ _ (grows net b (hold k e) h))

        free : (c e.role ≡ did (keep_from net b (keep_one net b k e) h) e.role) ⊎ (c e.role ≡ b e.role) → is_blocked net c k e ≡ false
        free (inl count) =
            let here = count ∙ ap (λ (x : Kept). did (keep_from net b x h) e.role) f in
            let inside : did k e.role < c e.role = omega (arith, least, here, ap length (acts_own k.events e), length-append (acts e.role k.events) (record { dir = e.dir; point = e.point } ∷ [])) in
            by_none (is_stopped k e) (is_behind c k e) (is_starved net k e) others.0 (grind (arith, nat_tests)) (or_false (is_behind b k e) (is_starved net k e) others.1).1
        free (inr same) = ap (blocked_by net k e) same ∙ t

pub same_cut : (net : Net) (b c : ℕ → ℕ) (h : List Event) → ((r : ℕ) → (c r ≡ kept_counts net b h r) ⊎ (c r ≡ b r)) → keep_within net c h ≡ keep_within net b h
same_cut net b c h is = ap (λ (k : Kept). k.events) (same_scan net b c (record { events = []; stopped = [] }) h is)
