-- What the reader of a plan does with an item doesn't depend on the items behind it.
use Rattle.std.proofs.Common.{◌≡◌, ℕ, Bool, true, false, cond, List, [], ◌∷◌, ◌++◌, Option, Some, None, refl, sym, subst}
use Rattle.std.specs.Prelude.{◌||◌, codes}
use Rattle.rcv_tree.specs.Bits.{is_listed}
use Rattle.rcv_tree.specs.Names.{place_of}
use Rattle.rcv_model.specs.Plan.{EveryLine, CrashLine, LimitLine, RoomLine}
use Rattle.rcv_plan.specs.declared.sign.Sign.TheVariants.{Equals, Comma}
use Rattle.rcv_plan.specs.declared.fault.Fault.{Fault}
use Rattle.rcv_plan.specs.declared.fault.Fault.TheVariants.{Twice, Range}
use Rattle.rcv_plan.specs.Symbols.{Symbol, Word, Number, Is}
use Rattle.rcv_plan.specs.Lines.{has_crash, is_hosted}
use Rattle.rcv_plan.specs.Grammar.{Written, WrittenEvery, WrittenCrash, WrittenLimit, WrittenRoom, WrittenHost, more_roles, item_text, plan_text}
use Rattle.rcv_plan.specs.Codes.{is_among, is_second, within}
use Rattle.rcv_plan.specs.Items.{KnownView, Step, Takes, Stops, goes_on, found, unhosted, with_line, with_host, next_name, next_number, next_count, next_role, next_sign, next_member, next_members, host_roles, every_line, limit_line, room_line, next_item}

-- If something is taken, then up to these symbols, and the other step takes the same up to the others.
abbrev pub Follows : {X : Type 0} → Step X → Step X → List Symbol → List Symbol → Type 0
Follows (Takes x left) other rest others = (left ≡ rest) × (other ≡ Takes x others)
Follows (Stops f left) other rest others = Unit {0}

follows_on : {X Y : Type 0} (s other : Step X) (more : X → List Symbol → Step Y) (rest others ts us : List Symbol)
    → Follows s other rest others → ((x : X) → Follows (more x rest) (more x others) ts us)
    → Follows (goes_on s more) (goes_on other more) ts us
follows_on {Y} (Takes x left) other more rest others ts us f h =
    subst (λ (s : Step _). Follows {X = Y} (more x left) (goes_on s more) ts us) (sym f.1)
    (subst (λ (z : List Symbol). Follows {X = Y} (more x z) (more x others) ts us) (sym f.0) (h x))
follows_on (Stops fault left) other more rest others ts us f h = tt

unless : {X : Type 0} (b : Bool) (fault : Fault) (here there : List Symbol) (s other : Step X) (rest others : List Symbol)
    → Follows s other rest others → Follows (cond b (Stops fault here) s) (cond b (Stops fault there) other) rest others
unless true fault here there s other rest others f = tt
unless false fault here there s other rest others f = f

-- ---- single symbols

role_follows : (roles : List (List ℕ)) (r : List ℕ) (ts us : List Symbol)
    → Follows (next_role roles (Word r ∷ ts)) (next_role roles (Word r ∷ us)) ts us
role_follows roles r ts us = go (place_of roles r)
  where
    go : (o : Option ℕ) → Follows (found o (Word r ∷ ts) ts) (found o (Word r ∷ us) us) ts us
    go None = tt
    go (Some p) = (refl, refl)

number_follows : (low high n : ℕ) (ts us : List Symbol)
    → Follows (next_number low high (Number n ∷ ts)) (next_number low high (Number n ∷ us)) ts us
number_follows low high n ts us = go (within low high n)
  where
    go : (b : Bool) → Follows (cond b (Takes n ts) (Stops Range (Number n ∷ ts))) (cond b (Takes n us) (Stops Range (Number n ∷ us))) ts us
    go true = (refl, refl)
    go false = tt

count_follows : (k : KnownView) (p n : ℕ) (ts us : List Symbol)
    → Follows (next_count k p (Number n ∷ ts)) (next_count k p (Number n ∷ us)) ts us
count_follows k p n ts us = go (within 0 100000 n) (has_crash p n k.lines)
  where
    go : (b c : Bool)
        → Follows (cond b (cond c (Stops Twice (Number n ∷ ts)) (Takes n ts)) (Stops Range (Number n ∷ ts))) (cond b (cond c (Stops Twice (Number n ∷ us)) (Takes n us)) (Stops Range (Number n ∷ us))) ts us
    go true true = tt
    go true false = (refl, refl)
    go false c = tt

name_follows : (k : KnownView) (h : List ℕ) (ts us : List Symbol) → Follows (next_name k (Word h ∷ ts)) (next_name k (Word h ∷ us)) ts us
name_follows k h ts us = unless (is_among h k.names) Twice (Word h ∷ ts) (Word h ∷ us) (Takes h ts) (Takes h us) ts us (refl, refl)

member_follows : (roles : List (List ℕ)) (k : KnownView) (qs : List ℕ) (r : List ℕ) (ts us : List Symbol)
    → Follows (next_member roles k qs (Word r ∷ ts)) (next_member roles k qs (Word r ∷ us)) ts us
member_follows roles k qs r ts us = go (place_of roles r)
  where
    go : (o : Option ℕ)
        → Follows (goes_on (found o (Word r ∷ ts) ts) (unhosted k qs (Word r ∷ ts))) (goes_on (found o (Word r ∷ us) us) (unhosted k qs (Word r ∷ us))) ts us
    go None = tt
    go (Some p) = unless (is_listed qs p || is_hosted p k.lines) Twice (Word r ∷ ts) (Word r ∷ us) (Takes (qs ++ p ∷ []) ts) (Takes (qs ++ p ∷ []) us) ts us (refl, refl)

-- ---- the other roles of a host

-- no item begins with a comma
ended : (roles : List (List ℕ)) (k : KnownView) (qs : List ℕ) (ws : List Written)
    → next_members roles k qs (plan_text ws) ≡ Takes qs (plan_text ws)
ended roles k qs [] = refl
ended roles k qs (WrittenEvery r n ∷ ws) = refl
ended roles k qs (WrittenCrash r n ∷ ws) = refl
ended roles k qs (WrittenLimit n ∷ ws) = refl
ended roles k qs (WrittenRoom n ∷ ws) = refl
ended roles k qs (WrittenHost h a b rs ∷ ws) = refl

-- the roles of a host, and what is left behind them
abbrev members : List (List ℕ) → KnownView → List (List ℕ) → List Symbol → List ℕ → List Symbol → Step (List ℕ)
members roles k rs ts all after = next_members roles k all (more_roles rs ++ ts)

members_follow : (roles : List (List ℕ)) (k : KnownView) (rs : List (List ℕ)) (qs : List ℕ) (ws vs : List Written)
    → Follows (next_members roles k qs (more_roles rs ++ plan_text ws)) (next_members roles k qs (more_roles rs ++ plan_text vs)) (plan_text ws) (plan_text vs)
members_follow roles k [] qs ws vs =
    subst (λ (s : Step (List ℕ)). Follows s (next_members roles k qs (plan_text vs)) (plan_text ws) (plan_text vs)) (sym (ended roles k qs ws)) (refl, ended roles k qs vs)
members_follow roles k (r ∷ rs) qs ws vs = go (next_member roles k qs (Word r ∷ more_roles rs ++ plan_text ws)) (next_member roles k qs (Word r ∷ more_roles rs ++ plan_text vs))
    (member_follows roles k qs r (more_roles rs ++ plan_text ws) (more_roles rs ++ plan_text vs)) (λ all. members_follow roles k rs all ws vs)
  where
    go : (s other : Step (List ℕ)) → Follows s other (more_roles rs ++ plan_text ws) (more_roles rs ++ plan_text vs)
        → ((all : List ℕ) → Follows (next_members roles k all (more_roles rs ++ plan_text ws)) (next_members roles k all (more_roles rs ++ plan_text vs)) (plan_text ws) (plan_text vs))
        → Follows (goes_on s (λ all after. next_members roles k all (more_roles rs ++ plan_text ws))) (goes_on other (λ all after. next_members roles k all (more_roles rs ++ plan_text vs))) (plan_text ws) (plan_text vs)
    go (Takes all left) other f more =
        subst (λ (s : Step (List ℕ)). Follows (next_members roles k all (more_roles rs ++ plan_text ws)) (goes_on s (λ all after. next_members roles k all (more_roles rs ++ plan_text vs))) (plan_text ws) (plan_text vs)) (sym f.1) (more all)
    go (Stops fault left) other f more = tt

-- ---- items

-- An item is taken, or it isn't, whatever other items stand behind it.
pub item_follows : (roles : List (List ℕ)) (k : KnownView) (w : Written) (ws vs : List Written)
    → Follows (next_item roles k (item_text w ++ plan_text ws)) (next_item roles k (item_text w ++ plan_text vs)) (plan_text ws) (plan_text vs)
item_follows roles k (WrittenEvery r n) ws vs =
    unless (is_second roles k.lines (codes "every") (Word r ∷ Number n ∷ plan_text ws)) Twice (item_text (WrittenEvery r n) ++ plan_text ws) (item_text (WrittenEvery r n) ++ plan_text vs)
    (every_line roles k (Word r ∷ Number n ∷ plan_text ws)) (every_line roles k (Word r ∷ Number n ∷ plan_text vs)) (plan_text ws) (plan_text vs)
    (follows_on (next_role roles (Word r ∷ Number n ∷ plan_text ws)) (next_role roles (Word r ∷ Number n ∷ plan_text vs)) (λ p us. goes_on (next_number 1 100000 us) (λ m ts. Takes (with_line k (EveryLine p m)) ts))
    (Number n ∷ plan_text ws) (Number n ∷ plan_text vs) (plan_text ws) (plan_text vs) (role_follows roles r (Number n ∷ plan_text ws) (Number n ∷ plan_text vs))
    (λ p. follows_on (next_number 1 100000 (Number n ∷ plan_text ws)) (next_number 1 100000 (Number n ∷ plan_text vs)) (λ m ts. Takes (with_line k (EveryLine p m)) ts)
    (plan_text ws) (plan_text vs) (plan_text ws) (plan_text vs) (number_follows 1 100000 n (plan_text ws) (plan_text vs)) (λ m. (refl, refl))))
item_follows roles k (WrittenCrash r n) ws vs =
    follows_on (next_role roles (Word r ∷ Number n ∷ plan_text ws)) (next_role roles (Word r ∷ Number n ∷ plan_text vs)) (λ p us. goes_on (next_count k p us) (λ m ts. Takes (with_line k (CrashLine p m)) ts))
    (Number n ∷ plan_text ws) (Number n ∷ plan_text vs) (plan_text ws) (plan_text vs) (role_follows roles r (Number n ∷ plan_text ws) (Number n ∷ plan_text vs))
    (λ p. follows_on (next_count k p (Number n ∷ plan_text ws)) (next_count k p (Number n ∷ plan_text vs)) (λ m ts. Takes (with_line k (CrashLine p m)) ts)
    (plan_text ws) (plan_text vs) (plan_text ws) (plan_text vs) (count_follows k p n (plan_text ws) (plan_text vs)) (λ m. (refl, refl)))
item_follows roles k (WrittenLimit n) ws vs =
    unless (is_second roles k.lines (codes "limit") (Number n ∷ plan_text ws)) Twice (item_text (WrittenLimit n) ++ plan_text ws) (item_text (WrittenLimit n) ++ plan_text vs)
    (limit_line k (Number n ∷ plan_text ws)) (limit_line k (Number n ∷ plan_text vs)) (plan_text ws) (plan_text vs)
    (follows_on (next_number 1 100000 (Number n ∷ plan_text ws)) (next_number 1 100000 (Number n ∷ plan_text vs)) (λ m ts. Takes (with_line k (LimitLine m)) ts)
    (plan_text ws) (plan_text vs) (plan_text ws) (plan_text vs) (number_follows 1 100000 n (plan_text ws) (plan_text vs)) (λ m. (refl, refl)))
item_follows roles k (WrittenRoom n) ws vs =
    unless (is_second roles k.lines (codes "room") (Number n ∷ plan_text ws)) Twice (item_text (WrittenRoom n) ++ plan_text ws) (item_text (WrittenRoom n) ++ plan_text vs)
    (room_line k (Number n ∷ plan_text ws)) (room_line k (Number n ∷ plan_text vs)) (plan_text ws) (plan_text vs)
    (follows_on (next_number 1 1024 (Number n ∷ plan_text ws)) (next_number 1 1024 (Number n ∷ plan_text vs)) (λ m ts. Takes (with_line k (RoomLine m)) ts)
    (plan_text ws) (plan_text vs) (plan_text ws) (plan_text vs) (number_follows 1 1024 n (plan_text ws) (plan_text vs)) (λ m. (refl, refl)))
item_follows roles k (WrittenHost h a b rs) ws vs =
    let mine = more_roles rs ++ plan_text ws in
    let other = more_roles rs ++ plan_text vs in
    follows_on (next_name k (Word h ∷ Is Equals ∷ Word a ∷ Is Comma ∷ Word b ∷ mine)) (next_name k (Word h ∷ Is Equals ∷ Word a ∷ Is Comma ∷ Word b ∷ other))
    (λ g us. goes_on (next_sign Equals us) (λ m xs. goes_on (host_roles roles k xs) (λ qs ys. Takes (with_host k g qs) ys)))
    (Is Equals ∷ Word a ∷ Is Comma ∷ Word b ∷ mine) (Is Equals ∷ Word a ∷ Is Comma ∷ Word b ∷ other) (plan_text ws) (plan_text vs)
    (name_follows k h (Is Equals ∷ Word a ∷ Is Comma ∷ Word b ∷ mine) (Is Equals ∷ Word a ∷ Is Comma ∷ Word b ∷ other))
    (λ g. follows_on (host_roles roles k (Word a ∷ Is Comma ∷ Word b ∷ mine)) (host_roles roles k (Word a ∷ Is Comma ∷ Word b ∷ other)) (λ qs ys. Takes (with_host k g qs) ys)
    (plan_text ws) (plan_text vs) (plan_text ws) (plan_text vs)
    (follows_on (next_member roles k [] (Word a ∷ Is Comma ∷ Word b ∷ mine)) (next_member roles k [] (Word a ∷ Is Comma ∷ Word b ∷ other))
    (λ q us. goes_on (next_sign Comma us) (λ m xs. goes_on (next_member roles k q xs) (next_members roles k)))
    (Is Comma ∷ Word b ∷ mine) (Is Comma ∷ Word b ∷ other) (plan_text ws) (plan_text vs)
    (member_follows roles k [] a (Is Comma ∷ Word b ∷ mine) (Is Comma ∷ Word b ∷ other))
    (λ q. follows_on (next_member roles k q (Word b ∷ mine)) (next_member roles k q (Word b ∷ other)) (next_members roles k)
    mine other (plan_text ws) (plan_text vs) (member_follows roles k q b mine other) (λ all. members_follow roles k rs all ws vs)))
    (λ qs. (refl, refl)))
