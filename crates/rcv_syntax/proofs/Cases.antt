-- Worked cases of the table, by codes: what stands before, and at what the code holds or doesn't.
use Rattle.std.proofs.Common.{◌≡◌, ℕ, zero, suc, false, codes, List, [], ◌∷◌, refl}
use Rattle.rcv_syntax.specs.declared.sign.Sign.TheVariants.{Module, Global, Protocol, Role, From, To, Choice, At, Or, Rec, Continue, Par, Do, Open, Close, Left, Right, Comma, Semicolon, Less, Greater}
use Rattle.rcv_syntax.specs.declared.fault.Fault.TheVariants.{Deep, NoName, Twice, SelfMessage, AfterContinue, Unguarded, TooMany, NotYet, Shared}
use Rattle.rcv_syntax.specs.Symbols.{Symbol, Is, Word, Text}
use Rattle.rcv_syntax.specs.Codes.{Comes, FromItsStart, IntoRec, IntoChoice, IntoBranch, is_behind_continue, is_at}
use Rattle.rcv_syntax.specs.Refusing.{backward, HoldsAt}
use Rattle.rcv_syntax.proofs.Texts.{a, b, c, x, y, text, begins, sends, message, in_par, beside, calls, call, second, rec_x, again_x, nested, alias_a, more_roles, with_roles}

-- 12 at the brace of the 33rd nested block, and not at that of the 32nd; what is closed doesn't count, and a block of a
-- par does
deep : HoldsAt Deep (text (nested 31 (Is Rec ∷ x ∷ []))) (Is Open ∷ [])
    × (is_at Deep (backward (text (nested 30 (Is Rec ∷ x ∷ []))) []) (Is Open) ≡ false)
    × (is_at Deep (backward (text (nested 30 (rec_x (message (Is Close ∷ Is Rec ∷ x ∷ []))))) []) (Is Open) ≡ false)
    × HoldsAt Deep (text (in_par (nested 30 (Is Rec ∷ x ∷ [])))) (Is Open ∷ [])
    × (is_at Deep (backward (text (in_par (nested 29 (Is Rec ∷ x ∷ [])))) []) (Is Open) ≡ false)
deep = (refl, refl, refl, refl, refl)

-- 13 at a sender, a receiver, the subject of a choice and the name of a continue; a rec that is closed doesn't enclose;
-- a sort may have any name
unknown : HoldsAt NoName (text (x ∷ Is Left ∷ Is Right ∷ Is From ∷ [])) (c ∷ [])
    × HoldsAt NoName (text (sends (b ∷ Is Comma ∷ []))) (c ∷ [])
    × HoldsAt NoName (text (Is Choice ∷ Is At ∷ [])) (c ∷ [])
    × HoldsAt NoName (text (rec_x (message (Is Continue ∷ [])))) (y ∷ [])
    × HoldsAt NoName (text (rec_x (message (Is Close ∷ Is Continue ∷ [])))) (x ∷ [])
    × (is_at NoName (backward (text (x ∷ Is Left ∷ b ∷ Is Comma ∷ [])) []) c ≡ false)
unknown = (refl, refl, refl, refl, refl, refl)

-- 13 at an argument, and at a role of another protocol; the called protocol may have any name
unknown_in_calls : HoldsAt NoName (text (calls [])) (c ∷ [])
    × HoldsAt NoName (text (calls (a ∷ Is Comma ∷ []))) (c ∷ [])
    × HoldsAt NoName (text (message (second (begins [])))) (a ∷ [])
    × HoldsAt NoName (text (message (second (calls (b ∷ Is Comma ∷ []))))) (a ∷ [])
    × (is_at NoName (backward (text (message (second (begins [])))) []) b ≡ false)
    × (is_at NoName (backward (text (Is Do ∷ [])) []) c ≡ false)
unknown_in_calls = (refl, refl, refl, refl, refl, refl)

-- 14 at a protocol and an argument; not at a role that another protocol declares, nor at a protocol's name that is one of a
-- role; another call may have it
twice_in_modules : HoldsAt Twice (text (message (second (message (Is Close ∷ Is Global ∷ Is Protocol ∷ []))))) (x ∷ [])
    × HoldsAt Twice (text (message (Is Close ∷ Is Global ∷ Is Protocol ∷ []))) (y ∷ [])
    × HoldsAt Twice (text (calls (a ∷ Is Comma ∷ b ∷ Is Comma ∷ []))) (a ∷ [])
    × (is_at Twice (backward (text (Is Close ∷ Is Global ∷ Is Protocol ∷ x ∷ Is Left ∷ Is Role ∷ [])) []) b ≡ false)
    × (is_at Twice (backward (text (Is Close ∷ Is Global ∷ Is Protocol ∷ [])) []) a ≡ false)
    × (is_at Twice (backward (text (call (calls []))) []) a ≡ false)
    × (is_at SelfMessage (backward (text (call (calls []))) []) a ≡ false)
twice_in_modules = (refl, refl, refl, refl, refl, refl, refl)

-- 14 at a role, an alias and a receiver; another list may have it; 15 at a receiver
twice_or_itself : HoldsAt Twice (with_roles [] []) (a ∷ [])
    × HoldsAt Twice (Is Module ∷ x ∷ Is Semicolon ∷ alias_a (Word (codes "type") ∷ Is Less ∷ a ∷ Is Greater ∷ Text []
    ∷ Is From ∷ Text [] ∷ Word (codes "as") ∷ [])) (a ∷ [])
    × HoldsAt Twice (text (message (sends (b ∷ Is Comma ∷ [])))) (b ∷ [])
    × (is_at Twice (backward (text (message (sends []))) []) b ≡ false)
    × HoldsAt SelfMessage (text (sends (b ∷ Is Comma ∷ []))) (a ∷ [])
twice_or_itself = (refl, refl, refl, refl, refl)

-- 16 at each first symbol of a statement; behind the block that holds the continue there is another one
behind_continue : HoldsAt AfterContinue (text (rec_x (message (again_x [])))) (x ∷ [])
    × HoldsAt AfterContinue (text (rec_x (message (again_x [])))) (Is Par ∷ [])
    × HoldsAt AfterContinue (text (rec_x (message (again_x [])))) (Is Do ∷ [])
    × (is_behind_continue (backward (text (rec_x (message (again_x (Is Close ∷ []))))) []) ≡ false)
behind_continue = (refl, refl, refl, refl)

-- 17: into a choice and past a finished branch
unguarded : HoldsAt Unguarded (text (rec_x [])) (Is Continue ∷ x ∷ [])
    × HoldsAt Unguarded
    (text (rec_x (Is Choice ∷ Is At ∷ a ∷ Is Open ∷ message (Is Close ∷ Is Or ∷ Is Open ∷ Is Rec ∷ y ∷ Is Open ∷ []))))
    (Is Continue ∷ x ∷ [])
unguarded = (FromItsStart _ _, IntoRec _ _ _ (IntoBranch _ _ _ _ refl (IntoChoice _ _ _ (FromItsStart _ _))))

-- A walk without a message comes only to what stands behind a `{`.
abbrev IsBehindOpen : List Symbol → Type 0
IsBehindOpen (Is Open ∷ back) = Unit {0}
IsBehindOpen _ = ⊥

behind_open : {name : List ℕ} {back : List Symbol} → Comes name back → IsBehindOpen back
behind_open (FromItsStart name back) = tt
behind_open (IntoRec name other back c) = tt
behind_open (IntoChoice name subject back c) = tt
behind_open (IntoBranch name back first braces e c) = tt

-- behind a message or a call it isn't 17
guarded : (HoldsAt Unguarded (text (rec_x (message []))) (Is Continue ∷ x ∷ []) → ⊥)
    × (HoldsAt Unguarded (text (rec_x (call []))) (Is Continue ∷ x ∷ []) → ⊥)
guarded = ((λ c. behind_open c), (λ c. behind_open c))

-- n messages to B
abbrev messages : ℕ → List Symbol → List Symbol
messages zero next = next
messages (suc n) next = message (messages n next)

-- n times global protocol X
abbrev declared : ℕ → List Symbol → List Symbol
declared zero next = next
declared (suc n) next = Is Global ∷ Is Protocol ∷ x ∷ declared n next

-- 18 at the ninth role and behind 256 receivers, which are those of one protocol; at the 65th protocol, and not at the 64th
too_many : HoldsAt TooMany (with_roles more_roles []) (Word (codes "I") ∷ [])
    × HoldsAt TooMany (text (messages 256 (sends []))) (b ∷ [])
    × HoldsAt TooMany (declared 64 (Is Global ∷ Is Protocol ∷ [])) (y ∷ [])
    × (is_at TooMany (backward (declared 63 (Is Global ∷ Is Protocol ∷ [])) []) y ≡ false)
    × (is_at TooMany (backward (with_roles more_roles (Word (codes "I") ∷ Is Right ∷ Is Open ∷ second [])) []) b ≡ false)
    × (is_at TooMany (backward (text (messages 256 (second (begins (b ∷ Is To ∷ []))))) []) b ≡ false)
    × (is_at TooMany (backward (text (messages 256 (calls []))) []) b ≡ false)
too_many = (refl, refl, refl, refl, refl, refl, refl)

-- 19 at a par in another block, which may be one of a par, and in another protocol; not at a par in the first protocol's own
-- block, also behind another one, nor at a call and at a second protocol
not_yet : HoldsAt NotYet (text (rec_x [])) (Is Par ∷ [])
    × HoldsAt NotYet (text (in_par (message []))) (Is Par ∷ [])
    × HoldsAt NotYet (text (message (second []))) (Is Par ∷ [])
    × (is_at NotYet (backward (text []) []) (Is Par) ≡ false)
    × (is_at NotYet (backward (text (in_par (message (beside (message (Is Close ∷ [])))))) []) (Is Par) ≡ false)
    × (is_at NotYet (backward (text (message [])) []) (Is Do) ≡ false)
    × (is_at NotYet (backward (text (message (Is Close ∷ []))) []) (Is Global) ≡ false)
not_yet = (refl, refl, refl, refl, refl, refl, refl)

-- X() from C to C; which no text has, but it names no other role
abbrev by_c : List Symbol → List Symbol
by_c next = begins (c ∷ Is To ∷ c ∷ Is Semicolon ∷ next)

-- 29 in the second block of a par, at a sender, a receiver and the subject of a choice that the first one names; in the
-- third block; within a choice there; at one that is only the subject of a choice before; and behind a par within a block
shared : HoldsAt Shared (text (in_par (message (beside (begins []))))) (a ∷ [])
    × HoldsAt Shared (text (in_par (message (beside (begins (c ∷ Is To ∷ [])))))) (b ∷ [])
    × HoldsAt Shared (text (in_par (message (beside (begins (c ∷ Is To ∷ c ∷ Is Comma ∷ [])))))) (b ∷ [])
    × HoldsAt Shared (text (in_par (message (beside (Is Choice ∷ Is At ∷ []))))) (b ∷ [])
    × HoldsAt Shared (text (in_par (message (beside (by_c (beside (begins []))))))) (a ∷ [])
    × HoldsAt Shared (text (in_par (message (beside (Is Choice ∷ Is At ∷ c ∷ Is Open ∷ begins []))))) (a ∷ [])
    × HoldsAt Shared (text (in_par (Is Choice ∷ Is At ∷ c ∷ Is Open ∷ message (Is Close ∷ beside (begins []))))) (c ∷ [])
    × HoldsAt Shared (text (in_par (message (in_par (by_c (beside (by_c (Is Close ∷ beside (begins []))))))))) (a ∷ [])
shared = (refl, refl, refl, refl, refl, refl, refl, refl)

-- 29 at an argument that an earlier block names, and at a role that is an argument of one
shared_in_calls : HoldsAt Shared (text (in_par (message (beside (calls []))))) (b ∷ [])
    × HoldsAt Shared (text (in_par (message (beside (calls (c ∷ Is Comma ∷ [])))))) (b ∷ [])
    × HoldsAt Shared (text (in_par (call (beside (begins []))))) (a ∷ [])
    × HoldsAt Shared (text (in_par (call (beside (calls []))))) (a ∷ [])
shared_in_calls = (refl, refl, refl, refl)

-- the first role of what is sent next isn't shared
abbrev IsFree : List Symbol → Symbol → Type 0
IsFree front t = is_at Shared (backward front []) t ≡ false

-- not in the same block; not behind the par, nor in another one; not where it is named before the par; a label or a sort
-- isn't a role, where it stands or before, nor is the name of a called protocol
not_shared : IsFree (text (in_par (message (begins [])))) a
    × IsFree (text (in_par (message (beside (by_c (begins [])))))) c
    × IsFree (text (in_par (message (beside (by_c (Is Close ∷ begins [])))))) a
    × IsFree (text (in_par (message (beside (by_c (Is Close ∷ in_par (begins []))))))) a
    × IsFree (text (in_par (message (beside (by_c (Is Close ∷ in_par (by_c (beside (begins []))))))))) a
    × IsFree (text (message (in_par (by_c (beside (begins [])))))) a
    × IsFree (text (in_par (message (beside [])))) a
    × IsFree (text (in_par (message (beside (x ∷ Is Left ∷ []))))) a
    × IsFree (text (in_par (a ∷ Is Left ∷ b ∷ Is Right ∷ Is From ∷ c ∷ Is To ∷ c ∷ Is Semicolon ∷ beside (begins [])))) a
    × IsFree (text (in_par (call (beside (begins []))))) x
    × IsFree (text (in_par (call (beside (Is Do ∷ []))))) a
    × IsFree (text (in_par (call (beside (by_c (Is Close ∷ calls [])))))) a
not_shared = (refl, refl, refl, refl, refl, refl, refl, refl, refl, refl, refl, refl)
