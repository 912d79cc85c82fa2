-- What is known of the symbols before, what the machine does with symbols that the grammar derives, and which code is
-- the least at a symbol.
use Rattle.std.proofs.Common.{◌≡◌, ◌<◌, ◌≤◌, ℕ, ◌+◌, Bool, true, false, cond, List, [], ◌∷◌, length, refl, arith, ◌-◌, not, drop, Some, Decides}
use Rattle.rcv_machine.specs.Words.{Global, Continue, Par, Do, Open, Semicolon, Fault, Token, Deep, NoName, Twice, SelfMessage, AfterContinue, Unguarded, TooMany, NotYet, Shared, Symbol, Is, Word, place_of, is_listed}
use Rattle.rcv_machine.specs.Words.{is_among, named_since_par, protocols_before, is_beside, code_of, Standing, standing, AsReceiver, AsCalled, AsArgument, AsOther, roles_before, points_before, listed, sender, open_braces, recs_of, Comes, is_at_name, is_at, begins_a_statement, IsUnguarded, is_behind_continue, Holds, Named, Place, Item, MoreProtocols, State, known, Outcome, On, Wrong, unless, step}

-- no code from 12 on that is less than this number holds
abbrev pub NoneBelow : ℕ → List Symbol → Symbol → List Symbol → Type 0
NoneBelow c back t ts = (f : Fault) → code_of f < c → Holds f back t ts → ⊥

-- the state behind these symbols
abbrev pub state_at : List Symbol → State
state_at back = known (protocols_before back) (roles_before back) (points_before back) (λ n. is_among n (named_since_par 1 back))

-- no code holds at the symbol, behind which this is the state
pub record Goes (back : List Symbol) (t : Symbol) (ts : List Symbol) (s : State) : Type 0 where
  pub free : NoneBelow 30 back t ts
  pub same : s ≡ state_at (t ∷ back)

-- The machine goes from what is awaited through the symbols, at none of which a code holds, to the end; or it stops with the
-- least code that holds at a symbol. What it looks at behind a symbol may be anything.
abbrev pub ToldBy : Outcome → List Symbol → Symbol → List Symbol → (List Item → Type 0) → Type 0
ToldBy (On s k) back t ts rest = Goes back t ts s × rest k
ToldBy (Wrong f) back t ts rest = Holds f back t ts × NoneBelow (code_of f) back t ts

abbrev pub Told : List Item → List Symbol → List Symbol → Type 0
Told k back [] = k ≡ MoreProtocols ∷ []
Told k back (t ∷ us) = (ts : List Symbol) → ToldBy (step (state_at back) t ts k) back t ts (λ next. Told next (t ∷ back) us)

-- the names of the innermost recursions to which a walk comes without a message
abbrev pub recent : Place → List (List ℕ)
recent p = drop (length p.recs - p.comes) p.recs

-- these are the ones whose walks come here
abbrev pub Reaches : Place → List Symbol → Type 0
Reaches p back = (x : List ℕ) → Decides (is_among x (recent p)) (Comes x back)

-- These are the roles of the earlier blocks, where these braces are open.
abbrev pub Shares : Named → List (List Symbol) → Type 0
Shares earlier braces = (n : List ℕ) → earlier n ≡ is_beside n braces

-- a place in a block with these open braces; in the protocol's own block no other is beside
abbrev pub Fits : Place → List (List Symbol) → Type 0
Fits p braces =
    (p.depth ≡ length braces) × (p.recs ≡ recs_of braces) × Shares p.earlier braces × (1 ≤ p.depth)
    × (p.depth ≡ 1 → (n : List ℕ) → p.earlier n ≡ false)

-- a place where a statement may begin, or the block ends
pub record Here (p : Place) (braces : List (List Symbol)) (back : List Symbol) : Type 0 where
  pub plain : standing back ≡ AsOther
  pub same : open_braces back ≡ braces
  pub fits : Fits p braces
  pub ended : p.ended ≡ is_behind_continue back
  pub reaches : Reaches p back

-- an argument of the list stands here
pub record InCall (back : List Symbol) (earlier : Named) (before : List ℕ) : Type 0 where
  pub argues : standing back ≡ AsArgument
  pub has : (n : List ℕ) (r : ℕ) → place_of (roles_before back) n ≡ Some r → is_listed r before ≡ is_among n (listed back)
  pub shares : Shares earlier (open_braces back)

-- a receiver of the list stands here
pub record InList (back : List Symbol) (earlier : Named) (from : ℕ) (before : List ℕ) : Type 0 where
  pub receives : standing back ≡ AsReceiver
  pub ends : (n : List ℕ) → is_behind_continue (Is Semicolon ∷ Word n ∷ back) ≡ false
  pub is_sender : place_of (roles_before back) (sender back) ≡ Some from
  pub has : (n : List ℕ) (r : ℕ) → place_of (roles_before back) n ≡ Some r → is_listed r before ≡ is_among n (listed back)
  pub shares : Shares earlier (open_braces back)

pub one_fault : (f g : Fault) → (code_of f < code_of g → ⊥) → (code_of g < code_of f → ⊥) → f ≡ g
one_fault Token Token a b = refl
one_fault _ _ a b = grind (arith, a, b)

-- where no walk can come
pub no_walk : Decides false ⊥
no_walk = ((λ e. absurd cc), (λ h. absurd h))

module _ (back : List Symbol) (t : Symbol) (ts : List Symbol) where
  none : NoneBelow 12 back t ts
  none Token le h = h
  none _ le h = omega (arith, le)

  -- there is no code from 20 to 28
  none_between : NoneBelow 20 back t ts → NoneBelow 29 back t ts
  none_between none Shared le h = absurd (omega (arith, le))
  none_between none f le h = none f (omega (arith, le)) h

  -- one test; where it fails, its fault doesn't hold either
  ask : (rest : List Item → Type 0) (b : Bool) (f : Fault) (o : Outcome) → Decides b (Holds f back t ts) → NoneBelow (code_of f) back t ts
      → (b ≡ false → NoneBelow (code_of f + 1) back t ts → ToldBy o back t ts rest) → ToldBy (unless b f o) back t ts rest
  ask rest true f o d none next = (d.0 refl, none)
  ask rest false f o d none next = next refl (λ g l h.
      let same = one_fault g f (λ l'. none g l' h) (λ l'. omega (arith, l, l')) in let e = d.1 (rw same at h) in absurd cc)

  -- all tests of the table
  pub judged : (s : State) (k : List Item) (rest : List Item → Type 0) (ended unguarded : Bool)
      → is_behind_continue back ≡ ended → Decides unguarded (IsUnguarded back t ts) → s ≡ state_at (t ∷ back)
      → (is_at NoName back t ≡ false → is_at NotYet back t ≡ false → rest k)
      → ToldBy (unless (is_at Deep back t) Deep (unless (is_at NoName back t) NoName (unless (is_at Twice back t) Twice
      (unless (is_at SelfMessage back t) SelfMessage (unless (cond (begins_a_statement t) ended false) AfterContinue
      (unless unguarded Unguarded (unless (is_at TooMany back t) TooMany (unless (is_at NotYet back t) NotYet
      (unless (is_at Shared back t) Shared (On s k)))))))))) back t ts rest
  judged s k rest ended unguarded is walks same told =
      ask rest _ Deep _ ((λ e. e), (λ e. e)) none (λ l n13. ask rest _ NoName _ ((λ e. e), (λ e. e)) n13 (λ known n14.
      ask rest _ Twice _ ((λ e. e), (λ e. e)) n14 (λ l n15. ask rest _ SelfMessage _ ((λ e. e), (λ e. e)) n15 (λ l n16.
      ask rest (cond (begins_a_statement t) ended false) AfterContinue _ (rw (← is) ((λ e. e), (λ e. e))) n16 (λ l n17.
      ask rest unguarded Unguarded _ walks n17 (λ l n18.
      ask rest _ TooMany _ ((λ e. e), (λ e. e)) n18 (λ l n19. ask rest _ NotYet _ ((λ e. e), (λ e. e)) n19 (λ last n20.
      ask rest _ Shared _ ((λ e. e), (λ e. e)) (none_between n20) (λ l n30.
      (record { free = n30; same = same }, told known last))))))))))

-- at a name that stands so
pub judged_name : (st : Standing) (ended : Bool) (back : List Symbol) (n : List ℕ) (ts : List Symbol) (s : State) (k : List Item)
    (rest : List Item → Type 0) → standing back ≡ st → is_behind_continue back ≡ ended → s ≡ state_at (Word n ∷ back)
    → (is_at_name NoName st back n ≡ false → rest k)
    → ToldBy (unless (is_at_name NoName st back n) NoName (unless (is_at_name Twice st back n) Twice
    (unless (is_at_name SelfMessage st back n) SelfMessage (unless ended AfterContinue
    (unless (is_at_name TooMany st back n) TooMany (unless (is_at_name Shared st back n) Shared (On s k))))))) back (Word n) ts rest
judged_name st ended back n ts s k rest stands is same told =
    rw (← stands) (judged back (Word n) ts s k rest ended false is no_walk same (λ known l. told (rw stands at known)))

-- symbols at which no code can hold
abbrev pub is_quiet : Symbol → Bool
is_quiet (Is Global) = false
is_quiet (Is Open) = false
is_quiet t = not (begins_a_statement t)

quiet : (t : Symbol) (f : Fault) (back ts : List Symbol) → is_quiet t ≡ true → Holds f back t ts → ⊥
quiet (Is Continue) Unguarded back ts e h = absurd cc
quiet _ Token back ts e h = h
quiet _ _ back ts e h = first_of (search h, cc)

-- ---- steps that keep the state

-- a name that stands as nothing that a code speaks of
pub kept_name : {back : List Symbol} {Next : Type 0} (n : List ℕ) → standing back ≡ AsOther → is_behind_continue back ≡ false → Next
    → (ts : List Symbol) → Goes back (Word n) ts (state_at back) × Next
kept_name {back} {Next} n e f next ts =
    judged_name AsOther false back n ts (state_at back) [] (λ k. Next) e f (rw e refl) (λ l. next)

-- the name of a called protocol
pub kept_called : {back : List Symbol} {Next : Type 0} (n : List ℕ) → Next
    → (ts : List Symbol) → Goes (Is Do ∷ back) (Word n) ts (state_at back) × Next
kept_called {back} {Next} n next ts =
    judged_name AsCalled false (Is Do ∷ back) n ts (state_at back) [] (λ k. Next) refl refl refl (λ l. next)

pub kept_quiet : {back : List Symbol} {t : Symbol} {Next : Type 0} → is_quiet t ≡ true → Next
    → (ts : List Symbol) → Goes back t ts (state_at back) × Next
kept_quiet {t = Word n} e next ts = absurd cc
kept_quiet {t = Is Par} e next ts = absurd cc
kept_quiet {t = Is Global} e next ts = absurd cc
kept_quiet {back} {t} e next ts = (record { free = λ f le h. quiet t f back ts e h; same = refl }, next)
