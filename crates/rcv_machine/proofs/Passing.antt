-- What the machine asks of statements that it takes: a condition on what is written, which says all that the machine asks.
use Rattle.std.proofs.Common.{◌≡◌, ℕ, ◌+◌, Bool, true, false, List, [], ◌∷◌, ◌++◌, length, refl, add-zero, add_assoc, one-add, arith, ◌==◌, ◌↔◌, ◌||◌, nat_le, not, Option, Some, None}
use Rattle.rcv_machine.specs.Words.{Or, And, Close, Right, Semicolon, Fault, Symbol, Is, Word, Written, NoStmt, AMessage, AChoice, ARec, AContinue, APar, ADo, Blocks, NoBlock, ABlock, names_behind, sort_list, stmts, blocks_behind, IsBegun, IsProper, AreProper, is_listed, or_first, role_at, points, points_of, IsDeclared, MayReceive, MayCall, is_among}
use Rattle.rcv_machine.specs.Words.{Named, nobody, with_role, Place, Item, Sorts, MoreSorts, MoreReceivers, First, Rest, More, Later, MoreArguments, State, Outcome, after_statement, beside, inside, inside_rec, unless, by_place, is_open, after, Answer, Taken, answer, known}

-- The roles with those that are written, since the last par began.
abbrev pub with_roles : Named → List (List ℕ) → Named
with_roles since [] = since
with_roles since (r ∷ rs) = with_roles (with_role since r) rs

abbrev mutual
  pub named_by : Named → Written → Named
  named_by since NoStmt = since
  named_by since (AMessage label ss s r rs rest) = named_by (with_roles (with_role since s) (r ∷ rs)) rest
  named_by since (AChoice s f os rest) = named_by (named_by_all (named_by (with_role since s) f) os) rest
  named_by since (ARec name body rest) = named_by (named_by since body) rest
  named_by since (AContinue name rest) = named_by since rest
  named_by since (APar f g os rest) = named_by (named_by_all (named_by (named_by nobody f) g) os) rest
  named_by since (ADo name r rs rest) = named_by (with_roles since (r ∷ rs)) rest

  pub named_by_all : Named → Blocks → Named
  named_by_all since NoBlock = since
  named_by_all since (ABlock f os) = named_by_all (named_by since f) os

-- Each receiver is declared, doesn't stand before, isn't the sender, finds a point behind n points, and stands in no
-- earlier block of its par.
abbrev pub AreTaken : List (List ℕ) → Named → ℕ → ℕ → List ℕ → List (List ℕ) → Type 0
AreTaken roles earlier sender n before [] = Unit {0}
AreTaken roles earlier sender n before (r ∷ rs) =
    IsDeclared roles r × (is_listed (role_at roles r) before ≡ false) × ((role_at roles r == sender) ≡ false) × (nat_le 256 n ≡ false)
    × (earlier r ≡ false) × AreTaken roles earlier sender (n + 1) (before ++ role_at roles r ∷ []) rs

-- Each argument is declared, doesn't stand before, and stands in no earlier block of its par.
abbrev pub AreGiven : List (List ℕ) → Named → List ℕ → List (List ℕ) → Type 0
AreGiven roles earlier before [] = Unit {0}
AreGiven roles earlier before (r ∷ rs) =
    IsDeclared roles r × (is_listed (role_at roles r) before ≡ false) × (earlier r ≡ false)
    × AreGiven roles earlier (before ++ role_at roles r ∷ []) rs

-- Behind n points, at this place; whether it is a protocol behind the first one.
abbrev mutual
  pub Passes : Bool → List (List ℕ) → ℕ → Place → Written → Type 0
  Passes later roles n p NoStmt = Unit {0}
  Passes later roles n p (AMessage label ss s r rs rest) =
      (p.ended ≡ false) × IsDeclared roles s × (p.earlier s ≡ false) × AreTaken roles p.earlier (role_at roles s) n [] (r ∷ rs)
      × Passes later roles (n + (1 + length rs)) (after_statement p false) rest
  Passes later roles n p (AChoice s f os rest) =
      (p.ended ≡ false) × IsDeclared roles s × (p.earlier s ≡ false) × (nat_le 32 p.depth ≡ false) × Passes later roles n (inside p) f
      × PassAll later roles (n + points f) p os × Passes later roles (n + (points f + points_of os)) (after_statement p false) rest
  Passes later roles n p (ARec name body rest) =
      (p.ended ≡ false) × (nat_le 32 p.depth ≡ false) × Passes later roles n (inside (inside_rec p name)) body
      × Passes later roles (n + points body) (after_statement p false) rest
  -- The name isn't that of a recursion from the start of whose body a walk comes here without a message.
  Passes later roles n p (AContinue name rest) =
      (p.ended ≡ false) × (is_open p (Word name ∷ []) ≡ false) × (not (is_among name p.recs) ≡ false)
      × Passes later roles n (after_statement p true) rest
  -- The blocks share no role.
  Passes later roles n p (APar f g os rest) =
      (p.ended ≡ false) × ((nat_le 2 p.depth || later) ≡ false)
      × ((nat_le 32 p.depth ≡ false) × Passes later roles n (inside (beside p nobody)) f
      × (nat_le 32 p.depth ≡ false) × Passes later roles (n + points f) (inside (beside p (named_by nobody f))) g
      × PassBeside later roles (n + points f + points g) p (named_by (named_by nobody f) g) os)
      × Passes later roles (n + (points f + (points g + points_of os))) (after_statement p false) rest
  Passes later roles n p (ADo name r rs rest) =
      (p.ended ≡ false) × AreGiven roles p.earlier [] (r ∷ rs) × Passes later roles n (after_statement p false) rest

  pub PassAll : Bool → List (List ℕ) → ℕ → Place → Blocks → Type 0
  PassAll later roles n p NoBlock = Unit {0}
  PassAll later roles n p (ABlock f os) = (nat_le 32 p.depth ≡ false) × Passes later roles n (inside p) f × PassAll later roles (n + points f) p os

  -- the blocks of a par, behind those that name these roles
  pub PassBeside : Bool → List (List ℕ) → ℕ → Place → Named → Blocks → Type 0
  PassBeside later roles n p since NoBlock = Unit {0}
  PassBeside later roles n p since (ABlock f os) =
      (nat_le 32 p.depth ≡ false) × Passes later roles n (inside (beside p since)) f
      × PassBeside later roles (n + points f) p (named_by since f) os

-- ---- tests, names and sorts

-- the answer from a symbol on, where this is the outcome at it
abbrev pub run : Outcome → Symbol → List Symbol → Answer
run o t ts = after o (t ∷ ts) (λ s k. answer s k ts)

pub through : (b : Bool) (f : Fault) (o : Outcome) (t : Symbol) (ts : List Symbol) → run (unless b f o) t ts ≡ Taken
    → (b ≡ false) × (run o t ts ≡ Taken)
through true f o t ts e = absurd cc
through false f o t ts e = (refl, e)

tested : (b : Bool) (f : Fault) (o : Outcome) (t : Symbol) (ts : List Symbol)
    → (run (unless b f o) t ts ≡ Taken) ↔ ((b ≡ false) × (run o t ts ≡ Taken))
tested b f o t ts = (through b f o t ts, (λ h. rw h.0 h.1))

placed : (o : Option ℕ) (next : ℕ → Outcome) (t : Symbol) (ts : List Symbol)
    → (run (by_place o next) t ts ≡ Taken) ↔ (((r : ℕ) × (o ≡ Some r)) × (run (next (or_first o)) t ts ≡ Taken))
placed None next t ts = ((λ e. absurd cc), (λ h. let none = h.0.1 in absurd cc))
placed (Some r) next t ts = ((λ e. ((r, refl), e)), (λ h. h.1))

more_sorts_go : (s : State) (ns : List (List ℕ)) (k : List Item) (next : List Symbol)
    → answer s (MoreSorts ∷ k) (names_behind ns (Is Right ∷ next)) ≡ answer s k next
more_sorts_go s [] k next = refl
more_sorts_go s (n ∷ ns) k next = more_sorts_go s ns k next

sorts_go : (s : State) (ns : List (List ℕ)) (k : List Item) (next : List Symbol)
    → answer s (Sorts ∷ k) (sort_list ns (Is Right ∷ next)) ≡ answer s k next
sorts_go s [] k next = refl
sorts_go s (n ∷ ns) k next = more_sorts_go s ns k next

-- ---- an item at the first symbol of what is written

first_is_rest : (b : Written) → IsBegun b → (s : State) (p : Place) (k : List Item) (next : List Symbol)
    → answer s (First p ∷ k) (stmts b next) ≡ answer s (Rest p ∷ k) (stmts b next)
first_is_rest b h s p k next = grind arith

more_is_rest : (b : Written) (s : State) (p : Place) (k : List Item) (next : List Symbol)
    → answer s (More p ∷ k) (stmts b (Is Close ∷ next)) ≡ answer s (Rest (after_statement p false) ∷ k) (stmts b (Is Close ∷ next))
more_is_rest NoStmt s p k next = refl
more_is_rest _ s p k next = refl

later_is_rest : (b : Written) (s : State) (p : Place) (k : List Item) (next : List Symbol)
    → answer s (Later p ∷ k) (stmts b (Is Close ∷ next)) ≡ answer s (Rest (after_statement p false) ∷ k) (stmts b (Is Close ∷ next))
later_is_rest NoStmt s p k next = refl
later_is_rest _ s p k next = refl

-- ---- the machine takes what passes, and only this

ruleset goes = (tested, placed, sorts_go, add-zero, one-add, add_assoc)

module _ (names roles : List (List ℕ)) where
  -- whether this is a protocol behind the first one
  abbrev later : Bool
  later = nat_le 2 (length names)

  -- these symbols, behind n points and where these roles are named since the last par began
  abbrev Takes : ℕ → Named → List Item → List Symbol → Type 0
  Takes n since k ts = answer (known names roles n since) k ts ≡ Taken

  receiving : (n : ℕ) (since earlier : Named) (sender : ℕ) (before : List ℕ) (rs : List (List ℕ)) (k : List Item) (next : List Symbol)
      → Takes n since (MoreReceivers earlier sender before ∷ k) (names_behind rs (Is Semicolon ∷ next))
      ↔ (AreTaken roles earlier sender n before rs × Takes (n + length rs) (with_roles since rs) k next)
  receiving n since earlier sender before [] k next = simp goes assumption
  receiving n since earlier sender before (r ∷ rs) k next =
      simp (goes, receiving (n + 1) (with_role since r) earlier sender (before ++ role_at roles r ∷ []) rs) assumption

  arguing : (n : ℕ) (since earlier : Named) (before : List ℕ) (rs : List (List ℕ)) (k : List Item) (next : List Symbol)
      → Takes n since (MoreArguments earlier before ∷ k) (names_behind rs (Is Right ∷ next))
      ↔ (AreGiven roles earlier before rs × Takes n (with_roles since rs) k next)
  arguing n since earlier before [] k next = ((λ e. (tt, e)), (λ h. h.1))
  arguing n since earlier before (r ∷ rs) k next =
      simp (goes, arguing n (with_role since r) earlier (before ++ role_at roles r ∷ []) rs) assumption

  -- all statements of a block, up to the brace behind it
  mutual
    pub passing : (n : ℕ) (since : Named) (p : Place) (w : Written) → IsProper w → (k : List Item) (next : List Symbol)
        → Takes n since (Rest p ∷ k) (stmts w (Is Close ∷ next))
        ↔ (Passes later roles n p w × Takes (n + points w) (named_by since w) k next)
    passing n since p NoStmt proper k next = simp goes assumption
    passing n since p (AMessage label ss s r rs rest) proper k next =
        let from = with_role (with_role since s) r in
        let others = receiving (n + 1) from p.earlier (role_at roles s) (role_at roles r ∷ []) rs in
        let more = passing (n + (1 + length rs)) (with_roles from rs) (after_statement p false) rest proper in
        simp (goes, others, more) assumption
    passing n since p (AChoice s f os rest) proper k next =
        let first = passing n (with_role since s) (inside p) f proper.1 in
        let others = all_passing (n + points f) (named_by (with_role since s) f) p os proper.2 in
        let more = passing (n + (points f + points_of os)) (named_by_all (named_by (with_role since s) f) os) (after_statement p false) rest proper.3 in
        simp (goes, first_is_rest f proper.0, first, others, more_is_rest rest, more) assumption
    passing n since p (ARec name body rest) proper k next =
        let first = passing n since (inside (inside_rec p name)) body proper.1 in
        let more = passing (n + points body) (named_by since body) (after_statement p false) rest proper.2 in
        simp (goes, first_is_rest body proper.0, first, more) assumption
    passing n since p (AContinue name rest) proper k next = simp (goes, passing n since (after_statement p true) rest proper) assumption
    passing n since p (APar f g os rest) proper k next =
        let one = named_by nobody f in
        let two = named_by one g in
        let first = passing n nobody (inside (beside p nobody)) f proper.1 in
        let second = passing (n + points f) one (inside (beside p one)) g proper.3 in
        let others = beside_passing (n + (points f + points g)) two p os proper.4 in
        let more = passing (n + (points f + (points g + points_of os))) (named_by_all two os) (after_statement p false) rest proper.5 in
        simp (goes, first_is_rest f proper.0, first, first_is_rest g proper.2, second, others, later_is_rest rest, more) assumption
    passing n since p (ADo name r rs rest) proper k next =
        let others = arguing n (with_role since r) p.earlier (role_at roles r ∷ []) rs in
        let more = passing n (with_roles since (r ∷ rs)) (after_statement p false) rest proper in
        simp (goes, others, more) assumption

    all_passing : (n : ℕ) (since : Named) (p : Place) (bs : Blocks) → AreProper bs → (k : List Item) (next : List Symbol)
        → Takes n since (More p ∷ k) (blocks_behind Or bs next)
        ↔ (PassAll later roles n p bs × Takes (n + points_of bs) (named_by_all since bs) (More p ∷ k) next)
    all_passing n since p NoBlock proper k next = simp goes assumption
    all_passing n since p (ABlock f os) proper k next =
        let first = passing n since (inside p) f proper.1 in
        simp (goes, first_is_rest f proper.0, first, all_passing (n + points f) (named_by since f) p os proper.2) assumption

    beside_passing : (n : ℕ) (since : Named) (p : Place) (bs : Blocks) → AreProper bs → (k : List Item) (next : List Symbol)
        → Takes n since (Later p ∷ k) (blocks_behind And bs next)
        ↔ (PassBeside later roles n p since bs × Takes (n + points_of bs) (named_by_all since bs) (Later p ∷ k) next)
    beside_passing n since p NoBlock proper k next = simp goes assumption
    beside_passing n since p (ABlock f os) proper k next =
        let first = passing n since (inside (beside p since)) f proper.1 in
        simp (goes, first_is_rest f proper.0, first, beside_passing (n + points f) (named_by since f) p os proper.2) assumption

pub receivers_fit : (roles : List (List ℕ)) (earlier : Named) (sender n : ℕ) (before : List ℕ) (rs : List (List ℕ))
    → AreTaken roles earlier sender n before rs → MayReceive roles sender before rs
receivers_fit roles earlier sender n before [] h = tt
receivers_fit roles earlier sender n before (r ∷ rs) h =
    (h.0, h.1, h.2, receivers_fit roles earlier sender (n + 1) (before ++ role_at roles r ∷ []) rs h.5)

pub arguments_fit : (roles : List (List ℕ)) (earlier : Named) (before : List ℕ) (rs : List (List ℕ)) → AreGiven roles earlier before rs
    → MayCall roles before rs
arguments_fit roles earlier before [] h = tt
arguments_fit roles earlier before (r ∷ rs) h = (h.0, h.1, arguments_fit roles earlier (before ++ role_at roles r ∷ []) rs h.3)
