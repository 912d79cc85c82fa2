-- Along a text that is expanded.
use Rattle.std.proofs.Common.{◌≡◌, ℕ, zero, suc, ◌+◌, min, Some, List, [], ◌∷◌, ◌++◌, map, sym, ap, subst, ◌∙◌, arith}
use Rattle.std.specs.Prelude.{slice_get, slice_index_or}
use Rattle.std.proofs.lemmas.List.{get_or_past}
use Rattle.rcv_tree.specs.declared.protocol.Protocol.{Protocol}
use Rattle.rcv_tree.specs.declared.statement.Stmt.{Stmt}
use Rattle.rcv_tree.specs.declared.statement.Stmt.TheVariants.{Message, Choice, Rec, Continue, Par, Do}
use Rattle.rcv_tree.specs.declared.statement.Block.{Block}
use Rattle.rcv_tree.specs.declared.statement.Blocks.{Blocks}
use Rattle.rcv_model.specs.Text.{Body, End, Call, Bodies, NoMore, Or, stmt_body, body_of, bodies_of, body_from, bodies_from}
use Rattle.rcv_module.specs.Parts.{Site, part_of, place, site, calls, calls_of}
use Rattle.rcv_module.specs.Expansion as expansion
use Rattle.rcv_module.specs.Expansion.{Stands, called_with, Expands}
use Rattle.rcv_module.specs.Refusing.{AreCallable}
use Rattle.rcv_do.specs.declared.expansion.Expanding.{Expanding}
use Rattle.rcv_do.specs.Code.{parts_in, protocols_in, IsFront, CallsBehind, AreUnder}
use Rattle.rcv_do.specs.Copying.{in_front, Added, stands_of, IsExpandable, Expanded, ExpandedBlocks, ExpandedStmt}
use Rattle.rcv_do.proofs.Copied.{copied_adds, AllSoFar, all_at_first, all_next, all_copied, added_more, added_none, message_copied, continue_copied, choice_copied, par_copied, rec_copied, says_message, says_continue, says_choice, says_rec, says_par, says_do}
use Rattle.rcv_do.proofs.Faulting.{part_at}
use Rattle.rcv_do.proofs.Under.{behind_front, under_left, under_right, are_under}

-- these calls may be entered
abbrev MayEnter : Expanding → List Site → Type 0
MayEnter x sites = AreUnder (parts_in x.parts) x.under.now sites

abbrev pub ExpandedSoFar : Expanding → ℕ → ℕ → Body → Body → List Stmt → List Stmt → Type 0
ExpandedSoFar x n n' whole left old new =
    (st : Stands) → IsExpandable x st → AreUnder (parts_in x.parts) x.under.now (calls 0 whole)
    → Added (parts_in x.parts) st n n' whole left old new × AreUnder (parts_in x.parts) x.under.now (calls 0 left)

pub expanded_at_first : (x : Expanding) (n : ℕ) (whole left : Body) (old : List Stmt) → left ≡ whole → ExpandedSoFar x n n whole left old old
expanded_at_first x n whole left old e st a u = (added_none (parts_in x.parts) st n whole left old e, subst (λ b. MayEnter x (calls 0 b)) (sym e) u)

pub expanded_next : (x : Expanding) (n k n' : ℕ) (whole left rest : Body) (stmt : Stmt) (old now new : List Stmt) → left ≡ stmt_body stmt rest
    → ExpandedSoFar x n k whole left old now → ExpandedStmt x k n' stmt now new → ExpandedSoFar x n n' whole rest old new
expanded_next x n k n' whole left rest stmt old now new e a b st ready u =
    let y = a st ready u in
    let z = b st ready rest (subst (λ l. MayEnter x (calls 0 l)) e y.1) in
    (added_more (parts_in x.parts) st n k n' whole left rest old now new y.0 (subst (λ l. Added (parts_in x.parts) st k n' l rest now new) (sym e) z.0), z.1)

pub expanded_all : (x : Expanding) (n n' : ℕ) (whole left : Body) (old new : List Stmt) → left ≡ End → ExpandedSoFar x n n' whole left old new → Expanded x n n' whole old new
expanded_all x n n' whole left old new e a st ready u = subst (λ l. Added (parts_in x.parts) st n n' whole l old new) e (a st ready u).0

abbrev pub AllExpandedSoFar : Expanding → ℕ → ℕ → Bodies → Bodies → List Block → Type 0
AllExpandedSoFar x n n' whole left copies =
    (st : Stands) → IsExpandable x st → AreUnder (parts_in x.parts) x.under.now (calls_of 0 whole)
    → AllSoFar (parts_in x.parts) st n n' whole left copies × AreUnder (parts_in x.parts) x.under.now (calls_of 0 left)

pub all_expanded_at_first : (x : Expanding) (n : ℕ) (whole left : Bodies) (copies : List Block) → left ≡ whole → copies ≡ [] → AllExpandedSoFar x n n whole left copies
all_expanded_at_first x n whole left copies e none st ready u =
    (subst (AllSoFar (parts_in x.parts) st n n whole left) (sym none) (all_at_first (parts_in x.parts) st n whole left e), subst (λ b. MayEnter x (calls_of 0 b)) (sym e) u)

pub all_expanded_next : (x : Expanding) (n k n' : ℕ) (whole left rest : Bodies) (b : Body) (c : Block) (now new : List Block) (old made : List Stmt)
    → left ≡ Or b rest → new ≡ now ++ c ∷ [] → body_of c ≡ body_from made → old ≡ []
    → AllExpandedSoFar x n k whole left now → Expanded x k n' b old made → AllExpandedSoFar x n n' whole rest new
all_expanded_next x n k n' whole left rest b c now new old made e pushed is fresh a y st ready u =
    let z = a st ready u in
    let split : MayEnter x (calls 0 b ++ calls_of 0 rest) = subst (λ l. MayEnter x (calls_of 0 l)) e z.1 in
    let made_here = y st ready (under_left (parts_in x.parts) x.under.now (calls 0 b) (calls_of 0 rest) split) in (
      all_next (parts_in x.parts) st n k n' whole left rest b c now new made e pushed is z.0 (subst (λ o. Added (parts_in x.parts) st k n' b End o made) fresh made_here),
      under_right (parts_in x.parts) x.under.now (calls 0 b) (calls_of 0 rest) split,
    )

pub all_expanded_all : (x : Expanding) (n n' : ℕ) (whole left copies : Bodies) (bs : List Block) → left ≡ NoMore → copies ≡ bodies_from bs
    → AllExpandedSoFar x n n' whole left bs → ExpandedBlocks x n n' whole copies
all_expanded_all x n n' whole left copies bs e is a st ready u = all_copied (parts_in x.parts) st n n' whole left copies bs e is (a st ready u).0

-- ---- statements

-- what the code says a role stands for is what it stands for
stood : (x : Expanding) (st : Stands) (s s' : ℕ) → IsExpandable x st → s' ≡ stands_of x s → s' ≡ st s
stood x st s s' ready e = e ∙ sym (ready.stand s)

pub expands_message : (x : Expanding) (n n' : ℕ) (stmt copy : Stmt) (label label' : List ℕ) (sorts sorts' : List (List ℕ)) (s r p s' r' : ℕ) (old new : List Stmt)
    → stmt ≡ Message label sorts s r p → copy ≡ Message label' sorts' s' r' n' → label' ≡ label → sorts' ≡ sorts → s' ≡ stands_of x s → r' ≡ stands_of x r
    → n' ≡ min (n + 1) 65535 → new ≡ old ++ copy ∷ [] → ExpandedStmt x n n' stmt old new
expands_message x n n' stmt copy label label' sorts sorts' s r p s' r' old new e f l so se re more pushed st ready rest u = (
  copied_adds (parts_in x.parts) st n n' stmt copy rest old new pushed
      (message_copied (parts_in x.parts) st n n' stmt copy label label' sorts sorts' s r p s' r' e f l so (stood x st s s' ready se) (stood x st r r' ready re) more),
  subst (λ b. MayEnter x (calls 0 b)) (says_message stmt label sorts s r p e rest) u,
)

pub expands_continue : (x : Expanding) (n : ℕ) (stmt copy : Stmt) (name name' : List ℕ) (old new : List Stmt) → stmt ≡ Continue name → copy ≡ Continue name' → name' ≡ name
    → new ≡ old ++ copy ∷ [] → ExpandedStmt x n n stmt old new
expands_continue x n stmt copy name name' old new e f l pushed st ready rest u = (
  copied_adds (parts_in x.parts) st n n stmt copy rest old new pushed (continue_copied (parts_in x.parts) st n stmt copy name name' e f l),
  subst (λ b. MayEnter x (calls 0 b)) (says_continue stmt name e rest) u,
)

pub expands_choice : (x : Expanding) (n n' : ℕ) (stmt copy : Stmt) (subject subject' : ℕ) (bs cs : Blocks) (old new : List Stmt) → stmt ≡ Choice subject bs → copy ≡ Choice subject' cs
    → subject' ≡ stands_of x subject → ExpandedBlocks x n n' (bodies_of bs) (bodies_of cs) → new ≡ old ++ copy ∷ [] → ExpandedStmt x n n' stmt old new
expands_choice x n n' stmt copy subject subject' bs cs old new e f l a pushed st ready rest u =
    let split : MayEnter x (calls_of 0 (bodies_of bs) ++ calls 0 rest) = subst (λ b. MayEnter x (calls 0 b)) (says_choice stmt subject bs e rest) u in (
      copied_adds (parts_in x.parts) st n n' stmt copy rest old new pushed (choice_copied (parts_in x.parts) st n n' stmt copy subject subject' bs cs e f (stood x st subject subject' ready l)
          (a st ready (under_left (parts_in x.parts) x.under.now (calls_of 0 (bodies_of bs)) (calls 0 rest) split))),
      under_right (parts_in x.parts) x.under.now (calls_of 0 (bodies_of bs)) (calls 0 rest) split,
    )

pub expands_par : (x : Expanding) (n n' : ℕ) (stmt copy : Stmt) (bs cs : Blocks) (old new : List Stmt) → stmt ≡ Par bs → copy ≡ Par cs
    → ExpandedBlocks x n n' (bodies_of bs) (bodies_of cs) → new ≡ old ++ copy ∷ [] → ExpandedStmt x n n' stmt old new
expands_par x n n' stmt copy bs cs old new e f a pushed st ready rest u =
    let split : MayEnter x (calls_of 0 (bodies_of bs) ++ calls 0 rest) = subst (λ b. MayEnter x (calls 0 b)) (says_par stmt bs e rest) u in (
      copied_adds (parts_in x.parts) st n n' stmt copy rest old new pushed (par_copied (parts_in x.parts) st n n' stmt copy bs cs e f
          (a st ready (under_left (parts_in x.parts) x.under.now (calls_of 0 (bodies_of bs)) (calls 0 rest) split))),
      under_right (parts_in x.parts) x.under.now (calls_of 0 (bodies_of bs)) (calls 0 rest) split,
    )

pub expands_rec : (x : Expanding) (n n' : ℕ) (stmt copy : Stmt) (name name' : List ℕ) (b c : Block) (first made : List Stmt) (old new : List Stmt) → stmt ≡ Rec name b → copy ≡ Rec name' c
    → name' ≡ name → body_of c ≡ body_from made → first ≡ [] → Expanded x n n' (body_of b) first made → new ≡ old ++ copy ∷ [] → ExpandedStmt x n n' stmt old new
expands_rec x n n' stmt copy name name' b c first made old new e f l is fresh a pushed st ready rest u =
    let split : MayEnter x (calls 0 (body_of b) ++ calls 0 rest) = subst (λ k. MayEnter x (calls 0 k)) (says_rec stmt name b e rest) u in (
      copied_adds (parts_in x.parts) st n n' stmt copy rest old new pushed (rec_copied (parts_in x.parts) st n n' stmt copy name name' b c first made e f l is fresh
          (a st ready (under_left (parts_in x.parts) x.under.now (calls 0 (body_of b)) (calls 0 rest) split))),
      under_right (parts_in x.parts) x.under.now (calls 0 (body_of b)) (calls 0 rest) split,
    )

-- ---- a call

-- What the arguments stand for is what the roles of the called protocol do.
arguments_stand : (st f : ℕ → ℕ) → ((r : ℕ) → st r ≡ f r) → (roles : List ℕ) (r : ℕ) → st (slice_index_or roles r 0) ≡ slice_index_or (map f roles) r (f 0)
arguments_stand st f same [] r = ap st (get_or_past [] r 0 (omega arith)) ∙ same 0 ∙ sym (get_or_past [] r (f 0) (omega arith))
arguments_stand st f same (x ∷ xs) zero = same x
arguments_stand st f same (x ∷ xs) (suc r) = arguments_stand st f same xs r

-- It is replaced by the expansion of the protocol that it names, whose roles stand for what the arguments do.
pub expands_call : (x y : Expanding) (n n' target other : ℕ) (stmt : Stmt) (name roles list : List ℕ) (q : Protocol) (old new : List Stmt)
    → stmt ≡ Do name roles → place (parts_in x.parts) name ≡ Some target → slice_get (protocols_in x.parts) target ≡ Some q
    → IsFront x.under.now target y.under.now → y.parts ≡ x.parts → list ≡ map (stands_of x) roles → other ≡ stands_of x 0
    → ((r : ℕ) → stands_of y r ≡ slice_index_or list r other)
    → Expanded y n n' (body_of q.body) old new → ExpandedStmt x n n' stmt old new
expands_call x y n n' target other stmt name roles list q old new e named at front same arguments first stand expanded st ready rest u =
    let says = says_do stmt name roles e rest in
    let here : AreUnder (parts_in x.parts) x.under.now (site 0 name roles ∷ calls 0 rest) = subst (λ b. MayEnter x (calls 0 b)) says u in
    let is : slice_get (parts_in x.parts) target ≡ Some (part_of q) = part_at (protocols_in x.parts) target q at in
    let b = behind_front (parts_in x.parts) x.under.now target y.under.now ready.behind front in
    let entered : IsExpandable y (called_with st roles) = record {
      callable = subst (λ p. AreCallable (parts_in p)) (sym same) ready.callable;
      behind = subst (λ p. CallsBehind (parts_in p) [] y.under.now) (sym same) b.1;
      stand = λ r. arguments_stand st (stands_of x) ready.stand roles r ∙ ap (λ d. slice_index_or (map (stands_of x) roles) r d) (sym first)
          ∙ ap (λ l. slice_index_or l r other) (sym arguments) ∙ sym (stand r);
    } in
    let a : Added (parts_in x.parts) (called_with st roles) n n' (body_of q.body) End old new =
    subst (λ p. Added (parts_in p) (called_with st roles) n n' (body_of q.body) End old new) same
    (expanded (called_with st roles) entered (subst (λ p. AreUnder (parts_in p) y.under.now (calls 0 (body_of q.body))) (sym same) (are_under (parts_in x.parts) y.under.now target (part_of q) ready.callable is b.0))) in
    let expands : (next w : Body) → Expands (parts_in x.parts) st rest next w → Expands (parts_in x.parts) st (Call name roles rest) next (in_front a.added w) =
    λ next w z. expansion.call (part_of q) (target, named, is) (a.leads.expands w w expansion.at_end) z in (
      record {
        added = a.added;
        is = a.is;
        leads = record {
          made = a.leads.made;
          expands = λ next w z. subst (λ l. Expands (parts_in x.parts) st l next (in_front a.added w)) (sym says) (expands next w z);
          messages = a.leads.messages;
          counts = a.leads.counts;
        };
      },
      here.1,
    )
