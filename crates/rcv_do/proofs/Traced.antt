-- Along a text whose points are traced.
use Rattle.std.proofs.Common.{◌≡◌, ℕ, zero, suc, ◌+◌, ◌-◌, ◌^◌, ◌<◌, ◌≤◌, min, map, Some, List, [], ◌∷◌, ◌++◌, length, refl, sym, ap, subst, ◌∙◌, append-nil, append_assoc, length-append, arith}
use Rattle.std.specs.Prelude.{slice_get, slice_index_or}
use Rattle.rcv_tree.specs.declared.module.Module.{Module}
use Rattle.rcv_tree.specs.declared.protocol.Protocol.{Protocol}
use Rattle.rcv_tree.specs.declared.statement.Stmt.{Stmt}
use Rattle.rcv_tree.specs.declared.statement.Stmt.TheVariants.{Message, Choice, Rec, Continue, Par, Do}
use Rattle.rcv_tree.specs.declared.statement.Block.{Block}
use Rattle.rcv_tree.specs.declared.statement.Blocks.{Blocks}
use Rattle.rcv_model.specs.Text.{Body, End, Bodies, NoMore, Or, stmt_body, body_of, bodies_of}
use Rattle.rcv_module.specs.declared.origin.Origin.{Origin}
use Rattle.rcv_module.specs.declared.origin.Origins.{Origins}
use Rattle.rcv_module.specs.Origins as origins
use Rattle.rcv_module.specs.Origins.{Come, AllCome, IsFrom, AreOriginsOf, called, calls_before}
use Rattle.rcv_module.specs.Parts.{Part, part_of, parts_of, place, site, sites, sites_from, calls, calls_of}
use Rattle.rcv_module.specs.Refusing.{AreCallable}
use Rattle.rcv_module.proofs.Sites.{calls_long}
use Rattle.rcv_do.specs.declared.trace.Tracing.{Tracing}
use Rattle.rcv_do.specs.Code.{parts_in, protocols_in, IsFront, IsCallOrder, CallsBehind, AreUnder, AreFirsts}
use Rattle.rcv_do.specs.Tracing.{IsTraceable, Traces, AllTrace, Traced, TracedBlocks, TracedStmt}
use Rattle.rcv_do.proofs.Copied.{says_message, says_continue, says_choice, says_rec, says_par, says_do}
use Rattle.rcv_do.proofs.Faulting.{part_at}
use Rattle.rcv_do.proofs.Orders.{place_inside}
use Rattle.rcv_do.proofs.Under.{behind_front, under_left, under_right, are_under}

-- ---- one after another

traces_more : (x : Tracing) (n k n' : ℕ) (whole mid left : Body) (old now new : List Origin) → Traces x n k whole mid old now → Traces x k n' mid left now new → Traces x n n' whole left old new
traces_more x n k n' whole mid left old now new a b = record {
  added = a.added ++ b.added;
  is = b.is ∙ ap (λ l. l ++ b.added) a.is ∙ append_assoc old a.added b.added;
  passed = b.passed ∙ a.passed;
  under = b.under;
  come = λ os m c. subst (λ l. Come (parts_in x.parts) x.holder x.through.now n whole l m) (sym (append_assoc a.added b.added os)) (a.come (b.added ++ os) m (b.come os m c));
}

-- the origins of a whole text
come_whole : (x : Tracing) (n n' : ℕ) (whole : Body) (old new : List Origin) (a : Traces x n n' whole End old new) → Come (parts_in x.parts) x.holder x.through.now n whole a.added n'
come_whole x n n' whole old new a = subst (λ l. Come (parts_in x.parts) x.holder x.through.now n whole l n') (append-nil a.added) (a.come [] n' origins.at_end)

all_come_whole : (x : Tracing) (n n' : ℕ) (whole : Bodies) (old new : List Origin) (a : AllTrace x n n' whole NoMore old new) → AllCome (parts_in x.parts) x.holder x.through.now n whole a.added n'
all_come_whole x n n' whole old new a = subst (λ l. AllCome (parts_in x.parts) x.holder x.through.now n whole l n') (append-nil a.added) (a.come [] n' origins.no_more)

abbrev pub SoFar : Tracing → ℕ → ℕ → Body → Body → List Origin → List Origin → Type 0
SoFar x n n' whole left old new =
    IsTraceable x → AreUnder (parts_in x.parts) x.under.now (calls 0 whole) → n + length (calls 0 whole) < 2 ^ 64 → Traces x n n' whole left old new

pub at_first : (x : Tracing) (n : ℕ) (whole left : Body) (old : List Origin) → left ≡ whole → SoFar x n n whole left old old
at_first x n whole left old e t u fits =
    subst (λ b. Traces x n n whole b old old) (sym e) (record { added = []; is = sym (append-nil old); passed = refl; under = u; come = λ os m c. c })

pub next : (x : Tracing) (n k n' : ℕ) (whole left rest : Body) (stmt : Stmt) (old now new : List Origin) → left ≡ stmt_body stmt rest
    → SoFar x n k whole left old now → TracedStmt x k n' stmt now new → SoFar x n n' whole rest old new
next x n k n' whole left rest stmt old now new e a b t u fits =
    let y : Traces x n k whole (stmt_body stmt rest) old now = subst (λ l. Traces x n k whole l old now) e (a t u fits) in
    let passed = y.passed in
    traces_more x n k n' whole (stmt_body stmt rest) rest old now new y (b t rest y.under (omega (arith, fits, passed)))

pub all : (x : Tracing) (n n' : ℕ) (whole left : Body) (old new : List Origin) → left ≡ End → SoFar x n n' whole left old new → Traced x n n' whole old new
all x n n' whole left old new e a t u fits = subst (λ l. Traces x n n' whole l old new) e (a t u fits)

abbrev pub AllSoFar : Tracing → ℕ → ℕ → Bodies → Bodies → List Origin → List Origin → Type 0
AllSoFar x n n' whole left old new =
    IsTraceable x → AreUnder (parts_in x.parts) x.under.now (calls_of 0 whole) → n + length (calls_of 0 whole) < 2 ^ 64 → AllTrace x n n' whole left old new

pub all_at_first : (x : Tracing) (n : ℕ) (whole left : Bodies) (old : List Origin) → left ≡ whole → AllSoFar x n n whole left old old
all_at_first x n whole left old e t u fits =
    subst (λ b. AllTrace x n n whole b old old) (sym e) (record { added = []; is = sym (append-nil old); passed = refl; under = u; come = λ os m c. c })

pub all_next : (x : Tracing) (n k n' : ℕ) (whole left rest : Bodies) (b : Body) (old now new : List Origin) → left ≡ Or b rest
    → AllSoFar x n k whole left old now → Traced x k n' b now new → AllSoFar x n n' whole rest old new
all_next x n k n' whole left rest b old now new e a traced t u fits =
    let y : AllTrace x n k whole (Or b rest) old now = subst (λ l. AllTrace x n k whole l old now) e (a t u fits) in
    let here : AreUnder (parts_in x.parts) x.under.now (calls 0 b ++ calls_of 0 rest) = y.under in
    let long = length-append (calls 0 b) (calls_of 0 rest) in
    let passed : k + length (calls 0 b ++ calls_of 0 rest) ≡ n + length (calls_of 0 whole) = y.passed in
    let z = traced t (under_left (parts_in x.parts) x.under.now (calls 0 b) (calls_of 0 rest) here) (omega (arith, fits, passed, long)) in
    let more : n' + 0 ≡ k + length (calls 0 b) = z.passed in
    record {
      added = y.added ++ z.added;
      is = z.is ∙ ap (λ l. l ++ z.added) y.is ∙ append_assoc old y.added z.added;
      passed = omega (arith, passed, long, more);
      under = under_right (parts_in x.parts) x.under.now (calls 0 b) (calls_of 0 rest) here;
      come = λ os m c. subst (λ l. AllCome (parts_in x.parts) x.holder x.through.now n whole l m) (sym (append_assoc y.added z.added os))
          (y.come (z.added ++ os) m (origins.one_more (come_whole x k n' b now new z) c));
    }

pub all_all : (x : Tracing) (n n' : ℕ) (whole left : Bodies) (old new : List Origin) → left ≡ NoMore → AllSoFar x n n' whole left old new → TracedBlocks x n n' whole old new
all_all x n n' whole left old new e a t u fits = subst (λ l. AllTrace x n n' whole l old new) e (a t u fits)

-- ---- statements

pub traces_message : (x : Tracing) (n : ℕ) (stmt : Stmt) (label : List ℕ) (sorts : List (List ℕ)) (s r p : ℕ) (o : Origin) (old new : List Origin)
    → stmt ≡ Message label sorts s r p → IsFrom x.holder p x.through.now o → new ≡ old ++ o ∷ [] → TracedStmt x n n stmt old new
traces_message x n stmt label sorts s r p o old new e from pushed t rest u fits =
    let says = says_message stmt label sorts s r p e rest in
    record {
      added = o ∷ [];
      is = pushed;
      passed = ap (λ b. n + length (calls 0 b)) (sym says);
      under = subst (λ b. AreUnder (parts_in x.parts) x.under.now (calls 0 b)) says u;
      come = λ os m c. subst (λ b. Come (parts_in x.parts) x.holder x.through.now n b (o ∷ os) m) (sym says) (origins.message o from c);
    }

pub traces_continue : (x : Tracing) (n : ℕ) (stmt : Stmt) (name : List ℕ) (old : List Origin) → stmt ≡ Continue name → TracedStmt x n n stmt old old
traces_continue x n stmt name old e t rest u fits =
    let says = says_continue stmt name e rest in
    record {
      added = [];
      is = sym (append-nil old);
      passed = ap (λ b. n + length (calls 0 b)) (sym says);
      under = subst (λ b. AreUnder (parts_in x.parts) x.under.now (calls 0 b)) says u;
      come = λ os m c. subst (λ b. Come (parts_in x.parts) x.holder x.through.now n b os m) (sym says) (origins.again c);
    }

pub traces_choice : (x : Tracing) (n n' : ℕ) (stmt : Stmt) (subject : ℕ) (bs : Blocks) (old new : List Origin) → stmt ≡ Choice subject bs → TracedBlocks x n n' (bodies_of bs) old new
    → TracedStmt x n n' stmt old new
traces_choice x n n' stmt subject bs old new e traced t rest u fits =
    let says = says_choice stmt subject bs e rest in
    let here : AreUnder (parts_in x.parts) x.under.now (calls_of 0 (bodies_of bs) ++ calls 0 rest) = subst (λ b. AreUnder (parts_in x.parts) x.under.now (calls 0 b)) says u in
    let total : length (calls 0 (stmt_body stmt rest)) ≡ length (calls_of 0 (bodies_of bs) ++ calls 0 rest) = ap (λ b. length (calls 0 b)) says in
    let long = length-append (calls_of 0 (bodies_of bs)) (calls 0 rest) in
    let a = traced t (under_left (parts_in x.parts) x.under.now (calls_of 0 (bodies_of bs)) (calls 0 rest) here) (omega (arith, fits, total, long)) in
    let inner : n' + 0 ≡ n + length (calls_of 0 (bodies_of bs)) = a.passed in
    record {
      added = a.added;
      is = a.is;
      passed = omega (arith, total, long, inner);
      under = under_right (parts_in x.parts) x.under.now (calls_of 0 (bodies_of bs)) (calls 0 rest) here;
      come = λ os m c. subst (λ b. Come (parts_in x.parts) x.holder x.through.now n b (a.added ++ os) m) (sym says) (origins.choice (all_come_whole x n n' (bodies_of bs) old new a) c);
    }

pub traces_par : (x : Tracing) (n n' : ℕ) (stmt : Stmt) (bs : Blocks) (old new : List Origin) → stmt ≡ Par bs → TracedBlocks x n n' (bodies_of bs) old new
    → TracedStmt x n n' stmt old new
traces_par x n n' stmt bs old new e traced t rest u fits =
    let says = says_par stmt bs e rest in
    let here : AreUnder (parts_in x.parts) x.under.now (calls_of 0 (bodies_of bs) ++ calls 0 rest) = subst (λ b. AreUnder (parts_in x.parts) x.under.now (calls 0 b)) says u in
    let total : length (calls 0 (stmt_body stmt rest)) ≡ length (calls_of 0 (bodies_of bs) ++ calls 0 rest) = ap (λ b. length (calls 0 b)) says in
    let long = length-append (calls_of 0 (bodies_of bs)) (calls 0 rest) in
    let a = traced t (under_left (parts_in x.parts) x.under.now (calls_of 0 (bodies_of bs)) (calls 0 rest) here) (omega (arith, fits, total, long)) in
    let inner : n' + 0 ≡ n + length (calls_of 0 (bodies_of bs)) = a.passed in
    record {
      added = a.added;
      is = a.is;
      passed = omega (arith, total, long, inner);
      under = under_right (parts_in x.parts) x.under.now (calls_of 0 (bodies_of bs)) (calls 0 rest) here;
      come = λ os m c. subst (λ b. Come (parts_in x.parts) x.holder x.through.now n b (a.added ++ os) m) (sym says) (origins.beside (all_come_whole x n n' (bodies_of bs) old new a) c);
    }

pub traces_rec : (x : Tracing) (n n' : ℕ) (stmt : Stmt) (name : List ℕ) (b : Block) (old new : List Origin) → stmt ≡ Rec name b → Traced x n n' (body_of b) old new
    → TracedStmt x n n' stmt old new
traces_rec x n n' stmt name b old new e traced t rest u fits =
    let says = says_rec stmt name b e rest in
    let here : AreUnder (parts_in x.parts) x.under.now (calls 0 (body_of b) ++ calls 0 rest) = subst (λ l. AreUnder (parts_in x.parts) x.under.now (calls 0 l)) says u in
    let total : length (calls 0 (stmt_body stmt rest)) ≡ length (calls 0 (body_of b) ++ calls 0 rest) = ap (λ l. length (calls 0 l)) says in
    let long = length-append (calls 0 (body_of b)) (calls 0 rest) in
    let a = traced t (under_left (parts_in x.parts) x.under.now (calls 0 (body_of b)) (calls 0 rest) here) (omega (arith, fits, total, long)) in
    let inner : n' + 0 ≡ n + length (calls 0 (body_of b)) = a.passed in
    record {
      added = a.added;
      is = a.is;
      passed = omega (arith, total, long, inner);
      under = under_right (parts_in x.parts) x.under.now (calls 0 (body_of b)) (calls 0 rest) here;
      come = λ os m c. subst (λ l. Come (parts_in x.parts) x.holder x.through.now n l (a.added ++ os) m) (sym says) (origins.loop (come_whole x n n' (body_of b) old new a) c);
    }

-- ---- how many calls there are

calls_inside : (i : ℕ) (ps : List Part) (h : ℕ) (p : Part) → slice_get ps h ≡ Some p → calls_before ps h + length (calls 0 p.body) ≤ length (sites_from i ps)
calls_inside i [] h p e = absurd (cc)
calls_inside i (q ∷ ps) zero p e =
    let same : q ≡ p = cc in
    let own : length (calls 0 q.body) ≡ length (calls 0 p.body) = ap (λ (x : Part). length (calls 0 x.body)) same in
    let long = length-append (calls i q.body) (sites_from (i + 1) ps) in
    let here = calls_long i q.body in
    omega (arith, own, long, here)
calls_inside i (q ∷ ps) (suc h) p e =
    let more = calls_inside (i + 1) ps h p e in
    let long = length-append (calls i q.body) (sites_from (i + 1) ps) in
    let here = calls_long i q.body in
    omega (arith, more, long, here)

-- ---- a call

-- It is entered: its points come through one call more, and the calls of the protocol's text have numbers of their own.
pub traces_call : (x y : Tracing) (n n' f m target : ℕ) (stmt : Stmt) (name roles : List ℕ) (q : Protocol) (old new : List Origin)
    → stmt ≡ Do name roles → place (parts_in x.parts) name ≡ Some target → slice_get (protocols_in x.parts) target ≡ Some q
    → IsFront x.under.now target y.under.now → y.parts ≡ x.parts → y.firsts.now ≡ x.firsts.now → y.holder ≡ target → y.through.now ≡ x.through.now ++ called n target ∷ []
    → f ≡ slice_index_or x.firsts.now target 0 → n' ≡ min (n + 1) (2 ^ 64 - 1) → Traced y f m (body_of q.body) old new → TracedStmt x n n' stmt old new
traces_call x y n n' f m target stmt name roles q old new e named at front same firsts holds came first counted traced t rest u fits =
    let ps : List Part = parts_in x.parts in
    let says = says_do stmt name roles e rest in
    let here : AreUnder (parts_in x.parts) x.under.now (site 0 name roles ∷ calls 0 rest) = subst (λ b. AreUnder (parts_in x.parts) x.under.now (calls 0 b)) says u in
    let total : length (calls 0 (stmt_body stmt rest)) ≡ suc (length (calls 0 rest)) = ap (λ b. length (calls 0 b)) says in
    let one : n' ≡ n + 1 = omega (arith, fits, total, counted) in
    let is : slice_get (parts_in x.parts) target ≡ Some (part_of q) = part_at (protocols_in x.parts) target q at in
    let b = behind_front (parts_in x.parts) x.under.now target y.under.now t.behind front in
    let own : f ≡ calls_before (parts_in x.parts) target = first ∙ t.firsts target (place_inside (parts_in x.parts) name target named) in
    let among = calls_inside 0 (parts_in x.parts) target (part_of q) is in
    let few = t.few in
    let ready : IsTraceable y = record {
      callable = subst (λ p. AreCallable (parts_in p)) (sym same) t.callable;
      few = subst (λ p. length (sites (parts_in p)) < 2 ^ 64) (sym same) t.few;
      firsts = subst (λ p. AreFirsts (parts_in p) y.firsts.now) (sym same) (subst (AreFirsts (parts_in x.parts)) (sym firsts) t.firsts);
      behind = subst (λ p. CallsBehind (parts_in p) [] y.under.now) (sym same) b.1;
    } in
    let a = traced ready (subst (λ p. AreUnder (parts_in p) y.under.now (calls 0 (body_of q.body))) (sym same) (are_under (parts_in x.parts) y.under.now target (part_of q) t.callable is b.0))
    (omega (arith, few, own, among)) in
    let c : Come (parts_in x.parts) target (x.through.now ++ called n target ∷ []) (calls_before (parts_in x.parts) target) (body_of q.body) a.added m =
    subst (λ i. Come (parts_in x.parts) target (x.through.now ++ called n target ∷ []) i (body_of q.body) a.added m) own
    (subst (λ l. Come (parts_in x.parts) target l f (body_of q.body) a.added m) came
    (subst (λ h. Come (parts_in x.parts) h y.through.now f (body_of q.body) a.added m) holds
    (subst (λ p. Come (parts_in p) y.holder y.through.now f (body_of q.body) a.added m) same (come_whole y f m (body_of q.body) old new a)))) in
    record {
      added = a.added;
      is = a.is;
      passed = omega (arith, one, total);
      under = here.1;
      come = λ os k d. subst (λ b. Come (parts_in x.parts) x.holder x.through.now n b (a.added ++ os) k) (sym says)
          (origins.call target (part_of q) named is c (subst (λ i. Come (parts_in x.parts) x.holder x.through.now i rest os k) one d));
    }

-- ---- a whole module

-- it has no more calls than a number can say
abbrev pub HasCalls : Module → Type 0
HasCalls m = length (sites (parts_of m)) < 2 ^ 64

pub origins_made : (m : Module) (x : Tracing) (n : ℕ) (old : List Origin) (os : Origins) → HasCalls m → parts_in x.parts ≡ parts_of m → x.holder ≡ 0 → x.through.now ≡ []
    → AreFirsts (parts_in x.parts) x.firsts.now → IsCallOrder (parts_of m) x.under.now → old ≡ [] → Traced x 0 n (body_of m.main.body) old os.points.items
    → os.names ≡ map (λ (p : Part). p.name) (parts_in x.parts) → AreOriginsOf m os
origins_made m x n old os few same holds came firsts order none traced named =
    let ready : IsTraceable x = record {
      callable = subst AreCallable (sym same) order.callable;
      few = subst (λ ps. length (sites ps) < 2 ^ 64) (sym same) few;
      firsts = firsts;
      behind = subst (λ ps. CallsBehind ps [] x.under.now) (sym same) order.behind;
    } in
    let under = are_under (parts_of m) x.under.now 0 (part_of m.main) order.callable refl order.main in
    let among : calls_before (parts_of m) 0 + length (calls 0 (body_of m.main.body)) ≤ length (sites (parts_of m)) = calls_inside 0 (parts_of m) 0 (part_of m.main) refl in
    let fits : length (sites (parts_of m)) < 2 ^ 64 = few in
    let a = traced ready (subst (λ ps. AreUnder ps x.under.now (calls 0 (body_of m.main.body))) (sym same) under) (omega (arith, fits, among)) in
    let all : os.points.items ≡ a.added = a.is ∙ ap (λ l. l ++ a.added) none in
    record {
      named = named ∙ ap (map (λ (p : Part). p.name)) same;
      points = record {
        main = part_of m.main;
        first = refl;
        calls = n;
        come = subst (λ l. Come (parts_of m) 0 [] 0 (body_of m.main.body) l n) (sym all)
            (subst (λ l. Come (parts_of m) 0 l 0 (body_of m.main.body) a.added n) came
            (subst (λ h. Come (parts_of m) h x.through.now 0 (body_of m.main.body) a.added n) holds
            (subst (λ ps. Come ps x.holder x.through.now 0 (body_of m.main.body) a.added n) same (come_whole x 0 n (body_of m.main.body) old os.points.items a))));
      };
    }
