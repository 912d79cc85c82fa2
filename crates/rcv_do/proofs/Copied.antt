-- Copies and expansions of a text, statement by statement.
use Rattle.std.proofs.Common.{◌≡◌, ℕ, ◌+◌, min, List, [], ◌∷◌, ◌++◌, length, refl, sym, ap, subst, ◌∙◌, append-nil, append_assoc, length-append, arith}
use Rattle.rcv_tree.specs.declared.statement.Stmt.{Stmt}
use Rattle.rcv_tree.specs.declared.statement.Stmt.TheVariants.{Message, Choice, Rec, Continue, Par, Do}
use Rattle.rcv_tree.specs.declared.statement.Block.{Block}
use Rattle.rcv_tree.specs.declared.statement.Blocks.{Blocks}
use Rattle.rcv_model.specs.Text.{Body, End, Single, Choose, Loop, Again, Parallel, Call, Bodies, NoMore, Or, stmt_body, body_of, bodies_of, body_from, bodies_from}
use Rattle.rcv_model.specs.Form.{IsNumberedFrom}
use Rattle.rcv_model.specs.Places.{SingleMessage, singles, singles_of}
use Rattle.rcv_model.proofs.Text.{stmt_body-Message, stmt_body-Choice, stmt_body-Rec, stmt_body-Continue, stmt_body-Par, stmt_body-Do}
use Rattle.rcv_module.specs.Parts.{Part}
use Rattle.rcv_module.specs.Expansion as expansion
use Rattle.rcv_module.specs.Expansion.{Stands, themselves, called_with, Expands, AllExpand}
use Rattle.rcv_do.specs.Copying.{in_front, Counts, Leads, AllLead, Added}

abbrev Made : Type 0
Made = List (ℕ × SingleMessage)

-- ---- counting

pub counts_none : (n : ℕ) → Counts n n []
counts_none n few = (omega arith, λ es k. k)

pub counts_one : (n n' : ℕ) (m : SingleMessage) → n' ≡ min (n + 1) 65535 → Counts n n' ((n', m) ∷ [])
counts_one n n' m e few =
    let next : n' ≡ n + 1 = omega (arith, e, few) in
    (next, λ es k. (next, subst (λ i. IsNumberedFrom (i + 1) es) next k))

pub counts_more : (n k n' : ℕ) (xs ys : Made) → Counts n k xs → Counts k n' ys → Counts n n' (xs ++ ys)
counts_more n k n' xs ys a b few =
    let long = length-append xs ys in
    let x = a (omega (arith, long, few)) in
    let at : k ≡ n + length xs = x.0 in
    let y = b (omega (arith, long, few, at)) in
    let end : n' ≡ k + length ys = y.0 in
    (omega (arith, long, at, end), λ es numbered. subst (IsNumberedFrom (n + 1)) (sym (append_assoc xs ys es)) (x.1 (ys ++ es) (y.1 es numbered)))

-- ---- one statement in front

front_more : (xs ys : List Stmt) (w : Body) → in_front (xs ++ ys) w ≡ in_front xs (in_front ys w)
front_more [] ys w = refl
front_more (x ∷ xs) ys w = ap (stmt_body x) (front_more xs ys w)

-- nothing more
pub leads_none : (parts : List Part) (st : Stands) (n : ℕ) (whole left : Body) → left ≡ whole → Leads parts st n n whole left []
leads_none parts st n whole left e = record {
  made = [];
  expands = λ next w x. subst (λ b. Expands parts st b next w) e x;
  messages = λ w. refl;
  counts = counts_none n;
}

-- one text after another
pub leads_more : (parts : List Part) (st : Stands) (n k n' : ℕ) (whole mid left : Body) (xs ys : List Stmt)
    → Leads parts st n k whole mid xs → Leads parts st k n' mid left ys → Leads parts st n n' whole left (xs ++ ys)
leads_more parts st n k n' whole mid left xs ys a b = record {
  made = a.made ++ b.made;
  expands = λ next w x. subst (Expands parts st whole next) (sym (front_more xs ys w)) (a.expands next (in_front ys w) (b.expands next w x));
  messages = λ w. ap singles (front_more xs ys w) ∙ a.messages (in_front ys w) ∙ ap (λ l. a.made ++ l) (b.messages w) ∙ sym (append_assoc a.made b.made (singles w));
  counts = counts_more n k n' a.made b.made a.counts b.counts;
}

pub added_more : (parts : List Part) (st : Stands) (n k n' : ℕ) (whole mid left : Body) (old now new : List Stmt)
    → Added parts st n k whole mid old now → Added parts st k n' mid left now new → Added parts st n n' whole left old new
added_more parts st n k n' whole mid left old now new a b = record {
  added = a.added ++ b.added;
  is = b.is ∙ ap (λ l. l ++ b.added) a.is ∙ append_assoc old a.added b.added;
  leads = leads_more parts st n k n' whole mid left a.added b.added a.leads b.leads;
}

pub added_none : (parts : List Part) (st : Stands) (n : ℕ) (whole left : Body) (old : List Stmt) → left ≡ whole → Added parts st n n whole left old old
added_none parts st n whole left old e = record { added = []; is = sym (append-nil old); leads = leads_none parts st n whole left e }

-- A statement made of what it says, and of what the copy says.
pub record IsCopied (parts : List Part) (st : Stands) (n n' : ℕ) (stmt copy : Stmt) : Type 0 where
  pub made : Made
  pub expands : (rest next w : Body) → Expands parts st rest next w → Expands parts st (stmt_body stmt rest) next (stmt_body copy w)
  pub messages : (w : Body) → singles (stmt_body copy w) ≡ made ++ singles w
  pub counts : Counts n n' made

pub copied_adds : (parts : List Part) (st : Stands) (n n' : ℕ) (stmt copy : Stmt) (rest : Body) (old new : List Stmt) → new ≡ old ++ copy ∷ []
    → IsCopied parts st n n' stmt copy → Added parts st n n' (stmt_body stmt rest) rest old new
copied_adds parts st n n' stmt copy rest old new e c = record {
  added = copy ∷ [];
  is = e;
  leads = record { made = c.made; expands = c.expands rest; messages = c.messages; counts = c.counts };
}

-- What a statement says, as an equation for each rest.
abbrev pub Says : Stmt → (Body → Body) → Type 0
Says stmt front = (rest : Body) → stmt_body stmt rest ≡ front rest

pub says_message : (stmt : Stmt) (label : List ℕ) (sorts : List (List ℕ)) (s r p : ℕ) → stmt ≡ Message label sorts s r p → Says stmt (λ rest. Single label sorts s r p rest)
says_message stmt label sorts s r p e rest = ap (λ x. stmt_body x rest) e ∙ stmt_body-Message label sorts s r p rest

pub says_choice : (stmt : Stmt) (subject : ℕ) (bs : Blocks) → stmt ≡ Choice subject bs → Says stmt (λ rest. Choose subject (bodies_of bs) rest)
says_choice stmt subject bs e rest = ap (λ x. stmt_body x rest) e ∙ stmt_body-Choice subject bs rest

pub says_rec : (stmt : Stmt) (name : List ℕ) (b : Block) → stmt ≡ Rec name b → Says stmt (λ rest. Loop name (body_of b) rest)
says_rec stmt name b e rest = ap (λ x. stmt_body x rest) e ∙ stmt_body-Rec name b rest

pub says_continue : (stmt : Stmt) (name : List ℕ) → stmt ≡ Continue name → Says stmt (λ rest. Again name rest)
says_continue stmt name e rest = ap (λ x. stmt_body x rest) e ∙ stmt_body-Continue name rest

pub says_par : (stmt : Stmt) (bs : Blocks) → stmt ≡ Par bs → Says stmt (λ rest. Parallel (bodies_of bs) rest)
says_par stmt bs e rest = ap (λ x. stmt_body x rest) e ∙ stmt_body-Par bs rest

pub says_do : (stmt : Stmt) (name roles : List ℕ) → stmt ≡ Do name roles → Says stmt (λ rest. Call name roles rest)
says_do stmt name roles e rest = ap (λ x. stmt_body x rest) e ∙ stmt_body-Do name roles rest

-- from what the two say
moved : (parts : List Part) (st : Stands) (stmt copy : Stmt) (front behind : Body → Body) → Says stmt front → Says copy behind
    → ((rest next w : Body) → Expands parts st rest next w → Expands parts st (front rest) next (behind w))
    → (rest next w : Body) → Expands parts st rest next w → Expands parts st (stmt_body stmt rest) next (stmt_body copy w)
moved parts st stmt copy front behind a b f rest next w x =
    subst (λ c. Expands parts st c next (stmt_body copy w)) (sym (a rest)) (subst (Expands parts st (front rest) next) (sym (b w)) (f rest next w x))

pub message_copied : (parts : List Part) (st : Stands) (n n' : ℕ) (stmt copy : Stmt) (label label' : List ℕ) (sorts sorts' : List (List ℕ)) (s r p s' r' : ℕ)
    → stmt ≡ Message label sorts s r p → copy ≡ Message label' sorts' s' r' n' → label' ≡ label → sorts' ≡ sorts → s' ≡ st s → r' ≡ st r
    → n' ≡ min (n + 1) 65535 → IsCopied parts st n n' stmt copy
message_copied parts st n n' stmt copy label label' sorts sorts' s r p s' r' e f l so se re more = record {
  made = (n', record { label = label'; sorts = sorts'; sender = s'; receiver = r' }) ∷ [];
  expands = moved parts st stmt copy (λ rest. Single label sorts s r p rest) (λ rest. Single label' sorts' s' r' n' rest) (says_message stmt label sorts s r p e) (says_message copy label' sorts' s' r' n' f)
      (λ rest next w x. subst (λ a. Expands parts st (Single label sorts s r p rest) next (Single a sorts' s' r' n' w)) (sym l)
      (subst (λ a. Expands parts st (Single label sorts s r p rest) next (Single label a s' r' n' w)) (sym so)
      (subst (λ a. Expands parts st (Single label sorts s r p rest) next (Single label sorts a r' n' w)) (sym se)
      (subst (λ a. Expands parts st (Single label sorts s r p rest) next (Single label sorts (st s) a n' w)) (sym re) (expansion.message n' x)))));
  messages = λ w. ap singles (says_message copy label' sorts' s' r' n' f w);
  counts = counts_one n n' (record { label = label'; sorts = sorts'; sender = s'; receiver = r' }) more;
}

pub continue_copied : (parts : List Part) (st : Stands) (n : ℕ) (stmt copy : Stmt) (name name' : List ℕ) → stmt ≡ Continue name → copy ≡ Continue name' → name' ≡ name → IsCopied parts st n n stmt copy
continue_copied parts st n stmt copy name name' e f l = record {
  made = [];
  expands = moved parts st stmt copy (λ rest. Again name rest) (λ rest. Again name' rest) (says_continue stmt name e) (says_continue copy name' f)
      (λ rest next w x. subst (λ a. Expands parts st (Again name rest) next (Again a w)) (sym l) (expansion.again x));
  messages = λ w. ap singles (says_continue copy name' f w);
  counts = counts_none n;
}

pub choice_copied : (parts : List Part) (st : Stands) (n n' : ℕ) (stmt copy : Stmt) (subject subject' : ℕ) (bs cs : Blocks)
    → stmt ≡ Choice subject bs → copy ≡ Choice subject' cs → subject' ≡ st subject → AllLead parts st n n' (bodies_of bs) (bodies_of cs) → IsCopied parts st n n' stmt copy
choice_copied parts st n n' stmt copy subject subject' bs cs e f l a = record {
  made = singles_of (bodies_of cs);
  expands = moved parts st stmt copy (λ rest. Choose subject (bodies_of bs) rest) (λ rest. Choose subject' (bodies_of cs) rest) (says_choice stmt subject bs e) (says_choice copy subject' cs f)
      (λ rest next w x. subst (λ s. Expands parts st (Choose subject (bodies_of bs) rest) next (Choose s (bodies_of cs) w)) (sym l) (expansion.choice a.expands x));
  messages = λ w. ap singles (says_choice copy subject' cs f w);
  counts = a.counts;
}

pub par_copied : (parts : List Part) (st : Stands) (n n' : ℕ) (stmt copy : Stmt) (bs cs : Blocks)
    → stmt ≡ Par bs → copy ≡ Par cs → AllLead parts st n n' (bodies_of bs) (bodies_of cs) → IsCopied parts st n n' stmt copy
par_copied parts st n n' stmt copy bs cs e f a = record {
  made = singles_of (bodies_of cs);
  expands = moved parts st stmt copy (λ rest. Parallel (bodies_of bs) rest) (λ rest. Parallel (bodies_of cs) rest) (says_par stmt bs e) (says_par copy cs f)
      (λ rest next w x. expansion.beside a.expands x);
  messages = λ w. ap singles (says_par copy cs f w);
  counts = a.counts;
}

-- these statements as a body
abbrev as_body : List Stmt → Body
as_body ss = in_front ss End

block_is : (ss : List Stmt) → body_from ss ≡ in_front ss End
block_is [] = refl
block_is (s ∷ ss) = ap (stmt_body s) (block_is ss)

pub rec_copied : (parts : List Part) (st : Stands) (n n' : ℕ) (stmt copy : Stmt) (name name' : List ℕ) (b c : Block) (old : List Stmt) (made : List Stmt)
    → stmt ≡ Rec name b → copy ≡ Rec name' c → name' ≡ name → body_of c ≡ body_from made → old ≡ []
    → Added parts st n n' (body_of b) End old made → IsCopied parts st n n' stmt copy
rec_copied parts st n n' stmt copy name name' b c old made e f l is none a =
    let says = says_rec copy name' c f in
    let inner : body_of c ≡ in_front a.added End = is ∙ ap body_from (a.is ∙ ap (λ o. o ++ a.added) none) ∙ block_is a.added in
    let x : Expands parts st (body_of b) End (body_of c) = subst (Expands parts st (body_of b) End) (sym inner) (a.leads.expands End End expansion.at_end) in
    let all : singles (body_of c) ≡ a.leads.made = ap singles inner ∙ a.leads.messages End ∙ append-nil a.leads.made in
    record {
      made = singles (body_of c);
      expands = moved parts st stmt copy (λ rest. Loop name (body_of b) rest) (λ rest. Loop name' (body_of c) rest) (says_rec stmt name b e) says
          (λ rest next w y. subst (λ a. Expands parts st (Loop name (body_of b) rest) next (Loop a (body_of c) w)) (sym l) (expansion.loop x y));
      messages = λ w. ap singles (says w);
      counts = subst (Counts n n') (sym all) a.leads.counts;
    }

-- ---- blocks

pub all_none : (parts : List Part) (st : Stands) (n : ℕ) → AllLead parts st n n NoMore NoMore
all_none parts st n = record { expands = expansion.no_more; counts = counts_none n }

abbrev pub beside : List Block → Bodies → Bodies
beside [] cs = cs
beside (b ∷ bs) cs = Or (body_of b) (beside bs cs)

-- So many blocks were copied: with the copies of those that are left they are the copies of all.
pub record AllSoFar (parts : List Part) (st : Stands) (n n' : ℕ) (whole left : Bodies) (copies : List Block) : Type 0 where
  pub made : Made
  pub expands : (cs : Bodies) → AllExpand parts st left cs → AllExpand parts st whole (beside copies cs)
  pub messages : (cs : Bodies) → singles_of (beside copies cs) ≡ made ++ singles_of cs
  pub counts : Counts n n' made

pub all_at_first : (parts : List Part) (st : Stands) (n : ℕ) (whole left : Bodies) → left ≡ whole → AllSoFar parts st n n whole left []
all_at_first parts st n whole left e = record {
  made = [];
  expands = λ cs x. subst (λ b. AllExpand parts st b cs) e x;
  messages = λ cs. refl;
  counts = counts_none n;
}

beside_more : (bs : List Block) (b : Block) (cs : Bodies) → beside (bs ++ b ∷ []) cs ≡ beside bs (Or (body_of b) cs)
beside_more [] b cs = refl
beside_more (x ∷ bs) b cs = ap (Or (body_of x)) (beside_more bs b cs)

pub all_next : (parts : List Part) (st : Stands) (n k n' : ℕ) (whole left rest : Bodies) (b : Body) (c : Block) (now new : List Block) (made : List Stmt)
    → left ≡ Or b rest → new ≡ now ++ c ∷ [] → body_of c ≡ body_from made
    → AllSoFar parts st n k whole left now → Added parts st k n' b End [] made → AllSoFar parts st n n' whole rest new
all_next parts st n k n' whole left rest b c now new made e pushed is a x =
    let inner : body_of c ≡ in_front x.added End = is ∙ ap body_from x.is ∙ block_is x.added in
    let y : Expands parts st b End (body_of c) = subst (Expands parts st b End) (sym inner) (x.leads.expands End End expansion.at_end) in
    let all : singles (body_of c) ≡ x.leads.made = ap singles inner ∙ x.leads.messages End ∙ append-nil x.leads.made in
    let says : (cs : Bodies) → beside new cs ≡ beside now (Or (body_of c) cs) = λ cs. ap (λ l. beside l cs) pushed ∙ beside_more now c cs in
    record {
      made = a.made ++ singles (body_of c);
      expands = λ cs z. subst (AllExpand parts st whole) (sym (says cs)) (a.expands (Or (body_of c) cs) (subst (λ l. AllExpand parts st l (Or (body_of c) cs)) (sym e) (expansion.one_more y z)));
      messages = λ cs. ap singles_of (says cs) ∙ a.messages (Or (body_of c) cs) ∙ sym (append_assoc a.made (singles (body_of c)) (singles_of cs));
      counts = counts_more n k n' a.made (singles (body_of c)) a.counts (subst (Counts k n') (sym all) x.leads.counts);
    }

bodies_beside : (bs : List Block) → bodies_from bs ≡ beside bs NoMore
bodies_beside [] = refl
bodies_beside (b ∷ bs) = ap (Or (body_of b)) (bodies_beside bs)

pub all_copied : (parts : List Part) (st : Stands) (n n' : ℕ) (whole left copies : Bodies) (bs : List Block) → left ≡ NoMore → copies ≡ bodies_from bs
    → AllSoFar parts st n n' whole left bs → AllLead parts st n n' whole copies
all_copied parts st n n' whole left copies bs e is a =
    let same : copies ≡ beside bs NoMore = is ∙ bodies_beside bs in
    record {
      expands = subst (AllExpand parts st whole) (sym same) (a.expands NoMore (subst (λ l. AllExpand parts st l NoMore) (sym e) expansion.no_more));
      counts = subst (Counts n n') (sym (ap singles_of same ∙ a.messages NoMore ∙ append-nil a.made)) a.counts;
    }
