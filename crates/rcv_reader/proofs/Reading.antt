-- The loops over names: modules, sorts, roles and receivers; and over the declarations.
use Rattle.std.proofs.Common.{◌≡◌, ℕ, ◌+◌, ◌<◌, ◌≤◌, true, false, Some, List, [], ◌∷◌, ◌++◌, length, refl, sym, ap, subst, ◌∙◌, arith, append_assoc, append-nil, length-append, take, slice_index_or, ◌≢◌, ◌==◌, Bor}
use Rattle.std.proofs.lemmas.List.{length-take-le, map-append, take_more}
use Rattle.std.specs.BTreeSet.{BTreeSet}
use Rattle.rcv_machine.specs.Words.{Sign, Right, Role, Comma, Semicolon, Dot, Symbol, Is, Word, dotted, names_behind, roles_behind, sort_list, decl, decls, AreDecls, is_decl_word, or_first, place_of, is_listed, role_at, roles_at, MayReceive, Decl}
use Rattle.rcv_machine.specs.Words.{Item, This, AnyName, MoreModules, Decls, RoleName, MoreRoles, MoreSorts, Receiver, MoreReceivers}
use Rattle.rcv_tree.specs.declared.statement.Stmt.{Stmt}
use Rattle.rcv_tree.specs.declared.statement.Stmt.TheVariants as statements
use Rattle.rcv_reader.specs.Descent.{Standing, at, with_roles, named_in, answers, IsNameList, module_list, names_of_roles, messages, AddsName, AreTaken, HasThese, IsReceived, AreReceived}

-- What is spelled one behind another: one more at the end.
pub one_more : {X : Type 0} (spell : List X → List Symbol → List Symbol) (one : X → List Symbol → List Symbol)
    → ((next : List Symbol) → spell [] next ≡ next)
    → ((x : X) (xs : List X) (next : List Symbol) → spell (x ∷ xs) next ≡ one x (spell xs next))
    → (xs : List X) (y : X) (next : List Symbol) → spell (xs ++ y ∷ []) next ≡ spell xs (one y next)
one_more spell one none some [] y next = some y [] next ∙ ap (one y) (none next) ∙ sym (none (one y next))
one_more spell one none some (x ∷ xs) y next =
    some x (xs ++ y ∷ []) next ∙ ap (one x) (one_more spell one none some xs y next) ∙ sym (some x xs (one y next))

-- The same where the first stands alone, and each other one behind signs.
one_behind : (spell behind : List (List ℕ) → List Symbol → List Symbol) (one : List ℕ → List Symbol → List Symbol)
    → ((next : List Symbol) → behind [] next ≡ next)
    → ((n : List ℕ) (ns : List (List ℕ)) (next : List Symbol) → behind (n ∷ ns) next ≡ one n (behind ns next))
    → ((n : List ℕ) (ns : List (List ℕ)) (next : List Symbol) → spell (n ∷ ns) next ≡ Word n ∷ behind ns next)
    → (ns : List (List ℕ)) (m : List ℕ) (next : List Symbol) → ns ≢ [] → spell (ns ++ m ∷ []) next ≡ spell ns (one m next)
one_behind spell behind one none some first [] m next is = absurd (is refl)
one_behind spell behind one none some first (n ∷ ns) m next is = first n (ns ++ m ∷ []) next
    ∙ ap (λ (x : List Symbol). Word n ∷ x) (one_more behind one none some ns m next) ∙ sym (first n ns (one m next))

not_empty : (ns : List (List ℕ)) (m : List ℕ) → ns ++ m ∷ [] ≢ []
not_empty [] m e = cc
not_empty (n ∷ ns) m e = cc

-- ---- names with a sign between two

-- The first names were read, and one more has to stand behind them.
pub record NamesSoFar (more : Item) (spell : List (List ℕ) → List Symbol → List Symbol) (old now : Standing) (names : List (List ℕ))
    : Type 0 where
  pub goes : (k : List Item) → answers old (AnyName ∷ more ∷ k) ≡ answers now (AnyName ∷ more ∷ k)
  pub read : (n : List ℕ) (next : List Symbol) → now ≡ at now (Word n ∷ next) → old ≡ at now (spell (names ++ n ∷ []) next)
  pub shorter : length now.rest ≤ length old.rest

abbrev pub NamesOf : Sign → Sign → Standing → Standing → List (List ℕ) → Type 0
NamesOf between behind old now names = (more : Item) (spell : List (List ℕ) → List Symbol → List Symbol)
    → IsNameList between behind more spell → NamesSoFar more spell old now names

pub names_first : (between behind : Sign) (old : Standing) (names : List (List ℕ)) → names ≡ [] → NamesOf between behind old old names
names_first between behind old names none more spell list =
    rw none (record { goes = λ k. refl; read = λ n next is. is ∙ ap (at old) (sym (list.one n next)); shorter = omega arith })

pub sorts_are_listed : IsNameList Comma Right MoreSorts sort_list
sorts_are_listed = record {
  one = λ n next. refl;
  push = one_behind sort_list names_behind (λ n next. Is Comma ∷ Word n ∷ next) (λ next. refl) (λ n ns next. refl) (λ n ns next. refl);
  taken = λ p k. refl;
  over = λ p k is. is.over MoreSorts k refl;
}

pub modules_are_listed : IsNameList Dot Semicolon MoreModules module_list
modules_are_listed = record {
  one = λ n next. refl;
  push = one_behind module_list dotted (λ n next. Is Dot ∷ Word n ∷ next) (λ next. refl) (λ n ns next. refl) (λ n ns next. refl);
  taken = λ p k. refl;
  over = λ p k is. is.over MoreModules k refl;
}

-- ---- the roles

roles_push : (ns : List (List ℕ)) (m : List ℕ) (next : List Symbol) → ns ≢ []
    → names_of_roles (ns ++ m ∷ []) next ≡ names_of_roles ns (Is Comma ∷ Is Role ∷ Word m ∷ next)
roles_push = one_behind names_of_roles roles_behind (λ n next. Is Comma ∷ Is Role ∷ Word n ∷ next) (λ next. refl)
    (λ n ns next. refl) (λ n ns next. refl)

-- The first roles were read, and one more has to stand behind them.
pub record RolesSoFar (old now : Standing) : Type 0 where
  pub none : now.since ≡ 0
  pub goes : (k : List Item) → answers old (This (Is Role) ∷ RoleName ∷ k) ≡ answers now (This (Is Role) ∷ RoleName ∷ k)
  pub read : (n : List ℕ) (next : List Symbol) → now.rest ≡ Is Role ∷ Word n ∷ next
      → old ≡ with_roles now [] (Is Role ∷ names_of_roles (now.roles ++ n ∷ []) next)

-- One role more, in front of what is next.
role_read : (old p q r : Standing) → RolesSoFar old p → p ≡ at q (Is Role ∷ q.rest) → (a : AddsName q r)
    → (r.roles ≢ []) × (old ≡ with_roles r [] (Is Role ∷ names_of_roles r.roles r.rest))
role_read old p q r so_far e a =
    let spelled = a.spelled in
    let so = rw (e, spelled) at so_far in
    (rw a.added (not_empty q.roles a.name), rw a.added (so.read a.name r.rest refl))

pub roles_next : (old p q r new : Standing) → RolesSoFar old p → p ≡ at q (Is Role ∷ q.rest)
    → ((k : List Item) → answers q (RoleName ∷ k) ≡ answers r (MoreRoles ∷ k)) → AddsName q r → r ≡ at new (Is Comma ∷ new.rest)
    → RolesSoFar old new
roles_next old p q r new so_far e goes adds f =
    let so = rw e at so_far in
    let (some, read) = rw f at (role_read old p q r so_far e adds) in
    record {
      none = rw (adds.spelled, f) at so.none;
      goes = λ k. so.goes k ∙ goes k ∙ ap (λ (x : Standing). answers x (MoreRoles ∷ k)) f;
      read = λ n next is. rw (roles_push new.roles n next some, ← is) read;
    }

-- ---- the declarations

are_more : (ds : List Decl) (d : Decl) → AreDecls ds → is_decl_word d.word ≡ true → AreDecls (ds ++ d ∷ [])
are_more [] d all is = (is, tt)
are_more (x ∷ ds) d all is = (all.0, are_more ds d all.1 is)

pub record DeclsSoFar (old now : Standing) (aliases : BTreeSet (Bor (List ℕ))) (ds : List Decl) : Type 0 where
  pub names : List (List ℕ)
  pub has : HasThese aliases names
  pub goes : (k : List Item) → answers old (Decls [] ∷ k) ≡ answers now (Decls names ∷ k)
  pub taken : AreTaken ds old now

pub decls_next : (old p q new : Standing) (aliases aliases' : BTreeSet (Bor (List ℕ))) (ds ds' : List Decl) (d : Decl)
    → DeclsSoFar old p aliases ds → p ≡ q → ((names : List (List ℕ)) → HasThese aliases names → (k : List Item)
    → answers q (Decls names ∷ k) ≡ answers new (Decls (names ++ d.alias ∷ []) ∷ k))
    → ((names : List (List ℕ)) → HasThese aliases names → HasThese aliases' (names ++ d.alias ∷ []))
    → AreTaken (d ∷ []) q new → ds' ≡ ds ++ d ∷ [] → DeclsSoFar old new aliases' ds'
decls_next old p q new aliases aliases' ds ds' d so_far e goes kept is added =
    let so = rw e at so_far in
    rw added (record {
      names = so.names ++ d.alias ∷ [];
      has = kept so.names so.has;
      goes = λ k. so.goes k ∙ goes so.names so.has k;
      taken = record {
        words = are_more ds d so.taken.words is.words.0;
        spelled = (rw is.spelled at so.taken.spelled)
            ∙ ap (at new) (sym (one_more decls decl (λ left. refl) (λ x xs left. refl) ds d new.rest));
      };
    })

-- ---- receivers

pub record ReceiversSoFar (old now : Standing) (earlier sender : ℕ) (before : List ℕ) : Type 0 where
  pub goes : (k : List Item) → answers old (Receiver (named_in old.roles earlier) sender [] ∷ k)
      ≡ answers now (MoreReceivers (named_in old.roles earlier) sender before ∷ k)
  pub received : AreReceived old now sender before
  pub shorter : length now.rest < length old.rest

-- one receiver more at the end
may_push : (roles : List (List ℕ)) (sender : ℕ) (before : List ℕ) (names : List (List ℕ)) (n : List ℕ) (r : ℕ) → place_of roles n ≡ Some r
    → is_listed r (before ++ roles_at roles names) ≡ false → (r == sender) ≡ false → MayReceive roles sender before names
    → MayReceive roles sender before (names ++ n ∷ [])
may_push roles sender before [] n r is first apart may =
    let place : role_at roles n ≡ r = ap or_first is in ((r, is), rw place (rw append-nil at first), rw place apart, tt)
may_push roles sender before (m ∷ names) n r is first apart may =
    (may.0, may.1, may.2, may_push roles sender (before ++ role_at roles m ∷ []) names n r is (rw append_assoc first) apart may.3)

pub receivers_first : (old new : Standing) (earlier sender : ℕ) (none after : List ℕ) → none ≡ []
    → ((k : List Item) → answers old (Receiver (named_in old.roles earlier) sender none ∷ k)
    ≡ answers new (MoreReceivers (named_in old.roles earlier) sender after ∷ k))
    → ((r : ℕ) × IsReceived old new sender none r × (after ≡ none ++ r ∷ [])) → ReceiversSoFar old new earlier sender after
receivers_first old new earlier sender none after empty goes received =
    let (role, is, pushed) = rw empty at received in
    let place : role_at new.roles is.name ≡ role = ap or_first is.is_role in
    record {
      goes = rw empty at goes;
      received = record {
        first = is.name;
        others = [];
        may = may_push new.roles sender [] [] is.name role is.is_role is.first is.apart tt;
        places = rw (pushed, place) refl;
        counted = rw pushed is.counted;
        spelled = is.spelled;
      };
      shorter = rw is.spelled (omega arith);
    }

pub receivers_next : (old p q new : Standing) (earlier sender : ℕ) (before after : List ℕ)
    → ReceiversSoFar old p earlier sender before → p ≡ at q (Is Comma ∷ q.rest)
    → ((k : List Item) → answers q (Receiver (named_in q.roles earlier) sender before ∷ k)
    ≡ answers new (MoreReceivers (named_in q.roles earlier) sender after ∷ k))
    → ((r : ℕ) × IsReceived q new sender before r × (after ≡ before ++ r ∷ [])) → ReceiversSoFar old new earlier sender after
receivers_next old p q new earlier sender before after so_far e goes (role, is, pushed) =
    let here = rw e at so_far in
    let so = rw is.spelled at here in
    let had = so.received in
    let place : role_at new.roles is.name ≡ role = ap or_first is.is_role in
    let roles : q.roles ≡ old.roles = sym (ap (λ (x : Standing). x.roles) here.received.spelled) in
    let on = λ (k : List Item). subst (λ (all : List (List ℕ)). answers q (Receiver (named_in all earlier) sender before ∷ k)
    ≡ answers new (MoreReceivers (named_in all earlier) sender after ∷ k)) roles (goes k) in
    record {
      goes = λ k. here.goes k ∙ on k;
      received = record {
        first = had.first;
        others = had.others ++ is.name ∷ [];
        may = may_push new.roles sender [] (had.first ∷ had.others) is.name role is.is_role (rw had.places at is.first) is.apart had.may;
        places = rw (pushed, had.places, ← place) (sym (map-append (role_at new.roles) (had.first ∷ had.others) (is.name ∷ [])));
        counted = rw pushed (omega (arith, is.counted, had.counted, length-append before (role ∷ [])));
        spelled = rw (one_more names_behind (λ n next. Is Comma ∷ Word n ∷ next) (λ next. refl) (λ n ns next. refl) had.others
            is.name new.rest) had.spelled;
      };
      shorter = omega (arith, so.shorter);
    }

-- ---- their messages

-- those to the first receivers, and the next one
messages_push : (label : List ℕ) (sorts : List (List ℕ)) (sender : ℕ) (rs : List ℕ) (r n : ℕ) → messages label sorts sender (rs ++ r ∷ []) n
    ≡ messages label sorts sender rs n ++ statements.Message label sorts sender r (n + length (rs ++ r ∷ [])) ∷ []
messages_push label sorts sender [] r n = refl
messages_push label sorts sender (q ∷ rs) r n =
    let place : n + 1 + length (rs ++ r ∷ []) ≡ n + length (q ∷ rs ++ r ∷ []) = omega arith in
    rw (messages_push label sorts sender rs r (n + 1), place) refl

-- a message more at the end of a block
pub message_added : (label label' : List ℕ) (sorts sorts' : List (List ℕ)) (sender : ℕ) (rs : List ℕ) (r i n m m' : ℕ) (block now new : List Stmt)
    → i < length rs → slice_index_or rs i r ≡ r → (now ≡ block ++ messages label sorts sender (take i rs) n) × (m ≡ n + i)
    → label' ≡ label → sorts' ≡ sorts → m' ≡ m + 1 → new ≡ now ++ statements.Message label' sorts' sender r m' ∷ []
    → (new ≡ block ++ messages label sorts sender (take (i + 1) rs) n) × (m' ≡ n + (i + 1))
message_added label label' sorts sorts' sender rs r i n m m' block now new lt at so_far one two more is =
    let taken : take (i + 1) rs ≡ take i rs ++ r ∷ [] = take_more rs i r lt ∙ ap (λ (x : ℕ). take i rs ++ x ∷ []) at in
    let place : m' ≡ n + length (take i rs ++ r ∷ []) =
    omega (arith, so_far.1, more, length-take-le i rs (omega (arith, lt)), length-append (take i rs) (r ∷ [])) in
    (rw (taken, is, one, two, so_far.0, place, messages_push label sorts sender (take i rs) r n, append_assoc) refl, omega (arith, so_far.1, more))
