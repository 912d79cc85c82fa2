-- A whole protocol.
use Rattle.std.proofs.Common.{◌≡◌, ℕ, ◌≤◌, ◌<◌, true, false, nat_le, List, [], ◌∷◌, ◌++◌, length, refl, sym, ap, ◌∙◌, arith}
use Rattle.std.proofs.lemmas.Bool.Decides.{nat_tests}
use Rattle.std.proofs.lemmas.Slice.Eq.{bytes_eq-Decides}
use denote.Enum.Bare.{true_same}
use Rattle.rcv_tree.specs.Lists.{statements}
use Rattle.rcv_tree.specs.declared.statement.Stmt.{Stmt}
use Rattle.rcv_tree.specs.declared.protocol.Protocol.{Protocol as ProtocolTree}
use Rattle.rcv_syntax.specs.contracts.sign.Sign.{the_type}
use Rattle.rcv_machine.specs.Words.{Global, Protocol, Right, Open, Close, Symbol, Is, Word, Text, Number, stmts, roles_behind, points, Named, State, Item, This, Rest, ProtocolName, MoreProtocols, Place, Taken, meets, outermost, answer, known}
use Rattle.rcv_machine.proofs.Passing.{passing}
use Rattle.rcv_reader.specs.Descent.{Standing, IsSmall, names_of_roles, named_in, answers, back_at, afresh, IsOpened, IsProtocol, TakesAll, place_at}
use Rattle.rcv_reader.proofs.Blocks.{whole_block}
use Rattle.rcv_reader.proofs.Formed.{tree_has_form}
use Rattle.rcv_reader.proofs.Apart.{lanes_apart}
use Rattle.rcv_reader.proofs.Named.{nobody_named}

-- of a list that isn't empty
pub parts_of : (xs : List (List ℕ)) → (xs ≡ [] → ⊥) → (first : List ℕ) × (others : List (List ℕ)) × (xs ≡ first ∷ others)
parts_of [] some = absurd (some refl)
parts_of (x ∷ xs) some = (x, xs, refl)

-- in front of the body, which is the protocol's own block
abbrev pub outer : Standing → Place
outer p = place_at p.recs 1 0 false (named_in p.roles 0)

outer_is : (p : Standing) → p.recs ≡ [] → outer p ≡ outermost
outer_is p none = rw none (ap (λ (earlier : Named). place_at [] 1 0 false earlier) (nobody_named p.roles))

-- Behind a protocol nothing counts but the names.
ends_alike : (names roles roles' : List (List ℕ)) (n n' : ℕ) (since since' : Named) (k : List Item) (ts : List Symbol)
    → answer (known names roles n since) (MoreProtocols ∷ k) ts ≡ answer (known names roles' n' since') (MoreProtocols ∷ k) ts
ends_alike names roles roles' n n' since since' [] [] = refl
ends_alike names roles roles' n n' since since' (i ∷ k) [] = refl
ends_alike names roles roles' n n' since since' k (Is Global ∷ ts) = refl
ends_alike names roles roles' n n' since since' k (t ∷ ts) = refl

pub anew_goes : (q new : Standing) → new ≡ afresh q.protocols q.rest → (k : List Item)
    → answers q (MoreProtocols ∷ k) ≡ answers new (MoreProtocols ∷ k)
anew_goes q new anew k =
    rw anew (ends_alike q.protocols q.roles [] q.count 0 (named_in q.roles q.since) (named_in [] 0) k q.rest)

-- no recursion is open, and no point is counted
opened_at : (old p : Standing) (name : List ℕ) → old ≡ afresh old.protocols old.rest → IsOpened old p name → (p.recs ≡ []) × (p.count ≡ 0)
opened_at old p name fresh opened =
    let before = sym opened.spelled ∙ fresh in
    (ap (λ (x : Standing). x.recs) before, ap (λ (x : Standing). x.count) before)

-- nor is one behind the body
pub body_recs : (old p q : Standing) (name : List ℕ) → old ≡ afresh old.protocols old.rest → IsOpened old p name
    → p ≡ back_at q p.count p.since p.rest → q.recs ≡ []
body_recs old p q name fresh opened body = sym (ap (λ (x : Standing). x.recs) body) ∙ (opened_at old p name fresh opened).0

-- the head of a protocol, and its body
pub to_body : (old p : Standing) (name : List ℕ) → old ≡ afresh old.protocols old.rest → IsOpened old p name
    → ((k : List Item) → answers old (This (Is Protocol) ∷ ProtocolName ∷ k) ≡ answers p (Rest outermost ∷ MoreProtocols ∷ k))
    → (k : List Item) → answers old (This (Is Protocol) ∷ ProtocolName ∷ k) ≡ answers p (Rest (outer p) ∷ MoreProtocols ∷ k)
to_body old p name fresh opened goes k =
    goes k ∙ ap (λ (x : Place). answers p (Rest x ∷ MoreProtocols ∷ k)) (sym (outer_is p (opened_at old p name fresh opened).0))

-- what follows is shorter than the names in front of it
roles_short : (ns : List (List ℕ)) (next : List Symbol) → length next ≤ length (roles_behind ns next)
roles_short [] next = omega arith
roles_short (n ∷ ns) next = omega (arith, roles_short ns next)

names_short : (ns : List (List ℕ)) (next : List Symbol) → length next ≤ length (names_of_roles ns next)
names_short [] next = omega arith
names_short (n ∷ ns) next = omega (arith, roles_short ns next)

pub protocol_goes : (old p q new : Standing) (name : List ℕ) → old ≡ afresh old.protocols old.rest → IsOpened old p name
    → ((k : List Item) → answers old (This (Is Protocol) ∷ ProtocolName ∷ k) ≡ answers p (Rest outermost ∷ MoreProtocols ∷ k))
    → ((k : List Item) → answers p (Rest (outer p) ∷ k) ≡ answers q k) → length q.rest < length p.rest → new ≡ afresh q.protocols q.rest
    → ((k : List Item) → answers old (This (Is Protocol) ∷ ProtocolName ∷ k) ≡ answers new (MoreProtocols ∷ k))
    × (length new.rest < length old.rest)
protocol_goes old p q new name fresh opened head body lt anew =
    let short = ap (λ (x : Standing). length x.rest) anew in
    let long = names_short p.roles (Is Right ∷ Is Open ∷ p.rest) in (
      λ k. to_body old p name fresh opened head k ∙ body (MoreProtocols ∷ k) ∙ anew_goes q new anew k,
      rw opened.spelled (omega (arith, lt, short, long)),
    )

-- ---- what the machine takes

meets_itself : (t : Symbol) → meets t t ≡ true
meets_itself (Is a) = true_same the_type a a refl
meets_itself (Word a) = (bytes_eq-Decides a a).1 refl
meets_itself (Text a) = (bytes_eq-Decides a a).1 refl
meets_itself (Number a) = grind (arith, nat_tests)

-- these symbols, and then the end behind a protocol
abbrev these : List Symbol → List Item
these [] = MoreProtocols ∷ []
these (t ∷ ts) = This t ∷ these ts

taken_by : (ts : List Symbol) (s : State) → answer s (these ts) ts ≡ Taken
taken_by [] s = refl
taken_by (t ∷ ts) s = rw (meets_itself t) (taken_by ts s)

pub protocol_read : (r : ProtocolTree) (old p q new : Standing) (none : List Stmt) → old ≡ afresh old.protocols old.rest
    → IsOpened old p r.name → ((k : List Item) → answers p (Rest (outer p) ∷ k) ≡ answers q k)
    → TakesAll p q none (statements r.body) → none ≡ [] → r.roles ≡ q.roles → IsSmall (length q.protocols) (length q.roles) q.count
    → new ≡ afresh q.protocols q.rest → IsProtocol old new r
protocol_read r old p q new none fresh opened goes body empty roles small anew =
    let (recs, zero) = opened_at old p r.name fresh opened in
    let same : p.roles ≡ r.roles = ap (λ (x : Standing). x.roles) body.0 ∙ sym roles in
    let names : q.protocols ≡ old.protocols ++ r.name ∷ [] = ap (λ (x : Standing). x.protocols) (sym body.0) ∙ opened.added in
    let adds = rw (zero, ← roles) at body.1 in
    let b = (whole_block false r.body r.roles 0 q.count none p.rest (Is Close ∷ q.rest) empty adds).0 in
    let others = parts_of r.roles (rw same at opened.some_role) in
    let short : points b.written ≤ 256 = omega (arith, b.counted, small.short) in
    let taken : answers p (Rest (outer p) ∷ these q.rest) ≡ Taken = goes (these q.rest) ∙ taken_by q.rest _ in
    let body_taken : answer (known p.protocols r.roles 0 (named_in r.roles p.since)) (Rest (place_at p.recs 1 0 false (named_in r.roles 0)) ∷ these q.rest)
    (stmts b.written (Is Close ∷ q.rest)) ≡ Taken = rw (same, zero, b.spelled) at taken in
    let place = place_at p.recs 1 0 false (named_in r.roles 0) in
    let passes = ((passing p.protocols r.roles 0 (named_in r.roles p.since) place b.written b.sound.0 (these q.rest) q.rest).0 body_taken).0 in
    let apart = lanes_apart (nat_le 2 (length p.protocols)) r.roles 0 place b.written (omega arith) passes in
    let text = ap (λ (x : Standing). x.rest) opened.spelled in
    rw anew (record {
      written = record { name = r.name; role = others.0; other_roles = others.1; body = b.written };
      tree = record { named = refl; role_names = others.2; fit = b.sound.1; tree = b.tree };
      proper = b.sound.0;
      form = rw b.tree (tree_has_form r.roles b.written b.sound.1 apart (rw roles small.few) short);
      spelled = rw (same, others.2, b.spelled) at text;
      anew = ap (λ (ns : List (List ℕ)). afresh ns q.rest) names;
      few = small.few_protocols;
    })
