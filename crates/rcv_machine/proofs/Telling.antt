-- The machine goes through what the grammar derives, or stops with the least code that holds.
use Rattle.std.proofs.Common.{◌≡◌, ◌≤◌, ℕ, ◌+◌, Bool, true, false, codes, List, [], ◌∷◌, ◌++◌, length, refl, sym, ap, ◌∙◌, arith, length-append, inl, inr, ⊎_elim, is_none, ◌-◌, nat_le, not, ◌||◌, drop, Option, Some, None, Decides}
use Rattle.std.proofs.lemmas.List.{drop_all}
use Rattle.std.proofs.lemmas.Bool.Decides.{Decides-like, nat_tests}
use Rattle.std.proofs.Math.Bool.{or-false}
use Rattle.rcv_machine.specs.Words.{Global, Protocol, Role, From, To, Choice, At, Or, Rec, Continue, Par, And, Do, Open, Close, Left, Right, Comma, Semicolon, Less, Greater, AfterContinue, NotYet, NoName, Twice, SelfMessage, TooMany, Shared, Symbol, Is, Word, Text}
use Rattle.rcv_machine.specs.Words.{Written, NoStmt, AMessage, AChoice, ARec, AContinue, APar, ADo, Blocks, NoBlock, ABlock, dotted, names_behind, sort_list, roles_behind, decls, stmts, blocks_behind, IsBegun, IsProper, AreProper, AreDecls, WrittenProtocol, declared, protocols, AreProperBodies, IsDerived, place_of}
use Rattle.rcv_machine.specs.Words.{is_among, named_since_par, is_beside, Standing, standing, is_at_name, AsNewProtocol, AsNewRole, AsAlias, AsActor, AsReceiver, AsArgument, AsTarget, AsOther, names_here, protocols_before, roles_before, aliases_before, points_before, listed, sender, open_braces, recs_of, Comes, FromItsStart, IntoRec, IntoChoice, IntoBranch, IsUnguarded, is_behind_continue, Decl}
use Rattle.rcv_machine.specs.Words.{Named, nobody, with_role, Place, Item, This, MoreModules, Decls, RoleName, Sorts, MoreSorts, Receiver, MoreReceivers, Opening, First, Rest, More, Lane, Later, Argument, MoreArguments, ProtocolName, MoreProtocols, State, known, anew, argues, Outcome, On, unless, by_place, receives, after_statement, beside, inside, inside_rec, is_open, outermost, awaited}
use Rattle.rcv_machine.proofs.Knowing.{state_at, ToldBy, Told, recent, Reaches, Shares, Fits, Here, InList, InCall, judged, judged_name, no_walk, kept_name, kept_called, kept_quiet}
use Rattle.rcv_machine.proofs.Naming.{or_left, among_more, recent_more, unknown, same_place, one_more, origin}

-- where the same blocks are open, behind a sign
abbrev Behind : Symbol → List Item → List (List Symbol) → List Symbol → Type 0
Behind t k braces us = (next : List Symbol) → open_braces next ≡ braces → Told k (t ∷ next) us

dotted_told : (ns : List (List ℕ)) (k : List Item) (back us : List Symbol) → is_behind_continue (Is Semicolon ∷ back) ≡ false
    → ((next : List Symbol) → open_braces next ≡ open_braces back → aliases_before next ≡ aliases_before back
    → is_behind_continue (Is Semicolon ∷ next) ≡ false → Told k (Is Semicolon ∷ next) us)
    → Told (MoreModules ∷ k) back (dotted ns (Is Semicolon ∷ us))
dotted_told [] k back us unended next = kept_quiet refl (next back refl refl unended)
dotted_told (n ∷ ns) k back us unended next = kept_quiet refl (kept_name n refl refl (dotted_told ns k _ us refl next))

decls_told : (ds : List Decl) (aliases : List (List ℕ)) (k : List Item) (back us : List Symbol) → AreDecls ds
    → aliases ≡ aliases_before back → is_behind_continue (Is Semicolon ∷ back) ≡ false → Behind (Is Global) k (open_braces back) us
    → Told (Decls aliases ∷ k) (Is Semicolon ∷ back) (decls ds (Is Global ∷ us))
decls_told [] aliases k back us are before unended next = λ ts.
    judged (Is Semicolon ∷ back) (Is Global) ts (anew (state_at back)) k (λ j. Told j (Is Global ∷ Is Semicolon ∷ back) us) _ false refl
    no_walk refl (λ l l'. next (Is Semicolon ∷ back) refl)
decls_told (d ∷ ds) aliases k back us are before unended next =
    let at = Word (codes "as") ∷ Text d.file ∷ Is From ∷ Text d.extern_name ∷ Is Greater ∷ Word d.schema ∷ Is Less
    ∷ Word d.word ∷ Is Semicolon ∷ back in
    rw (are.0, before)
    (kept_name d.word refl unended (kept_quiet refl (kept_name d.schema refl refl (kept_quiet refl (kept_quiet refl
    (kept_quiet refl (kept_quiet refl (kept_name (codes "as") refl refl (λ ts.
    judged_name AsAlias false at d.alias ts (state_at at) _ _ refl refl refl
    (λ f. kept_quiet refl (decls_told ds (aliases_before back ++ d.alias ∷ []) k _ us are.1 refl refl next)))))))))))

roles_told : (ns : List (List ℕ)) (n : List ℕ) (k : List Item) (back us : List Symbol) → standing back ≡ AsNewRole
    → is_behind_continue back ≡ false → Behind (Is Right) k (open_braces back) us
    → Told (RoleName ∷ k) back (Word n ∷ roles_behind ns (Is Right ∷ us))
roles_told [] n k back us stands unended next ts =
    judged_name AsNewRole false back n ts _ _ _ stands unended (rw stands refl) (λ l. kept_quiet refl (next _ refl))
roles_told (m ∷ ns) n k back us stands unended next ts =
    judged_name AsNewRole false back n ts _ _ _ stands unended (rw stands refl)
    (λ l. kept_quiet refl (kept_quiet refl (roles_told ns m k (Is Role ∷ Is Comma ∷ Word n ∷ back) us refl refl next)))

-- ---- the names of a message

sorts_told : (ns : List (List ℕ)) (k : List Item) (back us : List Symbol) → standing (Is Comma ∷ back) ≡ AsOther
    → Behind (Is Right) k (open_braces back) us → Told (MoreSorts ∷ k) back (names_behind ns (Is Right ∷ us))
sorts_told [] k back us plain next = kept_quiet refl (next back refl)
sorts_told (n ∷ ns) k back us plain next = kept_quiet refl (kept_name n plain refl (sorts_told ns k _ us (rw plain refl) next))

list_told : (ns : List (List ℕ)) (k : List Item) (back us : List Symbol) → standing back ≡ AsOther → is_behind_continue back ≡ false
    → Behind (Is Right) k (open_braces back) us → Told (Sorts ∷ k) back (sort_list ns (Is Right ∷ us))
list_told [] k back us plain unended next = kept_quiet refl (next back refl)
list_told (n ∷ ns) k back us plain unended next = kept_name n plain unended (sorts_told ns k _ us (rw plain refl) next)

-- a name that is to be that of a role
role_told : (st : Standing) (back : List Symbol) (n : List ℕ) (ts : List Symbol) (s : State) (items : ℕ → List Item)
    (next : ℕ → Outcome) (rest : List Item → Type 0) → standing back ≡ st → is_behind_continue back ≡ false
    → s ≡ state_at (Word n ∷ back) → is_at_name NoName st back n ≡ not (is_among n (roles_before back))
    → ((r : ℕ) → place_of (roles_before back) n ≡ Some r → next r ≡ unless (is_at_name Twice st back n) Twice
    (unless (is_at_name SelfMessage st back n) SelfMessage (unless (is_at_name TooMany st back n) TooMany
    (unless (is_at_name Shared st back n) Shared (On s (items r))))))
    → ((r : ℕ) → place_of (roles_before back) n ≡ Some r → rest (items r))
    → ToldBy (by_place (place_of (roles_before back) n) next) back (Word n) ts rest
role_told st back n ts s items next rest stands unended same asks is told = go (place_of (roles_before back) n) refl
  where
    go : (o : Option ℕ) → place_of (roles_before back) n ≡ o → ToldBy (by_place o next) back (Word n) ts rest
    go None e = let absent = asks ∙ unknown n (roles_before back) ∙ ap is_none e in
        rw absent at (judged_name st false back n ts s [] rest stands unended same (λ known. let no = sym known ∙ absent in absurd cc))
    go (Some r) e = rw (is r e) (rw (asks ∙ unknown n (roles_before back) ∙ ap is_none e)
        at (judged_name st false back n ts s (items r) rest stands unended same (λ l. told r e)))

receiver : (back : List Symbol) (n : List ℕ) (ts : List Symbol) (earlier : Named) (from : ℕ) (before : List ℕ) (k : List Item)
    (rest : List Item → Type 0) → InList back earlier from before → is_behind_continue back ≡ false
    → ((r : ℕ) → InList (Is Comma ∷ Word n ∷ back) earlier from (before ++ r ∷ [])
    → rest (MoreReceivers earlier from (before ++ r ∷ []) ∷ k))
    → ToldBy (by_place (place_of (roles_before back) n) (receives (state_at back) earlier from before k n)) back (Word n) ts rest
receiver back n ts earlier from before k rest list unended told = let stands = list.receives in let roles = roles_before back in
    let since = with_role (λ m. is_among m (named_since_par 1 back)) n in
    role_told AsReceiver back n ts (known (protocols_before back) roles (points_before back + 1) since) (λ r. MoreReceivers earlier from (before ++ r ∷ []) ∷ k) _ rest
    stands unended (rw stands (ap (λ (c : ℕ). known (protocols_before back) roles c since) (sym (length-append (names_here AsReceiver back) (n ∷ []))))) refl
    (λ r e. rw (list.has n r e, same_place roles n (sender back) r from e list.is_sender, list.shares n) refl) (λ r e. told r (record {
      receives = rw stands refl;
      ends = λ m. refl;
      is_sender = rw stands list.is_sender;
      has = rw stands (λ m q f. one_more roles n m r q (listed back) before e f (list.has m q f));
      shares = list.shares;
    }))

receivers_told : (ns : List (List ℕ)) (n : List ℕ) (back us : List Symbol) (earlier : Named) (from : ℕ) (before : List ℕ) (k : List Item)
    → InList back earlier from before → is_behind_continue back ≡ false
    → ((m : List ℕ) (next : List Symbol) → open_braces next ≡ open_braces back → is_behind_continue (Is Semicolon ∷ Word m ∷ next) ≡ false
    → Told k (Is Semicolon ∷ Word m ∷ next) us)
    → Told (Receiver earlier from before ∷ k) back (Word n ∷ names_behind ns (Is Semicolon ∷ us))
receivers_told [] n back us earlier from before k list unended next ts =
    receiver back n ts earlier from before k _ list unended (λ r joined. kept_quiet refl (next n back refl (list.ends n)))
receivers_told (m ∷ ns) n back us earlier from before k list unended next ts =
    receiver back n ts earlier from before k _ list unended
    (λ r joined. kept_quiet refl (receivers_told ns m (Is Comma ∷ Word n ∷ back) us earlier from (before ++ r ∷ []) k joined refl next))

-- ---- the arguments of a call

argument : (back : List Symbol) (n : List ℕ) (ts : List Symbol) (earlier : Named) (before : List ℕ) (k : List Item)
    (rest : List Item → Type 0) → InCall back earlier before → is_behind_continue back ≡ false
    → ((r : ℕ) → InCall (Is Comma ∷ Word n ∷ back) earlier (before ++ r ∷ []) → rest (MoreArguments earlier (before ++ r ∷ []) ∷ k))
    → ToldBy (by_place (place_of (roles_before back) n) (argues (state_at back) earlier before k n)) back (Word n) ts rest
argument back n ts earlier before k rest list unended told = let stands = list.argues in let roles = roles_before back in
    let since = with_role (λ m. is_among m (named_since_par 1 back)) n in
    role_told AsArgument back n ts (known (protocols_before back) roles (points_before back) since)
    (λ r. MoreArguments earlier (before ++ r ∷ []) ∷ k) _ rest stands unended (rw stands refl) refl
    (λ r e. rw (list.has n r e, list.shares n) refl) (λ r e. told r (record {
      argues = rw stands refl;
      has = rw stands (λ m q f. one_more roles n m r q (listed back) before e f (list.has m q f));
      shares = list.shares;
    }))

arguments_told : (ns : List (List ℕ)) (n : List ℕ) (back us : List Symbol) (earlier : Named) (before : List ℕ) (k : List Item)
    → InCall back earlier before → is_behind_continue back ≡ false → Behind (Is Right) k (open_braces back) us
    → Told (Argument earlier before ∷ k) back (Word n ∷ names_behind ns (Is Right ∷ us))
arguments_told [] n back us earlier before k list unended next ts =
    argument back n ts earlier before k _ list unended (λ r joined. kept_quiet refl (next _ refl))
arguments_told (m ∷ ns) n back us earlier before k list unended next ts =
    argument back n ts earlier before k _ list unended
    (λ r joined. kept_quiet refl (arguments_told ns m (Is Comma ∷ Word n ∷ back) us earlier (before ++ r ∷ []) k joined refl next))

-- a walk comes into a recursion from its start, and from where one came to the word rec
into_rec : (p : Place) (n : List ℕ) (b : List Symbol) → Reaches p b → Reaches (inside_rec p n) (Is Open ∷ Word n ∷ Is Rec ∷ b)
into_rec p n b r x =
    let more = among_more x n (recent p) in rw (recent_more p n) (
      (λ e. ⊎_elim (λ h. IntoRec x n b ((r x).0 h)) (λ h. rw h (FromItsStart n b)) (more.0 e)),
      (λ c. more.1 (⊎_elim (λ h. inl ((r x).1 h)) (λ h. inr h) (origin c))),
    )

-- walks come to the one where they come to the other
into : (p : Place) (b l : List Symbol) → ((x : List ℕ) → Comes x b → Comes x l) → ((x : List ℕ) → Comes x l → Comes x b)
    → Reaches p b → Reaches p l
into p b l on back r x = Decides-like (is_among x (recent p)) (on x) (back x) (r x)

-- ---- statements and blocks

-- Behind a statement the rest of its block stands, and no walk comes without a message.
here_behind : (p : Place) (ended : Bool) (braces : List (List Symbol)) (back : List Symbol) → standing back ≡ AsOther
    → open_braces back ≡ braces → Fits p braces → ended ≡ is_behind_continue back → ((x : List ℕ) → Comes x back → ⊥)
    → Here (after_statement p ended) braces back
here_behind p ended braces back plain same fits is unreached =
    let gone = drop_all (length p.recs - 0) p.recs (omega arith) in
    let reaches : Reaches (after_statement p ended) back = λ x. rw gone ((λ h. absurd cc), (λ c. absurd (unreached x c))) in
    record { plain = plain; same = same; fits = fits; ended = is; reaches = reaches }

guard : (p : Place) (back : List Symbol) (ts : List Symbol) → Reaches p back → Decides (is_open p ts) (IsUnguarded back (Is Continue) ts)
guard p back (Word x ∷ ts) r = r x
guard p back _ r = no_walk

-- where a statement stands, or none behind the blocks of a choice
as_block : (b : Written) (p : Place) (k : List Item) (back us : List Symbol) → let ts = stmts b (Is Close ∷ us) in
    (IsBegun b → Told (Rest p ∷ k) back ts → Told (First p ∷ k) back ts)
    × (Told (Rest (after_statement p false) ∷ k) back ts → Told (More p ∷ k) back ts × Told (Later p ∷ k) back ts)
as_block NoStmt p k back us = ((λ begun h. absurd begun), (λ h. (h, h)))
as_block _ p k back us = ((λ begun h. h), (λ h. (h, h)))

opening : (b : Written) (p : Place) (k : List Item) (braces : List (List Symbol)) (back us : List Symbol) → IsBegun b
    → open_braces back ≡ braces → p.depth ≡ length braces → p.recs ≡ recs_of (back ∷ braces) → Shares p.earlier (back ∷ braces)
    → 1 ≤ p.depth → Reaches p (Is Open ∷ back)
    → (Here (inside p) (back ∷ braces) (Is Open ∷ back)
    → Told (Rest (inside p) ∷ k) (Is Open ∷ back) (stmts b (Is Close ∷ us)))
    → Told (Opening p ∷ k) back (Is Open ∷ stmts b (Is Close ∷ us))
opening b p k braces back us begun same depth recs shares some reaches told ts =
    let deep : nat_le 32 p.depth ≡ nat_le 32 (length (open_braces back)) = rw same (ap (nat_le 32) depth) in
    rw deep (judged back (Is Open) ts (state_at back) (First (inside p) ∷ k) _ _ false refl no_walk refl
    (λ l l'. (as_block b (inside p) k (Is Open ∷ back) us).0 begun (told
    (record { plain = refl; same = rw same refl; fits = (omega arith, recs, shares, omega arith, λ one. absurd (omega (arith, one, some))); ended = refl; reaches = reaches }))))

-- the roles that are named since the word par
abbrev since_par : List Symbol → Named
since_par back = λ n. is_among n (named_since_par 1 back)

-- a block of a par, behind the word par or and
lane : (b : Written) (p : Place) (k : List Item) (braces : List (List Symbol)) (back us : List Symbol) → IsBegun b
    → open_braces back ≡ braces → Fits p braces → recs_of (back ∷ braces) ≡ recs_of braces → Shares (since_par back) (back ∷ braces)
    → ((x : List ℕ) → Comes x (Is Open ∷ back) → ⊥)
    → (Here (inside (beside p (since_par back))) (back ∷ braces) (Is Open ∷ back)
    → Told (Rest (inside (beside p (since_par back))) ∷ k) (Is Open ∷ back) (stmts b (Is Close ∷ us)))
    → Told (Lane p ∷ k) back (Is Open ∷ stmts b (Is Close ∷ us))
lane b p k braces back us begun same fits recs shares unreached told =
    let gone = drop_all (length p.recs - 0) p.recs (omega arith) in
    let q = beside p (since_par back) in
    let reaches : Reaches q (Is Open ∷ back) = λ x. rw gone ((λ h. absurd cc), (λ c. absurd (unreached x c))) in
    opening b q k braces back us begun same fits.0 (fits.1 ∙ sym recs) shares fits.3 reaches told

one_open : (depth : ℕ) → 1 ≤ depth → nat_le 2 depth ≡ false → depth ≡ 1
one_open depth some shallow = grind (arith, nat_tests)

-- The roles of the blocks before are those that are named since the word par.
lane_shares : (p : Place) (braces : List (List Symbol)) (back : List Symbol) → Fits p braces → p.depth ≡ 1
    → Shares (since_par (Is And ∷ back)) ((Is And ∷ back) ∷ braces)
lane_shares p braces back fits one n =
    let outer : is_beside n braces ≡ false = sym (fits.2 n) ∙ fits.4 one n in
    let depth : length braces ≡ 1 = sym fits.0 ∙ one in
    rw (depth, outer) (sym (or-false (is_among n (named_since_par 1 back))))

-- at the word par in a block, behind which no role is named yet
par_told : (back ts : List Symbol) (ended : Bool) (items : List Item) (rest : List Item → Type 0) → is_behind_continue back ≡ ended
    → (nat_le 2 (length (open_braces back)) ≡ false → rest items)
    → ToldBy (unless ended AfterContinue (unless (nat_le 2 (length (open_braces back)) || nat_le 2 (length (protocols_before back))) NotYet
    (On (known (protocols_before back) (roles_before back) (points_before back) nobody) items))) back (Is Par) ts rest
par_told back ts ended items rest is told = go (nat_le 2 (length (open_braces back))) refl
  where
    all : ToldBy (unless ended AfterContinue (unless (nat_le 2 (length (open_braces back)) || nat_le 2 (length (protocols_before back)))
        NotYet (On (state_at (Is Par ∷ back)) items))) back (Is Par) ts rest
    all = judged back (Is Par) ts (state_at (Is Par ∷ back)) items rest ended false is no_walk refl
        (λ l outer. told (or_left (nat_le 2 (length (open_braces back))) (nat_le 2 (length (protocols_before back))) outer))

    go : (b : Bool) → nat_le 2 (length (open_braces back)) ≡ b
        → ToldBy (unless ended AfterContinue (unless (b || nat_le 2 (length (protocols_before back))) NotYet
        (On (known (protocols_before back) (roles_before back) (points_before back) nobody) items))) back (Is Par) ts rest
    go true e = rw e at all
    go false e = let one : nat_le (length (open_braces back)) 1 ≡ true = grind (arith, nat_tests) in
        rw (e, one) at all

mutual
  stmts_told : (b : Written) (p : Place) (k : List Item) (braces : List (List Symbol)) (back us : List Symbol) → IsProper b
      → Here p braces back → Behind (Is Close) k braces us → Told (Rest p ∷ k) back (stmts b (Is Close ∷ us))
  stmts_told NoStmt p k braces back us is here next = kept_quiet refl (next back here.same)
  stmts_told (AMessage l ss s r rs rest) p k braces back us is here next = λ ts.
      judged_name AsOther p.ended back l ts (state_at back) _ _ here.plain (sym here.ended) (rw here.plain refl) (λ f.
      kept_quiet refl (list_told ss _ _ _ (rw here.plain refl) refl (λ last e. kept_quiet refl (λ ts'.
      let shares : Shares p.earlier (open_braces last) = rw (e, here.same) here.fits.2 in
      role_told AsActor (Is From ∷ Is Right ∷ last) s ts' (state_at (Word s ∷ Is From ∷ Is Right ∷ last))
      (λ q. This (Is To) ∷ Receiver p.earlier q [] ∷ Rest (after_statement p false) ∷ k) _ _ refl refl refl refl (λ q g. rw (shares s) refl) (λ q g.
      kept_quiet refl (receivers_told rs r (Is To ∷ Word s ∷ Is From ∷ Is Right ∷ last) _ p.earlier q [] _
      (record { receives = refl; ends = λ m. refl; is_sender = g; has = λ m q' f. refl; shares = shares }) refl (λ m end same ends.
      stmts_told rest (after_statement p false) k braces (Is Semicolon ∷ Word m ∷ end) us is
      (here_behind p false braces _ refl (same ∙ e ∙ here.same) here.fits (sym ends) (λ x c. origin c)) next)))))))
  stmts_told (AChoice s f os rest) p k braces back us is here next = λ ts. let at = Word s ∷ Is At ∷ Is Choice ∷ back in
      let reaches = into p back (Is Open ∷ at) (λ x c. IntoChoice x s back c) (λ x c. origin c) here.reaches in
      judged back (Is Choice) ts (state_at back) _ _ p.ended false (sym here.ended) no_walk refl (λ l l'. kept_quiet refl (λ ts'.
      let shares : Shares p.earlier (open_braces back) = rw here.same here.fits.2 in
      role_told AsActor (Is At ∷ Is Choice ∷ back) s ts' (state_at at) (λ q. Opening p ∷ More p ∷ k) _ _ refl refl refl refl
      (λ q g. rw (shares s) refl) (λ q g. opening f p (More p ∷ k) braces at _ is.0 here.same here.fits.0 here.fits.1 here.fits.2 here.fits.3 reaches
      (λ here'. stmts_told f (inside p) (More p ∷ k) (at ∷ braces) (Is Open ∷ at) _ is.1 here'
      (λ last e. others_told os rest p k braces at last us is.2 e here.fits reaches
      (λ end same. stmts_told rest (after_statement p false) k braces (Is Close ∷ end) us is.3
      (here_behind p false braces (Is Close ∷ end) refl same here.fits refl (λ x c. origin c)) next))))))
  stmts_told (ARec m body rest) p k braces back us is here next = λ ts. let at = Word m ∷ Is Rec ∷ back in
      let q = inside_rec p m in judged back (Is Rec) ts (state_at back) _ _ p.ended false (sym here.ended) no_walk refl
      (λ l l'. kept_name m refl refl (opening body q (Rest (after_statement p false) ∷ k) braces at _ is.0 here.same here.fits.0
      (ap (λ (z : List (List ℕ)). z ++ m ∷ []) here.fits.1) here.fits.2 here.fits.3 (into_rec p m back here.reaches)
      (λ here'. stmts_told body (inside q) (Rest (after_statement p false) ∷ k) (at ∷ braces) (Is Open ∷ at) _ is.1 here'
      (λ end e. stmts_told rest (after_statement p false) k braces (Is Close ∷ end) us is.2
      (here_behind p false braces (Is Close ∷ end) refl (ap (drop 1) e) here.fits refl (λ x c. origin c)) next))))
  stmts_told (AContinue m rest) p k braces back us is here next = λ ts. let at = Is Continue ∷ back in
      let recs : is_among m p.recs ≡ is_among m (recs_of (open_braces back)) = rw here.same (ap (is_among m) here.fits.1) in
      judged back (Is Continue) ts (state_at back) _ _ p.ended (is_open p ts) (sym here.ended) (guard p back ts here.reaches) refl
      (λ l l' ts'. rw recs (judged_name AsTarget false at m ts' (state_at at) _ _ refl refl refl
      (λ f. kept_quiet refl (stmts_told rest (after_statement p true) k braces (Is Semicolon ∷ Word m ∷ at) us is
      (here_behind p true braces _ refl here.same here.fits refl (λ x c. origin c)) next))))
  stmts_told (APar f g os rest) p k braces back us is here next = λ ts. let at = Is Par ∷ back in
      let deep : nat_le 2 p.depth ≡ nat_le 2 (length (open_braces back)) = rw here.same (ap (nat_le 2) here.fits.0) in
      rw deep (par_told back ts p.ended (Lane p ∷ This (Is And) ∷ Lane p ∷ Later p ∷ k) _ (sym here.ended) (λ outer.
      let shallow : nat_le 2 p.depth ≡ false = deep ∙ outer in
      let one : p.depth ≡ 1 = one_open p.depth here.fits.3 shallow in
      let few : nat_le (length (open_braces back)) 1 ≡ true = grind (arith, nat_tests) in
      let first : Shares (since_par at) (at ∷ braces) = λ n. rw few (sym (here.fits.4 one n) ∙ here.fits.2 n) in
      lane f p (This (Is And) ∷ Lane p ∷ Later p ∷ k) braces at _ is.0 here.same here.fits refl first (λ x c. origin c)
      (λ here'. stmts_told f (inside (beside p (since_par at))) (This (Is And) ∷ Lane p ∷ Later p ∷ k) (at ∷ braces) (Is Open ∷ at) _ is.1 here'
      (λ last e. let and = Is And ∷ Is Close ∷ last in
      kept_quiet refl (lane g p (Later p ∷ k) braces and _ is.2 (ap (drop 1) e) here.fits refl
      (lane_shares p braces (Is Close ∷ last) here.fits one) (λ x c. origin c)
      (λ here''. stmts_told g (inside (beside p (since_par and))) (Later p ∷ k) (and ∷ braces) (Is Open ∷ and) _ is.3 here''
      (λ last' e'. lanes_told os rest p k braces and last' us is.4 e' here.fits one
      (λ end same. stmts_told rest (after_statement p false) k braces (Is Close ∷ end) us is.5
      (here_behind p false braces (Is Close ∷ end) refl same here.fits refl (λ x c. origin c)) next))))))))
  stmts_told (ADo m r rs rest) p k braces back us is here next = λ ts. let at = Is Left ∷ Word m ∷ Is Do ∷ back in
      judged back (Is Do) ts (state_at back) _ _ p.ended false (sym here.ended) no_walk refl (λ l l'.
      kept_called m (kept_quiet refl (arguments_told rs r at _ p.earlier [] _ (record { argues = refl; has = λ n q g. refl; shares = rw here.same here.fits.2 }) refl
      (λ end same. kept_quiet refl (stmts_told rest (after_statement p false) k braces (Is Semicolon ∷ Is Right ∷ end) us is
      (here_behind p false braces _ refl (same ∙ here.same) here.fits refl (λ x c. origin c)) next)))))

  others_told : (os : Blocks) (b : Written) (p : Place) (k : List Item) (braces : List (List Symbol)) (first back us : List Symbol)
      → AreProper os → open_braces back ≡ first ∷ braces → Fits p braces → Reaches p (Is Open ∷ first)
      → ((end : List Symbol) → open_braces (Is Close ∷ end) ≡ braces
      → Told (Rest (after_statement p false) ∷ k) (Is Close ∷ end) (stmts b (Is Close ∷ us)))
      → Told (More p ∷ k) (Is Close ∷ back) (blocks_behind Or os (stmts b (Is Close ∷ us)))
  others_told NoBlock b p k braces first back us are e fits reaches next =
      ((as_block b p k (Is Close ∷ back) us).1 (next back (ap (drop 1) e))).0
  others_told (ABlock f os) b p k braces first back us are e fits reaches next = let at = Is Or ∷ Is Close ∷ back in
      let again = into p (Is Open ∷ first) (Is Open ∷ at) (λ x c. IntoBranch x back first braces e c)
      (λ x c. let o = origin c in rw e at o) reaches in
      kept_quiet refl (opening f p (More p ∷ k) braces at _ are.0 (ap (drop 1) e) fits.0 fits.1 fits.2 fits.3 again
      (λ here'. stmts_told f (inside p) (More p ∷ k) (at ∷ braces) (Is Open ∷ at) _ are.1 here'
      (λ last e'. others_told os b p k braces at last us are.2 e' fits again next)))

  lanes_told : (os : Blocks) (b : Written) (p : Place) (k : List Item) (braces : List (List Symbol)) (first back us : List Symbol)
      → AreProper os → open_braces back ≡ first ∷ braces → Fits p braces → p.depth ≡ 1
      → ((end : List Symbol) → open_braces (Is Close ∷ end) ≡ braces
      → Told (Rest (after_statement p false) ∷ k) (Is Close ∷ end) (stmts b (Is Close ∷ us)))
      → Told (Later p ∷ k) (Is Close ∷ back) (blocks_behind And os (stmts b (Is Close ∷ us)))
  lanes_told NoBlock b p k braces first back us are e fits one next =
      ((as_block b p k (Is Close ∷ back) us).1 (next back (ap (drop 1) e))).1
  lanes_told (ABlock f os) b p k braces first back us are e fits one next = let at = Is And ∷ Is Close ∷ back in
      kept_quiet refl (lane f p (Later p ∷ k) braces at _ are.0 (ap (drop 1) e) fits refl
      (lane_shares p braces (Is Close ∷ back) fits one) (λ x c. origin c)
      (λ here'. stmts_told f (inside (beside p (since_par at))) (Later p ∷ k) (at ∷ braces) (Is Open ∷ at) _ are.1 here'
      (λ last e'. lanes_told os b p k braces at last us are.2 e' fits one next)))

-- a protocol behind its two words
declared_told : (p : WrittenProtocol) (back us : List Symbol) → IsProper p.body → standing back ≡ AsNewProtocol
    → is_behind_continue back ≡ false → open_braces back ≡ []
    → ((end : List Symbol) → open_braces (Is Close ∷ end) ≡ [] → Told (MoreProtocols ∷ []) (Is Close ∷ end) us)
    → Told (ProtocolName ∷ []) back (declared p us)
declared_told p back us proper stands unended braces next = λ ts.
    judged_name AsNewProtocol false back p.name ts _ _ _ stands unended (rw stands refl) (λ f. kept_quiet refl (kept_quiet refl
    (roles_told p.other_roles p.role opens (Is Role ∷ Is Left ∷ Word p.name ∷ back)
    (Is Open ∷ stmts p.body (Is Close ∷ us)) refl refl (λ end e. body end (e ∙ braces)))))
  where
    opens : List Item
    opens = This (Is Open) ∷ Rest outermost ∷ MoreProtocols ∷ []

    body : (last : List Symbol) → open_braces last ≡ [] → Told opens (Is Right ∷ last) (Is Open ∷ stmts p.body (Is Close ∷ us))
    body last e ts = let at = Is Right ∷ last in
        let none : Reaches outermost (Is Open ∷ at) = λ x. ((λ h. absurd cc), (λ c. absurd (origin c))) in
        rw e at (judged at (Is Open) ts (state_at at) (Rest outermost ∷ MoreProtocols ∷ [])
        (λ j. Told j (Is Open ∷ at) (stmts p.body (Is Close ∷ us)))
        _ false refl no_walk refl (λ l l'. stmts_told p.body outermost (MoreProtocols ∷ []) (at ∷ []) (Is Open ∷ at) us proper
        (record { plain = refl; same = rw e refl; fits = (refl, refl, (λ n. refl), omega arith, λ one n. refl); ended = refl; reaches = none })
        (λ end same. next end (ap (drop 1) same))))

-- the protocols behind one
protocols_told : (ps : List WrittenProtocol) (back : List Symbol) → AreProperBodies ps → open_braces back ≡ []
    → Told (MoreProtocols ∷ []) back (protocols ps [])
protocols_told [] back proper braces = refl
protocols_told (p ∷ ps) back proper braces = λ ts.
    judged back (Is Global) ts (anew (state_at back)) (This (Is Protocol) ∷ ProtocolName ∷ [])
    (λ j. Told j (Is Global ∷ back) (Is Protocol ∷ declared p (protocols ps []))) _ false refl no_walk refl
    (λ l l'. kept_quiet refl (declared_told p (Is Protocol ∷ Is Global ∷ back) (protocols ps []) proper.0 refl refl braces
    (λ end e. protocols_told ps (Is Close ∷ end) proper.1 e)))

pub derived_told : (ts : List Symbol) → IsDerived ts → Told awaited [] ts
derived_told ts (s, (are, proper, is)) = rw is
    (kept_quiet refl (kept_name s.module_name refl refl (dotted_told s.module_more _ _ _ refl (λ next braces aliases unended.
    decls_told s.declared [] _ _ _ are (sym aliases) unended (λ last same.
    kept_quiet refl (declared_told s.first (Is Protocol ∷ Is Global ∷ last) (protocols s.others []) proper.0 refl refl (same ∙ braces)
    (λ end e. protocols_told s.others (Is Close ∷ end) proper.1 e)))))))
