-- A count along a text, statement by statement.
use Rattle.std.proofs.Common.{◌≡◌, ℕ, ◌+◌, min, max, Option, Some, List, [], ◌∷◌, ◌++◌, map, refl, sym, ap, subst, ◌∙◌, append-nil, append_assoc}
use Rattle.std.specs.Prelude.{Result, Ok, Err, OnOk}
use Rattle.std.proofs.lemmas.List.{map-append}
use Rattle.rcv_tree.specs.declared.statement.Stmt.{Stmt}
use Rattle.rcv_tree.specs.declared.statement.Stmt.TheVariants.{Message, Choice, Rec, Continue, Par, Do}
use Rattle.rcv_tree.specs.declared.statement.Block.{Block}
use Rattle.rcv_tree.specs.declared.statement.Blocks.{Blocks}
use Rattle.rcv_model.specs.Text.{Body, End, Single, Choose, Loop, Again, Parallel, Call, Bodies, NoMore, Or, stmt_body, body_of, bodies_of}
use Rattle.rcv_model.proofs.Text.{stmt_body-Message, stmt_body-Choice, stmt_body-Rec, stmt_body-Continue, stmt_body-Par, stmt_body-Do}
use Rattle.rcv_module.specs.Parts.{Part, Site, place, calls, calls_of}
use Rattle.rcv_module.specs.Sizes as exact
use Rattle.rcv_module.specs.Sizes.{Passes, AllPass, one_point, opened, joined}
use Rattle.rcv_do.specs.declared.sizes.Size.{Size}
use Rattle.rcv_do.specs.declared.sizes.Count.{Count}
use Rattle.rcv_do.specs.Code.{parts_in, known_at}
use Rattle.rcv_do.specs.Counting.{capped, IsSizeOf, AreSizesOf, AreKnown, Went, IsReady, Stays, PassesBlock, PassesBlocks, PassesStmt}
use Rattle.rcv_do.proofs.Capped.{cap_add, cap_sum, cap_one, cap_max, cap_deep, size_is}

known_left : (parts : List Part) (known : List (Option Size)) (xs ys : List Site) → AreKnown parts known (xs ++ ys) → AreKnown parts known xs
known_left parts known [] ys k = tt
known_left parts known (x ∷ xs) ys k = (k.0, known_left parts known xs ys k.1)

known_right : (parts : List Part) (known : List (Option Size)) (xs ys : List Site) → AreKnown parts known (xs ++ ys) → AreKnown parts known ys
known_right parts known [] ys k = k
known_right parts known (x ∷ xs) ys k = known_right parts known xs ys k.1

-- the same count with another size
abbrev pub with_now : Count → Size → Count
with_now c z = record c { now = z }

-- A statement says this in front of each rest.
abbrev Says : Stmt → (Body → Body) → Type 0
Says stmt front = (rest : Body) → stmt_body stmt rest ≡ front rest

pub again_counted : (old : Count) (depth : ℕ) (stmt : Stmt) (name : List ℕ) → stmt ≡ Continue name → PassesStmt old depth stmt old
again_counted old depth stmt name e = (
  (refl, refl),
  λ d s rest r. (
    s,
    [],
    record { now = r.3; more = sym (append-nil old.ends.items) },
    subst (λ b. AreKnown (parts_in old.parts) old.known.now (calls 0 b)) (says rest) r.1,
    λ more u p. subst (λ b. Passes (parts_in old.parts) d s b more u) (sym (says rest)) (exact.again p),
  ),
)
  where
    says : Says stmt (λ rest. Again name rest)
    says rest = ap (λ x. stmt_body x rest) e ∙ stmt_body-Continue name rest

pub message_counted : (old : Count) (depth : ℕ) (stmt : Stmt) (label : List ℕ) (sorts : List (List ℕ)) (a b p : ℕ) (z : Size)
    → stmt ≡ Message label sorts a b p → z.points ≡ min (old.now.points + 1) 257 → z.blocks ≡ old.now.blocks
    → PassesStmt old depth stmt (with_now old z)
message_counted old depth stmt label sorts a b p z e points blocks = (
  (refl, refl),
  λ d s rest r. (
    one_point s,
    [],
    record {
      now = size_is z (min (s.points + 1) 257) (min s.blocks 33) (points ∙ ap (λ (n : Size). min (n.points + 1) 257) r.3 ∙ cap_add s.points 1) (blocks ∙ ap (λ (n : Size). n.blocks) r.3);
      more = sym (append-nil old.ends.items);
    },
    subst (λ b. AreKnown (parts_in old.parts) old.known.now (calls 0 b)) (says rest) r.1,
    λ more u q. subst (λ b. Passes (parts_in old.parts) d s b more u) (sym (says rest)) (exact.message q),
  ),
)
  where
    says : Says stmt (λ rest. Single label sorts a b p rest)
    says rest = ap (λ x. stmt_body x rest) e ∙ stmt_body-Message label sorts a b p rest

-- one block more is open
deeper_is : (depth inner d : ℕ) → inner ≡ min (depth + 1) 33 → depth ≡ min d 33 → inner ≡ min (d + 1) 33
deeper_is depth inner d e f = e ∙ ap (λ n. min (n + 1) 33) f ∙ cap_one d

opened_is : (z now : Size) (inner d : ℕ) (s : exact.Size) → z.points ≡ now.points → z.blocks ≡ max now.blocks inner → inner ≡ min d 33 → now ≡ capped s → z ≡ capped (opened s d)
opened_is z now inner d s points blocks e f =
    size_is z (min s.points 257) (min (max s.blocks d) 33) (points ∙ ap (λ (n : Size). n.points) f)
    (blocks ∙ ap (λ (n : Size). max n.blocks inner) f ∙ ap (λ n. max (min s.blocks 33) n) e ∙ cap_max s.blocks d)

pub rec_counted : (old new : Count) (depth inner : ℕ) (stmt : Stmt) (name : List ℕ) (b : Block) (z : Size)
    → stmt ≡ Rec name b → inner ≡ min (depth + 1) 33 → z.points ≡ old.now.points → z.blocks ≡ max old.now.blocks inner
    → PassesBlock (with_now old z) inner (body_of b) new → PassesStmt old depth stmt new
rec_counted old new depth inner stmt name b z e deep points blocks x = (
  x.0,
  λ d s rest r.
      let k = subst (λ b. AreKnown (parts_in old.parts) old.known.now (calls 0 b)) (says rest) r.1 in
      let i = deeper_is depth inner d deep r.2 in
      let y = x.1 (d + 1) (opened s (d + 1)) (r.0, known_left (parts_in old.parts) old.known.now (calls 0 (body_of b)) (calls 0 rest) k, i, opened_is z old.now inner (d + 1) s points blocks i r.3) in (
        y.0,
        y.1,
        record { now = y.3.now; more = y.3.more },
        known_right (parts_in old.parts) old.known.now (calls 0 (body_of b)) (calls 0 rest) k,
        λ more u q. subst (λ b. Passes (parts_in old.parts) d s b (y.1 ++ more) u) (sym (says rest)) (exact.loop y.2 q),
      ),
)
  where
    says : Says stmt (λ rest. Loop name (body_of b) rest)
    says rest = ap (λ x. stmt_body x rest) e ∙ stmt_body-Rec name b rest

pub choice_counted : (old new : Count) (depth inner : ℕ) (stmt : Stmt) (subject : ℕ) (bs : Blocks)
    → stmt ≡ Choice subject bs → inner ≡ min (depth + 1) 33 → PassesBlocks old inner (bodies_of bs) new → PassesStmt old depth stmt new
choice_counted old new depth inner stmt subject bs e deep x = (
  x.0,
  λ d s rest r.
      let k = subst (λ b. AreKnown (parts_in old.parts) old.known.now (calls 0 b)) (says rest) r.1 in
      let y = x.1 (d + 1) s (r.0, known_left (parts_in old.parts) old.known.now (calls_of 0 (bodies_of bs)) (calls 0 rest) k, deeper_is depth inner d deep r.2, r.3) in (
        y.0,
        y.1,
        record { now = y.3.now; more = y.3.more },
        known_right (parts_in old.parts) old.known.now (calls_of 0 (bodies_of bs)) (calls 0 rest) k,
        λ more u q. subst (λ b. Passes (parts_in old.parts) d s b (y.1 ++ more) u) (sym (says rest)) (exact.choice y.2 q),
      ),
)
  where
    says : Says stmt (λ rest. Choose subject (bodies_of bs) rest)
    says rest = ap (λ x. stmt_body x rest) e ∙ stmt_body-Choice subject bs rest

pub par_counted : (old new : Count) (depth inner : ℕ) (stmt : Stmt) (bs : Blocks)
    → stmt ≡ Par bs → inner ≡ min (depth + 1) 33 → PassesBlocks old inner (bodies_of bs) new → PassesStmt old depth stmt new
par_counted old new depth inner stmt bs e deep x = (
  x.0,
  λ d s rest r.
      let k = subst (λ b. AreKnown (parts_in old.parts) old.known.now (calls 0 b)) (says rest) r.1 in
      let y = x.1 (d + 1) s (r.0, known_left (parts_in old.parts) old.known.now (calls_of 0 (bodies_of bs)) (calls 0 rest) k, deeper_is depth inner d deep r.2, r.3) in (
        y.0,
        y.1,
        record { now = y.3.now; more = y.3.more },
        known_right (parts_in old.parts) old.known.now (calls_of 0 (bodies_of bs)) (calls 0 rest) k,
        λ more u q. subst (λ b. Passes (parts_in old.parts) d s b (y.1 ++ more) u) (sym (says rest)) (exact.beside y.2 q),
      ),
)
  where
    says : Says stmt (λ rest. Parallel (bodies_of bs) rest)
    says rest = ap (λ x. stmt_body x rest) e ∙ stmt_body-Par bs rest

-- What isn't known isn't called.
pub unknown_counted : (old : Count) (depth : ℕ) (stmt : Stmt) (name roles : List ℕ) → stmt ≡ Do name roles
    → ((i : ℕ) (z : Size) → place (parts_in old.parts) name ≡ Some i → known_at old.known.now i ≡ Some z → ⊥)
    → PassesStmt old depth stmt old
unknown_counted old depth stmt name roles e never = (
  (refl, refl),
  λ d s rest r.
      let k = subst (λ b. AreKnown (parts_in old.parts) old.known.now (calls 0 b)) (says rest) r.1 in absurd (never k.0.0 k.0.1 k.0.2 k.0.3),
)
  where
    says : Says stmt (λ rest. Call name roles rest)
    says rest = ap (λ x. stmt_body x rest) e ∙ stmt_body-Do name roles rest

pub call_counted : (old new : Count) (depth target : ℕ) (stmt : Stmt) (name roles : List ℕ) (size z : Size) → stmt ≡ Do name roles
    → place (parts_in old.parts) name ≡ Some target → known_at old.known.now target ≡ Some size
    → z.points ≡ min (old.now.points + size.points) 257 → z.blocks ≡ max old.now.blocks (min (depth + size.blocks) 33)
    → parts_in new.parts ≡ parts_in old.parts → new.known.now ≡ old.known.now → new.now ≡ z → new.ends.items ≡ old.ends.items ++ z ∷ []
    → PassesStmt old depth stmt new
call_counted old new depth target stmt name roles size z e named known points blocks same_parts same_known same_now pushed = (
  (same_parts, same_known),
  λ d s rest r.
      let k = subst (λ b. AreKnown (parts_in old.parts) old.known.now (calls 0 b)) (says rest) r.1 in
      let x : IsSizeOf (parts_in old.parts) target size = r.0 target size known in
      let w = x.whole in
      let kept = size_is z (min (s.points + w.points) 257) (min (max s.blocks (d + w.blocks)) 33)
      (points ∙ ap (λ (n : Size). min (n.points + size.points) 257) r.3 ∙ ap (λ (n : Size). min (min s.points 257 + n.points) 257) x.kept ∙ cap_sum s.points w.points)
      (blocks ∙ ap (λ (n : Size). max n.blocks (min (depth + size.blocks) 33)) r.3 ∙ ap (λ (n : ℕ). max (min s.blocks 33) (min (n + size.blocks) 33)) r.2 ∙ ap (λ (n : Size). max (min s.blocks 33) (min (min d 33 + n.blocks) 33)) x.kept ∙ cap_deep s.blocks d w.blocks) in (
        joined s d w,
        joined s d w ∷ [],
        record { now = same_now ∙ kept; more = pushed ∙ ap (λ y. old.ends.items ++ y ∷ []) kept },
        k.1,
        λ more u q. subst (λ b. Passes (parts_in old.parts) d s b (joined s d w ∷ more) u) (sym (says rest)) (exact.call x.part (target, named, x.is) x.passes q),
      ),
)
  where
    says : Says stmt (λ rest. Call name roles rest)
    says rest = ap (λ x. stmt_body x rest) e ∙ stmt_body-Do name roles rest

pub on_ok : {A E P Q : Type 0} (r : Result A E) → (P → Q) → OnOk r P → OnOk r Q
on_ok (Ok x) f h = f h
on_ok (Err e) f h = tt

-- ---- one after another

-- The count has come to what is left of a block.
abbrev pub SoFar : Count → ℕ → Body → Count → Body → Type 0
SoFar old depth whole now left =
    Stays old now × ((d : ℕ) (s : exact.Size) → IsReady old (calls 0 whole) depth d s
    → (t : exact.Size) × (ends : List exact.Size) × Went old now s t ends × AreKnown (parts_in old.parts) old.known.now (calls 0 left)
    × ((more : List exact.Size) (u : exact.Size) → Passes (parts_in old.parts) d t left more u → Passes (parts_in old.parts) d s whole (ends ++ more) u))

pub at_first : (old : Count) (depth : ℕ) (whole left : Body) → left ≡ whole → SoFar old depth whole old left
at_first old depth whole left e = (
  (refl, refl),
  λ d s r. (
    s,
    [],
    record { now = r.3; more = sym (append-nil old.ends.items) },
    subst (λ b. AreKnown (parts_in old.parts) old.known.now (calls 0 b)) (sym e) r.1,
    λ more u p. subst (λ b. Passes (parts_in old.parts) d s b more u) e p,
  ),
)

went_on : (old now new : Count) (s t u : exact.Size) (xs ys : List exact.Size) → Went old now s t xs → Went now new t u ys → Went old new s u (xs ++ ys)
went_on old now new s t u xs ys a b = record {
  now = b.now;
  more = b.more ∙ ap (λ l. l ++ map capped ys) a.more ∙ append_assoc old.ends.items (map capped xs) (map capped ys) ∙ ap (λ l. old.ends.items ++ l) (sym (map-append capped xs ys));
}

pub next_counted : (old now new : Count) (depth : ℕ) (whole left rest : Body) (stmt : Stmt) → left ≡ stmt_body stmt rest
    → SoFar old depth whole now left → PassesStmt now depth stmt new → SoFar old depth whole new rest
next_counted old now new depth whole left rest stmt e a b = (
  (b.0.0 ∙ a.0.0, b.0.1 ∙ a.0.1),
  λ d s r.
      let x = a.1 d s r in
      let ready : IsReady now (calls 0 (stmt_body stmt rest)) depth d x.0 = (
        subst (λ ps. AreSizesOf ps now.known.now) (sym a.0.0) (subst (AreSizesOf (parts_in old.parts)) (sym a.0.1) r.0),
        subst (λ ps. AreKnown ps now.known.now (calls 0 (stmt_body stmt rest))) (sym a.0.0)
            (subst (λ k. AreKnown (parts_in old.parts) k (calls 0 (stmt_body stmt rest))) (sym a.0.1)
            (subst (λ b. AreKnown (parts_in old.parts) old.known.now (calls 0 b)) e x.3)),
        r.2,
        x.2.now,
      ) in
      let y = b.1 d x.0 rest ready in (
        y.0,
        x.1 ++ y.1,
        went_on old now new s x.0 y.0 x.1 y.1 x.2 y.2,
        subst (λ ps. AreKnown ps old.known.now (calls 0 rest)) a.0.0 (subst (λ k. AreKnown (parts_in now.parts) k (calls 0 rest)) a.0.1 y.3),
        λ more u p.
            let q : Passes (parts_in old.parts) d x.0 (stmt_body stmt rest) (y.1 ++ more) u =
            subst (λ ps. Passes ps d x.0 (stmt_body stmt rest) (y.1 ++ more) u) a.0.0 (y.4 more u (subst (λ ps. Passes ps d y.0 rest more u) (sym a.0.0) p)) in
            subst (λ l. Passes (parts_in old.parts) d s whole l u) (sym (append_assoc x.1 y.1 more))
            (x.4 (y.1 ++ more) u (subst (λ b. Passes (parts_in old.parts) d x.0 b (y.1 ++ more) u) (sym e) q)),
      ),
)

pub block_counted : (old new : Count) (depth : ℕ) (whole left : Body) → left ≡ End → SoFar old depth whole new left → PassesBlock old depth whole new
block_counted old new depth whole left e a = (
  a.0,
  λ d s r.
      let x = a.1 d s r in
      let p : Passes (parts_in old.parts) d x.0 left [] x.0 = subst (λ b. Passes (parts_in old.parts) d x.0 b [] x.0) (sym e) exact.at_end in
      (x.0, x.1, subst (λ l. Passes (parts_in old.parts) d s whole l x.0) (append-nil x.1) (x.4 [] x.0 p), x.2),
)

-- The same along blocks.
abbrev pub AllSoFar : Count → ℕ → Bodies → Count → Bodies → Type 0
AllSoFar old depth whole now left =
    Stays old now × ((d : ℕ) (s : exact.Size) → IsReady old (calls_of 0 whole) depth d s
    → (t : exact.Size) × (ends : List exact.Size) × Went old now s t ends × AreKnown (parts_in old.parts) old.known.now (calls_of 0 left)
    × ((more : List exact.Size) (u : exact.Size) → AllPass (parts_in old.parts) d t left more u → AllPass (parts_in old.parts) d s whole (ends ++ more) u))

pub all_at_first : (old : Count) (depth : ℕ) (whole left : Bodies) → left ≡ whole → AllSoFar old depth whole old left
all_at_first old depth whole left e = (
  (refl, refl),
  λ d s r. (
    s,
    [],
    record { now = r.3; more = sym (append-nil old.ends.items) },
    subst (λ b. AreKnown (parts_in old.parts) old.known.now (calls_of 0 b)) (sym e) r.1,
    λ more u p. subst (λ b. AllPass (parts_in old.parts) d s b more u) e p,
  ),
)

pub next_block_counted : (old now new : Count) (depth : ℕ) (whole left rest : Bodies) (b : Body) (z : Size) → left ≡ Or b rest
    → z.points ≡ now.now.points → z.blocks ≡ max now.now.blocks depth
    → AllSoFar old depth whole now left → PassesBlock (with_now now z) depth b new → AllSoFar old depth whole new rest
next_block_counted old now new depth whole left rest b z e points blocks a x = (
  (x.0.0 ∙ a.0.0, x.0.1 ∙ a.0.1),
  λ d s r.
      let y = a.1 d s r in
      let k : AreKnown (parts_in old.parts) old.known.now (calls 0 b ++ calls_of 0 rest) = subst (λ b. AreKnown (parts_in old.parts) old.known.now (calls_of 0 b)) e y.3 in
      let ready : IsReady (with_now now z) (calls 0 b) depth d (opened y.0 d) = (
        subst (λ ps. AreSizesOf ps now.known.now) (sym a.0.0) (subst (AreSizesOf (parts_in old.parts)) (sym a.0.1) r.0),
        subst (λ ps. AreKnown ps now.known.now (calls 0 b)) (sym a.0.0)
            (subst (λ k. AreKnown (parts_in old.parts) k (calls 0 b)) (sym a.0.1) (known_left (parts_in old.parts) old.known.now (calls 0 b) (calls_of 0 rest) k)),
        r.2,
        opened_is z now.now depth d y.0 points blocks r.2 y.2.now,
      ) in
      let w = x.1 d (opened y.0 d) ready in (
        w.0,
        y.1 ++ w.1,
        went_on old now new s y.0 w.0 y.1 w.1 y.2 (record { now = w.3.now; more = w.3.more }),
        known_right (parts_in old.parts) old.known.now (calls 0 b) (calls_of 0 rest) k,
        λ more u p.
            let q : Passes (parts_in old.parts) d (opened y.0 d) b w.1 w.0 = subst (λ ps. Passes ps d (opened y.0 d) b w.1 w.0) a.0.0 w.2 in
            subst (λ l. AllPass (parts_in old.parts) d s whole l u) (sym (append_assoc y.1 w.1 more))
            (y.4 (w.1 ++ more) u (subst (λ b. AllPass (parts_in old.parts) d y.0 b (w.1 ++ more) u) (sym e) (exact.one_more q p))),
      ),
)

pub blocks_counted : (old new : Count) (depth : ℕ) (whole left : Bodies) → left ≡ NoMore → AllSoFar old depth whole new left → PassesBlocks old depth whole new
blocks_counted old new depth whole left e a = (
  a.0,
  λ d s r.
      let x = a.1 d s r in
      let p : AllPass (parts_in old.parts) d x.0 left [] x.0 = subst (λ b. AllPass (parts_in old.parts) d x.0 b [] x.0) (sym e) exact.no_more in
      (x.0, x.1, subst (λ l. AllPass (parts_in old.parts) d s whole l x.0) (append-nil x.1) (x.4 [] x.0 p), x.2),
)
