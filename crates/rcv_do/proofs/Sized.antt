-- What a whole count gives.
use Rattle.std.proofs.Common.{◌≡◌, ℕ, Some, List, [], ◌∷◌, ◌++◌, length, map, refl, sym, ap, subst, ◌∙◌, append-nil, arith}
use Rattle.std.specs.Prelude.{slice_get, Result, Ok, Err, IfOk}
use Rattle.rcv_tree.specs.declared.protocol.Protocol.{Protocol}
use Rattle.rcv_tree.specs.declared.statement.Block.{Block}
use Rattle.rcv_tree.specs.Lists.{statements}
use Rattle.rcv_tree.specs.declared.statement.Stmt.{Stmt}
use Rattle.rcv_model.specs.Text.{Body, End, stmt_body, body_of, body_from}
use Rattle.rcv_model.specs.Form.{IsNumberedFrom}
use Rattle.rcv_model.specs.Places.{singles}
use Rattle.rcv_model.proofs.Text.{body_of_lem}
use Rattle.rcv_module.specs.Parts.{Part, part_of, calls}
use Rattle.rcv_module.specs.Sizes as exact
use Rattle.rcv_module.specs.Sizes.{Passes, nothing, heading}
use Rattle.rcv_module.specs.Expansion as expansion
use Rattle.rcv_module.specs.Expansion.{Expands, themselves}
use Rattle.rcv_do.specs.declared.sizes.Count.{Count}
use Rattle.rcv_do.specs.declared.expansion.Expanding.{Expanding}
use Rattle.rcv_do.specs.Code.{parts_in, protocols_in, IsCallOrder}
use Rattle.rcv_do.specs.Counting.{capped, IsSizeOf, AreSizesOf, AreKnown, PassesBlock}
use Rattle.rcv_do.specs.Copying.{in_front, Added, stands_of, IsExpandable, IsExpansionAt, IsNumberedWhole, Expanded}
use Rattle.rcv_do.proofs.Faulting.{part_at}
use Rattle.rcv_do.proofs.Under.{are_under}

-- the protocol at this place
pub same_part_at : (ps : List Protocol) (i : ℕ) (p : Protocol) (q : Part) → slice_get ps i ≡ Some p → slice_get (map part_of ps) i ≡ Some q → part_of p ≡ q
same_part_at ps i p q e f = let h : Some (part_of p) ≡ Some q = sym (part_at ps i p e) ∙ f in cc

pub size_made : (old new : Count) (place : ℕ) (p : Protocol) → slice_get (protocols_in old.parts) place ≡ Some p → old.now ≡ record { points = 0; blocks = 0 } → PassesBlock old 0 (body_of p.body) new
    → AreSizesOf (parts_in old.parts) old.known.now → (q : Part) → slice_get (parts_in old.parts) place ≡ Some q → AreKnown (parts_in old.parts) old.known.now (calls 0 q.body) → IsSizeOf (parts_in old.parts) place new.now
size_made old new place p at start passes sizes q is known =
    let same = same_part_at (protocols_in old.parts) place p q at is in
    let x = passes.1 0 nothing (sizes, subst (λ (z : Part). AreKnown (parts_in old.parts) old.known.now (calls 0 z.body)) (sym same) known, refl, start) in
    record { part = part_of p; is = part_at (protocols_in old.parts) place p at; ends = x.1; whole = x.0; passes = x.2; kept = x.3.now }

pub record IsCounted (old new : Count) (main : Body) : Type 0 where
  pub ends : List exact.Size
  pub whole : exact.Size
  pub passes : Passes (parts_in old.parts) 1 heading main ends whole
  pub now : new.now ≡ capped whole
  pub kept : new.ends.items ≡ map capped ends

pub whole_counted : (old new : Count) (main : Body) → old.now ≡ record { points = 0; blocks = 1 } → old.ends.items ≡ [] → PassesBlock old 1 main new
    → AreSizesOf (parts_in old.parts) old.known.now → AreKnown (parts_in old.parts) old.known.now (calls 0 main) → IsCounted old new main
whole_counted old new main start none passes sizes known =
    let x = passes.1 1 heading (sizes, known, refl, start) in
    record { ends = x.1; whole = x.0; passes = x.2; now = x.3.now; kept = x.3.more ∙ ap (λ l. l ++ map capped x.1) none }

-- ---- the same for an expansion

front_is : (b : Block) (ss : List Stmt) → statements b ≡ ss → body_of b ≡ in_front ss End
front_is b ss e = body_of_lem b ∙ ap body_from e ∙ go ss
  where
    go : (ss : List Stmt) → body_from ss ≡ in_front ss End
    go [] = refl
    go (s ∷ ss) = ap (stmt_body s) (go ss)

pub expansion_whole : (x : Expanding) (n : ℕ) (block : Block) (old : List Stmt) → ((r : ℕ) → stands_of x r ≡ r) → old ≡ []
    → Expanded x 0 n (body_of x.parts.main.now.body) old (statements block) → IsCallOrder (parts_in x.parts) x.under.now
    → IsExpansionAt (parts_in x.parts) 0 block × IsNumberedWhole block
expansion_whole x n block old own none expanded order =
    let p = x.parts.main.now in
    let ready : IsExpandable x themselves = record { callable = order.callable; behind = order.behind; stand = λ r. sym (own r) } in
    let a : Added (parts_in x.parts) themselves 0 n (body_of p.body) End [] (statements block) =
    subst (λ o. Added (parts_in x.parts) themselves 0 n (body_of p.body) End o (statements block)) none
    (expanded themselves ready (are_under (parts_in x.parts) x.under.now 0 (part_of p) order.callable refl order.main)) in
    let body = front_is block a.added a.is in
    let whole = ap singles body ∙ a.leads.messages End in (
      record {
        part = part_of p;
        is = refl;
        expands = subst (Expands (parts_in x.parts) themselves (body_of p.body) End) (sym body) (a.leads.expands End End expansion.at_end);
      },
      λ few.
          let bare : singles (body_of block) ≡ a.leads.made = whole ∙ append-nil a.leads.made in
          let c = a.leads.counts (let l = ap length bare in omega (arith, few, l)) in
          subst (IsNumberedFrom 1) (sym whole) (c.1 [] tt),
    )

pub if_ok : {A E : Type 0} {P Q : A → Type 0} (r : Result A E) → ((x : A) → P x → Q x) → IfOk r P → IfOk r Q
if_ok (Ok x) f h = f x h
if_ok (Err e) f h = tt
