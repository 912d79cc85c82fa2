-- A module of one protocol without calls is its own expansion.
use Rattle.std.proofs.Common.{◌≡◌, List, [], ◌∷◌, ◌++◌, length, refl, sym, ap, subst, ◌∙◌}
use Rattle.std.specs.Prelude.{Some, slice_get}
use Rattle.rcv_tree.specs.Lists.{protocols}
use Rattle.rcv_tree.specs.declared.module.Module.{Module}
use Rattle.rcv_model.specs.Text.{Body, body_of}
use Rattle.rcv_model.specs.Places.{singles, IsFullText}
use Rattle.rcv_model.specs.Form.{IsNumberedFrom}
use Rattle.rcv_module.specs.Answers.{IsExpanded}
use Rattle.rcv_module.specs.Expansion.{IsExpansion}
use Rattle.rcv_module.specs.Parts.{Part, Site, parts_of, calls}
use Rattle.rcv_module.specs.Refusing.{AreCallable, IsFree}
use Rattle.rcv_module.specs.Sizes.{Size, blamed, heading}
use Rattle.rcv_module.proofs.Answering.{as_many}
use Rattle.rcv_module.proofs.Measured.{has_size}
use Rattle.rcv_module.proofs.Sites.{IsAmong}
use Rattle.rcv_grammar.proofs.Expansions.{expands_itself, no_calls}

-- The one protocol of the module, with this body.
abbrev alone : Module → Body → Part
alone m body = record { name = m.main.name; roles = length m.main.roles; body = body }

none_of : (ends : List Size) → length ends ≡ 0 → ends ≡ []
none_of [] e = refl
none_of (s ∷ ends) e = absurd cc

is_free : (p : Part) → calls 0 p.body ≡ [] → IsFree (p ∷ [])
is_free p none =
    let size = has_size (p ∷ []) 0 1 heading p.body (λ s among. absurd (subst (IsAmong s) none among)) in
    let no_mark = none_of size.0 (as_many 0 size.2 ∙ ap length none) in
    let marks : [] ≡ blamed size.0 size.1 = rw no_mark refl in
    (no_call, ([], record { main = p; first = refl; ends = size.0; whole = size.1; passes = size.2; blames = marks }, refl, refl))
  where
    no_call : AreCallable (p ∷ [])
    no_call n s g at holds = let none_there : slice_get ([] ++ []) n ≡ Some s = subst (λ (cs : List Site). slice_get (cs ++ []) n ≡ Some s) none at in absurd cc

pub own_expansion : (m : Module) (body : Body) → protocols m.others ≡ [] → body_of m.main.body ≡ body → IsFullText body → IsNumberedFrom 1 (singles body) → IsExpanded m m.main
own_expansion m body no_others is full numbered = record {
  free = subst IsFree (sym same) (is_free (alone m body) (no_calls 0 body full));
  modules = refl;
  declared = refl;
  named = refl;
  role_names = refl;
  body = subst (λ (ps : List Part). IsExpansion ps (body_of m.main.body)) (sym same)
      (subst (IsExpansion (alone m body ∷ [])) (sym is) (record { main = alone m body; first = refl; expands = expands_itself (alone m body ∷ []) body full; numbered = numbered }));
}
  where
    same : parts_of m ≡ alone m body ∷ []
    same = rw (is, no_others) refl
