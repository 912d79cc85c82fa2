-- The lanes of an expansion are those of the first protocol's text, each expanded.
use Rattle.std.proofs.Common.{◌≡◌, ℕ, zero, suc, ◌+◌, Some, List, [], ◌∷◌, ◌++◌, refl, sym, subst, ◌∙◌}
use Rattle.std.specs.Prelude.{slice_get}
use Rattle.rcv_model.specs.Text.{Body, End, Single, Choose, Loop, Again, Parallel, Call, Bodies}
use Rattle.rcv_model.specs.Places.{Lane, run_of, lanes_behind, lanes_of, lane_or_none, lane_at, HasNoPar}
use Rattle.rcv_model.specs.Places as places
use Rattle.rcv_module.specs.Parts.{Part}
use Rattle.rcv_module.specs.Form.{AreFormed}
use Rattle.rcv_module.specs.Refusing.{itself, AreCallable}
use Rattle.rcv_module.specs.Expansion as expansion
use Rattle.rcv_module.specs.Expansion.{Stands, themselves, called_with, Expands, AllExpand}
use Rattle.rcv_module.proofs.Sites.{of_module}
use Rattle.rcv_module.proofs.Entered.{EntersFull, no_par, enters_full}

-- A text without par, expanded in front of others: only these have lanes.
pub record Runs (parts : List Part) (st : Stands) (b next w : Body) : Type 0 where
  pub run : Expands parts st b (run_of next) (run_of w)
  pub behind : (s : ℕ) → lanes_behind s w ≡ lanes_behind s next

runs : {parts : List Part} {st : Stands} {b next w : Body} → HasNoPar b → (e : Expands parts st b next w) → EntersFull e → Runs parts st b next w
runs none expansion.at_end x = record { run = expansion.at_end; behind = λ s. refl }
runs none (expansion.message q e) x = let y = runs none e x in record { run = expansion.message q y.run; behind = y.behind }
runs none (expansion.choice es e) x = let y = runs none e x.1 in record { run = expansion.choice es y.run; behind = y.behind }
runs none (expansion.loop e f) x = let y = runs none f x.1 in record { run = expansion.loop e y.run; behind = y.behind }
runs none (expansion.again e) x = let y = runs none e x in record { run = expansion.again y.run; behind = y.behind }
runs none (expansion.beside es e) x = absurd none
runs none (expansion.call p i e f) x =
    let y = runs (no_par p.roles [] [] p.body x.0.0) e x.1 in
    let z = runs none f x.2 in
    record { run = expansion.call p i y.run z.run; behind = λ s. y.behind s ∙ z.behind s }

-- ---- lanes

abbrev pub LanesExpand : List Part → List Lane → List Lane → Type 0
LanesExpand parts [] [] = Unit {0}
LanesExpand parts (l ∷ ls) (m ∷ ms) = ((l.stage ≡ m.stage) × Expands parts themselves l.body End m.body) × LanesExpand parts ls ms
LanesExpand parts _ _ = ⊥

beside_expand : {parts : List Part} {bs cs : Bodies} (s : ℕ) (ls ms : List Lane) → AllExpand parts themselves bs cs → LanesExpand parts ls ms
    → LanesExpand parts (places.beside s bs ++ ls) (places.beside s cs ++ ms)
beside_expand s ls ms expansion.no_more x = x
beside_expand s ls ms (expansion.one_more e es) x = ((refl, e), beside_expand s ls ms es x)

record AreSplit (parts : List Part) (b w : Body) : Type 0 where
  run : Expands parts themselves (run_of b) End (run_of w)
  lanes : (s : ℕ) → LanesExpand parts (lanes_behind s b) (lanes_behind s w)

split : {parts : List Part} {next w : Body} (b : Body) → next ≡ End → (e : Expands parts themselves b next w) → EntersFull e → AreSplit parts b w
split {parts} End z expansion.at_end x =
    record { run = subst (λ y. Expands parts themselves End End (run_of y)) (sym z) expansion.at_end; lanes = λ s. subst (λ y. LanesExpand parts [] (lanes_behind s y)) (sym z) tt }
split (Single label sorts a b p rest) z (expansion.message q e) x = let y = split rest z e x in record { run = expansion.message q y.run; lanes = y.lanes }
split (Choose a bs rest) z (expansion.choice es e) x = let y = split rest z e x.1 in record { run = expansion.choice es y.run; lanes = y.lanes }
split (Loop name body rest) z (expansion.loop e f) x = let y = split rest z f x.1 in record { run = expansion.loop e y.run; lanes = y.lanes }
split (Again name rest) z (expansion.again e) x = let y = split rest z e x in record { run = expansion.again y.run; lanes = y.lanes }
split (Parallel bs rest) z (expansion.beside es e) x =
    let y = split rest z e x.1 in record { run = expansion.at_end; lanes = λ s. beside_expand (s + 1) _ _ es ((refl, y.run), y.lanes (s + 2)) }
split {parts} (Call name roles rest) z (expansion.call p i e f) x =
    let y = runs (no_par p.roles [] [] p.body x.0.0) e x.1 in
    let v = split rest z f x.2 in
    record { run = expansion.call p i y.run v.run; lanes = λ s. subst (LanesExpand parts (lanes_behind s rest)) (sym (y.behind s)) (v.lanes s) }

lanes_at : {parts : List Part} (ls ms : List Lane) (n : ℕ) → LanesExpand parts ls ms
    → ((lane_or_none (slice_get ls n)).stage ≡ (lane_or_none (slice_get ms n)).stage) × Expands parts themselves (lane_or_none (slice_get ls n)).body End (lane_or_none (slice_get ms n)).body
lanes_at [] [] n x = (refl, expansion.at_end)
lanes_at (l ∷ ls) (m ∷ ms) zero x = x.0
lanes_at (l ∷ ls) (m ∷ ms) (suc n) x = lanes_at ls ms n x.1
lanes_at [] (m ∷ ms) n x = absurd x
lanes_at (l ∷ ls) [] n x = absurd x

-- So of each lane.
pub laned : (parts : List Part) (main : Part) (w : Body) (n : ℕ) → AreFormed parts → AreCallable parts → slice_get parts 0 ≡ Some main → Expands parts themselves main.body End w
    → ((lane_at main.body n).stage ≡ (lane_at w n).stage) × Expands parts themselves (lane_at main.body n).body End (lane_at w n).body
laned parts main w n formed callable first e =
    let x = split main.body refl e (enters_full 0 formed callable (itself 0) (λ s a. of_module parts 0 main s first a) e) in
    lanes_at (lanes_of main.body) (lanes_of w) n ((refl, x.run), x.lanes 0)
