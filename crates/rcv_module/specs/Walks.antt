-- Walks through a module, lane by lane: calls are entered, and nothing is expanded.
use Rattle.std.specs.Prelude.{◌≡◌, ℕ, ◌<◌, ◌==◌, if◌then◌else◌, List, [], ◌∷◌, map, Some, slice_get}
use Rattle.std.specs.Str.{bytes_eq}
use Rattle.rcv_model.specs.Text.{Body, End, Single, Choose, Loop, Again, Call, Bodies}
use Rattle.rcv_model.specs.Net.{IsWalk}
use Rattle.rcv_model.specs.Places.{IsBranch, SingleMessage, single_at, singles, lane_at, net_of}
use Rattle.rcv_module.specs.Parts.{Part, IsNamed}
use Rattle.rcv_module.specs.Expansion.{Stands, themselves, called_with}

-- What is left of a block, with what the roles of its protocol stand for.
pub record Left : Type 0 where
  pub body : Body
  pub roles : Stands

-- What encloses it: a choice or a call, or a rec with its body; each with what stands after it.
pub data Around : Type 0 where
  Behind : (rest : Left) → Around
  Inside : (name : List ℕ) (body : Body) (rest : Left) → Around

-- From the innermost rec of this name on. It is one of the protocol that holds the `continue`.
abbrev pub enclosing : List ℕ → List Around → List Around
enclosing name [] = []
enclosing name (Behind rest ∷ st) = enclosing name st
enclosing name (Inside n body rest ∷ st) = if bytes_eq n name then Inside n body rest ∷ st else enclosing name st

-- A configuration: the statements of a lane that are still to be done.
pub record Todo : Type 0 where
  pub left : Left
  pub around : List Around

abbrev pub todo : Body → Stands → List Around → Todo
todo body roles around = record { left = record { body = body; roles = roles }; around = around }

abbrev pub said : List ℕ → List (List ℕ) → ℕ → ℕ → SingleMessage
said label sorts s r = record { label = label; sorts = sorts; sender = s; receiver = r }

-- One step takes a message from the front, and leaves a configuration. A par stands only in the first protocol's own block, and so in no
-- lane.
pub data Takes (parts : List Part) : Todo → SingleMessage → Todo → Type 0 where
  message : {label : List ℕ} {sorts : List (List ℕ)} {s r p : ℕ} {rest : Body} {st : Stands} {fs : List Around}
      → Takes parts (todo (Single label sorts s r p rest) st fs) (said label sorts (st s) (st r)) (todo rest st fs)
  -- a choice is replaced by the statements of one branch
  branch : {s : ℕ} {rest b : Body} {st : Stands} {fs : List Around} {m : SingleMessage} {new : Todo} {bs : Bodies}
      → IsBranch b bs → Takes parts (todo b st (Behind (record { body = rest; roles = st }) ∷ fs)) m new
      → Takes parts (todo (Choose s bs rest) st fs) m new
  -- a rec by its body
  loop : {name : List ℕ} {body rest : Body} {st : Stands} {fs : List Around} {m : SingleMessage} {new : Todo}
      → Takes parts (todo body st (Inside name body (record { body = rest; roles = st }) ∷ fs)) m new
      → Takes parts (todo (Loop name body rest) st fs) m new
  -- a continue drops what is left of the innermost rec of its name, and is replaced by its body
  again : {name : List ℕ} {rest : Body} {st : Stands} {fs : List Around} {m : SingleMessage} {new : Todo}
      (n : List ℕ) (body : Body) (after : Left) (around : List Around) → enclosing name fs ≡ Inside n body after ∷ around
      → Takes parts (todo body after.roles (Inside n body after ∷ around)) m new
      → Takes parts (todo (Again name rest) st fs) m new
  -- a call by the body of the protocol that it names, whose roles stand for what the arguments stand for
  call : {name : List ℕ} {roles : List ℕ} {rest : Body} {st : Stands} {fs : List Around} {m : SingleMessage} {new : Todo} (p : Part)
      → IsNamed parts name p
      → Takes parts (todo p.body (called_with st roles) (Behind (record { body = rest; roles = st }) ∷ fs)) m new
      → Takes parts (todo (Call name roles rest) st fs) m new
  -- if nothing is left of a block, what stands after it is next
  behind : {st : Stands} {rest : Left} {fs : List Around} {m : SingleMessage} {new : Todo}
      → Takes parts (todo rest.body rest.roles fs) m new → Takes parts (todo End st (Behind rest ∷ fs)) m new
  behind_loop : {name : List ℕ} {body : Body} {st : Stands} {rest : Left} {fs : List Around} {m : SingleMessage} {new : Todo}
      → Takes parts (todo rest.body rest.roles fs) m new → Takes parts (todo End st (Inside name body rest ∷ fs)) m new

-- Nothing can be taken from it any more.
abbrev pub IsOver : List Part → Todo → Type 0
IsOver parts now = (m : SingleMessage) (new : Todo) → Takes parts now m new → ⊥

-- What is still to be done in each lane of a text: at first all of its statements; and after one lane has gone on.
abbrev pub InLanes : Type 0
InLanes = ℕ → Todo

abbrev pub at_first : Body → InLanes
at_first text l = todo (lane_at text l).body themselves []

abbrev pub gone_on : InLanes → ℕ → Todo → InLanes
gone_on now l new k = if k == l then new else now k

-- A lane takes a message, if each lane of an earlier stage is over.
pub record LaneTakes (parts : List Part) (text : Body) (now : InLanes) (l : ℕ) (m : SingleMessage) (new : Todo) : Type 0 where
  pub takes : Takes parts (now l) m new
  pub over : (k : ℕ) → (lane_at text k).stage < (lane_at text l).stage → IsOver parts (now k)

-- These messages can be taken, one after another, and by lanes of one stage in any order. A walk may stop after each.
abbrev pub IsModuleWalk : List Part → Body → InLanes → List SingleMessage → Type 0
IsModuleWalk parts text now [] = Unit {0}
IsModuleWalk parts text now (m ∷ ms) =
    (l : ℕ) × (new : Todo) × LaneTakes parts text now l m new × IsModuleWalk parts text (gone_on now l new) ms

-- A walk through the module's first protocol gives these messages. The lanes are those of its text.
pub record IsWalkOfModule (parts : List Part) (ms : List SingleMessage) : Type 0 where
  pub main : Part
  pub first : slice_get parts 0 ≡ Some main
  pub walk : IsModuleWalk parts main.body (at_first main.body) ms

-- A walk of a text gives these messages.
pub record IsWalkOfText (body : Body) (ms : List SingleMessage) : Type 0 where
  pub points : List ℕ
  pub walk : IsWalk (net_of body) 0 points
  pub messages : map (λ p. single_at p (singles body)) points ≡ ms
