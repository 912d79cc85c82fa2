-- Where the points of an expansion come from: the protocol whose text has the message, its point there, and the calls
-- through which it came.
use Rattle.std.specs.Prelude.{◌≡◌, ℕ, zero, suc, ◌+◌, List, [], ◌∷◌, ◌++◌, length, map, Some, slice_get}
use Rattle.rcv_tree.specs.declared.module.Module.{Module}
use Rattle.rcv_model.specs.Text.{Body, End, Single, Choose, Loop, Again, Parallel, Call, Bodies, NoMore, Or}
use Rattle.rcv_module.specs.declared.origin.Called.{Called}
use Rattle.rcv_module.specs.declared.origin.Origin.{Origin}
use Rattle.rcv_module.specs.declared.origin.Origins.{Origins}
use Rattle.rcv_module.specs.Parts.{Part, parts_of, place, calls}

-- The number of the first call of the protocol at this place: so many calls stand in those before it.
abbrev pub calls_before : List Part → ℕ → ℕ
calls_before [] i = 0
calls_before (p ∷ ps) zero = 0
calls_before (p ∷ ps) (suc i) = length (calls 0 p.body) + calls_before ps i

-- the call of this number, which names the protocol at this place
abbrev pub called : ℕ → ℕ → Called
called number protocol = record { number = number; protocol = protocol }

-- The point is this one of the protocol at this place, and came through these calls.
pub record IsFrom (holder point : ℕ) (through : List Called) (o : Origin) : Type 0 where
  pub holds : o.protocol ≡ holder
  pub points : o.point ≡ point
  pub came : o.calls.items ≡ through

-- The points of a text of the protocol at this place, entered through these calls, come from these. The calls of the text
-- have the numbers from one number up to another.
mutual
  pub data Come (parts : List Part) : ℕ → List Called → ℕ → Body → List Origin → ℕ → Type 0 where
    at_end : {i n : ℕ} {through : List Called} → Come parts i through n End [] n
    message : {i n m : ℕ} {through : List Called} {os : List Origin} {label : List ℕ} {sorts : List (List ℕ)} {s r p : ℕ} {rest : Body}
        (o : Origin) → IsFrom i p through o → Come parts i through n rest os m
        → Come parts i through n (Single label sorts s r p rest) (o ∷ os) m
    choice : {i n m k : ℕ} {through : List Called} {inner os : List Origin} {s : ℕ} {bs : Bodies} {rest : Body}
        → AllCome parts i through n bs inner m → Come parts i through m rest os k
        → Come parts i through n (Choose s bs rest) (inner ++ os) k
    loop : {i n m k : ℕ} {through : List Called} {inner os : List Origin} {name : List ℕ} {body rest : Body}
        → Come parts i through n body inner m → Come parts i through m rest os k
        → Come parts i through n (Loop name body rest) (inner ++ os) k
    again : {i n m : ℕ} {through : List Called} {os : List Origin} {name : List ℕ} {rest : Body}
        → Come parts i through n rest os m → Come parts i through n (Again name rest) os m
    beside : {i n m k : ℕ} {through : List Called} {inner os : List Origin} {bs : Bodies} {rest : Body}
        → AllCome parts i through n bs inner m → Come parts i through m rest os k
        → Come parts i through n (Parallel bs rest) (inner ++ os) k
    call : {i n m k : ℕ} {through : List Called} {inner os : List Origin} {name : List ℕ} {roles : List ℕ} {rest : Body} (j : ℕ) (p : Part)
        → place parts name ≡ Some j → slice_get parts j ≡ Some p
        → Come parts j (through ++ called n j ∷ []) (calls_before parts j) p.body inner k → Come parts i through (n + 1) rest os m
        → Come parts i through n (Call name roles rest) (inner ++ os) m

  pub data AllCome (parts : List Part) : ℕ → List Called → ℕ → Bodies → List Origin → ℕ → Type 0 where
    no_more : {i n : ℕ} {through : List Called} → AllCome parts i through n NoMore [] n
    one_more : {i n m k : ℕ} {through : List Called} {inner os : List Origin} {b : Body} {bs : Bodies}
        → Come parts i through n b inner m → AllCome parts i through m bs os k
        → AllCome parts i through n (Or b bs) (inner ++ os) k

-- The points of the first protocol's expansion come from these.
pub record AreOrigins (parts : List Part) (os : List Origin) : Type 0 where
  pub main : Part
  pub first : slice_get parts 0 ≡ Some main
  pub calls : ℕ
  pub come : Come parts 0 [] 0 main.body os calls

-- The same for a module, with the names of its protocols.
pub record AreOriginsOf (m : Module) (os : Origins) : Type 0 where
  pub named : os.names ≡ map (λ (p : Part). p.name) (parts_of m)
  pub points : AreOrigins (parts_of m) os.points.items
