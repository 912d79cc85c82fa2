-- What the functions of the reader take of the symbols, or where they stop. No public contract cites this.
use Rattle.std.specs.Prelude.{◌≡◌, ℕ, ◌<◌, codes, Bool, ◌||◌, if◌then◌else◌, List, [], ◌∷◌, ◌++◌, Option, Some, None, Result, Ok, Err}
use Rattle.std.specs.Str.{bytes_eq}
use Rattle.rcv_tree.specs.declared.role.RoleSet.{RoleSet}
use Rattle.rcv_tree.specs.Bits.{is_listed}
use Rattle.rcv_tree.specs.Names.{place_of}
use Rattle.rcv_model.specs.Plan.{PlanLine, EveryLine, CrashLine, LimitLine, RoomLine, HostLine}
use Rattle.rcv_plan.specs.declared.sign.Sign.{Sign}
use Rattle.rcv_plan.specs.declared.sign.Sign.TheVariants.{Equals, Comma, Foreign}
use Rattle.rcv_plan.specs.Symbols.{Symbol, Word, Number, Is}
use Rattle.rcv_plan.specs.declared.fault.Fault.{Fault}
use Rattle.rcv_plan.specs.declared.fault.Fault.TheVariants.{Token, Role, Twice, Range}
use Rattle.rcv_plan.specs.declared.fault.PlanError.{PlanError}
use Rattle.rcv_plan.specs.declared.fault.PlanError.TheVariants as errors
use Rattle.rcv_plan.specs.Lines.{has_crash, is_hosted}
use Rattle.rcv_plan.specs.CrashCounts.{crashes_at}
use Rattle.rcv_plan.specs.Codes.{is_among, is_second, within}

-- The lines and the names of hosts so far.
pub record KnownView : Type 0 where
  pub lines : List PlanLine
  pub names : List (List ℕ)

-- A role crashes at a count exactly if a crash line says so.
abbrev pub AreFound : List RoleSet → List PlanLine → Type 0
AreFound sets lines = (r n : ℕ) → r < 8 → crashes_at r n sets ≡ has_crash r n lines

-- Something is taken, and this is left after it; or the reader stops, with this left.
pub data Step (X : Type 0) : Type 0 where
  Takes : (x : X) (left : List Symbol) → Step X
  Stops : (fault : Fault) (left : List Symbol) → Step X

abbrev pub goes_on : {X Y : Type 0} → Step X → (X → List Symbol → Step Y) → Step Y
goes_on (Takes x left) k = k x left
goes_on (Stops f left) k = Stops f left

-- A function of the reader did this, and left that.
abbrev pub Goes : {X Y : Type 0} → Result X PlanError → (X → Y) → List Symbol → Step Y → Type 0
Goes (Ok x) said new step = step ≡ Takes (said x) new
Goes (Err errors.Memory) said new step = Unit {0}
Goes (Err (errors.Refused f)) said new step = step ≡ Stops f new

abbrev pub next_sign : Sign → List Symbol → Step Sign
next_sign Equals (Is Equals ∷ ts) = Takes Equals ts
next_sign Comma (Is Comma ∷ ts) = Takes Comma ts
next_sign Foreign (Is Foreign ∷ ts) = Takes Foreign ts
next_sign m ts = Stops Token ts

-- a role that is declared
abbrev pub found : Option ℕ → List Symbol → List Symbol → Step ℕ
found None here after = Stops Role here
found (Some p) here after = Takes p after

abbrev pub next_role : List (List ℕ) → List Symbol → Step ℕ
next_role roles (Word r ∷ ts) = found (place_of roles r) (Word r ∷ ts) ts
next_role roles ts = Stops Token ts

-- a number in a range
abbrev pub next_number : ℕ → ℕ → List Symbol → Step ℕ
next_number low high (Number n ∷ ts) = if within low high n then Takes n ts else Stops Range (Number n ∷ ts)
next_number low high ts = Stops Token ts

-- the number of a crash line
abbrev pub next_count : KnownView → ℕ → List Symbol → Step ℕ
next_count k p (Number n ∷ ts) =
    if within 0 100000 n then (if has_crash p n k.lines then Stops Twice (Number n ∷ ts) else Takes n ts)
    else Stops Range (Number n ∷ ts)
next_count k p ts = Stops Token ts

-- the name of a host
abbrev pub next_name : KnownView → List Symbol → Step (List ℕ)
next_name k (Word h ∷ ts) = if is_among h k.names then Stops Twice (Word h ∷ ts) else Takes h ts
next_name k ts = Stops Token ts

-- a role of a host, after these
abbrev pub unhosted : KnownView → List ℕ → List Symbol → ℕ → List Symbol → Step (List ℕ)
unhosted k qs here p after = if is_listed qs p || is_hosted p k.lines then Stops Twice here else Takes (qs ++ p ∷ []) after

abbrev pub next_member : List (List ℕ) → KnownView → List ℕ → List Symbol → Step (List ℕ)
next_member roles k qs here = goes_on (next_role roles here) (unhosted k qs here)

-- the other roles of a host
abbrev pub next_members : List (List ℕ) → KnownView → List ℕ → List Symbol → Step (List ℕ)
next_members roles k qs (Is Comma ∷ Word r ∷ ts) = goes_on (next_member roles k qs (Word r ∷ ts)) (λ all after. next_members roles k all ts)
next_members roles k qs (Is Comma ∷ ts) = Stops Token ts
next_members roles k qs ts = Takes qs ts

abbrev pub with_line : KnownView → PlanLine → KnownView
with_line k line = record { lines = k.lines ++ line ∷ []; names = k.names }

abbrev pub with_host : KnownView → List ℕ → List ℕ → KnownView
with_host k name qs = record { lines = k.lines ++ HostLine qs ∷ []; names = k.names ++ name ∷ [] }

-- what stands after the first word of an item
abbrev pub every_line : List (List ℕ) → KnownView → List Symbol → Step KnownView
every_line roles k ts =
    goes_on (next_role roles ts) (λ p us. goes_on (next_number 1 100000 us) (λ n vs. Takes (with_line k (EveryLine p n)) vs))

abbrev pub crash_line : List (List ℕ) → KnownView → List Symbol → Step KnownView
crash_line roles k ts =
    goes_on (next_role roles ts) (λ p us. goes_on (next_count k p us) (λ n vs. Takes (with_line k (CrashLine p n)) vs))

abbrev pub limit_line : KnownView → List Symbol → Step KnownView
limit_line k ts = goes_on (next_number 1 100000 ts) (λ n us. Takes (with_line k (LimitLine n)) us)

abbrev pub room_line : KnownView → List Symbol → Step KnownView
room_line k ts = goes_on (next_number 1 1024 ts) (λ n us. Takes (with_line k (RoomLine n)) us)

-- the roles of a host, at least two
abbrev pub host_roles : List (List ℕ) → KnownView → List Symbol → Step (List ℕ)
host_roles roles k ts =
    goes_on (next_member roles k [] ts) (λ q us.
    goes_on (next_sign Comma us) (λ m vs.
    goes_on (next_member roles k q vs) (next_members roles k)))

abbrev pub host_line : List (List ℕ) → KnownView → List Symbol → Step KnownView
host_line roles k ts =
    goes_on (next_name k ts) (λ h us.
    goes_on (next_sign Equals us) (λ m vs.
    goes_on (host_roles roles k vs) (λ qs ws. Takes (with_host k h qs) ws)))

abbrev pub is_first_word : List ℕ → Bool
is_first_word w =
    bytes_eq w (codes "every") || bytes_eq w (codes "crash") || bytes_eq w (codes "limit") || bytes_eq w (codes "room") || bytes_eq w (codes "host")

abbrev pub line_by : List (List ℕ) → KnownView → List ℕ → List Symbol → Step KnownView
line_by roles k w ts =
    if bytes_eq w (codes "every") then every_line roles k ts
    else (if bytes_eq w (codes "crash") then crash_line roles k ts
    else (if bytes_eq w (codes "limit") then limit_line k ts
    else (if bytes_eq w (codes "room") then room_line k ts
    else host_line roles k ts)))

abbrev pub item_by : List (List ℕ) → KnownView → List ℕ → List Symbol → List Symbol → Step KnownView
item_by roles k w here ts =
    if is_second roles k.lines w ts then Stops Twice here
    else (if is_first_word w then line_by roles k w ts else Stops Token here)

-- one item
abbrev pub next_item : List (List ℕ) → KnownView → List Symbol → Step KnownView
next_item roles k (Word w ∷ ts) = item_by roles k w (Word w ∷ ts) ts
next_item roles k ts = Stops Token ts
