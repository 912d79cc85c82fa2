-- A text whose calls are known, with their sizes and expansions, has a size.
use Rattle.std.proofs.Common.{◌≡◌, ℕ, ◌+◌, List, [], ◌∷◌, ◌++◌, length, refl, inl, inr}
use Rattle.rcv_model.specs.Text.{Body, End, Single, Choose, Loop, Again, Parallel, Call, Bodies, NoMore, Or}
use Rattle.rcv_model.specs.Form.{IsNumberedFrom}
use Rattle.rcv_model.specs.Places.{singles, singles_of}
use Rattle.rcv_module.specs.Parts.{Part, Site, IsNamed, site, calls, calls_of}
use Rattle.rcv_module.specs.Sizes as sizes
use Rattle.rcv_module.specs.Sizes.{Size, Passes, AllPass, nothing, one_point, opened, joined}
use Rattle.rcv_module.specs.Expansion.{Stands, Expands, AllExpand}
use Rattle.rcv_module.proofs.Sites.{IsAmong, among_left, among_right}

-- An expansion in front of what follows, with points in text order from n on, so many of them.
pub record Numbered (parts : List Part) (st : Stands) (b : Body) (points n : ℕ) (next : Body) : Type 0 where
  pub whole : Body
  pub expands : Expands parts st b next whole
  pub numbered : IsNumberedFrom n (singles whole)
  pub long : length (singles whole) ≡ points + length (singles next)

pub record AllNumbered (parts : List Part) (st : Stands) (bs : Bodies) (points n : ℕ) : Type 0 where
  pub wholes : Bodies
  pub expands : AllExpand parts st bs wholes
  pub numbered : IsNumberedFrom n (singles_of wholes)
  pub long : length (singles_of wholes) ≡ points

-- Wherever points begin, and whatever follows.
abbrev pub Unfolds : List Part → Stands → Body → Type 0
Unfolds parts st b = (points : ℕ) × ((n : ℕ) (next : Body) → IsNumberedFrom (n + points) (singles next) → Numbered parts st b points n next)

abbrev pub AllUnfold : List Part → Stands → Bodies → Type 0
AllUnfold parts st bs = (points : ℕ) × ((n : ℕ) → AllNumbered parts st bs points n)

-- A protocol that has a size and expansions.
pub record IsKnown (parts : List Part) (p : Part) : Type 0 where
  pub ends : List Size
  pub size : Size
  pub passes : Passes parts 0 nothing p.body ends size
  pub unfolds : (st : Stands) → Unfolds parts st p.body

-- Those that are called are known.
abbrev pub Known : List Part → Site → Type 0
Known parts s = (p : Part) × IsNamed parts s.name p × IsKnown parts p

abbrev pub CallsKnown : List Part → ℕ → Body → Type 0
CallsKnown parts h b = (s : Site) → IsAmong s (calls h b) → Known parts s

abbrev pub AllCallsKnown : List Part → ℕ → Bodies → Type 0
AllCallsKnown parts h bs = (s : Site) → IsAmong s (calls_of h bs) → Known parts s

pub in_left : {parts : List Part} (xs ys : List Site) → ((s : Site) → IsAmong s (xs ++ ys) → Known parts s) → (s : Site) → IsAmong s xs → Known parts s
in_left xs ys k s a = k s (among_left s xs ys a)

pub in_right : {parts : List Part} (xs ys : List Site) → ((s : Site) → IsAmong s (xs ++ ys) → Known parts s) → (s : Site) → IsAmong s ys → Known parts s
in_right xs ys k s a = k s (among_right s xs ys a)

-- A text whose calls are known has a size, whatever stands before it.
abbrev HasSize : List Part → ℕ → Size → Body → Type 0
HasSize parts d s b = (ends : List Size) × (t : Size) × Passes parts d s b ends t

abbrev AllHaveSize : List Part → ℕ → Size → Bodies → Type 0
AllHaveSize parts d s bs = (ends : List Size) × (t : Size) × AllPass parts d s bs ends t

mutual
  pub has_size : (parts : List Part) (h d : ℕ) (s : Size) (b : Body) → CallsKnown parts h b → HasSize parts d s b
  has_size parts h d s End k = ([], s, sizes.at_end)
  has_size parts h d s (Single label sorts a r p rest) k = let x = has_size parts h d (one_point s) rest k in (x.0, x.1, sizes.message x.2)
  has_size parts h d s (Choose a bs rest) k =
      let x = all_have_size parts h (d + 1) s bs (in_left (calls_of h bs) (calls h rest) k) in
      let y = has_size parts h d x.1 rest (in_right (calls_of h bs) (calls h rest) k) in (x.0 ++ y.0, y.1, sizes.choice x.2 y.2)
  has_size parts h d s (Loop name body rest) k =
      let x = has_size parts h (d + 1) (opened s (d + 1)) body (in_left (calls h body) (calls h rest) k) in
      let y = has_size parts h d x.1 rest (in_right (calls h body) (calls h rest) k) in (x.0 ++ y.0, y.1, sizes.loop x.2 y.2)
  has_size parts h d s (Again name rest) k = let x = has_size parts h d s rest k in (x.0, x.1, sizes.again x.2)
  has_size parts h d s (Parallel bs rest) k =
      let x = all_have_size parts h (d + 1) s bs (in_left (calls_of h bs) (calls h rest) k) in
      let y = has_size parts h d x.1 rest (in_right (calls_of h bs) (calls h rest) k) in (x.0 ++ y.0, y.1, sizes.beside x.2 y.2)
  has_size parts h d s (Call name roles rest) k =
      let c = k (site h name roles) (inl refl) in
      let z = joined s d c.2.size in
      let y = has_size parts h d z rest (λ t a. k t (inr a)) in (z ∷ y.0, y.1, sizes.call c.0 c.1 c.2.passes y.2)

  all_have_size : (parts : List Part) (h d : ℕ) (s : Size) (bs : Bodies) → AllCallsKnown parts h bs → AllHaveSize parts d s bs
  all_have_size parts h d s NoMore k = ([], s, sizes.no_more)
  all_have_size parts h d s (Or b bs) k =
      let x = has_size parts h d (opened s d) b (in_left (calls h b) (calls_of h bs) k) in
      let y = all_have_size parts h d x.1 bs (in_right (calls h b) (calls_of h bs) k) in (x.0 ++ y.0, y.1, sizes.one_more x.2 y.2)
