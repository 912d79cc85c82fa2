-- How deep the blocks of what the machine takes are nested.
use Rattle.std.proofs.Common.{◌≡◌, ℕ, ◌+◌, ◌<◌, Bool, true, false, nat_le, List, [], ◌∷◌, length, arith}
use Rattle.std.proofs.lemmas.Bool.Decides.{nat_tests}
use Rattle.rcv_model.specs.Text.{Body, End, Single, Choose, Loop, Again, Parallel, Call, Bodies, NoMore, Or}
use Rattle.rcv_machine.specs.Words.{Written, NoStmt, AMessage, AChoice, ARec, AContinue, APar, ADo, Blocks, NoBlock, ABlock, role_at, roles_at, points, points_of, singles, tree_of, trees_of, Named, nobody, Place, after_statement, beside, inside, inside_rec}
use Rattle.rcv_machine.proofs.Passing.{named_by, Passes, PassAll, PassBeside}

-- Where so many blocks are open, at most 32 are in the body.
abbrev mutual
  pub Nests : ℕ → Body → Type 0
  Nests d End = Unit {0}
  Nests d (Single label sorts s r p rest) = Nests d rest
  Nests d (Choose s bs rest) = AllNest d bs × Nests d rest
  Nests d (Loop name body rest) = (d < 32) × Nests (d + 1) body × Nests d rest
  Nests d (Again name rest) = Nests d rest
  Nests d (Parallel bs rest) = AllNest d bs × Nests d rest
  Nests d (Call name rs rest) = Nests d rest

  pub AllNest : ℕ → Bodies → Type 0
  AllNest d NoMore = Unit {0}
  AllNest d (Or b bs) = (d < 32) × Nests (d + 1) b × AllNest d bs

has_room : (d : ℕ) → nat_le 32 d ≡ false → d < 32
has_room d h = grind (arith, nat_tests)

module _ (later : Bool) (roles : List (List ℕ)) where
  nests_behind : (label : List ℕ) (sorts : List (List ℕ)) (from : ℕ) (rs : List (List ℕ)) (n d : ℕ) (rest : Body) → Nests d rest
      → Nests d (singles label sorts from (roles_at roles rs) n rest)
  nests_behind label sorts from [] n d rest h = h
  nests_behind label sorts from (r ∷ rs) n d rest h = nests_behind label sorts from rs (n + 1) d rest h

  mutual
    pub nests : (n : ℕ) (p : Place) (w : Written) → Passes later roles n p w → Nests p.depth (tree_of roles n w)
    nests n p NoStmt h = tt
    nests n p (AMessage label ss s r rs rest) h =
        nests_behind label ss (role_at roles s) (r ∷ rs) n p.depth _ (nests (n + (1 + length rs)) (after_statement p false) rest h.4)
    nests n p (AChoice s f os rest) h = (
      (has_room p.depth h.3, nests n (inside p) f h.4, all_nest (n + points f) p os h.5),
      nests (n + (points f + points_of os)) (after_statement p false) rest h.6,
    )
    nests n p (ARec name body rest) h =
        (has_room p.depth h.1, nests n (inside (inside_rec p name)) body h.2, nests (n + points body) (after_statement p false) rest h.3)
    nests n p (AContinue name rest) h = nests n (after_statement p true) rest h.3
    nests n p (APar f g os rest) h = (
      (
        has_room p.depth h.2.0,
        nests n (inside (beside p nobody)) f h.2.1,
        (
          has_room p.depth h.2.2,
          nests (n + points f) (inside (beside p (named_by nobody f))) g h.2.3,
          beside_nest (n + points f + points g) p (named_by (named_by nobody f) g) os h.2.4,
        ),
      ),
      nests (n + (points f + (points g + points_of os))) (after_statement p false) rest h.3,
    )
    nests n p (ADo x r rs rest) h = nests n (after_statement p false) rest h.2

    all_nest : (n : ℕ) (p : Place) (os : Blocks) → PassAll later roles n p os → AllNest p.depth (trees_of roles n os)
    all_nest n p NoBlock h = tt
    all_nest n p (ABlock f os) h = (has_room p.depth h.0, nests n (inside p) f h.1, all_nest (n + points f) p os h.2)

    beside_nest : (n : ℕ) (p : Place) (since : Named) (os : Blocks) → PassBeside later roles n p since os
        → AllNest p.depth (trees_of roles n os)
    beside_nest n p since NoBlock h = tt
    beside_nest n p since (ABlock f os) h =
        (has_room p.depth h.0, nests n (inside (beside p since)) f h.1, beside_nest (n + points f) p (named_by since f) os h.2)
