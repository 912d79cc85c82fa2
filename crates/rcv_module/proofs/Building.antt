-- A block for a body, each block of which has room: a list has fewer than 2^63 elements.
use denote.RawPtr.{null_ptr}
use Rattle.std.proofs.Common.{◌≡◌, ℕ, ◌+◌, ◌^◌, ◌<◌, List, [], ◌∷◌, length, map, refl, ap, ◌∙◌, arith}
use Rattle.std.specs.Global.{Vec}
use Rattle.rcv_tree.specs.declared.statement.Stmt.{Stmt}
use Rattle.rcv_tree.specs.declared.statement.Stmt.TheVariants as stmt
use Rattle.rcv_tree.specs.declared.statement.Stmt.TheOpen.{Block-F, Blocks-F}
use Rattle.rcv_tree.specs.declared.statement.Stmt.TheViews.{roll-Block, out-roll-Block, roll-Blocks, out-roll-Blocks}
use Rattle.rcv_tree.specs.declared.statement.Block.{Block}
use Rattle.rcv_tree.specs.declared.statement.Blocks.{Blocks}
use Rattle.rcv_model.specs.Text.{Body, End, Single, Choose, Loop, Again, Parallel, Call, Bodies, NoMore, Or, stmt_body, body_of, bodies_of, joined, alternatives}
use Rattle.rcv_model.proofs.Text.{body_of_lem, bodies_of_lem, stmt_body-Message, stmt_body-Choice, stmt_body-Rec, stmt_body-Continue, stmt_body-Par, stmt_body-Do}

-- ---- room

-- how many statements stand in its own block, and how many blocks these are
abbrev pub own : Body → ℕ
own End = 0
own (Single label sorts s r p rest) = 1 + own rest
own (Choose s bs rest) = 1 + own rest
own (Loop name body rest) = 1 + own rest
own (Again name rest) = 1 + own rest
own (Parallel bs rest) = 1 + own rest
own (Call name roles rest) = 1 + own rest

abbrev pub width : Bodies → ℕ
width NoMore = 0
width (Or b bs) = 1 + width bs

-- Each block inside it has room, and so has each list of blocks.
abbrev mutual
  pub HasRoomInside : Body → Type 0
  HasRoomInside End = Unit {0}
  HasRoomInside (Single label sorts s r p rest) = HasRoomInside rest
  HasRoomInside (Choose s bs rest) = (width bs < 2 ^ 63) × AllHaveRoom bs × HasRoomInside rest
  HasRoomInside (Loop name body rest) = (own body < 2 ^ 63) × HasRoomInside body × HasRoomInside rest
  HasRoomInside (Again name rest) = HasRoomInside rest
  HasRoomInside (Parallel bs rest) = (width bs < 2 ^ 63) × AllHaveRoom bs × HasRoomInside rest
  HasRoomInside (Call name roles rest) = HasRoomInside rest

  pub AllHaveRoom : Bodies → Type 0
  AllHaveRoom NoMore = Unit {0}
  AllHaveRoom (Or b bs) = (own b < 2 ^ 63) × HasRoomInside b × AllHaveRoom bs

-- ---- a block for each list of statements

-- A list that is short enough as the items of a vector: it stands in no memory, but that is nowhere looked at.
abbrev pub a_vec : (X : Type 0) (xs : List X) → length xs < 2 ^ 63 → Vec X
a_vec X xs short = record { items = xs; ptr = null_ptr; len = length xs; cap = length xs; alloc = record { memory = record { seal = tt } }; ok = (refl, omega arith); small = short }

block_of : (xs : List Stmt) → length xs < 2 ^ 63 → (block : Block) × (body_of block ≡ joined (map stmt_body xs))
block_of xs short =
    let shape : Block-F Stmt Block Blocks = record { items = a_vec Stmt xs short } in
    let same = ap (λ (x : Block-F Stmt Block Blocks). joined (map stmt_body x.items.items)) (out-roll-Block shape) in
    (roll-Block shape, body_of_lem (roll-Block shape) ∙ same)

blocks_of : (xs : List Block) → length xs < 2 ^ 63 → (bs : Blocks) × (bodies_of bs ≡ alternatives (map body_of xs))
blocks_of xs short =
    let shape : Blocks-F Stmt Block Blocks = record { items = a_vec Block xs short } in
    let same = ap (λ (x : Blocks-F Stmt Block Blocks). alternatives (map body_of x.items.items)) (out-roll-Blocks shape) in
    (roll-Blocks shape, bodies_of_lem (roll-Blocks shape) ∙ same)

-- Statements that say the body, and blocks that say the bodies.
abbrev HasStmts : Body → Type 0
HasStmts b = (list : List Stmt) × (joined (map stmt_body list) ≡ b) × (length list ≡ own b)

abbrev HasBlocks : Bodies → Type 0
HasBlocks bs = (list : List Block) × (alternatives (map body_of list) ≡ bs) × (length list ≡ width bs)

mutual
  has_stmts : (b : Body) → HasRoomInside b → HasStmts b
  has_stmts End room = ([], refl, refl)
  has_stmts (Single label sorts s r p rest) room =
      let more = has_stmts rest room in (stmt.Message label sorts s r p ∷ more.0, rw (stmt_body-Message, more.1) refl, omega (arith, more.2))
  has_stmts (Choose s bs rest) room =
      let inner = has_blocks bs room.1 in
      let more = has_stmts rest room.2 in
      let blocks = blocks_of inner.0 (omega (arith, inner.2, room.0)) in
      (stmt.Choice s blocks.0 ∷ more.0, rw (stmt_body-Choice, blocks.1, inner.1, more.1) refl, omega (arith, more.2))
  has_stmts (Loop name body rest) room =
      let inner = has_stmts body room.1 in
      let more = has_stmts rest room.2 in
      let block = block_of inner.0 (omega (arith, inner.2, room.0)) in
      (stmt.Rec name block.0 ∷ more.0, rw (stmt_body-Rec, block.1, inner.1, more.1) refl, omega (arith, more.2))
  has_stmts (Again name rest) room =
      let more = has_stmts rest room in (stmt.Continue name ∷ more.0, rw (stmt_body-Continue, more.1) refl, omega (arith, more.2))
  has_stmts (Parallel bs rest) room =
      let inner = has_blocks bs room.1 in
      let more = has_stmts rest room.2 in
      let blocks = blocks_of inner.0 (omega (arith, inner.2, room.0)) in
      (stmt.Par blocks.0 ∷ more.0, rw (stmt_body-Par, blocks.1, inner.1, more.1) refl, omega (arith, more.2))
  has_stmts (Call name roles rest) room =
      let more = has_stmts rest room in (stmt.Do name roles ∷ more.0, rw (stmt_body-Do, more.1) refl, omega (arith, more.2))

  has_blocks : (bs : Bodies) → AllHaveRoom bs → HasBlocks bs
  has_blocks NoMore room = ([], refl, refl)
  has_blocks (Or b bs) room =
      let first = has_stmts b room.1 in
      let others = has_blocks bs room.2 in
      let block = block_of first.0 (omega (arith, first.2, room.0)) in
      (block.0 ∷ others.0, rw (block.1, first.1, others.1) refl, omega (arith, others.2))

pub built : (b : Body) → own b < 2 ^ 63 → HasRoomInside b → (block : Block) × (body_of block ≡ b)
built b short room =
    let list = has_stmts b room in
    let block = block_of list.0 (omega (arith, list.2, short)) in (block.0, block.1 ∙ list.1)
