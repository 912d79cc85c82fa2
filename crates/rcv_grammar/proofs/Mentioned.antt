-- The roles that a body mentions: subjects of choices, ends of messages, and arguments of calls.
use Rattle.std.proofs.Common.{◌≡◌, ℕ, ◌⊎◌, inl, inr}
use Rattle.rcv_model.specs.Text.{Body, End, Single, Choose, Loop, Again, Parallel, Call, Bodies, NoMore, Or}
use Rattle.rcv_model.specs.Net.{IsIn}
use Rattle.rcv_module.specs.Form.{HasRole, SomeHasRole, ShareNoRole}

abbrev mutual
  pub Mentions : ℕ → Body → Type 0
  Mentions r End = ⊥
  Mentions r (Single label sorts s t p rest) = ((s ≡ r) ⊎ (t ≡ r)) ⊎ Mentions r rest
  Mentions r (Choose s bs rest) = ((s ≡ r) ⊎ SomeMentions r bs) ⊎ Mentions r rest
  Mentions r (Loop name body rest) = Mentions r body ⊎ Mentions r rest
  Mentions r (Again name rest) = Mentions r rest
  Mentions r (Parallel bs rest) = SomeMentions r bs ⊎ Mentions r rest
  Mentions r (Call name rs rest) = IsIn r rs ⊎ Mentions r rest

  pub SomeMentions : ℕ → Bodies → Type 0
  SomeMentions r NoMore = ⊥
  SomeMentions r (Or b bs) = Mentions r b ⊎ SomeMentions r bs

-- No role is mentioned in two of the blocks.
abbrev pub AreDisjoint : Bodies → Type 0
AreDisjoint NoMore = Unit {0}
AreDisjoint (Or b bs) = ((r : ℕ) → Mentions r b → SomeMentions r bs → ⊥) × AreDisjoint bs

-- So of the blocks of each par in the text's own block.
abbrev pub HasDisjointLanes : Body → Type 0
HasDisjointLanes End = Unit {0}
HasDisjointLanes (Single label sorts s r p rest) = HasDisjointLanes rest
HasDisjointLanes (Choose s bs rest) = HasDisjointLanes rest
HasDisjointLanes (Loop name body rest) = HasDisjointLanes rest
HasDisjointLanes (Again name rest) = HasDisjointLanes rest
HasDisjointLanes (Parallel bs rest) = AreDisjoint bs × HasDisjointLanes rest
HasDisjointLanes (Call name rs rest) = HasDisjointLanes rest

-- ---- ends and arguments are mentioned

mutual
  mentioned : (r : ℕ) (b : Body) → HasRole r b → Mentions r b
  mentioned r End h = absurd h
  mentioned r (Single label sorts s t p rest) (inl h) = inl h
  mentioned r (Single label sorts s t p rest) (inr h) = inr (mentioned r rest h)
  mentioned r (Choose s bs rest) (inl h) = inl (inr (some_mentioned r bs h))
  mentioned r (Choose s bs rest) (inr h) = inr (mentioned r rest h)
  mentioned r (Loop name body rest) (inl h) = inl (mentioned r body h)
  mentioned r (Loop name body rest) (inr h) = inr (mentioned r rest h)
  mentioned r (Again name rest) h = mentioned r rest h
  mentioned r (Parallel bs rest) (inl h) = inl (some_mentioned r bs h)
  mentioned r (Parallel bs rest) (inr h) = inr (mentioned r rest h)
  mentioned r (Call name rs rest) (inl h) = inl h
  mentioned r (Call name rs rest) (inr h) = inr (mentioned r rest h)

  some_mentioned : (r : ℕ) (bs : Bodies) → SomeHasRole r bs → SomeMentions r bs
  some_mentioned r NoMore h = absurd h
  some_mentioned r (Or b bs) (inl h) = inl (mentioned r b h)
  some_mentioned r (Or b bs) (inr h) = inr (some_mentioned r bs h)

pub share_no_role : (bs : Bodies) → AreDisjoint bs → ShareNoRole bs
share_no_role NoMore h = tt
share_no_role (Or b bs) h = (λ r one others. h.0 r (mentioned r b one) (some_mentioned r bs others), share_no_role bs h.1)
