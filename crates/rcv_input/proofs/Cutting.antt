-- Cuts a text into pieces by computing, for worked inputs.
use Rattle.std.proofs.Common.{◌≡◌, ℕ, zero, suc, Option, Some, None, List, [], ◌∷◌, drop, refl, subst}
use Rattle.rcv_lexer.specs.declared.piece.Piece.{Piece}
use Rattle.rcv_lexer.specs.Pieces.{piece_of}
use Rattle.rcv_lexer.specs.Tokens.{Cuts}

abbrev with_first : Piece → Option (List Piece) → Option (List Piece)
with_first p None = None
with_first p (Some ps) = Some (p ∷ ps)

abbrev with_rest : Option Piece → (Piece → Option (List Piece)) → Option (List Piece)
with_rest None rest = None
with_rest (Some p) rest = with_first p (rest p)

-- the pieces of a text that has at most so many
abbrev pub pieces_of : ℕ → List ℕ → Option (List Piece)
pieces_of enough [] = Some []
pieces_of zero (b ∷ bs) = None
pieces_of (suc enough) (b ∷ bs) = with_rest (piece_of (b ∷ bs)) (λ p. pieces_of enough (drop p.len (b ∷ bs)))

pub cuts : (enough : ℕ) (text : List ℕ) (ps : List Piece) → pieces_of enough text ≡ Some ps → Cuts ps text []
cuts enough [] ps e = let none : [] ≡ ps = cc in subst (λ (qs : List Piece). Cuts qs [] []) none refl
cuts zero (b ∷ bs) ps e = absurd cc
cuts (suc enough) (b ∷ bs) ps e = go (piece_of (b ∷ bs)) refl e (λ p. cuts enough (drop p.len (b ∷ bs)))
  where
    go :
        (first : Option Piece) → piece_of (b ∷ bs) ≡ first → with_rest first (λ p. pieces_of enough (drop p.len (b ∷ bs))) ≡ Some ps
        → ((p : Piece) (qs : List Piece) → pieces_of enough (drop p.len (b ∷ bs)) ≡ Some qs → Cuts qs (drop p.len (b ∷ bs)) [])
        → Cuts ps (b ∷ bs) []
    go None is h others = absurd cc
    go (Some p) is h others = rest (pieces_of enough (drop p.len (b ∷ bs))) refl h
      where
        rest : (more : Option (List Piece)) → pieces_of enough (drop p.len (b ∷ bs)) ≡ more → with_first p more ≡ Some ps → Cuts ps (b ∷ bs) []
        rest None at none = absurd cc
        rest (Some qs) at some =
            let all : p ∷ qs ≡ ps = cc in
            subst (λ (rs : List Piece). Cuts rs (b ∷ bs) []) all (is, others p qs at)
