-- Words that grow, and texts of several pieces.
use Rattle.std.proofs.Common.{◌≡◌, ℕ, false, List, [], ◌∷◌, ◌++◌, ◌∙◌, ap, append_assoc}
use Rattle.std.specs.Prelude.{◌==◌, if◌then◌else◌}
use Rattle.rcv_picture.specs.declared.look.Look.{Look}
use Rattle.rcv_heat.specs.Words.{Words, sampled_text, step_text}

pub sampled : (step : ℕ) → (step == 1) ≡ false → step_text step ≡ sampled_text step
sampled step e = ap (λ b. if b then [] else sampled_text step) e

abbrev words : ℕ → Look → List ℕ → Words
words base look text = record { base = base; look = look; text = text }

-- three texts more, that say these things
pub three : (old first second : List Words) (x y z : ℕ) (k l m : Look) (s t u s' t' u' : List ℕ) → first ≡ old ++ words x k s ∷ [] → second ≡ first ++ words y l t ∷ [] → s ≡ s' → t ≡ t' → u ≡ u' → second ++ words z m u ∷ [] ≡ old ++ words x k s' ∷ words y l t' ∷ words z m u' ∷ []
three old first second x y z k l m s t u s' t' u' one two same_s same_t same_u =
    ap (λ (ws : List Words). ws ++ words z m u ∷ []) (two ∙ ap (λ (ws : List Words). ws ++ words y l t ∷ []) one)
    ∙ append_assoc (old ++ words x k s ∷ []) (words y l t ∷ []) (words z m u ∷ [])
    ∙ append_assoc old (words x k s ∷ []) (words y l t ∷ words z m u ∷ [])
    ∙ ap (λ (a : List ℕ). old ++ words x k a ∷ words y l t ∷ words z m u ∷ []) same_s
    ∙ ap (λ (a : List ℕ). old ++ words x k s' ∷ words y l a ∷ words z m u ∷ []) same_t
    ∙ ap (λ (a : List ℕ). old ++ words x k s' ∷ words y l t' ∷ words z m a ∷ []) same_u
