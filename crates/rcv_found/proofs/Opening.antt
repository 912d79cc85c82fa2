-- Tokens that nothing refuses before their end.
use Rattle.std.proofs.Common.{◌≡◌, ◌≢◌, ℕ, List, length, subst, inl, inr}
use Rattle.std.specs.Prelude.{Result, Ok, Err, IfOk}
use Rattle.rcv_tree.specs.declared.refusal.Refusal.{Refusal}
use Rattle.rcv_tree.specs.declared.refusal.TextError.{TextError}
use Rattle.rcv_tree.specs.declared.refusal.TextError.TheVariants as errors
use Rattle.rcv_lexer.specs.declared.token.Span.{Span}
use Rattle.rcv_lexer.specs.declared.token.Token.{Token}
use Rattle.rcv_lexer.specs.Tokens.{AreTokens, HasTokens, IsRefused}
use Rattle.rcv_lexer.proofs.Once.{one_reading}
use Rattle.rcv_found.specs.Grammars.{GrammarView}
use Rattle.rcv_found.specs.Things.{ThingView}
use Rattle.rcv_found.specs.Stops.{IsFirstAt}
use Rattle.rcv_found.specs.Letters.{IsOpen, AreInPlace}
use Rattle.rcv_found.proofs.Trying.{one_stop, never_both}

pub open_by : (g : GrammarView) (bundle : List ℕ) (list : List Token) (code place : ℕ) → IsFirstAt g bundle list code place
    → place ≡ length list → IsOpen g bundle list
open_by g bundle list code place first same = inr (code, subst (IsFirstAt g bundle list code) same first)

pub shut_by : (g : GrammarView) (bundle : List ℕ) (list : List Token) (code place : ℕ) → IsFirstAt g bundle list code place
    → place ≢ length list → IsOpen g bundle list → ⊥
shut_by g bundle list code place first differ (inl taken) = never_both g bundle list code place taken first
shut_by g bundle list code place first differ (inr (other, last)) =
    differ (one_stop g bundle list code place other (length list) first last).1

-- The tokens of a part are one list.
pub placed_for_all : {V E : Type 0} (items : V → List ThingView) (r : Result V E) (g : GrammarView) (input : List ℕ) (front : Span) (list : List Token)
    → AreTokens input front list → IfOk r (λ v. AreInPlace g input list (items v))
    → IfOk r (λ v. (tokens : List Token) → AreTokens input front tokens → AreInPlace g input tokens (items v))
placed_for_all items (Ok v) g input front list are placed = λ tokens same.
    subst (λ (ts : List Token). AreInPlace g input ts (items v)) (one_reading.tokens input front list tokens are same) placed
placed_for_all items (Err e) g input front list are placed = tt

-- A part that is refused at a letter has none.
pub never_refused : (input : List ℕ) (part : Span) (error : TextError) (r : Refusal) → error ≡ errors.Refused r → IsRefused input part error
    → HasTokens input part → ⊥
never_refused input part error r is refused has =
    let there : IsRefused input part (errors.Refused r) = subst (IsRefused input part) is refused in
    one_reading.either input part has.0 there.0 has.1 there.2

pub placed_for_none : (g : GrammarView) (input : List ℕ) (front : Span) (may : List ThingView) (error : TextError) (r : Refusal)
    → error ≡ errors.Refused r → IsRefused input front error
    → (tokens : List Token) → AreTokens input front tokens → AreInPlace g input tokens may
placed_for_none g input front may error r is refused tokens are = absurd (never_refused input front error r is refused (tokens, are))
