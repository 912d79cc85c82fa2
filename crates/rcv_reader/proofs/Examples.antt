-- For each code a text that has it: how it is written, and what is left from the symbol on at which it is refused. Each is
-- the answer of the table, and what the machine says of these texts is computed.
use Rattle.std.proofs.Common.{codes, [], ◌∷◌, refl}
use Rattle.rcv_machine.specs.Words.{Choice, At, Par, Open, Close, Comma, Semicolon, Token, Deep, NoName, Twice, SelfMessage, AfterContinue, Unguarded, TooMany, NotYet, Shared, Is, Word, IsFirst}
use Rattle.rcv_syntax.proofs.Texts.{a, b, c, x, y, text, begins, sends, message, in_par, beside, second, rec_x, again_x, nested, with_roles, more_roles}
use Rattle.rcv_machine.proofs.Exactly.{refusal_is_first}

-- a message without its parentheses, and a text without its last brace
eleven : IsFirst (text (x ∷ y ∷ Is Close ∷ [])) Token (y ∷ Is Close ∷ [])
eleven = refusal_is_first _ Token _ refl

at_the_end : IsFirst (text (message [])) Token []
at_the_end = refusal_is_first _ Token _ refl

twelve : IsFirst (text (nested 31 (rec_x []))) Deep (Is Open ∷ [])
twelve = refusal_is_first _ Deep _ refl

thirteen : IsFirst (text (sends (c ∷ Is Semicolon ∷ []))) NoName (c ∷ Is Semicolon ∷ [])
thirteen = refusal_is_first _ NoName _ refl

fourteen : IsFirst (text (sends (b ∷ Is Comma ∷ b ∷ []))) Twice (b ∷ [])
fourteen = refusal_is_first _ Twice _ refl

fifteen : IsFirst (text (sends (a ∷ []))) SelfMessage (a ∷ [])
fifteen = refusal_is_first _ SelfMessage _ refl

sixteen : IsFirst (text (rec_x (message (again_x (message []))))) AfterContinue (message [])
sixteen = refusal_is_first _ AfterContinue _ refl

seventeen : IsFirst (text (rec_x (Is Choice ∷ Is At ∷ a ∷ Is Open ∷ again_x []))) Unguarded (again_x [])
seventeen = refusal_is_first _ Unguarded _ refl

eighteen : IsFirst (with_roles more_roles (Word (codes "I") ∷ [])) TooMany (Word (codes "I") ∷ [])
eighteen = refusal_is_first _ TooMany _ refl

nineteen : IsFirst (text (message (second (Is Par ∷ [])))) NotYet (Is Par ∷ [])
nineteen = refusal_is_first _ NotYet _ refl

a_par_in_a_rec : IsFirst (text (rec_x (Is Par ∷ []))) NotYet (Is Par ∷ [])
a_par_in_a_rec = refusal_is_first _ NotYet _ refl

-- a par of one block
one_block : IsFirst (text (in_par (message (Is Close ∷ Is Close ∷ [])))) Token (Is Close ∷ [])
one_block = refusal_is_first _ Token _ refl

twenty_nine : IsFirst (text (in_par (message (beside (begins (a ∷ [])))))) Shared (a ∷ [])
twenty_nine = refusal_is_first _ Shared _ refl
