-- What the crate's getters give.
use Rattle.std.proofs.Common.{◌≡◌, ◌∙◌, ◌<◌, ◌^◌, ◌||◌, ℕ, Bool, true, false, Option, Some, None, Result, Ok, refl, ap, subst, codes}
use Rattle.std.specs.Prelude.{option_map}
use Rattle.std.specs.Option.{option_map_or}
use Rattle.std.specs.Str.{bytes_eq}
use Rattle.std.specs.Str.Parse.{ParsesUnsigned, digits_value, without_leading_plus}
use Rattle.std.proofs.lemmas.Slice.Eq.{bytes_eq-Decides}
use Rattle.clap.specs.Words.{Text, one_of, one_text, rows_of}
use Rattle.clap.specs.Matches.{ReadsOne}
use Rattle.clap.specs.declared.parser.matches.Found.{Found}
use Rattle.clap.proofs.CallerReads.{signed_reads}
use Rattle.clap.proofs.WalkLemmas.{one_text-rows}
use Rattle.rcv_look.specs.Commands.{Given, number_in}
use Rattle.rcv_look.specs.Program.{IsNumberText}

abbrev value_of : Text → ℕ
value_of text = digits_value 10 (without_leading_plus text)

-- A number that passed is read as its digits say.
pub number_is_read : (E : Type 0) (G : Text → Result ℕ E → Type 0) (least most : ℕ) (found : Found) (name : Text) (r : Option ℕ)
    → ((u : Text) (x : Result ℕ E) → G u x → ParsesUnsigned 32 10 u x) → most < 2 ^ 32
    → (one_text found name ≡ None → r ≡ None) → ((t : Text) → one_text found name ≡ Some t → ReadsOne G t r)
    → ((t : Text) → one_text found name ≡ Some t → IsNumberText least most t) → r ≡ number_in name (rows_of found)
number_is_read E G least most found name r only fits none some passes = go (one_text found name) refl ∙ ap (option_map value_of) (one_text-rows found name)
  where
    value : (t : Text) (n : ℕ) → ReadsOne G t (Some n) → n ≡ value_of t
    value t n reads = (only t (Ok n) reads).1

    at : (t : Text) (v : Text) (n : ℕ) → ReadsOne G t r → r ≡ Some n → r ≡ Some (value_of t)
    at t v n reads is = is ∙ ap Some (value t n (subst (ReadsOne G t) is reads))

    go : (o : Option Text) → one_text found name ≡ o → r ≡ option_map value_of o
    go None e = none e
    go (Some t) e =
        let pass = passes t e in
        let reads = some t e in
        let got = signed_reads E G 32 least most pass.0 r (subst (λ (w : Text). ReadsOne G w r) pass.1 reads) only fits pass.2 in
        at t pass.0 got.0 reads got.1

-- So is a flag.
pub flag_is_read : (found : Found) (name : Text) (flag : Bool)
    → (one_text found name ≡ None → flag ≡ false) → (one_text found name ≡ Some (codes "true") → flag ≡ true) → (one_text found name ≡ Some (codes "false") → flag ≡ false)
    → ((t : Text) → one_text found name ≡ Some t → (bytes_eq t (codes "true") || bytes_eq t (codes "false")) ≡ true)
    → flag ≡ option_map_or (λ text. bytes_eq text (codes "true")) (one_of name (rows_of found)) false
flag_is_read found name flag none is_true is_false passes = go (one_text found name) refl ∙ ap (λ o. option_map_or (λ text. bytes_eq text (codes "true")) o false) (one_text-rows found name)
  where
    at : (t : Text) (a b : Bool) → bytes_eq t (codes "true") ≡ a → bytes_eq t (codes "false") ≡ b → (a || b) ≡ true → one_text found name ≡ Some t → flag ≡ a
    at t true b is other one e = is_true (e ∙ ap Some ((bytes_eq-Decides t (codes "true")).0 is))
    at t false true is other one e = is_false (e ∙ ap Some ((bytes_eq-Decides t (codes "false")).0 other))
    at t false false is other one e = cc

    go : (o : Option Text) → one_text found name ≡ o → flag ≡ option_map_or (λ text. bytes_eq text (codes "true")) o false
    go None e = none e
    go (Some t) e = at t (bytes_eq t (codes "true")) (bytes_eq t (codes "false")) refl refl (passes t e) e

-- What is given, option by option.
pub same_given : (a b : Given) → a.command ≡ b.command → a.role ≡ b.role → a.code ≡ b.code → a.session ≡ b.session → a.text ≡ b.text → a.json ≡ b.json → a ≡ b
same_given a b command role code session text json i =
    record { command = command i; role = role i; code = code i; session = session i; text = text i; json = json i }
