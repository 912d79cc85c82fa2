-- What stands behind the first line of the answer to `end`.
use Rattle.std.proofs.Common.{◌≡◌, ℕ, ◌<◌, ◌^◌, List, [], ◌∷◌, ◌++◌, All, Result, Ok, Err, IfOk, length, codes, decimal, refl, sym, ◌∙◌, ap, subst, arith}
use Rattle.std.specs.declared.alloc.Global.{Global}
use Rattle.std.specs.declared.vec.Vec.{Vec}
use Rattle.std.proofs.lemmas.List.{append_cancel_left}
use Rattle.std.proofs.lemmas.List.Elements.{All-nil, All-cons}
use Rattle.rcv_journal.specs.Form.{lines_of}
use Rattle.rcv_lines.specs.Cutting.{Lacks}
use Rattle.rcv_lines.proofs.Lacking.{number_lacks, feed_is_outside}
use Rattle.rcv_lines.proofs.Splitting.{IsLine, line_then}
use Rattle.rcv_dialogue.specs.Answers.{more_text}

lacking : (text : List ℕ) → Lacks 10 text → All (λ b. b ≡ 10 → ⊥) text
lacking [] none = All-nil (λ b. b ≡ 10 → ⊥)
lacking (b ∷ rest) none = All-cons (λ b. b ≡ 10 → ⊥) b rest none.0 (lacking rest none.1)

abbrev front : ℕ → List ℕ
front n = codes "end +" ++ decimal n

abbrev head : ℕ → List ℕ
head n = front n ++ 10 ∷ []

front_lacks : (n : ℕ) → n < 2 ^ 64 → Lacks 10 (front n)
front_lacks n few = ((λ e. omega (arith, e)), ((λ e. omega (arith, e)), ((λ e. omega (arith, e)), ((λ e. omega (arith, e)), ((λ e. omega (arith, e)), number_lacks 10 feed_is_outside n few)))))

head_is : (n : ℕ) (rest : List ℕ) → codes "end" ++ more_text n ++ rest ≡ head n ++ rest
head_is n rest = refl

pub behind_head : (n : ℕ) → n < 2 ^ 64 → (lines whole line behind : List ℕ) → whole ≡ codes "end" ++ more_text n ++ lines → whole ≡ line ++ behind → (0 < length whole → lines_of whole ≡ line ∷ lines_of behind) → behind ≡ lines
behind_head n few lines whole line behind is parts cut =
    let some : 0 < length whole = omega (arith, ap length is) in
    let same : line ∷ lines_of behind ≡ head n ∷ lines_of lines =
    sym (cut some) ∙ ap lines_of (is ∙ head_is n lines) ∙ line_then (head n) lines (record { front = front n; ends = refl; only = lacking (front n) (front_lacks n few) }) in
    let heads : line ≡ head n = cc in
    append_cancel_left (head n) behind lines (ap (λ l. l ++ behind) (sym heads) ∙ sym parts ∙ is ∙ head_is n lines)

pub copied : {E : Type 0} (P : List ℕ → Type 0) (xs : List ℕ) (made : Result (Vec ℕ Global) E) → IfOk made (λ v. v.items ≡ xs) → P xs → IfOk made (λ v. P v.items)
copied P xs (Ok v) is of = subst P (sym is) of
copied P xs (Err e) is of = tt
