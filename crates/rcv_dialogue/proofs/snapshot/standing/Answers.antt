-- Its two parts, one behind the other.
use Rattle.std.proofs.Common.{◌≡◌, ◌++◌, ◌∙◌, List, [], ℕ, sym, ap, subst, append_assoc, append-nil, codes, decimal}
use Rattle.std.specs.Prelude.{OnOk}
use Rattle.rcv_accept.specs.Accepted.{AcceptedView}
use Rattle.rcv_dialogue.specs.declared.line.Again.TheVariants as again
use Rattle.rcv_dialogue.specs.declared.line.ToldStanding.{ToldStanding}
use Rattle.rcv_dialogue.specs.Lines.{down_text}
use Rattle.rcv_dialogue.specs.Answers.{again_text, named_text, number_text, standing_text, numbers_text}
use Rattle.rcv_dialogue.proofs.snapshot.standing.Goals as goal

-- A list of eight, with the first ones first.
regrouped : (a b c d e f g h rest : List ℕ) → a ++ b ++ c ++ d ++ e ++ f ++ g ++ h ++ rest ≡ a ++ (b ++ (c ++ (d ++ (e ++ (f ++ (g ++ (h ++ rest)))))))
regrouped a b c d e f g h rest = simp (append_assoc)

both : (a : AcceptedView) (s : ToldStanding) → standing_text a s ++ numbers_text s ≡ again_text a (again.Role s)
both a s =
    regrouped (codes "again role") (named_text a s.role) (codes " kept") (number_text s.kept) (codes " raw") (number_text s.raw) (codes " at") (number_text s.place) (numbers_text s)
    ∙ ap (λ (t : List ℕ). codes "again role" ++ (named_text a s.role ++ (codes " kept" ++ (number_text s.kept ++ (codes " raw" ++ (number_text s.raw ++ (codes " at" ++ (number_text s.place ++ t))))))))
    (sym (append-nil (numbers_text s))
    ∙ regrouped (codes " clock") (number_text s.clock) (codes " attempt") (number_text s.attempt) (codes " ") (down_text s.down) (codes " #") (decimal s.incarnation) [])

pub returns : goal.returns
returns c =
    let a = c.args.accepted.now in
    let s = c.args.standing.now in
    let text = c.args.text.now in
    subst (λ (t : List ℕ). OnOk c.numbers.result (c.numbers.new.text ≡ t))
    (ap (λ (t : List ℕ). t ++ numbers_text s) c.in_ok-place.ensures ∙ append_assoc text (standing_text a s) (numbers_text s) ∙ ap (λ (t : List ℕ). text ++ t) (both a s))
    c.numbers.ensures
