-- Byte by byte.
use Rattle.std.proofs.Common.{◌∙◌, ℕ, List, Vec, Global, Bor, ap}
use Rattle.std.proofs.lemmas.List.{map-append}
use Rattle.rcv_lines.proofs.Cuts.{space_turn, other_turn}
use Rattle.rcv_lines.specs.Cutting.{fields_of, texts}
use Rattle.rcv_lines.proofs.fields.fields_of.Goals.{then-byte-eq32+in_ok-push, else-byte-eq32}
use Rattle.rcv_lines.proofs.fields.fields_of.Goals as goal

pub loop-index-preserved : goal.loop-index-preserved
loop-index-preserved c =
    let text = c.args.text.now in
    elim c.if-byte-eq32.branch [
      | then-byte-eq32+in_ok-push w ↦ space_turn text (texts c.loop-index.fields.items) (texts c.if-byte-eq32.fields.items) (fields_of text) c.loop-index.start c.if-byte-eq32.start c.loop-index.index c.loop-index-test.true w.if-byte-eq32.true
          (ap (λ (v : Vec (Bor (List ℕ)) Global). texts v.items) w.fields-is ∙ ap texts w.in_ok-push.ensures.items ∙ map-append (λ (f : Bor (List ℕ)). f.now) c.loop-index.fields.items _) w.start-is c.loop-index.invariant.1
      | else-byte-eq32 w ↦ other_turn text (texts c.loop-index.fields.items) (texts c.if-byte-eq32.fields.items) (fields_of text) c.loop-index.start c.if-byte-eq32.start c.loop-index.index c.loop-index.invariant.0 c.loop-index-test.true w.if-byte-eq32.false
          (ap (λ (v : Vec (Bor (List ℕ)) Global). texts v.items) w.fields-is) w.start-is c.loop-index.invariant.1
    ]
