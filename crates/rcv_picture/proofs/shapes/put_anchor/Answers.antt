-- The value is the word for it.
use Rattle.std.proofs.Common.{◌≡◌, ◌++◌, List, ℕ, OnOk, codes, subst}
use Rattle.rcv_picture.specs.Tree.{attribute_text}
use Rattle.rcv_picture.specs.Drawn.{attribute}
use Rattle.rcv_picture.proofs.shapes.put_anchor.Goals as goal

pub returns : goal.returns
returns c =
    subst
    (λ (w : List ℕ). OnOk c.put_attribute.result (c.put_attribute.new.text ≡ c.args.text.now ++ attribute_text (attribute (codes "text-anchor") w)))
    c.word_of.ensures c.put_attribute.ensures
