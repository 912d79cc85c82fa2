use Rattle.std.proofs.Common.{◌≡◌, ◌-◌, length, Vec, Global, refl, ap, ◌∙◌, arith}
use Rattle.rcv_model.specs.Text.{body_of}
use Rattle.rcv_do.specs.declared.sizes.Size.{Size}
use Rattle.rcv_do.proofs.Sized.{whole_counted}
use Rattle.rcv_do.proofs.Marked.{marks_blamed, marks_none}
use Rattle.rcv_do.proofs.sizes.marks_of.Goals as goal
use Rattle.rcv_do.proofs.sizes.marks_of.Goals.{then-last-gt0, else-last-gt0}

pub returns : goal.returns
returns c = λ sizes known.
    let x = whole_counted _ c.block.new.self (body_of c.args.parts.now.main.now.body) refl c.new.ensures.items c.in_ok-block.ensures sizes known in
    elim c.if-last-gt0.branch [
      | then-last-gt0 w ↦
          let some = w.if-last-gt0.true in
          let long = c.len-last.ensures in
          marks_blamed c.args.parts.now.others.now c.args.parts.now.main.now x.ends x.whole c.block.new.self.ends.items c.if-last-gt0.ends.items c.block.new.self.now (c.len-last.result - 1)
          x.kept x.now (omega (arith, some, long)) (ap (λ (v : Vec Size Global). v.items) w.ends-is) x.passes
      | else-last-gt0 w ↦
          let none = w.if-last-gt0.false in
          let long = c.len-last.ensures in
          let same : c.if-last-gt0.ends.items ≡ c.block.new.self.ends.items = ap (λ (v : Vec Size Global). v.items) w.ends-is in
          let as_long = ap length same in
          marks_none c.args.parts.now.others.now c.args.parts.now.main.now x.ends x.whole c.if-last-gt0.ends.items (same ∙ x.kept) (omega (arith, none, long, as_long)) x.passes
    ]
