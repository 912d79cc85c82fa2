-- From the steps of an expansion to what a module is answered with.
use Rattle.std.proofs.Common.{◌≡◌, ℕ, zero, suc, ◌<◌, Option, Some, List, [], ◌∷◌, length, get_or, refl, sym, subst, inl, inr, arith}
use Rattle.std.specs.Prelude.{slice_get, All}
use Rattle.rcv_tree.specs.Words.{IsWord}
use Rattle.rcv_tree.specs.declared.module.Module.{Module}
use Rattle.rcv_tree.specs.declared.refusal.Refusal.TheVariants as refusals
use Rattle.rcv_tree.specs.declared.statement.Block.{Block}
use Rattle.rcv_model.specs.Text.{Body, End, body_of}
use Rattle.rcv_model.specs.Form.{HasForm}
use Rattle.rcv_model.specs.Places.{singles, IsFullText}
use Rattle.rcv_tree.specs.declared.refusal.TextError.{TextError}
use Rattle.rcv_tree.specs.declared.refusal.TextError.TheVariants.{Refused, Memory}
use Rattle.rcv_module.specs.declared.fault.Fault.{Fault}
use Rattle.rcv_module.specs.Expansion.{IsExpansion, Expands, themselves}
use Rattle.rcv_module.specs.Form.{HasModuleForm}
use Rattle.rcv_module.specs.Parts.{Part, part_of, parts_of, calls, sites}
use Rattle.rcv_module.specs.Refusing.{code_of, IsFirstCall, IsTooLarge, AreCallable, IsFree}
use Rattle.rcv_module.proofs.Points.{few_points}
use Rattle.rcv_module.proofs.Formed.{formed_first, expansions_have_form}
use Rattle.rcv_do.specs.declared.sizes.Size.{Size}
use Rattle.rcv_do.specs.Code.{AreAllKnown, CallsAmong}
use Rattle.rcv_do.specs.Copying.{IsExpansionAt, IsNumberedWhole}
use Rattle.rcv_do.specs.Counting.{AreSizesOf, AreKnown, AreCapped}
use Rattle.rcv_do.specs.Faults.{IsAtCall, FailsBy}
use Rattle.rcv_do.proofs.Known.{are_known}

-- ---- lines

pub line_is : (lines : List ℕ) (n line : ℕ) → slice_get lines n ≡ Some line → get_or lines n 0 ≡ line
line_is [] n line e = absurd (cc)
line_is (x ∷ xs) zero line e = cc
line_is (x ∷ xs) (suc n) line e = line_is xs n line e

there : (lines : List ℕ) (n : ℕ) → n < length lines → (line : ℕ) × (slice_get lines n ≡ Some line)
there [] n lt = absurd (omega (arith, lt))
there (x ∷ xs) zero lt = (x, refl)
there (x ∷ xs) (suc n) lt = there xs n (omega (arith, lt))

pub refused_at : (lines : List ℕ) (Why : Fault → ℕ → Type 0) (f : Fault) (n : ℕ) (e : TextError) → n < length lines → Why f n
    → ((line : ℕ) → slice_get lines n ≡ Some line → e ≡ Refused (refusals.Text (code_of f) line)) → IsAtCall lines Why e
refused_at lines Why f n e lt why g =
    let l = there lines n lt in
    subst (IsAtCall lines Why) (sym (g l.0 l.1)) (record { fault = f; number = n; line = l.0; why = why; at_line = l.1; said = refl })

inside_list : {A : Type 0} (xs : List A) (n : ℕ) (x : A) → slice_get xs n ≡ Some x → n < length xs
inside_list [] n x e = absurd (cc)
inside_list (y ∷ xs) zero x e = omega arith
inside_list (y ∷ xs) (suc n) x e = let h = inside_list xs n x e in omega (arith, h)

-- the first call at which a code holds is refused on its line
pub refused_first : (parts : List Part) (lines : List ℕ) (f : Fault) (n : ℕ) (e : TextError) → length lines ≡ length (sites parts) → IsFirstCall parts f n
    → ((line : ℕ) → slice_get lines n ≡ Some line → e ≡ Refused (refusals.Text (code_of f) line)) → IsAtCall lines (IsFirstCall parts) e
refused_first parts lines f n e long first g =
    let h = inside_list (sites parts) n first.here first.is in
    refused_at lines (IsFirstCall parts) f n e (omega (arith, h, long)) first g

-- ---- the marks

-- along a call order all that the first protocol calls is known, so the marks are right
pub marks_capped : (parts : List Part) (main : Part) (order : List ℕ) (sizes known : List (Option Size)) (marks : List Size) → AreCallable parts → slice_get parts 0 ≡ Some main → CallsAmong parts 0 order
    → AreSizesOf parts sizes → AreAllKnown order sizes → known ≡ sizes → (AreSizesOf parts known → AreKnown parts known (calls 0 main.body) → AreCapped parts marks) → AreCapped parts marks
marks_capped parts main order sizes known marks callable at among right all e f =
    f (subst (AreSizesOf parts) (sym e) right) (subst (λ k. AreKnown parts k (calls 0 main.body)) (sym e) (are_known parts sizes order 0 main callable at among all))

-- ---- refusals of a module

pub fails_first : (m : Module) (parts : List Part) (lines : List ℕ) (e : TextError) → parts ≡ parts_of m → lines ≡ m.dos → IsAtCall lines (IsFirstCall parts) e → FailsBy m e
fails_first m parts lines Memory same at a = tt
fails_first m parts lines (Refused r) same at a =
    record { fault = a.fault; number = a.number; line = a.line; refused = inl (subst (λ ps. IsFirstCall ps a.fault a.number) same a.why); at_line = subst (λ l. slice_get l a.number ≡ Some a.line) at a.at_line; said = a.said }

pub fails_large : (m : Module) (parts : List Part) (lines : List ℕ) (e : TextError) → parts ≡ parts_of m → lines ≡ m.dos → AreCallable parts → IsAtCall lines (IsTooLarge parts) e → FailsBy m e
fails_large m parts lines Memory same at callable a = tt
fails_large m parts lines (Refused r) same at callable a =
    record { fault = a.fault; number = a.number; line = a.line; refused = inr (subst AreCallable same callable, subst (λ ps. IsTooLarge ps a.fault a.number) same a.why); at_line = subst (λ l. slice_get l a.number ≡ Some a.line) at a.at_line; said = a.said }

-- ---- the expansion

pub expansion_made : (m : Module) (parts : List Part) (block : Block) → HasModuleForm m → parts ≡ parts_of m → IsFree (parts_of m) → IsExpansionAt parts 0 block → IsNumberedWhole block
    → IsExpansion (parts_of m) (body_of block)
expansion_made m parts block form same free at numbered =
    let first : slice_get (parts_of m) 0 ≡ Some at.part = subst (λ ps. slice_get ps 0 ≡ Some at.part) same at.is in
    let expands : Expands (parts_of m) themselves at.part.body End (body_of block) = subst (λ ps. Expands ps themselves at.part.body End (body_of block)) same at.expands in
    let few = few_points (parts_of m) at.part (body_of block) first (formed_first (parts_of m) at.part form.formed first).form.few_points free.1 expands in
    record { main = at.part; first = first; expands = expands; numbered = numbered few }

pub has_form : (m : Module) (body : Body) → HasModuleForm m → IsFree (parts_of m) → IsExpansion (parts_of m) body
    → HasForm body (length m.main.roles) × IsFullText body × All (λ s. IsWord s.1.label) (singles body)
has_form m body form free x = expansions_have_form (parts_of m) (part_of m.main) body form.formed free refl x
