-- Sections of short texts, and what are none.
use Rattle.std.proofs.Common.{◌≡◌, ℕ, zero, suc, true, List, None, refl, ap, arith, codes}
use Rattle.std.specs.Fmt.{digits}
use Rattle.rcv_section.specs.declared.section.Section.{Section}
use Rattle.rcv_section.specs.Lines.{LineAt}
use Rattle.rcv_section.specs.Sections.{HasNoSection, IsHeading, IsSection, title}
use Rattle.rcv_section.specs.Laws.{IsPlain}
use Rattle.rcv_section.proofs.Fronts.{one_section}
use Rattle.rcv_section.proofs.Sought.{none_sought, section_sought}

abbrev section : ℕ → ℕ → Section
section begin end = record { begin = begin; end = end }

abbrev both : List ℕ
both = codes "session 1\na\nsession 2\nbc\n"

-- each session has its lines, the last one up to the end
first : IsSection 1 both (section 10 12)
unfolding digits
first = section_sought 1 both (title 1) refl 10 refl 2 refl

second : IsSection 2 both (section 22 25)
unfolding digits
second = section_sought 2 both (title 2) refl 22 refl 3 refl

-- and no session has lines of the next one
not_of_both : IsSection 1 both (section 10 25) → ⊥
not_of_both is = let same : 12 ≡ 25 = ap (λ (s : Section). s.end) (one_section 1 both (section 10 12) (section 10 25) first is) in absurd (omega (arith, same))

-- a session that isn't there, and one whose number begins as another's
no_third : HasNoSection 3 both
unfolding digits
no_third = none_sought 3 both (title 3) refl None refl (λ n e. cc)

not_of_twelve : HasNoSection 1 (codes "session 12\na\n")
unfolding digits
not_of_twelve = none_sought 1 (codes "session 12\na\n") (title 1) refl None refl (λ n e. cc)

-- within a line nothing begins
not_within : HasNoSection 1 (codes "a session 1\nb\n")
unfolding digits
not_within = none_sought 1 (codes "a session 1\nb\n") (title 1) refl None refl (λ n e. cc)

-- a session without lines; a carriage return before the line feed; a next line that begins so, whatever it goes on with
empty : IsSection 1 (codes "session 1\nsession 2\n") (section 10 10)
unfolding digits
empty = section_sought 1 (codes "session 1\nsession 2\n") (title 1) refl 10 refl 0 refl

returned : IsSection 1 (codes "session 1\r\na\n") (section 11 13)
unfolding digits
returned = section_sought 1 (codes "session 1\r\na\n") (title 1) refl 11 refl 2 refl

up_to_any : IsSection 1 (codes "session 1\na\nsession x\nb\n") (section 10 12)
unfolding digits
up_to_any = section_sought 1 (codes "session 1\na\nsession x\nb\n") (title 1) refl 10 refl 2 refl

-- whole lines, none of which is of a session; and what is none of these
plain : IsPlain (codes "a\n")
plain = record { whole = refl; quiet = quiet }
  where
    quiet : (place : ℕ) → LineAt IsHeading true (codes "a\n") place → ⊥
    quiet zero at = let e = at.1 in cc
    quiet (suc zero) at = let e = at.0 in cc
    quiet (suc (suc zero)) at = let e = at.1 in cc
    quiet (suc (suc (suc place))) at = at

not_whole : IsPlain (codes "a") → ⊥
not_whole is = let e = is.whole in cc

not_quiet : IsPlain (codes "a\nsession 2\n") → ⊥
not_quiet is = is.quiet 2 (refl, refl)
