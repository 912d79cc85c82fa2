-- The line of a proper net is a proper net of one lane.
use Rattle.std.proofs.Common.{◌≡◌, ℕ, cond, [], refl, sym, ap, subst, inl, inr, ⊎_elim, arith, eq-eqb, ne_eqb}
use Rattle.std.proofs.lemmas.Bool.{cases_eq}
use Rattle.rcv_model.specs.Net.{Net, IsIn}
use Rattle.rcv_model.specs.Next.{IsProper}
use Rattle.rcv_tables.specs.Line.{offered_on, line}
use Rattle.rcv_tables.proofs.InLine.{line_text}

module _ (net : Net) (roles : ℕ) (proper : IsProper net roles) where
  begun_at : (l : ℕ) → l ≡ 0 → (line net).begins l ≡ offered_on net 0
  begun_at l e = ap (λ b. cond b (offered_on net 0) []) (eq-eqb l 0 e)

  begun_else : (l : ℕ) → (l ≡ 0 → ⊥) → (line net).begins l ≡ []
  begun_else l n = ap (λ b. cond b (offered_on net 0) []) (ne_eqb l 0 n)

  pub line_proper : IsProper (line net) roles
  line_proper = record {
    in_text = λ k x i. line_text net roles proper k x i;
    begun_in_text = λ l x i. ⊎_elim (λ e. line_text net roles proper 0 x (subst (IsIn x) (begun_at l e) i)) (λ n. absurd (subst (IsIn x) (begun_else l n) i)) (cases_eq l 0);
    senders = proper.senders;
    receivers = proper.receivers;
    two_ends = proper.two_ends;
    lanes = record {
      kept = λ k x i. refl;
      begun = λ l x i. ⊎_elim (λ e. sym e) (λ n. absurd (subst (IsIn x) (begun_else l n) i)) (cases_eq l 0);
      first = begun_at 0 refl;
      later = λ l. ⊎_elim (λ e. inl e) (λ n. inr (inl (begun_else l n))) (cases_eq l 0);
      in_order = λ p q low le high. omega arith;
      one_lane = λ r p q lp hp lq hq own_p own_q same. refl;
    };
  }
